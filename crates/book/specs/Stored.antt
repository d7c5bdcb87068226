-- The paper's book that a stored book stands for.
use Rattle.std.specs.Prelude.{ℕ, zero, suc, ◌+◌, ◌*◌, Bool, cond, ◌&&◌, List, map, ℤ, pos, nat_lt, slice_index_or}
use Rattle.paper.specs.Books as paper
use Rattle.paper.specs.Books.{Cell, Reach, cell_at, cumulative, first, latest}
use Rattle.book.specs.declared.faults.Place.{Place}
use Rattle.book.specs.declared.rules.Term.{Term}
use Rattle.book.specs.declared.rules.Rule.{Rule}
use Rattle.book.specs.declared.kinds.Sizes.{Sizes}
use Rattle.book.specs.declared.kinds.Book.{Book}
use Rattle.book.specs.Limits.{rule_at}

-- the cell of a place that all three numbers apply to
abbrev pub cell_of : Place → Cell
cell_of p = cell_at p.property p.row p.column

abbrev pub place_of : Sizes → Cell → ℕ
place_of s c = (c.property * s.rows + c.row) * s.columns + c.column

abbrev pub in_sizes : Sizes → Cell → Bool
in_sizes s c = nat_lt c.property s.properties && (nat_lt c.row s.rows && nat_lt c.column s.columns)

abbrev pub cells : Sizes → ℕ
cells s = s.properties * s.rows * s.columns

abbrev pub reach_of : ℕ → Reach
reach_of zero = cumulative
reach_of (suc zero) = first
reach_of (suc (suc n)) = latest

abbrev pub term_of : Term → paper.Term
term_of t = record { property = t.property; shift = t.shift; reach = reach_of t.reach; coefficient = t.coefficient }

abbrev pub terms_of : Rule → List paper.Term
terms_of r = map term_of r

abbrev pub amounts_of : Sizes → List ℤ → Cell → ℤ
amounts_of s amounts c = cond (in_sizes s c) (slice_index_or amounts (place_of s c) (pos 0)) (pos 0)

abbrev pub book_from : Sizes → List ℤ → List Rule → paper.Book
book_from s amounts rules =
    record {
      properties = s.properties;
      rows = s.rows;
      columns = s.columns;
      amount = amounts_of s amounts;
      rule = λ m. terms_of (rule_at rules m);
    }

abbrev pub book_of : Book → paper.Book
book_of b = book_from b.sizes b.amounts b.rules.records
