-- Opening, entering and adding a term: on which grounds each is declined.
use Rattle.std.specs.Prelude.{ℕ, ◌+◌, Bool, ◌&&◌, ◌||◌, List, [], ◌∷◌, length, ℤ, pos, negsuc, Option, int_le, int_lt, nat_le, nat_lt}
use Rattle.paper.specs.Books as paper
use Rattle.book.specs.declared.faults.Ground.TheVariants.{SizesOutside, NoProperty, NoRow, NoColumn, NotObserved, EntryLimit, ShiftOutside, NoReach, CoefficientOutside, RuleFull}
use Rattle.book.specs.declared.faults.Place.{Place}
use Rattle.book.specs.declared.faults.Origin.TheVariants.{OfBook}
use Rattle.book.specs.declared.faults.Fault.{Fault}
use Rattle.book.specs.declared.kinds.Sizes.{Sizes}
use Rattle.book.specs.declared.rules.Term.{Term}
use Rattle.book.specs.Grounds.{Test, test, first_fault, at_place}

abbrev outside : ℤ → ℤ → ℤ → Bool
outside low high a = int_lt a low || int_lt high a

-- 1 to 4 properties, 1 to 16 rows, 1 to 12 columns, and no more columns than rows
abbrev pub sizes_fault : Sizes → Option Fault
sizes_fault s =
    first_fault OfBook (at_place 0 0 0)
    (test (nat_lt s.properties 1 || nat_lt 4 s.properties) SizesOutside
    ∷ test (nat_lt s.rows 1 || nat_lt 16 s.rows) SizesOutside
    ∷ test (nat_lt s.columns 1 || nat_lt 12 s.columns) SizesOutside
    ∷ test (nat_lt s.rows s.columns) SizesOutside
    ∷ [])

abbrev pub entry_fault : paper.Book → Place → ℤ → Option Fault
entry_fault b p a =
    first_fault OfBook p
    (test (nat_le b.properties p.property) NoProperty
    ∷ test (nat_le b.rows p.row) NoRow
    ∷ test (nat_le b.columns p.column) NoColumn
    ∷ test (nat_le b.rows (p.row + p.column)) NotObserved
    ∷ test (outside (negsuc 999999999) (pos 1000000000) a) EntryLimit
    ∷ [])

abbrev pub term_tests : paper.Book → ℕ → Term → List Test
term_tests b m t =
    test (nat_le b.properties m) NoProperty
    ∷ test (nat_le b.properties t.property) NoProperty
    ∷ test (nat_lt 15 t.shift) ShiftOutside
    ∷ test (nat_lt 2 t.reach) NoReach
    ∷ test (outside (negsuc 99) (pos 100) t.coefficient || (int_le (pos 0) t.coefficient && int_le t.coefficient (pos 0))) CoefficientOutside
    ∷ test (nat_le 6 (length (b.rule m))) RuleFull
    ∷ []

abbrev pub term_fault : paper.Book → ℕ → Term → Option Fault
term_fault b m t = first_fault OfBook (at_place m 0 0) (term_tests b m t)
