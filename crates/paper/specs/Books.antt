-- A book: its sizes, the amounts observed and the rules; the exposures that the rules mean; and how accepted calls change it.
use Rattle.std.specs.Prelude.{ℕ, zero, suc, ◌+◌, ◌-◌, Bool, cond, ◌&&◌, List, [], ◌∷◌, ◌++◌, ℤ, pos, ◌==◌, nat_lt}
use Rattle.paper.specs.Sums.{Sum, nothing, read, join, multiple}

pub record Cell : Type 0 where
  pub property : ℕ
  pub row : ℕ
  pub column : ℕ

-- what a term reads of its row: the sum of the columns so far, column 0, or the column itself
pub data Reach : Type 0 where
  cumulative : Reach
  first : Reach
  latest : Reach

pub record Term : Type 0 where
  pub property : ℕ
  pub shift : ℕ
  pub reach : Reach
  pub coefficient : ℤ

pub record Book : Type 0 where
  pub properties : ℕ
  pub rows : ℕ
  pub columns : ℕ
  pub amount : Cell → ℤ
  pub rule : ℕ → List Term

abbrev pub cell_at : ℕ → ℕ → ℕ → Cell
cell_at m i k = record { property = m; row = i; column = k }

-- ---- exposures
-- the columns from k on, n of them, added in rising order from zero
abbrev pub total_of : ℕ → ℕ → ℕ → ℕ → Sum Cell
total_of m i k zero = nothing
total_of m i k (suc n) = join (total_of m i k n) (read (cell_at m i (k + n)))

abbrev pub reading : Reach → ℕ → ℕ → ℕ → Sum Cell
reading cumulative m i k = total_of m i 0 (k + 1)
reading first m i k = read (cell_at m i 0)
reading latest m i k = read (cell_at m i k)

-- a term adds its multiple, and nothing if its shift goes back before the first row
abbrev pub with_term : ℕ → ℕ → Sum Cell → Term → Sum Cell
with_term i k so_far t =
    cond (nat_lt i t.shift) so_far (join so_far (multiple t.coefficient (reading t.reach t.property (i - t.shift) k)))

abbrev pub with_terms : ℕ → ℕ → Sum Cell → List Term → Sum Cell
with_terms i k so_far [] = so_far
with_terms i k so_far (t ∷ ts) = with_terms i k (with_term i k so_far t) ts

-- what property m is exposed to in row i from column k to the next
abbrev pub exposure : Book → ℕ → ℕ → ℕ → Sum Cell
exposure b m i k = with_terms i k nothing (b.rule m)

-- ---- changes
abbrev pub opened : ℕ → ℕ → ℕ → Book
opened p n c = record { properties = p; rows = n; columns = c; amount = λ _. pos 0; rule = λ _. [] }

abbrev pub same_cell : Cell → Cell → Bool
same_cell c d = c.property == d.property && (c.row == d.row && c.column == d.column)

-- one amount replaced, every other as it was
abbrev pub with_entry : Book → Cell → ℤ → Book
with_entry b c a =
    record {
      properties = b.properties;
      rows = b.rows;
      columns = b.columns;
      amount = λ d. cond (same_cell c d) a (b.amount d);
      rule = b.rule;
    }

-- one rule with a term more, every other as it was
abbrev pub with_last_term : Book → ℕ → Term → Book
with_last_term b m t =
    record {
      properties = b.properties;
      rows = b.rows;
      columns = b.columns;
      amount = b.amount;
      rule = λ l. cond (m == l) (b.rule l ++ (t ∷ [])) (b.rule l);
    }
