-- Selected factors as they are kept, and why a new one is refused.
use Rattle.std.specs.Prelude.{ℕ, cond, ◌&&◌, ◌||◌, List, [], ◌∷◌, replicate, ℤ, pos, negsuc, Option, int_lt, nat_le, slice_index_or, ◌==◌}
use Rattle.book.specs.declared.faults.Ground.TheVariants.{NoProperty, NoColumn, FactorOutside}
use Rattle.book.specs.declared.faults.Origin.TheVariants.{OfSource}
use Rattle.book.specs.declared.faults.Fault.{Fault}
use Rattle.book.specs.Grounds.{test, first_fault, at_place}
use Rattle.sources.specs.declared.selected.FactorRow.{FactorRow}

abbrev pub all_0 : FactorRow
all_0 = record { factors = replicate 11 (pos 0) }

abbrev pub row_of : List FactorRow → ℕ → FactorRow
row_of rows m = slice_index_or rows m (record { factors = [] })

abbrev pub factor_of : FactorRow → ℕ → ℤ
factor_of r k = slice_index_or r.factors k (pos 0)

-- the factor of a property from a column to the next, in ten-millionths
abbrev pub chosen : List FactorRow → ℕ → ℕ → ℤ
chosen rows m k = factor_of (row_of rows m) k

-- one factor replaced, every other as it was
abbrev pub with_choice : (ℕ → ℕ → ℤ) → ℕ → ℕ → ℤ → ℕ → ℕ → ℤ
with_choice f m k x n j = cond (m == n && k == j) x (f n j)

abbrev pub selection_fault : ℕ → ℕ → ℤ → Option Fault
selection_fault m k f =
    first_fault OfSource (at_place m 0 k)
    (test (nat_le 4 m) NoProperty
    ∷ test (nat_le 11 k) NoColumn
    ∷ test (int_lt f (negsuc 199999999) || int_lt (pos 200000000) f) FactorOutside
    ∷ [])
