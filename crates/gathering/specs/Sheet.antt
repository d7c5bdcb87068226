-- How a sheet holds the cells of a book, and what is summed from it.
use Rattle.std.specs.Prelude.{ℕ, ◌-◌, cond, List, [], ◌∷◌, drop, take, pos, Ok, Result, nat_lt, slice_index_or}
use Rattle.algebra.specs.Interval.{Ends}
use Rattle.paper.specs.Numbers.{point}
use Rattle.paper.specs.Sums.{sum_of_ends, multiple_of_ends}
use Rattle.paper.specs.Books as paper
use Rattle.paper.specs.Books.{Cell, cell_at, reading}
use Rattle.forms.specs.declared.FormFault.{FormFault}
use Rattle.forms.specs.Told.{next, ceiled, evaluated}
use Rattle.book.specs.declared.kinds.Sizes.{Sizes}
use Rattle.book.specs.Stored.{place_of}

-- steps that may be refused, one after the other
abbrev pub folded : {V X E : Type 0} → (V → X → Result V E) → V → List X → Result V E
folded step v [] = Ok v
folded step v (x ∷ xs) = next (step v x) (λ w. folded step w xs)

-- the sum in rising order from zero
abbrev pub summed : List Ends → Result Ends FormFault
summed xs = folded (λ a x. ceiled (sum_of_ends a x)) (point (pos 0)) xs

abbrev pub on_sheet : Sizes → List Ends → Cell → Ends
on_sheet s es c = slice_index_or es (place_of s c) (point (pos 0))

-- the part that is one row
abbrev pub row_of : {X : Type 0} → Sizes → ℕ → ℕ → List X → List X
row_of s m i xs = take s.columns (drop (place_of s (cell_at m i 0)) xs)

-- a sum with the term added to it
abbrev pub plus_term : (Cell → Ends) → ℕ → ℕ → Ends → paper.Term → Result Ends FormFault
plus_term cell i k a t =
    cond (nat_lt i t.shift) (Ok a)
    (next (next (evaluated cell (reading t.reach t.property (i - t.shift) k)) (λ x. ceiled (multiple_of_ends t.coefficient x)))
    (λ b. ceiled (sum_of_ends a b)))
