-- A calculation made of readings, additions and multiples, and what it comes to: between two ends, and exactly.
-- Cells are of any kind.
use Rattle.std.specs.Prelude.{List, [], ◌∷◌, ◌++◌, ℤ, pos, negsuc, ◌+ℤ◌, ◌*ℤ◌}
use Rattle.algebra.specs.Interval.{Ends}
use Rattle.paper.specs.Numbers.{point}

pub data Sum (A : Type 0) : Type 0 where
  nothing : Sum A
  read : A → Sum A
  join : Sum A → Sum A → Sum A
  multiple : ℤ → Sum A → Sum A

abbrev pub sum_of_ends : Ends → Ends → Ends
sum_of_ends a b = record { lo = a.lo +ℤ b.lo; hi = a.hi +ℤ b.hi }

-- a negative coefficient exchanges the ends
abbrev pub multiple_of_ends : ℤ → Ends → Ends
multiple_of_ends (pos n) e = record { lo = pos n *ℤ e.lo; hi = pos n *ℤ e.hi }
multiple_of_ends (negsuc n) e = record { lo = negsuc n *ℤ e.hi; hi = negsuc n *ℤ e.lo }

abbrev pub ends_of : {A : Type 0} → (A → Ends) → Sum A → Ends
ends_of cell nothing = point (pos 0)
ends_of cell (read a) = cell a
ends_of cell (join x y) = sum_of_ends (ends_of cell x) (ends_of cell y)
ends_of cell (multiple c x) = multiple_of_ends c (ends_of cell x)

abbrev pub exact_of : {A : Type 0} → (A → ℤ) → Sum A → ℤ
exact_of cell nothing = pos 0
exact_of cell (read a) = cell a
exact_of cell (join x y) = exact_of cell x +ℤ exact_of cell y
exact_of cell (multiple c x) = c *ℤ exact_of cell x

-- the steps of a calculation, in the order in which they are made
abbrev pub steps_of : {A : Type 0} → Sum A → List (Sum A)
steps_of nothing = []
steps_of (read a) = []
steps_of (join x y) = steps_of x ++ (steps_of y ++ (join x y ∷ []))
steps_of (multiple c x) = steps_of x ++ (multiple c x ∷ [])

-- every cell that the calculation reads has the property
abbrev pub AllRead : {A : Type 0} → (A → Type 0) → Sum A → Type 0
AllRead P nothing = Unit {0}
AllRead P (read a) = P a
AllRead P (join x y) = AllRead P x × AllRead P y
AllRead P (multiple c x) = AllRead P x
