-- What a form's call answers, over exact ends, and the reading of a calculation that may be refused.
use Rattle.std.specs.Prelude.{cond, ℤ, pos, negsuc, Ok, Err, Result}
use Rattle.algebra.specs.Interval.{Ends}
use Rattle.paper.specs.Numbers.{point, between_bounds}
use Rattle.paper.specs.Sums.{Sum, nothing, read, join, multiple, sum_of_ends, multiple_of_ends}
use Rattle.forms.specs.declared.FormFault.{FormFault}
use Rattle.forms.specs.declared.FormFault.TheVariants.{AmountCeiling, FactorCeiling}

-- a result by what its value means
abbrev pub told : {V W E : Type 0} → (V → W) → Result V E → Result W E
told means (Ok v) = Ok (means v)
told means (Err f) = Err f

-- one step, and then the rest
abbrev pub next : {V W E : Type 0} → Result V E → (V → Result W E) → Result W E
next (Ok v) k = k v
next (Err f) k = Err f

-- ends, refused exactly where one lies outside the bounds
abbrev pub within_or : ℤ → ℤ → FormFault → Ends → Result Ends FormFault
within_or low high fault e = cond (between_bounds low high e) (Ok e) (Err fault)

-- the ends of an amount, refused exactly where one passes the ceiling
abbrev pub ceiled : Ends → Result Ends FormFault
ceiled e = within_or (negsuc 39999999999) (pos 40000000000) AmountCeiling e

-- the ends of a factor, likewise
abbrev pub factor_ceiled : Ends → Result Ends FormFault
factor_ceiled e = within_or (negsuc 199999999) (pos 200000000) FactorCeiling e

-- a calculation read with the ceiling: each sum and each multiple is tested as it is made
abbrev pub evaluated : {A : Type 0} → (A → Ends) → Sum A → Result Ends FormFault
evaluated cell nothing = Ok (point (pos 0))
evaluated cell (read a) = Ok (cell a)
evaluated cell (join x y) = next (evaluated cell x) (λ a. next (evaluated cell y) (λ b. ceiled (sum_of_ends a b)))
evaluated cell (multiple c x) = next (evaluated cell x) (λ a. ceiled (multiple_of_ends c a))
