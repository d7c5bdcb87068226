-- What a source answers in a form, by its meaning.
use Rattle.std.specs.Prelude.{ℕ, min, cond, List, [], ◌∷◌, Some, None, Ok, Err, Option, Result}
use Rattle.algebra.specs.Interval.{Ends}
use Rattle.paper.specs.Numbers.{factor_inside}
use Rattle.paper.specs.Forms.{Form}
use Rattle.paper.specs.Sources.{Cause, no_property, no_column, negative_exposure, amount_past, Step, Meaning, factor, cause, steps_in}
use Rattle.book.specs.declared.faults.Fault.{Fault}
use Rattle.book.specs.declared.faults.Origin.TheVariants.{OfForm, OfSource}
use Rattle.book.specs.declared.faults.Ground.TheVariants.{NoProperty, NoColumn, NegativeExposure, AmountCeiling, FactorCeiling}
use Rattle.book.specs.Grounds.{at_place, fault_at}

-- layers are counted up to 255
abbrev pub counted : ℕ → ℕ
counted n = min n 255

-- a cause as a fault, with the layers above where it arose
abbrev pub cause_fault : ℕ → ℕ → ℕ → Cause → Fault
cause_fault m k n no_property = fault_at OfSource (at_place m 0 k) (counted n) NoProperty
cause_fault m k n no_column = fault_at OfSource (at_place m 0 k) (counted n) NoColumn
cause_fault m k n (negative_exposure i) = fault_at OfSource (at_place m i k) (counted n) NegativeExposure
cause_fault m k n (amount_past i a) = fault_at OfForm (at_place m i k) (counted n) AmountCeiling

-- the first step whose ends pass the factor ceiling, by the layers above it
abbrev pub first_past : Form → List Step → Option ℕ
first_past F [] = None
first_past F (s ∷ ss) = cond (factor_inside (s.ends F)) (first_past F ss) (Some s.above)

-- what stands if no step passes the ceiling: the last step's ends, or the cause
abbrev pub answer_then : Form → ℕ → ℕ → Meaning → Result Ends Fault
answer_then F m k (factor before s) = Ok (s.ends F)
answer_then F m k (cause before n c) = Err (cause_fault m k n c)

abbrev pub unless_past : ℕ → ℕ → Option ℕ → Result Ends Fault → Result Ends Fault
unless_past m k (Some n) otherwise = Err (fault_at OfForm (at_place m 0 k) (counted n) FactorCeiling)
unless_past m k None otherwise = otherwise

abbrev pub answer_in : Form → ℕ → ℕ → Meaning → Result Ends Fault
answer_in F m k M = unless_past m k (first_past F (steps_in M)) (answer_then F m k M)
