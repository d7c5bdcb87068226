-- The grounds for declining a call: their numbers, and the first of several.
use Rattle.std.specs.Prelude.{ℕ, ◌+◌, min, Bool, cond, List, [], ◌∷◌, Some, None, Ok, Err, Option, Result}
use Rattle.forms.specs.declared.FormFault.{FormFault}
use Rattle.forms.specs.declared.FormFault.TheVariants as form
use Rattle.book.specs.declared.faults.Ground.{Ground}
use Rattle.book.specs.declared.faults.Ground.TheVariants.{SizesOutside, NoProperty, NoRow, NoColumn, NotObserved, EntryLimit, ShiftOutside, NoReach, CoefficientOutside, RuleFull, FactorOutside, WeighingOutside, NegativeExposure, AmountCeiling, FactorCeiling}
use Rattle.book.specs.declared.faults.Origin.{Origin}
use Rattle.book.specs.declared.faults.Origin.TheVariants.{OfBook, OfForm, OfSource}
use Rattle.book.specs.declared.faults.Place.{Place}
use Rattle.book.specs.declared.faults.Fault.{Fault}

abbrev pub number : Ground → ℕ
number SizesOutside = 1
number NoProperty = 2
number NoRow = 3
number NoColumn = 4
number NotObserved = 5
number EntryLimit = 6
number ShiftOutside = 7
number NoReach = 8
number CoefficientOutside = 9
number RuleFull = 10
number FactorOutside = 11
number WeighingOutside = 12
number NegativeExposure = 13
number AmountCeiling = 14
number FactorCeiling = 15

abbrev pub origin_number : Origin → ℕ
origin_number OfBook = 0
origin_number OfForm = 1
origin_number OfSource = 2

abbrev pub at_place : ℕ → ℕ → ℕ → Place
at_place m i k = record { property = m; row = i; column = k }

abbrev pub fault_at : Origin → Place → ℕ → Ground → Fault
fault_at o p layers g = record { ground = g; origin = o; place = p; layers = layers }

-- a condition that declines a call, with its ground
pub record Test : Type 0 where
  pub declines : Bool
  pub ground : Ground

abbrev pub test : Bool → Ground → Test
test b g = record { declines = b; ground = g }

-- the first condition that declines, as a fault of an origin at a place
abbrev pub first_fault : Origin → Place → List Test → Option Fault
first_fault o p [] = None
first_fault o p (t ∷ ts) = cond t.declines (Some (fault_at o p 0 t.ground)) (first_fault o p ts)

-- what a form refuses with, by its caller's place
abbrev pub form_ground : FormFault → Ground
form_ground form.AmountCeiling = AmountCeiling
form_ground form.FactorCeiling = FactorCeiling

abbrev pub placed : {V : Type 0} → Place → Result V FormFault → Result V Fault
placed p (Ok v) = Ok v
placed p (Err f) = Err (fault_at OfForm p 0 (form_ground f))

-- a fault with one credibility layer more above it; layers are counted up to 255
abbrev pub under_layer : Fault → Fault
under_layer f = record f { layers = min (f.layers + 1) 255 }

abbrev pub from_below : {V : Type 0} → Result V Fault → Result V Fault
from_below (Ok v) = Ok v
from_below (Err f) = Err (under_layer f)
