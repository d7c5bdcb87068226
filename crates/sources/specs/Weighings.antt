-- The weighings of a credibility layer, and why a new one is refused.
use Rattle.std.specs.Prelude.{ℕ, ◌≤◌, ◌||◌, List, [], ◌∷◌, Option, nat_lt, nat_le, slice_index_or}
use Rattle.book.specs.declared.faults.Ground.TheVariants.{NoColumn, WeighingOutside}
use Rattle.book.specs.declared.faults.Origin.TheVariants.{OfSource}
use Rattle.book.specs.declared.faults.Fault.{Fault}
use Rattle.book.specs.Grounds.{test, first_fault, at_place}
use Rattle.sources.specs.declared.weighing.Weighing.{Weighing}

abbrev pub weighing : ℕ → ℕ → Weighing
weighing lag weight = record { lag = lag; weight = weight }

abbrev pub weighing_at : List Weighing → ℕ → Weighing
weighing_at ws k = slice_index_or ws k (weighing 0 0)

-- what the weighing of each column keeps to
pub record IsWeighing (w : Weighing) : Type 0 where
  pub lag : w.lag ≤ 15
  pub weight : w.weight ≤ 1000

abbrev pub weighing_fault : ℕ → ℕ → ℕ → Option Fault
weighing_fault k lag weight =
    first_fault OfSource (at_place 0 0 k) (test (nat_le 11 k) NoColumn ∷ test (nat_lt 15 lag || nat_lt 1000 weight) WeighingOutside ∷ [])
