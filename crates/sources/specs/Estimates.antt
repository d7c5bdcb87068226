-- The totals of an estimate, row by row.
use Rattle.std.specs.Prelude.{ℕ, pos, ◌≤ℤ◌, Some, None, Ok, Err, Option, Result}
use Rattle.paper.specs.Numbers.{Amount, point}
use Rattle.paper.specs.Books.{Book}
use Rattle.paper.specs.Sources.{Cause, exposures_through, next_amounts_through}
use Rattle.book.specs.declared.faults.Fault.{Fault}
use Rattle.sources.specs.Asked.{cause_fault}
use Rattle.sources.specs.declared.estimated.Totals.{Totals}

-- the next amounts and the exposures of the rows before n
abbrev pub totals_through : Book → ℕ → ℕ → ℕ → Totals
totals_through b m k n = record { amounts = next_amounts_through b m k n; exposures = exposures_through b m k n }

-- totals that have a quotient in a form
pub record HasQuotient (t : Totals) : Type 0 where
  pub amounts : Amount (point t.amounts)
  pub exposures : Amount (point t.exposures)
  pub not_negative : pos 0 ≤ℤ t.exposures

-- a value, unless there is a cause
abbrev pub unless_cause : {V : Type 0} → ℕ → ℕ → Option Cause → V → Result V Fault
unless_cause m k (Some c) v = Err (cause_fault m k 0 c)
unless_cause m k None v = Ok v
