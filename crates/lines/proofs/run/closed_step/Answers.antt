use Rattle.std.proofs.Common.{rules}
use Rattle.engine.specs.Held.{of_closed}
use Rattle.lines.specs.Line.{reading}
use Rattle.lines.proofs.Factors.{factor_stands}
use Rattle.lines.proofs.run.closed_step.Goals.{in-AskFactor, in-Enter}
use Rattle.lines.proofs.run.closed_step.Goals as goal

pub returns-clause-stands : goal.returns-clause-stands
returns-clause-stands g c =
    let s = c.args.source.now in
    let b = of_closed c.args.closed in
    let R = reading (g.S.FactorSource.means s) (g.S.FactorSource.depth s) g.F.ProjectingForm.form in
    elim c.match-call.branch [
      | in-AskFactor w ↦ let m = w.in-AskFactor.property in let k = w.in-AskFactor.column in
          rw (w.in-AskFactor.is, w.outcome-is)
          (factor_stands R g.met.F.ProjectingForm.lawful b m k (g.met.S.FactorSource.sound s b m k) w.factor.result w.into-outcome.result w.factor.ensures w.into-outcome.ensures)
      | in-Enter w ↦ search rules
    ]
