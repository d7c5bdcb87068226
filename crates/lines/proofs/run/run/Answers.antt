use Rattle.std.proofs.Common.{arith}
use Rattle.lines.specs.Line.{reading}
use Rattle.lines.proofs.Lines.{one_more}
use Rattle.lines.proofs.run.run.Goals as goal

pub loop-j-preserved : goal.loop-j-preserved
loop-j-preserved g c =
    let s = c.args.source.now in
    let R = reading (g.S.FactorSource.means s) (g.S.FactorSource.depth s) g.F.ProjectingForm.form in
    one_more R _ _ _ c.args.calls.now c.args.outcomes.now c.loop-j.outcomes c.loop-j.j _ c.step.result.1 c.loop-j.invariant (omega arith) (omega arith) c.step.ensures.next c.step.ensures.stands
