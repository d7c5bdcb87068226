use Rattle.lines.specs.Line.{reading}
use Rattle.lines.proofs.run.step.Goals as goal

pub returns-in-InDraft-clause-stands : goal.returns-in-InDraft-clause-stands
returns-in-InDraft-clause-stands g c =
    let s = c.args.source.now in
    rw c.in-InDraft.is (c.draft_step.ensures.stands (reading (g.S.FactorSource.means s) (g.S.FactorSource.depth s) g.F.ProjectingForm.form))
