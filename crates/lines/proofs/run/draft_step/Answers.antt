use Rattle.std.proofs.Common.{rules}
use Rattle.lines.proofs.run.draft_step.Goals.{in-Enter, in-AddTerm, in-AskFactor}
use Rattle.lines.proofs.run.draft_step.Goals as goal

pub returns-clause-stands : goal.returns-clause-stands
returns-clause-stands c = elim c.match-call.branch [ in-Enter w ↦ search rules | in-AddTerm w ↦ search rules | in-AskFactor w ↦ search rules ]
