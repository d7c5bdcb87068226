use Rattle.std.proofs.Common.{rules}
use Rattle.forms.proofs.two_ends.EndPair.read.Goals.{else-self-via-then-self+then-self-2+else-self-3, else-self-via-then-self+else-self-2, else-self-via-else-self}
use Rattle.forms.proofs.two_ends.EndPair.read.Goals as goal

pub returns-else-self-clause-ends : goal.returns-else-self-clause-ends
returns-else-self-clause-ends g c =
    elim c.else-self.branch [
      | else-self-via-then-self+then-self-2+else-self-3 w ↦ search rules
      | else-self-via-then-self+else-self-2 w ↦ search rules
      | else-self-via-else-self w ↦ search rules
    ]
