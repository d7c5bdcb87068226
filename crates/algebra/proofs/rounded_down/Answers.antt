use Rattle.algebra.proofs.Rounded.{reads_less, reads_down}
use Rattle.algebra.proofs.rounded_down.Goals as goal

pub returns-then-z-d-lt0 : goal.returns-then-z-d-lt0
returns-then-z-d-lt0 c = reads_less c.args.z c.args.d c.ranges.z c.ranges.d c.requires c.if-z-d-lt0.true

pub returns-else-z-d-lt0 : goal.returns-else-z-d-lt0
returns-else-z-d-lt0 c = reads_down c.args.z c.args.d c.ranges.z c.ranges.d c.requires c.if-z-d-lt0.false
