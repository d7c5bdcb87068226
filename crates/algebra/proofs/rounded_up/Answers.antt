use Rattle.algebra.proofs.Rounded.{reads_more, reads_up}
use Rattle.algebra.proofs.rounded_up.Goals as goal

pub returns-then-z-d-gt0 : goal.returns-then-z-d-gt0
returns-then-z-d-gt0 c = reads_more c.args.z c.args.d c.ranges.z c.ranges.d c.requires.0 c.requires.1.size c.if-z-d-gt0.true

pub returns-else-z-d-gt0 : goal.returns-else-z-d-gt0
returns-else-z-d-gt0 c = reads_up c.args.z c.args.d c.ranges.z c.ranges.d c.requires.0 c.if-z-d-gt0.false
