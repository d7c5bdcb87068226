use Rattle.forms.proofs.Centring.{passed, high_test}
use Rattle.forms.proofs.centre.within.Goals as goal

pub returns-then-radius-ceiling-2 : goal.returns-then-radius-ceiling-2
returns-then-radius-ceiling-2 c =
    high_test _ _ _ c.ranges.centre (passed _ _ c.ranges.radius c.ranges.ceiling c.requires.1 c.if-radius-lt0.false c.if-radius-ceiling.false) c.if-radius-ceiling-2.true
