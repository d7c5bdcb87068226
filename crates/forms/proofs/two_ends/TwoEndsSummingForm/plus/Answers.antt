use Rattle.std.proofs.Common.{ap, ◌∙◌}
use Rattle.forms.specs.Told.{ceiled}
use Rattle.forms.proofs.Reading.{ends_read}
use Rattle.forms.proofs.two_ends.TwoEndsSummingForm.plus.Goals as goal

pub returns : goal.returns
returns c =
    let a = c.read-a.ensures in
    let b = c.read-c.ensures in
    rw (a.ends, b.ends) (c.held.ensures ∙ ap ceiled (ends_read _ _ _ _ a.within b.within))
