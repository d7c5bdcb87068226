use Rattle.std.proofs.Common.{ap, ◌∙◌}
use Rattle.forms.specs.Told.{ceiled}
use Rattle.forms.proofs.Centring.{sum_reads, around_sum}
use Rattle.forms.proofs.centre.CentreRadiusSummingForm.plus.Goals as goal

pub returns : goal.returns
returns c =
    let a = c.read-c.ensures in
    let b = c.read-e.ensures in
    rw (a.ends, b.ends) (c.held.ensures ∙ ap ceiled (sum_reads _ _ _ _ a.size b.size ∙ around_sum c.read-c.result.0 c.read-c.result.1 c.read-e.result.0 c.read-e.result.1))
