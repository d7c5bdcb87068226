use Rattle.std.proofs.Common.{ap, ◌∙◌}
use Rattle.paper.specs.Numbers.{point}
use Rattle.forms.specs.Told.{ceiled}
use Rattle.forms.proofs.Reading.{sum_read}
use Rattle.forms.proofs.whole.I64SummingForm.plus.Goals as goal

pub returns : goal.returns
returns c =
    let a = c.read-a.ensures in
    let b = c.read-b.ensures in
    rw (a.0, b.0) (c.held.ensures ∙ ap (λ z. ceiled (point z)) (sum_read c.read-a.result c.read-b.result a.1.low a.1.high b.1.low b.1.high))
