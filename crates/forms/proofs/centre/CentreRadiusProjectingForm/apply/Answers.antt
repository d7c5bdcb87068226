use Rattle.std.proofs.Common.{ap, ◌∙◌}
use Rattle.forms.specs.Told.{ceiled}
use Rattle.forms.proofs.Centring.{fits_within, apply_around}
use Rattle.forms.proofs.centre.CentreRadiusProjectingForm.apply.Goals as goal

pub returns : goal.returns
returns c =
    let k = c.rounded_around-centre.ensures.sizes in
    rw (c.read-c.ensures.ends, c.read-e.ensures.ends)
    (c.held.ensures ∙ ap ceiled
    (apply_around _ _ _ _ c.product-middle.result c.spread-apart.result _ _ c.read-c.ensures.size c.read-e.ensures.size
    (record { sfits = c.product-middle.type_inv }) (record { sfits = c.spread-apart.type_inv }) (fits_within _ k.0) (fits_within _ k.1.0)
    c.product-middle.ensures.value c.spread-apart.ensures.value c.rounded_around-centre.ensures.centre c.rounded_around-centre.ensures.radius))
