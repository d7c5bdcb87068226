use Rattle.std.proofs.Common.{lit≤, ap, ◌∙◌}
use Rattle.forms.specs.Told.{ceiled}
use Rattle.forms.proofs.Centring.{asked_around, coefficient_few, multiple_held, multiple_around}
use Rattle.forms.proofs.centre.CentreRadiusSummingForm.times.Goals as goal

pub held-requires : goal.held-requires
held-requires c =
    asked_around (multiple_held _ _ _ _ _ _ (coefficient_few _ c.requires.0 c.requires.1) c.read-c.ensures.size c.ranges.coefficient (record { sfits = c.abs.type_inv })
    (record { sfits = c.product-centre.type_inv }) (record { sfits = c.product-radius.type_inv }) c.abs.ensures.value c.product-centre.ensures.value c.product-radius.ensures.value) 40000000000 (lit≤ tt)

pub returns : goal.returns
returns c =
    rw c.read-c.ensures.ends
    (c.held.ensures ∙ ap ceiled
    (multiple_around _ _ _ _ _ _ (coefficient_few _ c.requires.0 c.requires.1) c.read-c.ensures.size c.ranges.coefficient (record { sfits = c.abs.type_inv })
    (record { sfits = c.product-centre.type_inv }) (record { sfits = c.product-radius.type_inv }) c.abs.ensures.value c.product-centre.ensures.value c.product-radius.ensures.value))
