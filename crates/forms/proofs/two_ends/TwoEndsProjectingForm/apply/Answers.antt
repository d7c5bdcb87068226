use Rattle.std.proofs.Common.{ap, ◌∙◌}
use Rattle.forms.specs.Told.{ceiled}
use Rattle.forms.proofs.Reading.{asked, fits_product, apply_ends, apply_order}
use Rattle.forms.proofs.two_ends.TwoEndsProjectingForm.apply.Goals as goal

pub held-requires : goal.held-requires
held-requires c =
    let k = c.product_range-least.ensures in
    asked (apply_order _ _ _ _ _ _ c.rounded_down.result c.rounded_up.result c.read-x.ensures.within c.read-c.ensures.within
    (fits_product _ k.sizes.0) (fits_product _ k.sizes.1) (record { sfits = c.rounded_down.type_inv }) (record { sfits = c.rounded_up.type_inv })
    k.least k.greatest c.rounded_down.ensures c.rounded_up.ensures) 40000000000

pub returns : goal.returns
returns c =
    let k = c.product_range-least.ensures in
    rw (c.read-x.ensures.ends, c.read-c.ensures.ends)
    (c.held.ensures ∙ ap ceiled
    (apply_ends _ _ _ _ _ _ c.rounded_down.result c.rounded_up.result c.read-x.ensures.within c.read-c.ensures.within
    (fits_product _ k.sizes.0) (fits_product _ k.sizes.1) (record { sfits = c.rounded_down.type_inv }) (record { sfits = c.rounded_up.type_inv })
    k.least k.greatest c.rounded_down.ensures c.rounded_up.ensures))
