use Rattle.std.proofs.Common.{lit≤, ap, ◌∙◌}
use Rattle.forms.specs.Told.{factor_ceiled}
use Rattle.forms.proofs.Centring.{radius_passed, fits_within, mix_around, mix_passed}
use Rattle.forms.proofs.centre.CentreRadiusProjectingForm.mix.Goals as goal

pub weighted-apart-requires : goal.weighted-apart-requires
weighted-apart-requires c = (c.requires, (radius_passed 200000000 _ _ (lit≤ tt) c.read-c.ensures.size, radius_passed 200000000 _ _ (lit≤ tt) c.read-e.ensures.size))

pub rounded_around-centre-requires-clause-sizes : goal.rounded_around-centre-requires-clause-sizes
rounded_around-centre-requires-clause-sizes c =
    mix_passed c.args.w _ _ _ _ c.weighted-middle.result c.weighted-apart.result c.read-c.ensures.size c.read-e.ensures.size
    (record { sfits = c.weighted-middle.type_inv }) (record { sfits = c.weighted-apart.type_inv }) c.weighted-middle.ensures.size c.weighted-apart.ensures.size c.weighted-apart.ensures.value

pub returns : goal.returns
returns c =
    let k = c.rounded_around-centre.ensures.sizes in
    rw (c.read-c.ensures.ends, c.read-e.ensures.ends)
    (c.held.ensures ∙ ap factor_ceiled
    (mix_around c.args.w _ _ _ _ c.weighted-middle.result c.weighted-apart.result _ _ c.read-c.ensures.size c.read-e.ensures.size
    (record { sfits = c.weighted-middle.type_inv }) (record { sfits = c.weighted-apart.type_inv }) (fits_within _ k.0) (fits_within _ k.1.0)
    c.weighted-middle.ensures.value c.weighted-apart.ensures.value c.rounded_around-centre.ensures.centre c.rounded_around-centre.ensures.radius))
