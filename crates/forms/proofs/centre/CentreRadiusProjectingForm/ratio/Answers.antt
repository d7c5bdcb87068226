use Rattle.std.proofs.Common.{lit≤, ◌≤◌, pos, ◌*ℤ◌, nat_abs, ap, ◌∙◌, arith, w64}
use Rattle.std.proofs.lemmas.Int.{ints, to_z-of_z}
use Rattle.forms.proofs.Centring.{asked_around, quotient_held}
use Rattle.forms.proofs.centre.CentreRadiusProjectingForm.ratio.Goals as goal

pub held-requires : goal.held-requires
held-requires c =
    let low = c.requires.0.low in
    let high = c.requires.0.high in
    let small : nat_abs c.args.p ≤ 40000000000 = omega (arith, ints) in
    asked_around (quotient_held c.args.p c.args.q c.product-scaled.result c.rounded_down-centre.result c.inexact-radius.result small c.ranges.q
    (record { sfits = c.product-scaled.type_inv }) (record { sfits = c.rounded_down-centre.type_inv }) (record { sfits = c.inexact-radius.type_inv })
    (c.product-scaled.ensures.value ∙ ap (λ z. pos 10000000 *ℤ z) (to_z-of_z w64 c.args.p c.ranges.p)) c.rounded_down-centre.ensures c.inexact-radius.ensures) 200000000 (lit≤ tt)
