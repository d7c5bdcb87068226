use Rattle.std.proofs.Common.{◌≡◌, nat_abs, w64, to_z, of_z}
use Rattle.algebra.specs.Interval.{floor_div, ceil_div}
use Rattle.forms.proofs.Reading.{asked, back, above_0, ratio_order}
use Rattle.forms.proofs.two_ends.TwoEndsProjectingForm.ratio.Goals as goal

pub held-requires : goal.held-requires
held-requires c =
    let s = back c.product-scaled.result (record { sfits = c.product-scaled.type_inv }) in
    let q = back c.args.q c.ranges.q in
    let d = back c.rounded_down.result (record { sfits = c.rounded_down.type_inv }) in
    let u = back c.rounded_up.result (record { sfits = c.rounded_up.type_inv }) in
    let z = c.product-scaled.result in
    let down : to_z w64 (of_z w64 c.rounded_down.result) ≡ floor_div z (nat_abs c.args.q) = cc in
    let up : to_z w64 (of_z w64 c.rounded_up.result) ≡ ceil_div z (nat_abs c.args.q) = cc in
    asked (rw (down, up) (ratio_order z (nat_abs c.args.q) (above_0 c.args.q c.requires.1.0))) 200000000
