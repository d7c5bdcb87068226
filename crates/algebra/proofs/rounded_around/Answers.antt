use Rattle.std.proofs.Common.{◌≡◌, ℤ, pos, ◌+ℤ◌, nat_abs, ◌≤ℤ◌, sym, ap, ◌∙◌, subst, w64, to_z, of_z}
use Rattle.std.proofs.lemmas.Int.{to_z-of_z}
use Rattle.algebra.specs.Interval.{floor_div, ceil_div}
use Rattle.algebra.specs.Centre.{rest}
use Rattle.algebra.specs.Sizes.{Within}
use Rattle.algebra.proofs.Around.{thousand, centre_within, radius_within, radius_some, radius_fits}
use Rattle.algebra.proofs.rounded_around.Goals as goal

-- the numbers as the calls leave them
centre_is : (c : goal.After-rounded_up-radius) → to_z w64 (of_z w64 c.rounded_down-centre.result) ≡ floor_div c.args.z (nat_abs c.args.d)
centre_is c =
    let z = to_z-of_z w64 c.args.z c.ranges.z in
    let d = to_z-of_z w64 c.args.d c.ranges.d in
    let r = to_z-of_z w64 c.rounded_down-centre.result (record { sfits = c.rounded_down-centre.type_inv }) in
    cc

radius_is : (c : goal.After-rounded_up-radius) → to_z w64 (of_z w64 c.rounded_up-radius.result) +ℤ to_z w64 (of_z w64 c.inexact-more.result) ≡ ceil_div c.args.x (nat_abs c.args.d) +ℤ rest c.args.z (nat_abs c.args.d)
radius_is c =
    let z = to_z-of_z w64 c.args.z c.ranges.z in
    let x = to_z-of_z w64 c.args.x c.ranges.x in
    let d = to_z-of_z w64 c.args.d c.ranges.d in
    let r = to_z-of_z w64 c.rounded_up-radius.result (record { sfits = c.rounded_up-radius.type_inv }) in
    let m = to_z-of_z w64 c.inexact-more.result (record { sfits = c.inexact-more.type_inv }) in
    let u : c.rounded_up-radius.result ≡ ceil_div c.args.x (nat_abs c.args.d) = cc in
    let v : c.inexact-more.result ≡ rest c.args.z (nat_abs c.args.d) = cc in
    rw (r, m, u, v)

pub overflow_add-result : goal.overflow_add-result
overflow_add-result c =
    rw (radius_is c)
    (radius_fits c.args.z c.args.x (nat_abs c.args.d) (thousand c.args.d c.requires.divisor.0) c.requires.sizes.0.size c.requires.sizes.1.0.size c.requires.sizes.1.1)

pub returns : goal.returns
returns c =
    let h = thousand c.args.d c.requires.divisor.0 in
    let n = nat_abs c.args.d in
    let hz = c.requires.sizes.0.size in
    let hx = c.requires.sizes.1.0.size in
    let some = c.requires.sizes.1.1 in
    let r = ap (λ y. to_z w64 (of_z w64 y)) (radius_is c) ∙ to_z-of_z w64 _ (radius_fits c.args.z c.args.x n h hz hx some) in
    record {
      centre = centre_is c;
      radius = r;
      sizes = (
        subst (λ (y : ℤ). Within 4000000000000000000 y) (sym (centre_is c)) (centre_within c.args.z c.args.x n h hz hx some),
        (
          subst (λ (y : ℤ). Within 4000000000000000000 y) (sym r) (radius_within c.args.z c.args.x n h hz hx some),
          subst (λ (y : ℤ). pos 0 ≤ℤ y) (sym r) (radius_some c.args.z c.args.x n h hz hx some),
        ),
      );
    }
