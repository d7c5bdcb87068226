use Rattle.std.proofs.Common.{◌≡◌, ℤ, sym, subst, w64, to_z, of_z}
use Rattle.std.proofs.lemmas.Int.{to_z-of_z}
use Rattle.algebra.specs.Interval.{Ends, least, greatest}
use Rattle.algebra.specs.Sizes.{Within}
use Rattle.algebra.proofs.Fits.{least_small, greatest_small, factor_fits, size_fits}
use Rattle.algebra.proofs.product_range.Goals as goal

pub returns : goal.returns
returns c =
    let g = c.requires.factors in
    let h = c.requires.amounts in
    let x = to_z-of_z w64 c.args.factor.0 (factor_fits _ g.0.size) in
    let y = to_z-of_z w64 c.args.factor.1 (factor_fits _ g.1.size) in
    let a = to_z-of_z w64 c.args.amount.0 (size_fits _ h.0.size) in
    let b = to_z-of_z w64 c.args.amount.1 (size_fits _ h.1.size) in
    let p = to_z-of_z w64 c.product-p.result (record { sfits = c.product-p.type_inv }) in
    let q = to_z-of_z w64 c.product-q.result (record { sfits = c.product-q.type_inv }) in
    let s = to_z-of_z w64 c.product-s.result (record { sfits = c.product-s.type_inv }) in
    let t = to_z-of_z w64 c.product-t.result (record { sfits = c.product-t.type_inv }) in
    let m = to_z-of_z w64 c.min.result (record { sfits = c.min.type_inv }) in
    let n = to_z-of_z w64 c.min-2.result (record { sfits = c.min-2.type_inv }) in
    let r = to_z-of_z w64 c.min-3.result (record { sfits = c.min-3.type_inv }) in
    let i = to_z-of_z w64 c.max.result (record { sfits = c.max.type_inv }) in
    let j = to_z-of_z w64 c.max-2.result (record { sfits = c.max-2.type_inv }) in
    let k = to_z-of_z w64 c.max-3.result (record { sfits = c.max-3.type_inv }) in
    let f : Ends = record { lo = c.args.factor.0; hi = c.args.factor.1 } in
    let e : Ends = record { lo = c.args.amount.0; hi = c.args.amount.1 } in
    let u : to_z w64 (of_z w64 c.min-3.result) ≡ least f e = cc in
    let v : to_z w64 (of_z w64 c.max-3.result) ≡ greatest f e = cc in
    record {
      least = u;
      greatest = v;
      sizes = (
        subst (λ (z : ℤ). Within 8000000000000000000 z) (sym u) (record { size = least_small f.lo f.hi e.lo e.hi g.0.size g.1.size h.0.size h.1.size }),
        subst (λ (z : ℤ). Within 8000000000000000000 z) (sym v) (record { size = greatest_small f.lo f.hi e.lo e.hi g.0.size g.1.size h.0.size h.1.size }),
      );
    }
