use Rattle.std.proofs.Common.{◌≡◌, ◌-◌, ℤ, pos, ◌+ℤ◌, ◌*ℤ◌, sym, ap, ◌∙◌, subst, arith, w64, to_z, of_z}
use Rattle.std.proofs.lemmas.Int.{to_z-of_z}
use Rattle.algebra.specs.Sizes.{Within}
use Rattle.algebra.proofs.Fits.{weighted_small, weighted_fits}
use Rattle.algebra.proofs.weighted.Goals as goal

-- the sum as it is added
sum_is : (c : goal.After-product-other) → to_z w64 (of_z w64 c.product-own.result) +ℤ to_z w64 (of_z w64 c.product-other.result) ≡ pos (1000 - c.args.w) *ℤ c.args.x +ℤ pos c.args.w *ℤ c.args.y
sum_is c =
    let x = to_z-of_z w64 c.args.x c.ranges.x in
    let y = to_z-of_z w64 c.args.y c.ranges.y in
    let f = to_z-of_z w64 c.from.result (record { sfits = c.from.type_inv }) in
    let g = to_z-of_z w64 c.from-2.result (record { sfits = c.from-2.type_inv }) in
    let own = to_z-of_z w64 c.product-own.result (record { sfits = c.product-own.type_inv }) in
    let other = to_z-of_z w64 c.product-other.result (record { sfits = c.product-other.type_inv }) in
    cc

pub overflow_add-result : goal.overflow_add-result
overflow_add-result c = rw (sum_is c) (weighted_fits (1000 - c.args.w) c.args.w c.args.x c.args.y (omega arith) c.requires.0 c.requires.1.0.size c.requires.1.1.size)

pub returns : goal.returns
returns c =
    let small = weighted_small (1000 - c.args.w) c.args.w c.args.x c.args.y (omega arith) c.requires.0 c.requires.1.0.size c.requires.1.1.size in
    let s = ap (λ z. to_z w64 (of_z w64 z)) (sum_is c) ∙ to_z-of_z w64 _ (weighted_fits (1000 - c.args.w) c.args.w c.args.x c.args.y (omega arith) c.requires.0 c.requires.1.0.size c.requires.1.1.size) in
    record { value = s; size = subst (λ (z : ℤ). Within 8000000000000000000 z) (sym s) (record { size = omega arith }) }
