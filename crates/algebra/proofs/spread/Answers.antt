use Rattle.std.proofs.Common.{◌≡◌, ℤ, pos, ◌+ℤ◌, ◌*ℤ◌, nat_abs, ◌≤ℤ◌, sym, ap, ◌∙◌, subst, w64, SFits, to_z, of_z}
use Rattle.std.proofs.lemmas.Int.{to_z-of_z}
use Rattle.algebra.specs.Sizes.{Within}
use Rattle.algebra.proofs.Fits.{factor_both_fit, amount_both_fit, two_fit, three_fit, spread_size, spread_some, spread_is}
use Rattle.algebra.proofs.spread.Goals as goal

abs_is : (x c : ℤ) → SFits w64 c → x ≡ pos (nat_abs (to_z w64 (of_z w64 c))) → x ≡ pos (nat_abs c)
abs_is x c f e = e ∙ ap (λ z. pos (nat_abs z)) (to_z-of_z w64 c f)

-- the three products
p_is : (c : goal.After-product-t) → c.product-p.result ≡ pos (nat_abs c.args.factor.0) *ℤ c.args.amount.1
p_is c = c.product-p.ensures.value ∙ rw (to_z-of_z w64 c.abs.result (record { sfits = c.abs.type_inv }), to_z-of_z w64 c.args.amount.1 (amount_both_fit _ _ c.requires.amount).1, abs_is c.abs.result c.args.factor.0 (factor_both_fit _ _ c.requires.factor).0 c.abs.ensures.value)

q_is : (c : goal.After-product-t) → c.product-q.result ≡ c.args.factor.1 *ℤ pos (nat_abs c.args.amount.0)
q_is c = c.product-q.ensures.value ∙ rw (to_z-of_z w64 c.abs-2.result (record { sfits = c.abs-2.type_inv }), to_z-of_z w64 c.args.factor.1 (factor_both_fit _ _ c.requires.factor).1, abs_is c.abs-2.result c.args.amount.0 (amount_both_fit _ _ c.requires.amount).0 c.abs-2.ensures.value)

t_is : (c : goal.After-product-t) → c.product-t.result ≡ c.args.factor.1 *ℤ c.args.amount.1
t_is c = c.product-t.ensures.value ∙ rw (to_z-of_z w64 c.args.factor.1 (factor_both_fit _ _ c.requires.factor).1, to_z-of_z w64 c.args.amount.1 (amount_both_fit _ _ c.requires.amount).1)

two : (c : goal.After-product-t) → to_z w64 (of_z w64 c.product-p.result) +ℤ to_z w64 (of_z w64 c.product-q.result) ≡ c.product-p.result +ℤ c.product-q.result
two c = rw (to_z-of_z w64 c.product-p.result (record { sfits = c.product-p.type_inv }), to_z-of_z w64 c.product-q.result (record { sfits = c.product-q.type_inv }))

two_fits : (c : goal.After-product-t) → SFits w64 (c.product-p.result +ℤ c.product-q.result)
two_fits c = two_fit c.args.factor.0 c.args.factor.1 c.args.amount.0 c.args.amount.1 c.product-p.result c.product-q.result c.product-t.result c.requires.factor c.requires.amount (p_is c) (q_is c) (t_is c)

three : (c : goal.After-product-t) → to_z w64 (of_z w64 (to_z w64 (of_z w64 c.product-p.result) +ℤ to_z w64 (of_z w64 c.product-q.result))) +ℤ to_z w64 (of_z w64 c.product-t.result) ≡ c.product-p.result +ℤ c.product-q.result +ℤ c.product-t.result
three c = rw (two c, to_z-of_z w64 (c.product-p.result +ℤ c.product-q.result) (two_fits c), to_z-of_z w64 c.product-t.result (record { sfits = c.product-t.type_inv }))

three_fits : (c : goal.After-product-t) → SFits w64 (c.product-p.result +ℤ c.product-q.result +ℤ c.product-t.result)
three_fits c = three_fit c.args.factor.0 c.args.factor.1 c.args.amount.0 c.args.amount.1 c.product-p.result c.product-q.result c.product-t.result c.requires.factor c.requires.amount (p_is c) (q_is c) (t_is c)

pub overflow_add-result : goal.overflow_add-result
overflow_add-result c = rw (two c) (two_fits c)

pub overflow_add-result-2 : goal.overflow_add-result-2
overflow_add-result-2 c = rw (three c) (three_fits c)

pub returns : goal.returns
returns c =
    let v = ap (λ z. to_z w64 (of_z w64 z)) (three c) ∙ to_z-of_z w64 _ (three_fits c) in
    record {
      value = v ∙ spread_is c.args.factor.0 c.args.factor.1 c.args.amount.0 c.args.amount.1 c.product-p.result c.product-q.result c.product-t.result c.requires.factor c.requires.amount (p_is c) (q_is c) (t_is c);
      size = subst (λ (z : ℤ). Within 8000000000000000000 z) (sym v) (record { size = spread_size c.args.factor.0 c.args.factor.1 c.args.amount.0 c.args.amount.1 c.product-p.result c.product-q.result c.product-t.result c.requires.factor c.requires.amount (p_is c) (q_is c) (t_is c) });
      some = subst (λ (z : ℤ). pos 0 ≤ℤ z) (sym v) (spread_some c.args.factor.0 c.args.factor.1 c.args.amount.0 c.args.amount.1 c.product-p.result c.product-q.result c.product-t.result c.requires.factor c.requires.amount (p_is c) (q_is c) (t_is c));
    }
