-- Numbers read back from their bits, and the ends of sums and multiples.
use Rattle.std.proofs.Common.{◌≡◌, ℕ, suc, ◌-◌, ◌<◌, ◌≤◌, true, false, T, [], ◌∷◌, ℤ, pos, negsuc, ◌+ℤ◌, ◌*ℤ◌, neg_ℤ, nat_abs, ◌≤ℤ◌, ◌<ℤ◌, lit<, sym, refl, ap, ◌∙◌, subst, arith, w64, SFits, to_z, of_z}
use lib.Signed.{le_z, le_z_yes}
use Rattle.std.proofs.lemmas.Int.{ints, to_z-of_z}
use Rattle.algebra.proofs.Ints.{nn, 0≤*, *ℤ_mono}
use Rattle.algebra.proofs.Quote.{quotes, cert, 0≤gap}
use Rattle.algebra.proofs.Division.{floor_le, ceil_ge, cancel_lt}
use Rattle.algebra.specs.Interval.{Ends, floor_div, ceil_div, least, greatest, apply}
use Rattle.algebra.specs.Sizes.{FactorSize, ProductSize}
use Rattle.paper.proofs.EndsForm.{ends_lawful}
use Rattle.paper.specs.EndsForm.{ends_mix}
use Rattle.paper.specs.Numbers.{Amount, Factor, both}
use Rattle.paper.specs.Sums.{multiple_of_ends}

pub back : (z : ℤ) → SFits w64 z → to_z w64 (of_z w64 z) ≡ z
back z h = to_z-of_z w64 z h

pub both_eq : {a b c d : ℤ} → a ≡ c → b ≡ d → both a b ≡ both c d
both_eq p q = cc

-- what a pair of ends is asked for: room for its two numbers, their order, and a ceiling
pub asked : {l h : ℤ} → l ≤ℤ h → (ceiling : ℕ) → (16 < 9223372036854775808) × ((l ≤ℤ h) × (pos 0 ≤ℤ pos ceiling))
asked o ceiling = (lit< tt, (o, nn ceiling))

pub sum_read : (a b : ℤ) → negsuc 39999999999 ≤ℤ a → a ≤ℤ pos 40000000000 → negsuc 39999999999 ≤ℤ b → b ≤ℤ pos 40000000000 →
    to_z w64 (of_z w64 (to_z w64 (of_z w64 a) +ℤ to_z w64 (of_z w64 b))) ≡ a +ℤ b
sum_read a b p q r s = omega (arith, ints)

pub le_trans : {a b c : ℤ} → a ≤ℤ b → b ≤ℤ c → a ≤ℤ c
le_trans {a} {b} {c} p q = omega (arith, ints)

-- the sums of two amounts' ends, as the code adds them
pub ends_read : (a b c d : ℤ) → Amount (both a b) → Amount (both c d) →
    both (to_z w64 (of_z w64 (to_z w64 (of_z w64 a) +ℤ to_z w64 (of_z w64 c)))) (to_z w64 (of_z w64 (to_z w64 (of_z w64 b) +ℤ to_z w64 (of_z w64 d)))) ≡ both (a +ℤ c) (b +ℤ d)
ends_read a b c d s t =
    both_eq (sum_read a c s.low (le_trans s.order s.high) t.low (le_trans t.order t.high))
    (sum_read b d (le_trans s.low s.order) s.high (le_trans t.low t.order) t.high)

-- a coefficient below 0 exchanges the ends, and any other keeps them
pub multiple_up : (c a b : ℤ) → pos 0 ≤ℤ c → both (c *ℤ a) (c *ℤ b) ≡ multiple_of_ends c (both a b)
multiple_up (pos n) a b h = refl
multiple_up (negsuc n) a b h = absurd h.le

pub multiple_down : (c a b : ℤ) → c <ℤ pos 0 → both (c *ℤ b) (c *ℤ a) ≡ multiple_of_ends c (both a b)
multiple_down (pos n) a b h = let z : n < 0 = omega (arith, ints) in absurd (omega arith)
multiple_down (negsuc n) a b h = refl

pub order_up : (c a b : ℤ) → pos 0 ≤ℤ c → a ≤ℤ b → (c *ℤ a) ≤ℤ (c *ℤ b)
order_up c a b h k = *ℤ_mono c h k

negated : (c : ℤ) → pos 0 ≤ℤ c → (a b : ℤ) → a ≤ℤ b → (neg_ℤ c *ℤ b) ≤ℤ (neg_ℤ c *ℤ a)
negated c p a b k = cert (c ∷ a ∷ b ∷ []) (0≤* p (0≤gap k)) (search quotes depth 20) (search quotes depth 20) (search quotes depth 20) tt

pub order_down : (c a b : ℤ) → c <ℤ pos 0 → a ≤ℤ b → (c *ℤ b) ≤ℤ (c *ℤ a)
order_down (pos n) a b h k = let z : n < 0 = omega (arith, ints) in absurd (omega arith)
order_down (negsuc n) a b h k = negated (pos (suc n)) (nn (suc n)) a b k

pub taken_up : (c : ℤ) → SFits w64 c → le_z (pos 0) (to_z w64 (of_z w64 c)) ≡ true → pos 0 ≤ℤ c
taken_up c f t = let e : le_z (pos 0) c ≡ true = rw (to_z-of_z w64 c f) at t in grind (arith, ints)

pub left_down : (c : ℤ) → SFits w64 c → le_z (pos 0) (to_z w64 (of_z w64 c)) ≡ false → c <ℤ pos 0
left_down c f t = let e : le_z (pos 0) c ≡ false = rw (to_z-of_z w64 c f) at t in grind (arith, ints)

pub above_0 : (q : ℤ) → pos 0 <ℤ q → 0 < nat_abs q
above_0 q h = omega (arith, ints)

pub low_fits : (a b : ℤ) → Amount (both a b) → SFits w64 a
low_fits a b s = let p = s.low in let q = s.order in let r = s.high in omega (arith, ints)

pub high_fits : (a b : ℤ) → Amount (both a b) → SFits w64 b
high_fits a b s = let p = s.low in let q = s.order in let r = s.high in omega (arith, ints)

-- a product as a call leaves it
pub product_is : (c a x : ℤ) → SFits w64 c → SFits w64 a → SFits w64 x → x ≡ to_z w64 (of_z w64 c) *ℤ to_z w64 (of_z w64 a) → to_z w64 (of_z w64 x) ≡ c *ℤ a
product_is c a x f g h e = back x h ∙ e ∙ rw (back c f, back a g)

-- the two products of a multiple, as the calls leave them
module _ (c a b x y : ℤ) (fits : SFits w64 c) (amount : Amount (both a b)) (x_Fits : SFits w64 x) (y-fits : SFits w64 y)
    (x-is : x ≡ to_z w64 (of_z w64 c) *ℤ to_z w64 (of_z w64 a)) (y-is : y ≡ to_z w64 (of_z w64 c) *ℤ to_z w64 (of_z w64 b)) where
  at_low : to_z w64 (of_z w64 x) ≡ c *ℤ a
  at_low = product_is c a x fits (low_fits a b amount) x_Fits x-is

  at_high : to_z w64 (of_z w64 y) ≡ c *ℤ b
  at_high = product_is c b y fits (high_fits a b amount) y-fits y-is

  pub kept_order : le_z (pos 0) (to_z w64 (of_z w64 c)) ≡ true → to_z w64 (of_z w64 x) ≤ℤ to_z w64 (of_z w64 y)
  kept_order t = rw (at_low, at_high) (order_up c a b (taken_up c fits t) amount.order)

  pub exchanged_order : le_z (pos 0) (to_z w64 (of_z w64 c)) ≡ false → to_z w64 (of_z w64 y) ≤ℤ to_z w64 (of_z w64 x)
  exchanged_order t = rw (at_low, at_high) (order_down c a b (left_down c fits t) amount.order)

  pub kept_ends : le_z (pos 0) (to_z w64 (of_z w64 c)) ≡ true → both (to_z w64 (of_z w64 x)) (to_z w64 (of_z w64 y)) ≡ multiple_of_ends c (both a b)
  kept_ends t = both_eq at_low at_high ∙ multiple_up c a b (taken_up c fits t)

  pub exchanged_ends : le_z (pos 0) (to_z w64 (of_z w64 c)) ≡ false → both (to_z w64 (of_z w64 y)) (to_z w64 (of_z w64 x)) ≡ multiple_of_ends c (both a b)
  exchanged_ends t = both_eq at_high at_low ∙ multiple_down c a b (left_down c fits t)

-- the quotient rounded down is no larger than the one rounded up
pub ratio_order : (z : ℤ) (q : ℕ) → 0 < q → floor_div z q ≤ℤ ceil_div z q
ratio_order z q some = cancel_lt q (floor_div z q) (ceil_div z q) (joined (pos q *ℤ floor_div z q) z (pos q *ℤ ceil_div z q) q (floor_le z q some) (ceil_ge z q some) some)
  where
    joined : (a z b : ℤ) (q : ℕ) → a ≤ℤ z → z ≤ℤ b → 0 < q → a <ℤ (b +ℤ pos q)
    joined a z b q h k l = omega (arith, ints)

factor_low_fits : (a b : ℤ) → Factor (both a b) → SFits w64 a
factor_low_fits a b s = let p = s.low in let q = s.order in let r = s.high in omega (arith, ints)

factor_high_fits : (a b : ℤ) → Factor (both a b) → SFits w64 b
factor_high_fits a b s = let p = s.low in let q = s.order in let r = s.high in omega (arith, ints)

-- the sizes of a factor's ends, as a call is passed them
pub factor_sizes : (a b : ℤ) → Factor (both a b) → FactorSize (to_z w64 (of_z w64 a)) × FactorSize (to_z w64 (of_z w64 b))
factor_sizes a b s =
    let p = s.low in
    let q = s.order in
    let r = s.high in
    (rw (back a (factor_low_fits a b s)) (record { size = omega (arith, ints) }), rw (back b (factor_high_fits a b s)) (record { size = omega (arith, ints) }))

ordered_in : (l h : ℤ) → l ≤ℤ h → T (le_z l h)
ordered_in l h o = o.le

-- a mix of two factors, as the calls leave it
module _ (w : ℕ) (few : w ≤ 1000) (a b c d x y l h : ℤ) (f : Factor (both a b)) (g : Factor (both c d))
    (x_Fits : SFits w64 x) (y-fits : SFits w64 y) (l-fits : SFits w64 l) (h_fits : SFits w64 h)
    (x-is : x ≡ pos (1000 - w) *ℤ to_z w64 (of_z w64 a) +ℤ pos w *ℤ to_z w64 (of_z w64 c)) (y-is : y ≡ pos (1000 - w) *ℤ to_z w64 (of_z w64 b) +ℤ pos w *ℤ to_z w64 (of_z w64 d))
    (l-is : l ≡ floor_div (to_z w64 (of_z w64 x)) 1000) (h-is : h ≡ ceil_div (to_z w64 (of_z w64 y)) 1000) where
  least_mix : to_z w64 (of_z w64 x) ≡ pos (1000 - w) *ℤ a +ℤ pos w *ℤ c
  least_mix = back x x_Fits ∙ x-is ∙ rw (back a (factor_low_fits a b f), back c (factor_low_fits c d g))

  greatest_mix : to_z w64 (of_z w64 y) ≡ pos (1000 - w) *ℤ b +ℤ pos w *ℤ d
  greatest_mix = back y y-fits ∙ y-is ∙ rw (back b (factor_high_fits a b f), back d (factor_high_fits c d g))

  low_mix : to_z w64 (of_z w64 l) ≡ (ends_mix w (both a b) (both c d)).lo
  low_mix = back l l-fits ∙ l-is ∙ ap (λ z. floor_div z 1000) least_mix

  high_mix : to_z w64 (of_z w64 h) ≡ (ends_mix w (both a b) (both c d)).hi
  high_mix = back h h_fits ∙ h-is ∙ ap (λ z. ceil_div z 1000) greatest_mix

  pub mix_ends : both (to_z w64 (of_z w64 l)) (to_z w64 (of_z w64 h)) ≡ ends_mix w (both a b) (both c d)
  mix_ends = both_eq low_mix high_mix

  pub mix_order : to_z w64 (of_z w64 l) ≤ℤ to_z w64 (of_z w64 h)
  mix_order = rw (low_mix, high_mix) (le_z_yes (ends_lawful.can_mix w (both a b) (both c d) few (ordered_in a b f.order) (ordered_in c d g.order)))

pub fits_product : (z : ℤ) → ProductSize z → SFits w64 z
fits_product z h = let k = h.size in omega (arith, ints)

-- an application, likewise
module _ (x y c d p q l h : ℤ) (f : Factor (both x y)) (a : Amount (both c d))
    (p-fits : SFits w64 p) (q-fits : SFits w64 q) (l-fits : SFits w64 l) (h_fits : SFits w64 h)
    (p_is : p ≡ least (both (to_z w64 (of_z w64 x)) (to_z w64 (of_z w64 y))) (both (to_z w64 (of_z w64 c)) (to_z w64 (of_z w64 d))))
    (q_is : q ≡ greatest (both (to_z w64 (of_z w64 x)) (to_z w64 (of_z w64 y))) (both (to_z w64 (of_z w64 c)) (to_z w64 (of_z w64 d))))
    (l-is : l ≡ floor_div (to_z w64 (of_z w64 p)) 10000000) (h-is : h ≡ ceil_div (to_z w64 (of_z w64 q)) 10000000) where
  factor_back : both (to_z w64 (of_z w64 x)) (to_z w64 (of_z w64 y)) ≡ both x y
  factor_back = both_eq (back x (factor_low_fits x y f)) (back y (factor_high_fits x y f))

  amount_back : both (to_z w64 (of_z w64 c)) (to_z w64 (of_z w64 d)) ≡ both c d
  amount_back = both_eq (back c (low_fits c d a)) (back d (high_fits c d a))

  least_back : to_z w64 (of_z w64 p) ≡ least (both x y) (both c d)
  least_back = back p p-fits ∙ p_is ∙ ap (λ e. least e (both (to_z w64 (of_z w64 c)) (to_z w64 (of_z w64 d)))) factor_back ∙ ap (least (both x y)) amount_back

  greatest_back : to_z w64 (of_z w64 q) ≡ greatest (both x y) (both c d)
  greatest_back = back q q-fits ∙ q_is ∙ ap (λ e. greatest e (both (to_z w64 (of_z w64 c)) (to_z w64 (of_z w64 d)))) factor_back ∙ ap (greatest (both x y)) amount_back

  low_apply : to_z w64 (of_z w64 l) ≡ floor_div (least (both x y) (both c d)) 10000000
  low_apply = back l l-fits ∙ l-is ∙ ap (λ z. floor_div z 10000000) least_back

  high_apply : to_z w64 (of_z w64 h) ≡ ceil_div (greatest (both x y) (both c d)) 10000000
  high_apply = back h h_fits ∙ h-is ∙ ap (λ z. ceil_div z 10000000) greatest_back

  pub apply_ends : both (to_z w64 (of_z w64 l)) (to_z w64 (of_z w64 h)) ≡ apply (both x y) (both c d)
  unfolding apply
  apply_ends = both_eq low_apply high_apply

  in_order : (e : Ends) → T (le_z e.lo e.hi) → (u v : ℤ) → both u v ≡ e → u ≤ℤ v
  in_order e t u v s = subst (λ (i : Ends). i.lo ≤ℤ i.hi) (sym s) (le_z_yes t)

  pub apply_order : to_z w64 (of_z w64 l) ≤ℤ to_z w64 (of_z w64 h)
  apply_order = in_order (apply (both x y) (both c d)) (ends_lawful.can_apply (both x y) (both c d) (ordered_in x y f.order) (ordered_in c d a.order)) _ _ apply_ends
