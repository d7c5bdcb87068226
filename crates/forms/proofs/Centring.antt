-- A centre and a radius, as the code tests and adds them.
use Rattle.std.proofs.Common.{◌≡◌, ℕ, suc, ◌-◌, ◌*◌, ◌<◌, ◌≤◌, Bool, true, false, not, [], ◌∷◌, ℤ, pos, negsuc, ◌+ℤ◌, ◌-ℤ◌, ◌*ℤ◌, neg_ℤ, nat_abs, ◌≤ℤ◌, sym, ap, ◌∙◌, arith, lit<, lit≤, w64, SFits, to_z, of_z}
use native.Mathlib.Nat as N
use lib.Signed.{lt_z, le_z}
use Rattle.std.proofs.lemmas.Int.{ints, to_z-of_z}
use Rattle.algebra.specs.Interval.{floor_div, ceil_div}
use Rattle.algebra.specs.Centre.{Centre, ends_of_centre, rest, exact_radius, apply_c}
use Rattle.algebra.specs.Sizes.{CentreSize, Within}
use Rattle.algebra.proofs.Division.{floor_small}
use Rattle.algebra.proofs.CentreLaws.{rest_0, rest_1}
use Rattle.paper.specs.CentreForm.{centre_of, centre_mix, mixed_mid, mixed_rad}
use Rattle.paper.proofs.CentreForm.{centre_back}
use Rattle.algebra.proofs.Ints.{nn, 0≤*}
use Rattle.algebra.proofs.Quote.{quotes, ring!, 0≤+}
use Rattle.algebra.proofs.Fits.{centre_within, abs_product, size_fits}
use Rattle.paper.specs.Numbers.{both}
use Rattle.paper.specs.Sums.{sum_of_ends, multiple_of_ends}
use Rattle.forms.specs.Centred.{around, centred, within_ceiling}
use Rattle.forms.proofs.Reading.{both_eq}

-- the tests that a radius passed, as facts
pub record Passed (r C : ℤ) : Type 0 where
  pub some : pos 0 ≤ℤ r
  pub small : r ≤ℤ C
  pub ceiling : C ≤ℤ pos 40000000000

pub passed : (r C : ℤ) → SFits w64 r → SFits w64 C → C ≤ℤ pos 40000000000 →
    lt_z (to_z w64 (of_z w64 r)) (pos 0) ≡ false → lt_z (to_z w64 (of_z w64 C)) (to_z w64 (of_z w64 r)) ≡ false → Passed r C
passed r C fr fC h t₁ t₂ =
    let er = to_z-of_z w64 r fr in
    let eC = to_z-of_z w64 C fC in
    let u₁ : lt_z r (pos 0) ≡ false = rw er at t₁ in
    let u₂ : lt_z C r ≡ false = rw (eC, er) at t₂ in
    record { some = grind (arith, ints); small = grind (arith, ints); ceiling = h }

-- a bound of the centre, and the end that it is about
low_moved : (c r C : ℤ) → le_z (r -ℤ C) c ≡ le_z (neg_ℤ C) (c -ℤ r)
low_moved c r C = grind (arith, ints)

high_moved : (c r C : ℤ) → le_z c (C -ℤ r) ≡ le_z (c +ℤ r) C
high_moved c r C = grind (arith, ints)

module _ (c r C : ℤ) (c-fits : SFits w64 c) (p : Passed r C) where
  low_back : to_z w64 (of_z w64 (to_z w64 (of_z w64 r) -ℤ to_z w64 (of_z w64 C))) ≡ r -ℤ C
  low_back = let a = p.some in let b = p.small in let f = p.ceiling in omega (arith, ints)

  high_back : to_z w64 (of_z w64 (to_z w64 (of_z w64 C) -ℤ to_z w64 (of_z w64 r))) ≡ C -ℤ r
  high_back = let a = p.some in let b = p.small in let f = p.ceiling in omega (arith, ints)

  pub high_test : le_z (to_z w64 (of_z w64 (to_z w64 (of_z w64 r) -ℤ to_z w64 (of_z w64 C)))) (to_z w64 (of_z w64 c)) ≡ true →
      le_z (to_z w64 (of_z w64 c)) (to_z w64 (of_z w64 (to_z w64 (of_z w64 C) -ℤ to_z w64 (of_z w64 r)))) ≡ within_ceiling c r C
  high_test t =
      let e = to_z-of_z w64 c c-fits in
      let a : le_z (pos 0) r ≡ true = let h = p.some in grind (arith, ints) in
      let b : le_z (neg_ℤ C) (c -ℤ r) ≡ true = sym (low_moved c r C) ∙ (rw (e, low_back) at t) in
      rw (e, high_back, a, b) (high_moved c r C)

-- ---- centres and radii that were read
module _ (most : ℕ) (c r : ℤ) (top : most ≤ 40000000000) (s : CentreSize most c r) where
  c_size : nat_abs c ≤ most
  c_size = (centre_within most c r s).0

  r_size : nat_abs r ≤ most
  r_size = (centre_within most c r s).1

  pub centre_reads : to_z w64 (of_z w64 c) ≡ c
  centre_reads = to_z-of_z w64 c (size_fits c (N.le_trans c_size top))

  pub radius_reads : to_z w64 (of_z w64 r) ≡ r
  radius_reads = to_z-of_z w64 r (size_fits r (N.le_trans r_size top))

  pub radius_passed : Within most (to_z w64 (of_z w64 r))
  radius_passed = rw radius_reads (record { size = r_size })

-- the two ends of a centre and a radius, as the code makes them
pub ends_read_around : (most : ℕ) (c r : ℤ) → most ≤ 40000000000 → CentreSize most c r →
    both (to_z w64 (of_z w64 (to_z w64 (of_z w64 c) -ℤ to_z w64 (of_z w64 r)))) (to_z w64 (of_z w64 (to_z w64 (of_z w64 c) +ℤ to_z w64 (of_z w64 r)))) ≡ around c r
ends_read_around most c r top s =
    let p = (centre_within most c r s).0 in
    let q = (centre_within most c r s).1 in
    both_eq (omega (arith, ints)) (omega (arith, ints))

pub size_of_ceiling : (C : ℤ) → (pos 0 ≤ℤ C) × (C ≤ℤ pos 40000000000) → nat_abs C ≤ 40000000000
size_of_ceiling C h = let p = h.0 in let q = h.1 in omega (arith, ints)

pub around_eq : {c r e s : ℤ} → c ≡ e → r ≡ s → around c r ≡ around e s
around_eq p q = cc

-- ---- sums and multiples
pub around_sum : (c r e s : ℤ) → around (c +ℤ e) (r +ℤ s) ≡ sum_of_ends (around c r) (around e s)
around_sum c r e s = both_eq (low c r e s) (high c r e s)
  where
    low : (c r e s : ℤ) → (c +ℤ e) -ℤ (r +ℤ s) ≡ (c -ℤ r) +ℤ (e -ℤ s)
    low c r e s = omega (arith, ints)

    high : (c r e s : ℤ) → (c +ℤ e) +ℤ (r +ℤ s) ≡ (c +ℤ r) +ℤ (e +ℤ s)
    high c r e s = omega (arith, ints)

pub sum_reads : (c r e s : ℤ) → CentreSize 40000000000 c r → CentreSize 40000000000 e s →
    around (to_z w64 (of_z w64 (to_z w64 (of_z w64 c) +ℤ to_z w64 (of_z w64 e)))) (to_z w64 (of_z w64 (to_z w64 (of_z w64 r) +ℤ to_z w64 (of_z w64 s)))) ≡ around (c +ℤ e) (r +ℤ s)
sum_reads c r e s p q =
    around_eq (add c e (centre_within 40000000000 c r p).0 (centre_within 40000000000 e s q).0) (add r s (centre_within 40000000000 c r p).1 (centre_within 40000000000 e s q).1)
  where
    add : (a b : ℤ) → nat_abs a ≤ 40000000000 → nat_abs b ≤ 40000000000 → to_z w64 (of_z w64 (to_z w64 (of_z w64 a) +ℤ to_z w64 (of_z w64 b))) ≡ a +ℤ b
    add a b h k = omega (arith, ints)

pub around_multiple : (k c r : ℤ) → around (k *ℤ c) (pos (nat_abs k) *ℤ r) ≡ multiple_of_ends k (around c r)
around_multiple (pos n) c r =
    both_eq (ring! (pos n ∷ c ∷ r ∷ []) (search quotes depth 20) (search quotes depth 20) tt) (ring! (pos n ∷ c ∷ r ∷ []) (search quotes depth 20) (search quotes depth 20) tt)
around_multiple (negsuc n) c r = turned (pos (suc n)) c r
  where
    turned : (k c r : ℤ) → both (neg_ℤ k *ℤ c -ℤ k *ℤ r) (neg_ℤ k *ℤ c +ℤ k *ℤ r) ≡ both (neg_ℤ k *ℤ (c +ℤ r)) (neg_ℤ k *ℤ (c -ℤ r))
    turned k c r =
        both_eq (ring! (k ∷ c ∷ r ∷ []) (search quotes depth 20) (search quotes depth 20) tt) (ring! (k ∷ c ∷ r ∷ []) (search quotes depth 20) (search quotes depth 20) tt)

-- a multiple of a centre and a radius, as the calls leave it
module _ (k c r a x y : ℤ) (few : nat_abs k ≤ 100) (s : CentreSize 40000000000 c r) (k-fits : SFits w64 k) (a-fits : SFits w64 a) (x_Fits : SFits w64 x) (y-fits : SFits w64 y)
    (a-is : a ≡ pos (nat_abs (to_z w64 (of_z w64 k)))) (x-is : x ≡ to_z w64 (of_z w64 k) *ℤ to_z w64 (of_z w64 c)) (y-is : y ≡ to_z w64 (of_z w64 a) *ℤ to_z w64 (of_z w64 r)) where
  a_abs : a ≡ pos (nat_abs k)
  a_abs = a-is ∙ ap (λ z. pos (nat_abs z)) (to_z-of_z w64 k k-fits)

  x_reads : to_z w64 (of_z w64 x) ≡ k *ℤ c
  x_reads = to_z-of_z w64 x x_Fits ∙ x-is ∙ rw (to_z-of_z w64 k k-fits, centre_reads 40000000000 c r (N.le_refl 40000000000) s)

  y_reads : to_z w64 (of_z w64 y) ≡ pos (nat_abs k) *ℤ r
  y_reads = to_z-of_z w64 y y-fits ∙ y-is ∙ rw (to_z-of_z w64 a a-fits, radius_reads 40000000000 c r (N.le_refl 40000000000) s, a_abs)

  x_small : nat_abs (k *ℤ c) ≤ 100 * 40000000000
  x_small = abs_product k c 100 40000000000 few (centre_within 40000000000 c r s).0

  y_small : nat_abs (pos (nat_abs k) *ℤ r) ≤ 100 * 40000000000
  y_small = abs_product (pos (nat_abs k)) r 100 40000000000 few (centre_within 40000000000 c r s).1

  pub multiple_held : Within 4000000000000000000 (to_z w64 (of_z w64 x)) × (Within 4000000000000000000 (to_z w64 (of_z w64 y)) × (pos 0 ≤ℤ to_z w64 (of_z w64 y)))
  multiple_held =
      (rw x_reads (record { size = omega (arith, x_small) }), (rw y_reads (record { size = omega (arith, y_small) }), rw y_reads (0≤* (nn (nat_abs k)) s.some)))

  pub multiple_around : around (to_z w64 (of_z w64 x)) (to_z w64 (of_z w64 y)) ≡ multiple_of_ends k (around c r)
  multiple_around = around_eq x_reads y_reads ∙ around_multiple k c r

pub coefficient_few : (k : ℤ) → negsuc 99 ≤ℤ k → k ≤ℤ pos 100 → nat_abs k ≤ 100
coefficient_few k l h = omega (arith, ints)

-- ---- weighted radii are not negative
pub weighted_some : (v w : ℕ) (r s : ℤ) → pos 0 ≤ℤ r → pos 0 ≤ℤ s → pos 0 ≤ℤ (pos v *ℤ r +ℤ pos w *ℤ s)
weighted_some v w r s h k = 0≤+ (0≤* (nn v) h) (0≤* (nn w) k)

-- ---- ratios: a quotient of amounts is within the size, and its rest is 0 or 1
pub quotient_held : (p q z x y : ℤ) → nat_abs p ≤ 40000000000 → SFits w64 q → SFits w64 z → SFits w64 x → SFits w64 y → z ≡ pos 10000000 *ℤ p →
    x ≡ floor_div (to_z w64 (of_z w64 z)) (nat_abs (to_z w64 (of_z w64 q))) → y ≡ rest (to_z w64 (of_z w64 z)) (nat_abs (to_z w64 (of_z w64 q))) →
    Within 4000000000000000000 (to_z w64 (of_z w64 x)) × (Within 4000000000000000000 (to_z w64 (of_z w64 y)) × (pos 0 ≤ℤ to_z w64 (of_z w64 y)))
quotient_held p q z x y small fq fz fx fy z-is x-is y-is = (
  rw (to_z-of_z w64 x fx, x-is, to_z-of_z w64 z fz, z-is) (record { size = N.le_trans (floor_small (pos 10000000 *ℤ p) (nat_abs (to_z w64 (of_z w64 q)))) (N.le_trans (abs_product (pos 10000000) p 10000000 40000000000 (N.le_refl 10000000) small) (lit≤ tt)) }),
  (
    rw (to_z-of_z w64 y fy, y-is) (record { size = rest_size (rest (to_z w64 (of_z w64 z)) (nat_abs (to_z w64 (of_z w64 q)))) (rest_0 (to_z w64 (of_z w64 z)) (nat_abs (to_z w64 (of_z w64 q)))) (rest_1 (to_z w64 (of_z w64 z)) (nat_abs (to_z w64 (of_z w64 q)))) }),
    rw (to_z-of_z w64 y fy, y-is) (rest_0 (to_z w64 (of_z w64 z)) (nat_abs (to_z w64 (of_z w64 q)))),
  ),
)
  where
    rest_size : (t : ℤ) → pos 0 ≤ℤ t → t ≤ℤ pos 1 → nat_abs t ≤ 4000000000000000000
    rest_size t h k = omega (arith, ints)

-- ---- results of `rounded_around`
pub fits_within : (x : ℤ) → Within 4000000000000000000 x → SFits w64 x
fits_within x h = let k = h.size in omega (arith, ints)

-- a mix, from what the calls gave
module _ (w : ℕ) (c r e s m a x y : ℤ) (f : CentreSize 200000000 c r) (g : CentreSize 200000000 e s) (m-fits : SFits w64 m) (a-fits : SFits w64 a) (x_Fits : SFits w64 x) (y-fits : SFits w64 y)
    (m-is : m ≡ pos (1000 - w) *ℤ to_z w64 (of_z w64 c) +ℤ pos w *ℤ to_z w64 (of_z w64 e)) (a-is : a ≡ pos (1000 - w) *ℤ to_z w64 (of_z w64 r) +ℤ pos w *ℤ to_z w64 (of_z w64 s))
    (x-is : x ≡ floor_div (to_z w64 (of_z w64 m)) 1000) (y-is : y ≡ ceil_div (to_z w64 (of_z w64 a)) 1000 +ℤ rest (to_z w64 (of_z w64 m)) 1000) where
  middle_is : to_z w64 (of_z w64 m) ≡ mixed_mid w (centred c r) (centred e s)
  middle_is = to_z-of_z w64 m m-fits ∙ m-is ∙ rw (centre_reads 200000000 c r (lit≤ tt) f, centre_reads 200000000 e s (lit≤ tt) g)

  apart_is : to_z w64 (of_z w64 a) ≡ mixed_rad w (centred c r) (centred e s)
  apart_is = to_z-of_z w64 a a-fits ∙ a-is ∙ rw (radius_reads 200000000 c r (lit≤ tt) f, radius_reads 200000000 e s (lit≤ tt) g)

  centre_mixed : to_z w64 (of_z w64 x) ≡ (centre_mix w (centred c r) (centred e s)).mid
  centre_mixed = to_z-of_z w64 x x_Fits ∙ x-is ∙ ap (λ z. floor_div z 1000) middle_is

  radius_mixed : to_z w64 (of_z w64 y) ≡ (centre_mix w (centred c r) (centred e s)).rad
  radius_mixed = to_z-of_z w64 y y-fits ∙ y-is ∙ ap (λ z. ceil_div z 1000 +ℤ rest (to_z w64 (of_z w64 m)) 1000) apart_is ∙ ap (λ z. ceil_div (mixed_rad w (centred c r) (centred e s)) 1000 +ℤ rest z 1000) middle_is

  pub mix_around : around (to_z w64 (of_z w64 x)) (to_z w64 (of_z w64 y)) ≡ ends_of_centre (centre_mix w (centre_of (around c r)) (centre_of (around e s)))
  mix_around =
      around_eq centre_mixed radius_mixed
      ∙ ap (λ (z : Centre). ends_of_centre (centre_mix w z (centred e s))) (sym (centre_back (centred c r)))
      ∙ ap (λ (z : Centre). ends_of_centre (centre_mix w (centre_of (around c r)) z)) (sym (centre_back (centred e s)))

-- an application, likewise
module _ (c r e s m a x y : ℤ) (f : CentreSize 200000000 c r) (g : CentreSize 40000000000 e s) (m-fits : SFits w64 m) (a-fits : SFits w64 a) (x_Fits : SFits w64 x) (y-fits : SFits w64 y)
    (m-is : m ≡ to_z w64 (of_z w64 c) *ℤ to_z w64 (of_z w64 e))
    (a-is : a ≡ exact_radius (centred (to_z w64 (of_z w64 c)) (to_z w64 (of_z w64 r))) (centred (to_z w64 (of_z w64 e)) (to_z w64 (of_z w64 s))))
    (x-is : x ≡ floor_div (to_z w64 (of_z w64 m)) 10000000) (y-is : y ≡ ceil_div (to_z w64 (of_z w64 a)) 10000000 +ℤ rest (to_z w64 (of_z w64 m)) 10000000) where
  product_is' : to_z w64 (of_z w64 m) ≡ c *ℤ e
  product_is' = to_z-of_z w64 m m-fits ∙ m-is ∙ rw (centre_reads 200000000 c r (lit≤ tt) f, centre_reads 40000000000 e s (lit≤ tt) g)

  factor_same : centred (to_z w64 (of_z w64 c)) (to_z w64 (of_z w64 r)) ≡ centred c r
  factor_same = let p = centre_reads 200000000 c r (lit≤ tt) f in let q = radius_reads 200000000 c r (lit≤ tt) f in cc

  amount_same : centred (to_z w64 (of_z w64 e)) (to_z w64 (of_z w64 s)) ≡ centred e s
  amount_same = let p = centre_reads 40000000000 e s (lit≤ tt) g in let q = radius_reads 40000000000 e s (lit≤ tt) g in cc

  spread_is' : to_z w64 (of_z w64 a) ≡ exact_radius (centred c r) (centred e s)
  spread_is' = to_z-of_z w64 a a-fits ∙ a-is ∙ ap (λ (z : Centre). exact_radius z (centred (to_z w64 (of_z w64 e)) (to_z w64 (of_z w64 s)))) factor_same ∙ ap (λ (z : Centre). exact_radius (centred c r) z) amount_same

  centre_applied : to_z w64 (of_z w64 x) ≡ floor_div (c *ℤ e) 10000000
  centre_applied = to_z-of_z w64 x x_Fits ∙ x-is ∙ ap (λ z. floor_div z 10000000) product_is'

  radius_applied : to_z w64 (of_z w64 y) ≡ ceil_div (exact_radius (centred c r) (centred e s)) 10000000 +ℤ rest (c *ℤ e) 10000000
  radius_applied =
      to_z-of_z w64 y y-fits ∙ y-is ∙ ap (λ z. ceil_div z 10000000 +ℤ rest (to_z w64 (of_z w64 m)) 10000000) spread_is'
      ∙ ap (λ z. ceil_div (exact_radius (centred c r) (centred e s)) 10000000 +ℤ rest z 10000000) product_is'

  applied_around : around (to_z w64 (of_z w64 x)) (to_z w64 (of_z w64 y)) ≡ ends_of_centre (apply_c (centred c r) (centred e s))
  unfolding apply_c
  applied_around = around_eq centre_applied radius_applied

  pub apply_around : around (to_z w64 (of_z w64 x)) (to_z w64 (of_z w64 y)) ≡ ends_of_centre (apply_c (centre_of (around c r)) (centre_of (around e s)))
  apply_around =
      applied_around
      ∙ ap (λ (z : Centre). ends_of_centre (apply_c z (centred e s))) (sym (centre_back (centred c r)))
      ∙ ap (λ (z : Centre). ends_of_centre (apply_c (centre_of (around c r)) z)) (sym (centre_back (centred e s)))

-- the numbers of a mix, as `rounded_around` is passed them
pub mix_passed : (w : ℕ) (c r e s m a : ℤ) → CentreSize 200000000 c r → CentreSize 200000000 e s → SFits w64 m → SFits w64 a → Within 8000000000000000000 m → Within 8000000000000000000 a →
    a ≡ pos (1000 - w) *ℤ to_z w64 (of_z w64 r) +ℤ pos w *ℤ to_z w64 (of_z w64 s) →
    Within 8000000000000000000 (to_z w64 (of_z w64 m)) × (Within 8000000000000000000 (to_z w64 (of_z w64 a)) × (pos 0 ≤ℤ to_z w64 (of_z w64 a)))
mix_passed w c r e s m a f g fm fa hm ha a-is = (
  rw (to_z-of_z w64 m fm) hm,
  (
    rw (to_z-of_z w64 a fa) ha,
    rw (to_z-of_z w64 a fa, a-is, radius_reads 200000000 c r (lit≤ tt) f, radius_reads 200000000 e s (lit≤ tt) g) (weighted_some (1000 - w) w r s f.some g.some),
  ),
)

-- ---- a centre and a radius held to a ceiling
-- what the code asks of a centre and a radius before it holds them
pub record Holds (c r C : ℤ) : Type 0 where
  pub centre : Within 4000000000000000000 c
  pub radius : Within 4000000000000000000 r
  pub some : pos 0 ≤ℤ r
  pub ceiling : pos 0 ≤ℤ C
  pub small : C ≤ℤ pos 40000000000

pub holds : {c r C : ℤ} → Within 4000000000000000000 c × (Within 4000000000000000000 r × (pos 0 ≤ℤ r)) → (pos 0 ≤ℤ C) × (C ≤ℤ pos 40000000000) → Holds c r C
holds s t = record { centre = s.0; radius = s.1.0; some = s.1.1; ceiling = t.0; small = t.1 }

module _ (c r C : ℤ) (h : Holds c r C) where
  low_end : to_z w64 (of_z w64 (to_z w64 (of_z w64 c) -ℤ to_z w64 (of_z w64 r))) ≡ c -ℤ r
  low_end = let p = h.centre.size in let q = h.radius.size in omega (arith, ints)

  high_end : to_z w64 (of_z w64 (to_z w64 (of_z w64 c) +ℤ to_z w64 (of_z w64 r))) ≡ c +ℤ r
  high_end = let p = h.centre.size in let q = h.radius.size in omega (arith, ints)

  opposite : to_z w64 (of_z w64 (pos 0 -ℤ C)) ≡ neg_ℤ C
  opposite = let p = h.ceiling in let q = h.small in omega (arith, ints)

  pub below : (b : Bool) → lt_z (to_z w64 (of_z w64 (to_z w64 (of_z w64 c) -ℤ to_z w64 (of_z w64 r)))) (to_z w64 (of_z w64 (pos 0 -ℤ C))) ≡ b → le_z (neg_ℤ C) (c -ℤ r) ≡ not b
  below b t = let u : lt_z (c -ℤ r) (neg_ℤ C) ≡ b = (rw (low_end, opposite) at t) in grind (arith, ints)

  pub above : (b : Bool) → lt_z C (to_z w64 (of_z w64 (to_z w64 (of_z w64 c) +ℤ to_z w64 (of_z w64 r)))) ≡ b → le_z (c +ℤ r) C ≡ not b
  above b t = let u : lt_z C (c +ℤ r) ≡ b = (rw high_end at t) in grind (arith, ints)

  pub radius_taken : le_z (pos 0) r ≡ true
  radius_taken = let p = h.some in grind (arith, ints)

-- the same, as a call is asked for it: room for two numbers, then these
pub asked_around : {c r : ℤ} → Within 4000000000000000000 c × (Within 4000000000000000000 r × (pos 0 ≤ℤ r)) → (ceiling : ℕ) → ceiling ≤ 40000000000 →
    (16 < 9223372036854775808) × ((Within 4000000000000000000 c × (Within 4000000000000000000 r × (pos 0 ≤ℤ r))) × ((pos 0 ≤ℤ pos ceiling) × (pos ceiling ≤ℤ pos 40000000000)))
asked_around s ceiling h = (lit< tt, (s, (nn ceiling, omega (arith, ints))))
