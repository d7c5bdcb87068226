-- The centre form is a form, of slack 4.
use Rattle.std.proofs.Common.{◌≡◌, ℕ, suc, ◌-◌, ◌<◌, Bool, true, false, cond, T, [], ◌∷◌, ℤ, pos, negsuc, ◌+ℤ◌, ◌-ℤ◌, ◌*ℤ◌, neg_ℤ, nat_abs, ◌≤ℤ◌, ◌<ℤ◌, sym, refl, ap, ◌∙◌, subst, ap₂, arith, lit<}
use native.Mathlib.Nat as N
use borrow.Author.Differences.{ints}
use lib.Signed.{le_z, le_z_yes}
use Rattle.algebra.proofs.Ints.{nn, 0≤*, ≤ℤ_trans}
use Rattle.algebra.proofs.Quote.{quotes, ring!, cert, 0≤gap, 0≤+}
use Rattle.algebra.proofs.Division.{floor_le, floor_lt, ceil_ge, ceil_lt}
use Rattle.algebra.proofs.CentreLaws.{encloses_c, narrow_c, rest_ok, rest_0, rest_1, round_up, round_down}
use Rattle.algebra.specs.Interval.{Ends, Frac, Between, width, size, floor_div, ceil_div, scale}
use Rattle.algebra.specs.Centre.{Centre, ends_of_centre, rest, exact_radius, apply_c}
use Rattle.paper.specs.Numbers.{factor_scale, over, in_ten_millionths, mixed, applied, point}
use Rattle.paper.specs.Sums.{sum_of_ends, multiple_of_ends}
use Rattle.paper.specs.Forms.{Lawful}
use Rattle.paper.specs.CentreForm.{centre_form, centre_of, centred, centre_ratio, centre_mix, mixed_mid, mixed_rad}
use Rattle.paper.proofs.Covering.{shorter}
use Rattle.paper.proofs.EndsForm.{unrounded}

-- ---- ends that have a centre
half : (z r : ℤ) → z ≡ pos 2 *ℤ r → floor_div z 2 ≡ r
half z r e = at (floor_div z 2) (floor_le z 2 (lit< tt)) (floor_lt z 2 (lit< tt))
  where
    at : (q : ℤ) → (pos 2 *ℤ q) ≤ℤ z → z <ℤ (pos 2 *ℤ q +ℤ pos 2) → q ≡ r
    at q h k = omega (arith, ints)

-- the width of e is twice r
pub record Even (e : Ends) (r : ℤ) : Type 0 where
  pub some : pos 0 ≤ℤ r
  pub twice : width e ≡ pos 2 *ℤ r

both_in : (t u : Bool) → T t → T u → T (cond t u false)
both_in true u h k = k
both_in false u h k = h

both_out : (t u : Bool) → T (cond t u false) → T t × T u
both_out true u h = (tt, h)
both_out false u h = absurd h

even_in : {e : Ends} {r : ℤ} → Even e r → T (centred e)
even_in {e} {r} v =
    both_in (le_z e.lo e.hi) (le_z (width e) (pos 2 *ℤ floor_div (width e) 2))
    (up e.lo e.hi v.twice v.some).le
    (flat (width e) (floor_div (width e) 2) (half (width e) r v.twice) v.twice).le
  where
    flat : (z q : ℤ) → q ≡ r → z ≡ pos 2 *ℤ r → z ≤ℤ (pos 2 *ℤ q)
    flat z q e f = omega (arith, ints)

    up : (l h : ℤ) → h -ℤ l ≡ pos 2 *ℤ r → pos 0 ≤ℤ r → l ≤ℤ h
    up l h e k = omega (arith, ints)

even_out : (e : Ends) → T (centred e) → Even e (floor_div (width e) 2)
even_out e t = at (floor_div (width e) 2) (floor_le (width e) 2 (lit< tt)) (le_z_yes (both_out (le_z e.lo e.hi) (le_z (width e) (pos 2 *ℤ floor_div (width e) 2)) t).1) (le_z_yes (both_out (le_z e.lo e.hi) (le_z (width e) (pos 2 *ℤ floor_div (width e) 2)) t).0)
  where
    at : (q : ℤ) → (pos 2 *ℤ q) ≤ℤ width e → width e ≤ℤ (pos 2 *ℤ q) → e.lo ≤ℤ e.hi → Even e q
    at q h k o = record { some = omega (arith, ints); twice = omega (arith, ints) }

even_centre : (c : Centre) → pos 0 ≤ℤ c.rad → Even (ends_of_centre c) c.rad
even_centre c h = record { some = h; twice = omega (arith, ints) }

can_centre : (c : Centre) → pos 0 ≤ℤ c.rad → T (centred (ends_of_centre c))
can_centre c h = even_in (even_centre c h)

ends-≡ : {l h l' h' : ℤ} → l ≡ l' → h ≡ h' → ◌≡◌ {A = Ends} (record { lo = l; hi = h }) (record { lo = l'; hi = h' })
ends-≡ p q = ap₂ (λ (a b : ℤ). let r : Ends = record { lo = a; hi = b } in r) p q

back : (e : Ends) → T (centred e) → ends_of_centre (centre_of e) ≡ e
back e t = ends-≡ (low e.lo e.hi (floor_div (width e) 2) (even_out e t).twice) (high e.lo e.hi (floor_div (width e) 2) (even_out e t).twice)
  where
    low : (l h r : ℤ) → h -ℤ l ≡ pos 2 *ℤ r → floor_div (l +ℤ h) 2 -ℤ r ≡ l
    low l h r e = rw (half (l +ℤ h) (l +ℤ r) (twice l h r e)) (less l r)
      where
        twice : (l h r : ℤ) → h -ℤ l ≡ pos 2 *ℤ r → l +ℤ h ≡ pos 2 *ℤ (l +ℤ r)
        twice l h r e = omega (arith, ints)

        less : (l r : ℤ) → (l +ℤ r) -ℤ r ≡ l
        less l r = omega (arith, ints)

    high : (l h r : ℤ) → h -ℤ l ≡ pos 2 *ℤ r → floor_div (l +ℤ h) 2 +ℤ r ≡ h
    high l h r e = rw (half (l +ℤ h) (l +ℤ r) (twice l h r e)) (more l h r e)
      where
        twice : (l h r : ℤ) → h -ℤ l ≡ pos 2 *ℤ r → l +ℤ h ≡ pos 2 *ℤ (l +ℤ r)
        twice l h r e = omega (arith, ints)

        more : (l h r : ℤ) → h -ℤ l ≡ pos 2 *ℤ r → (l +ℤ r) +ℤ r ≡ h
        more l h r e = omega (arith, ints)

-- a centre is known from its ends
pub centre_back : (c : Centre) → centre_of (ends_of_centre c) ≡ c
centre_back c =
    ap₂ (λ (m r : ℤ). let x : Centre = record { mid = m; rad = r } in x)
    (half ((c.mid -ℤ c.rad) +ℤ (c.mid +ℤ c.rad)) c.mid (twice_mid c.mid c.rad))
    (half ((c.mid +ℤ c.rad) -ℤ (c.mid -ℤ c.rad)) c.rad (twice_rad c.mid c.rad))
  where
    twice_mid : (m r : ℤ) → (m -ℤ r) +ℤ (m +ℤ r) ≡ pos 2 *ℤ m
    twice_mid m r = omega (arith, ints)

    twice_rad : (m r : ℤ) → (m +ℤ r) -ℤ (m -ℤ r) ≡ pos 2 *ℤ r
    twice_rad m r = omega (arith, ints)

-- ---- sums and multiples
even_sum : (a b : Ends) (r s : ℤ) → Even a r → Even b s → Even (sum_of_ends a b) (r +ℤ s)
even_sum a b r s v w = record { some = omega (arith, ints); twice = omega (arith, ints) }

spread_up : (c l h r : ℤ) → h -ℤ l ≡ pos 2 *ℤ r → c *ℤ h -ℤ c *ℤ l ≡ pos 2 *ℤ (c *ℤ r)
spread_up c l h r e =
    ring! (c ∷ l ∷ h ∷ []) {z = c *ℤ (h -ℤ l)} (search quotes depth 20) (search quotes depth 20) tt ∙ ap (λ z. c *ℤ z) e
    ∙ ring! (c ∷ r ∷ []) (search quotes depth 20) (search quotes depth 20) tt

even_multiple : (c : ℤ) (a : Ends) (r : ℤ) → Even a r → Even (multiple_of_ends c a) (pos (nat_abs c) *ℤ r)
even_multiple (pos n) a r v = record { some = 0≤* (nn n) v.some; twice = spread_up (pos n) a.lo a.hi r v.twice }
even_multiple (negsuc n) a r v =
    record { some = 0≤* (nn (suc n)) v.some; twice = turned (pos (suc n)) a.lo a.hi ∙ spread_up (pos (suc n)) a.lo a.hi r v.twice }
  where
    turned : (c l h : ℤ) → neg_ℤ c *ℤ l -ℤ neg_ℤ c *ℤ h ≡ c *ℤ h -ℤ c *ℤ l
    turned c l h = ring! (c ∷ l ∷ h ∷ []) (search quotes depth 20) (search quotes depth 20) tt

-- ---- ratios
module _ (q z m t : ℤ) (q≥ : pos 0 ≤ℤ q) (t≥ : pos 0 ≤ℤ t) where
  ratio_low : (q *ℤ m) ≤ℤ z → (q *ℤ (m -ℤ t)) ≤ℤ z
  ratio_low h = cert (q ∷ z ∷ m ∷ t ∷ []) (0≤+ (0≤gap h) (0≤* q≥ t≥)) (search quotes depth 20) (search quotes depth 20) (search quotes depth 20) tt

module _ (p : ℤ) (q : ℕ) (some : 0 < q) where
  ratio_between : Between (ends_of_centre (centre_ratio p q)) (in_ten_millionths (over p q some))
  ratio_between =
      record {
        above = ratio_low (pos q) (pos factor_scale *ℤ p) (floor_div (pos factor_scale *ℤ p) q) (rest (pos factor_scale *ℤ p) q) (nn q) (rest_0 (pos factor_scale *ℤ p) q) (floor_le (pos factor_scale *ℤ p) q some);
        below = rest_ok (pos factor_scale *ℤ p) q some;
      }

  ratio_4 : width (ends_of_centre (centre_ratio p q)) ≤ℤ pos 4
  ratio_4 = four (floor_div (pos factor_scale *ℤ p) q) (rest (pos factor_scale *ℤ p) q) (rest_1 (pos factor_scale *ℤ p) q)
    where
      four : (m t : ℤ) → t ≤ℤ pos 1 → ((m +ℤ t) -ℤ (m -ℤ t)) ≤ℤ pos 4
      four m t h = omega (arith, ints)

-- ---- mixes of c ± r and c' ± r', exactly
module _ (v w n d c r n' d' c' r' : ℤ) (v≥ : pos 0 ≤ℤ v) (w≥ : pos 0 ≤ℤ w) (d≥ : pos 0 ≤ℤ d) (d'≥ : pos 0 ≤ℤ d') where
  mix_low : (d *ℤ (c -ℤ r)) ≤ℤ n → (d' *ℤ (c' -ℤ r')) ≤ℤ n' →
      (d *ℤ d' *ℤ ((v *ℤ c +ℤ w *ℤ c') -ℤ (v *ℤ r +ℤ w *ℤ r'))) ≤ℤ (v *ℤ n *ℤ d' +ℤ w *ℤ n' *ℤ d)
  mix_low f h =
      cert (v ∷ w ∷ n ∷ d ∷ c ∷ r ∷ n' ∷ d' ∷ c' ∷ r' ∷ []) (0≤+ (0≤* (0≤* v≥ d'≥) (0≤gap f)) (0≤* (0≤* w≥ d≥) (0≤gap h)))
      (search quotes depth 20 fits 4000) (search quotes depth 20 fits 4000) (search quotes depth 20 fits 4000) tt

  mix_high : n ≤ℤ (d *ℤ (c +ℤ r)) → n' ≤ℤ (d' *ℤ (c' +ℤ r')) →
      (v *ℤ n *ℤ d' +ℤ w *ℤ n' *ℤ d) ≤ℤ (d *ℤ d' *ℤ ((v *ℤ c +ℤ w *ℤ c') +ℤ (v *ℤ r +ℤ w *ℤ r')))
  mix_high f h =
      cert (v ∷ w ∷ n ∷ d ∷ c ∷ r ∷ n' ∷ d' ∷ c' ∷ r' ∷ []) (0≤+ (0≤* (0≤* v≥ d'≥) (0≤gap f)) (0≤* (0≤* w≥ d≥) (0≤gap h)))
      (search quotes depth 20 fits 4000) (search quotes depth 20 fits 4000) (search quotes depth 20 fits 4000) tt

mix_between : (w : ℕ) (f g : Centre) (x y : Frac) → Between (ends_of_centre f) x → Between (ends_of_centre g) y → Between (ends_of_centre (centre_mix w f g)) (mixed w x y)
mix_between w f g x y b c =
    record {
      above = ≤ℤ_trans (round_down x.den y.den 1000 (lit< tt) (mixed_mid w f g) (mixed_rad w f g))
          (mix_low (pos (1000 - w)) (pos w) x.num (pos x.den) f.mid f.rad y.num (pos y.den) g.mid g.rad (nn (1000 - w)) (nn w) (nn x.den) (nn y.den) b.above c.above);
      below = ≤ℤ_trans
          (mix_high (pos (1000 - w)) (pos w) x.num (pos x.den) f.mid f.rad y.num (pos y.den) g.mid g.rad (nn (1000 - w)) (nn w) (nn x.den) (nn y.den) b.below c.below)
          (round_up x.den y.den 1000 (lit< tt) (mixed_mid w f g) (mixed_rad w f g));
    }

weak : {a b : ℤ} → a <ℤ b → a ≤ℤ b
weak {a} {b} h = omega (arith, ints)

-- the width of m ± (g + t), of the widths of c ± r and c' ± r'
module _ (v w c r c' r' m g t s : ℤ) (s≥ : pos 0 ≤ℤ s) (t≤ : t ≤ℤ pos 1) (g≤ : (s *ℤ g) ≤ℤ ((v *ℤ r +ℤ w *ℤ r') +ℤ s)) where
  mix_wide : (s *ℤ ((m +ℤ (g +ℤ t)) -ℤ (m -ℤ (g +ℤ t)))) ≤ℤ (v *ℤ ((c +ℤ r) -ℤ (c -ℤ r)) +ℤ w *ℤ ((c' +ℤ r') -ℤ (c' -ℤ r')) +ℤ s *ℤ pos 4)
  mix_wide =
      cert (v ∷ w ∷ c ∷ r ∷ c' ∷ r' ∷ m ∷ g ∷ t ∷ s ∷ []) (0≤* (nn 2) (0≤+ (0≤gap g≤) (0≤* s≥ (0≤gap t≤))))
      (search quotes depth 20 fits 4000) (search quotes depth 20 fits 4000) (search quotes depth 20 fits 4000) tt

mix_4 : (w : ℕ) (f g : Centre) → (pos 1000 *ℤ width (ends_of_centre (centre_mix w f g))) ≤ℤ (pos (1000 - w) *ℤ width (ends_of_centre f) +ℤ pos w *ℤ width (ends_of_centre g) +ℤ pos 1000 *ℤ pos 4)
mix_4 w f g =
    mix_wide (pos (1000 - w)) (pos w) f.mid f.rad g.mid g.rad (floor_div (mixed_mid w f g) 1000) (ceil_div (mixed_rad w f g) 1000) (rest (mixed_mid w f g) 1000) (pos 1000)
    (nn 1000) (rest_1 (mixed_mid w f g) 1000) (weak (ceil_lt (mixed_rad w f g) 1000 (lit< tt)))

-- a radius rounded up stays at least 0
ceil_0 : (z : ℤ) (s : ℕ) → 0 < s → pos 0 ≤ℤ z → pos 0 ≤ℤ ceil_div z s
ceil_0 z s h k =
    shorter s h (subst (λ (n : ℤ). n ≤ℤ (pos s *ℤ ceil_div z s)) (sym (ap pos (N.mul-zero s))) (≤ℤ_trans k (ceil_ge z s h)))

mix_0 : (w : ℕ) (f g : Centre) → pos 0 ≤ℤ f.rad → pos 0 ≤ℤ g.rad → pos 0 ≤ℤ (centre_mix w f g).rad
mix_0 w f g h k = 0≤+ (ceil_0 (mixed_rad w f g) 1000 (lit< tt) (0≤+ (0≤* (nn (1000 - w)) h) (0≤* (nn w) k))) (rest_0 (mixed_mid w f g) 1000)

apply_0 : (f a : Centre) → pos 0 ≤ℤ f.rad → pos 0 ≤ℤ a.rad → pos 0 ≤ℤ (apply_c f a).rad
unfolding apply_c
apply_0 f a h k =
    0≤+ (ceil_0 (exact_radius f a) scale (lit< tt) (0≤+ (0≤+ (0≤* (nn (nat_abs f.mid)) k) (0≤* (nn (nat_abs a.mid)) h)) (0≤* h k)))
    (rest_0 (f.mid *ℤ a.mid) scale)

-- ---- of ends that have a centre
rad_0 : (e : Ends) → T (centred e) → pos 0 ≤ℤ (centre_of e).rad
rad_0 e t = (even_out e t).some

there : (e : Ends) {x : Frac} → T (centred e) → Between e x → Between (ends_of_centre (centre_of e)) x
there e {x} t b = subst (λ (d : Ends). Between d x) (sym (back e t)) b

mix_at : (w : ℕ) (f g : Centre) {e d : Ends} → ends_of_centre f ≡ e → ends_of_centre g ≡ d →
    (pos 1000 *ℤ width (ends_of_centre (centre_mix w f g))) ≤ℤ (pos (1000 - w) *ℤ width e +ℤ pos w *ℤ width d +ℤ pos 1000 *ℤ pos 4)
mix_at w f g {e} {d} p q =
    subst (λ (z : Ends). (pos 1000 *ℤ width (ends_of_centre (centre_mix w f g))) ≤ℤ (pos (1000 - w) *ℤ width e +ℤ pos w *ℤ width z +ℤ pos 1000 *ℤ pos 4)) q
    (subst (λ (z : Ends). (pos 1000 *ℤ width (ends_of_centre (centre_mix w f g))) ≤ℤ (pos (1000 - w) *ℤ width z +ℤ pos w *ℤ width (ends_of_centre g) +ℤ pos 1000 *ℤ pos 4)) p (mix_4 w f g))

apply_at : (f a : Centre) {e d : Ends} → ends_of_centre f ≡ e → ends_of_centre a ≡ d → pos 0 ≤ℤ f.rad → pos 0 ≤ℤ a.rad →
    (pos factor_scale *ℤ width (ends_of_centre (apply_c f a))) ≤ℤ (pos (size e) *ℤ width d +ℤ pos (size d) *ℤ width e +ℤ pos factor_scale *ℤ pos 4)
apply_at f a {e} {d} p q h k =
    subst (λ (z : Ends). (pos factor_scale *ℤ width (ends_of_centre (apply_c f a))) ≤ℤ (pos (size e) *ℤ width z +ℤ pos (size z) *ℤ width e +ℤ pos factor_scale *ℤ pos 4)) q
    (subst (λ (z : Ends). (pos factor_scale *ℤ width (ends_of_centre (apply_c f a))) ≤ℤ (pos (size z) *ℤ width (ends_of_centre a) +ℤ pos (size (ends_of_centre a)) *ℤ width z +ℤ pos factor_scale *ℤ pos 4)) p
    (unrounded factor_scale 4 (lit< tt) (width (ends_of_centre (apply_c f a))) (pos (size (ends_of_centre f)) *ℤ width (ends_of_centre a) +ℤ pos (size (ends_of_centre a)) *ℤ width (ends_of_centre f)) (narrow_c f a h k)))

pub centre_lawful : Lawful centre_form
centre_lawful =
    record {
      can_point = λ n. even_in (even_point n);
      can_sum = λ a b h k. even_in (even_sum a b _ _ (even_out a h) (even_out b k));
      can_multiple = λ c a h. even_in (even_multiple c a _ (even_out a h));
      can_ratio = λ p q some. can_centre (centre_ratio p q) (rest_0 (pos factor_scale *ℤ p) q);
      can_mix = λ w f g _ h k. can_centre (centre_mix w (centre_of f) (centre_of g)) (mix_0 w (centre_of f) (centre_of g) (rad_0 f h) (rad_0 g k));
      can_apply = λ f a h k. can_centre (apply_c (centre_of f) (centre_of a)) (apply_0 (centre_of f) (centre_of a) (rad_0 f h) (rad_0 a k));
      ratio_encloses = ratio_between;
      mix_encloses = λ w f g x y _ h k b c. mix_between w (centre_of f) (centre_of g) x y (there f h b) (there g k c);
      apply_encloses = λ f a x y h k b c. encloses_c (centre_of f) (centre_of a) x y (rad_0 f h) (rad_0 a k) (there f h b) (there a k c) (applied x y) refl refl;
      ratio_narrow = ratio_4;
      mix_narrow = λ w f g _ h k. mix_at w (centre_of f) (centre_of g) (back f h) (back g k);
      apply_narrow = λ f a h k. apply_at (centre_of f) (centre_of a) (back f h) (back a k) (rad_0 f h) (rad_0 a k);
    }
  where
    even_point : (n : ℤ) → Even (point n) (pos 0)
    even_point n = record { some = nn 0; twice = omega (arith, ints) }
