-- The ends form is a form, of slack 2.
use Rattle.std.proofs.Common.{ℕ, suc, ◌-◌, ◌<◌, [], ◌∷◌, ℤ, pos, negsuc, ◌+ℤ◌, ◌-ℤ◌, ◌*ℤ◌, neg_ℤ, ◌≤ℤ◌, refl, ap, subst, arith, lit<}
use native.Mathlib.Nat as N
use borrow.Author.Differences.{ints}
use lib.Signed.{≤ℤ_refl, le_z_yes}
use Rattle.algebra.proofs.Ints.{nn, 0≤*}
use Rattle.algebra.proofs.Quote.{quotes, cert, 0≤gap, 0≤+}
use Rattle.algebra.proofs.Division.{floor_le, ceil_ge}
use Rattle.algebra.proofs.Enclosure.{encloses}
use Rattle.algebra.proofs.Narrowness.{narrow, rounding}
use Rattle.algebra.proofs.MixRatio.{mix_above, mix_below, mix_narrow}
use Rattle.algebra.specs.Interval.{Ends, Frac, Between, width, size, floor_div, apply}
use Rattle.paper.specs.Numbers.{factor_scale, over, whole, in_ten_millionths, mixed, applied}
use Rattle.paper.specs.Sums.{multiple_of_ends}
use Rattle.paper.specs.Forms.{Lawful}
use Rattle.paper.specs.EndsForm.{ends_form, ends_ratio, ends_mix}
use Rattle.paper.proofs.Covering.{ordered}

-- a rounded bound, multiplied out
multiplied : (m L w z q : ℤ) → pos 0 ≤ℤ m → w ≤ℤ (q +ℤ L) → (m *ℤ q) ≤ℤ z → (m *ℤ w) ≤ℤ (z +ℤ m *ℤ L)
multiplied m L w z q m≥ h k = cert (m ∷ L ∷ w ∷ z ∷ q ∷ []) (0≤+ (0≤* m≥ (0≤gap h)) (0≤gap k)) (search quotes depth 20) (search quotes depth 20) (search quotes depth 20) tt

pub unrounded : (m L : ℕ) → 0 < m → (w z : ℤ) → w ≤ℤ (floor_div z m +ℤ pos L) → (pos m *ℤ w) ≤ℤ (z +ℤ pos m *ℤ pos L)
unrounded m L h w z k = multiplied (pos m) (pos L) w z (floor_div z m) (nn m) k (floor_le z m h)

lower_end : (e : Ends) → e.lo ≤ℤ e.hi → Between e (whole e.lo)
lower_end e h = record { above = omega (arith, ints); below = omega (arith, ints) }

sums_in_order : (a b : Ends) → a.lo ≤ℤ a.hi → b.lo ≤ℤ b.hi → (a.lo +ℤ b.lo) ≤ℤ (a.hi +ℤ b.hi)
sums_in_order a b h k = omega (arith, ints)

multiples_in_order : (c : ℤ) (a : Ends) → a.lo ≤ℤ a.hi → (multiple_of_ends c a).lo ≤ℤ (multiple_of_ends c a).hi
multiples_in_order (pos n) a h = cert (pos n ∷ a.lo ∷ a.hi ∷ []) (0≤* (nn n) (0≤gap h)) (search quotes depth 20) (search quotes depth 20) (search quotes depth 20) tt
multiples_in_order (negsuc n) a h = down (pos (suc n)) (nn (suc n)) a.lo a.hi h
  where
    down : (c : ℤ) → pos 0 ≤ℤ c → (l h : ℤ) → l ≤ℤ h → (neg_ℤ c *ℤ h) ≤ℤ (neg_ℤ c *ℤ l)
    down c p l h k = cert (c ∷ l ∷ h ∷ []) (0≤* p (0≤gap k)) (search quotes depth 20) (search quotes depth 20) (search quotes depth 20) tt

module _ (p : ℤ) (q : ℕ) (some : 0 < q) where
  ratio_between : Between (ends_ratio p q) (in_ten_millionths (over p q some))
  ratio_between = record { above = floor_le (pos factor_scale *ℤ p) q some; below = ceil_ge (pos factor_scale *ℤ p) q some }

  ratio_2 : width (ends_ratio p q) ≤ℤ pos 2
  ratio_2 = subst (λ (z : ℤ). width (ends_ratio p q) ≤ℤ (z +ℤ pos 2)) (ap pos (N.zero-div q)) (rounding q some (pos factor_scale *ℤ p) (pos factor_scale *ℤ p) (pos 0) (self (pos factor_scale *ℤ p)))
    where
      self : (z : ℤ) → (z -ℤ pos 0) ≤ℤ z
      self z = omega (arith, ints)

mix_between : (w : ℕ) (f g : Ends) (x y : Frac) → Between f x → Between g y → Between (ends_mix w f g) (mixed w x y)
mix_between w f g x y b c =
    record {
      above = mix_above (1000 - w) w x.num (pos x.den) f.lo (nn x.den) b.above y.num (pos y.den) g.lo (nn y.den) c.above;
      below = mix_below (1000 - w) w x.num (pos x.den) f.hi (nn x.den) b.below y.num (pos y.den) g.hi (nn y.den) c.below;
    }

apply_between : (f a : Ends) (x y : Frac) → Between f x → Between a y → Between (apply f a) (applied x y)
apply_between f a x y b c = encloses f a x y b c (applied x y) refl refl

pub ends_lawful : Lawful ends_form
ends_lawful =
    record {
      can_point = λ n. (≤ℤ_refl n).le;
      can_sum = λ a b h k. (sums_in_order a b (le_z_yes h) (le_z_yes k)).le;
      can_multiple = λ c a h. (multiples_in_order c a (le_z_yes h)).le;
      can_ratio = λ p q some. (ordered (ratio_between p q some)).le;
      ratio_encloses = ratio_between;
      ratio_narrow = ratio_2;
      can_mix = λ w f g _ h k. (ordered (mix_between w f g (whole f.lo) (whole g.lo) (lower_end f (le_z_yes h)) (lower_end g (le_z_yes k)))).le;
      mix_encloses = λ w f g x y _ _ _ b c. mix_between w f g x y b c;
      mix_narrow = λ w f g _ _ _. unrounded 1000 2 (lit< tt) (width (ends_mix w f g)) (pos (1000 - w) *ℤ width f +ℤ pos w *ℤ width g) (mix_narrow (1000 - w) w f.lo f.hi g.lo g.hi);
      can_apply = λ f a h k. (ordered (apply_between f a (whole f.lo) (whole a.lo) (lower_end f (le_z_yes h)) (lower_end a (le_z_yes k)))).le;
      apply_encloses = λ f a x y _ _ b c. apply_between f a x y b c;
      apply_narrow = λ f a h k. unrounded factor_scale 2 (lit< tt) (width (apply f a)) (pos (size f) *ℤ width a +ℤ pos (size a) *ℤ width f) (narrow f a (le_z_yes h) (le_z_yes k));
    }
