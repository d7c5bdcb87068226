-- A number form as the laws see it: the pairs of ends it can have, and the ends of its ratios, mixes and applications.
use Rattle.std.specs.Prelude.{ℕ, ◌-◌, ◌<◌, ◌≤◌, Bool, T, ℤ, pos, ◌+ℤ◌, ◌*ℤ◌, ◌≤ℤ◌}
use Rattle.algebra.specs.Interval.{Ends, Frac, Between, width, size}
use Rattle.paper.specs.Numbers.{factor_scale, point, over, in_ten_millionths, mixed, applied}
use Rattle.paper.specs.Sums.{sum_of_ends, multiple_of_ends}

pub record Form : Type 0 where
  pub slack : ℕ
  -- whether the form can have these ends
  pub can : Ends → Bool
  -- p / q, ((1000 - w) f + w g) / 1000 and f a / 10^7
  pub ratio : ℤ → ℕ → Ends
  pub mix : ℕ → Ends → Ends → Ends
  pub apply : Ends → Ends → Ends

-- The laws of a form. That its ends never cross follows: they enclose something.
pub record Lawful (F : Form) : Type 0 where
  -- the summing part: whole numbers, sums and multiples
  pub can_point : (n : ℤ) → T (F.can (point n))
  pub can_sum : (a b : Ends) → T (F.can a) → T (F.can b) → T (F.can (sum_of_ends a b))
  pub can_multiple : (c : ℤ) (a : Ends) → T (F.can a) → T (F.can (multiple_of_ends c a))
  pub can_ratio : (p : ℤ) (q : ℕ) → 0 < q → T (F.can (F.ratio p q))
  pub can_mix : (w : ℕ) (f g : Ends) → w ≤ 1000 → T (F.can f) → T (F.can g) → T (F.can (F.mix w f g))
  pub can_apply : (f a : Ends) → T (F.can f) → T (F.can a) → T (F.can (F.apply f a))
  -- every exact result of points between the operands' ends lies between the result's ends
  pub ratio_encloses : (p : ℤ) (q : ℕ) (some : 0 < q) → Between (F.ratio p q) (in_ten_millionths (over p q some))
  pub mix_encloses : (w : ℕ) (f g : Ends) (x y : Frac) → w ≤ 1000 → T (F.can f) → T (F.can g) →
      Between f x → Between g y → Between (F.mix w f g) (mixed w x y)
  pub apply_encloses : (f a : Ends) (x y : Frac) → T (F.can f) → T (F.can a) →
      Between f x → Between a y → Between (F.apply f a) (applied x y)
  -- the widths: at most the slack; the weighted mean and the slack; (|f| width a + |a| width f) / 10^7 and the slack
  pub ratio_narrow : (p : ℤ) (q : ℕ) → 0 < q → width (F.ratio p q) ≤ℤ pos F.slack
  pub mix_narrow : (w : ℕ) (f g : Ends) → w ≤ 1000 → T (F.can f) → T (F.can g) →
      (pos 1000 *ℤ width (F.mix w f g)) ≤ℤ (pos (1000 - w) *ℤ width f +ℤ pos w *ℤ width g +ℤ pos 1000 *ℤ pos F.slack)
  pub apply_narrow : (f a : Ends) → T (F.can f) → T (F.can a) →
      (pos factor_scale *ℤ width (F.apply f a)) ≤ℤ (pos (size f) *ℤ width a +ℤ pos (size a) *ℤ width f +ℤ pos factor_scale *ℤ pos F.slack)
