-- What is known of a centre rounded down and a radius rounded up.
use Rattle.std.proofs.Common.{ℕ, ◌<◌, ◌≤◌, ℤ, pos, ◌+ℤ◌, nat_abs, ◌≤ℤ◌, arith, w64, SFits}
use borrow.Author.Differences.{ints}
use Rattle.algebra.specs.Interval.{floor_div, ceil_div}
use Rattle.algebra.specs.Centre.{rest}
use Rattle.algebra.specs.Sizes.{Within}
use Rattle.algebra.proofs.Division.{floor_thousandth, ceil_thousandth, ceil_some}
use Rattle.algebra.proofs.CentreLaws.{rest_0, rest_1}

pub thousand : (d : ℤ) → pos 1000 ≤ℤ d → 1000 ≤ nat_abs d
thousand d h = omega (arith, ints)

module _ (z x : ℤ) (n : ℕ) (h : 1000 ≤ n) (hz : nat_abs z ≤ 8000000000000000000) (hx : nat_abs x ≤ 8000000000000000000) (x≥ : pos 0 ≤ℤ x) where
  centre_small : nat_abs (floor_div z n) ≤ 8000000000000001
  centre_small = omega (arith, floor_thousandth z n h)

  radius_small : nat_abs (ceil_div x n) ≤ 8000000000000001
  radius_small = omega (arith, ceil_thousandth x n h)

  pub centre_within : Within 4000000000000000000 (floor_div z n)
  centre_within = record { size = omega (arith, centre_small) }

  sum_known : (u m : ℤ) → nat_abs u ≤ 8000000000000001 → pos 0 ≤ℤ u → pos 0 ≤ℤ m → m ≤ℤ pos 1 → (nat_abs (u +ℤ m) ≤ 4000000000000000000) × (pos 0 ≤ℤ (u +ℤ m))
  sum_known u m a b c d = (omega (arith, ints), omega (arith, ints))

  known : (nat_abs (ceil_div x n +ℤ rest z n) ≤ 4000000000000000000) × (pos 0 ≤ℤ (ceil_div x n +ℤ rest z n))
  known = let m : 0 < n = omega arith in sum_known (ceil_div x n) (rest z n) radius_small (ceil_some x n m x≥) (rest_0 z n) (rest_1 z n)

  pub radius_within : Within 4000000000000000000 (ceil_div x n +ℤ rest z n)
  radius_within = record { size = known.0 }

  pub radius_some : pos 0 ≤ℤ (ceil_div x n +ℤ rest z n)
  radius_some = known.1

  pub radius_fits : SFits w64 (ceil_div x n +ℤ rest z n)
  radius_fits = fits (ceil_div x n +ℤ rest z n) known.0
    where
      fits : (y : ℤ) → nat_abs y ≤ 4000000000000000000 → SFits w64 y
      fits y k = omega (arith, ints)
