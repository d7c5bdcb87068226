-- Numbers within a size of either sign.
use Rattle.std.specs.Prelude.{ℕ, ◌≤◌, ℤ, pos, ◌+ℤ◌, ◌-ℤ◌, neg_ℤ, ◌≤ℤ◌, unsigned_abs}

pub record Within (most : ℕ) (z : ℤ) : Type 0 where
  pub size : unsigned_abs z ≤ most

-- a factor, an amount and a product of the two; ends, centres and radii alike
abbrev pub FactorSize : ℤ → Type 0
FactorSize z = Within 200000000 z

abbrev pub AmountSize : ℤ → Type 0
AmountSize z = Within 40000000000 z

abbrev pub ProductSize : ℤ → Type 0
ProductSize z = Within 8000000000000000000 z

-- a centre and a radius whose ends are within a size
pub record CentreSize (most : ℕ) (centre radius : ℤ) : Type 0 where
  pub some : pos 0 ≤ℤ radius
  pub low : neg_ℤ (pos most) ≤ℤ (centre -ℤ radius)
  pub high : (centre +ℤ radius) ≤ℤ pos most
