-- Fractions, pairs of ends, the ceilings, and when an interval covers a fraction.
use Rattle.std.specs.Prelude.{◌≡◌, ℕ, ◌+◌, ◌-◌, ◌*◌, ◌<◌, Bool, ◌&&◌, ℤ, pos, negsuc, ◌+ℤ◌, ◌*ℤ◌, ◌≤ℤ◌, int_le, unsigned_abs}
use Rattle.std.proofs.Common.{mul-pos, lit<}
use Rattle.algebra.specs.Interval.{Ends, Frac, Between, width}

-- ---- ceilings: amounts in hundredths of the book's unit, factors in ten-millionths
abbrev pub amount_ceiling : ℕ
amount_ceiling = 40_000_000_000

abbrev pub factor_ceiling : ℕ
factor_ceiling = 200_000_000

-- no end lies outside the bounds
abbrev pub between_bounds : ℤ → ℤ → Ends → Bool
between_bounds low high e = int_le low e.lo && int_le e.hi high

-- no end passes the amount ceiling
abbrev pub inside : Ends → Bool
inside e = between_bounds (negsuc 39999999999) (pos 40000000000) e

-- no end passes the factor ceiling
abbrev pub factor_inside : Ends → Bool
factor_inside e = between_bounds (negsuc 199999999) (pos 200000000) e

-- ends in order, and within the bounds
pub record OrderedWithin (least most : ℤ) (e : Ends) : Type 0 where
  pub low : least ≤ℤ e.lo
  pub order : e.lo ≤ℤ e.hi
  pub high : e.hi ≤ℤ most

-- the ends of an amount: in order, and within the ceiling
abbrev pub Amount : Ends → Type 0
Amount e = OrderedWithin (negsuc 39999999999) (pos 40000000000) e

-- the ends of a factor, likewise
abbrev pub Factor : Ends → Type 0
Factor e = OrderedWithin (negsuc 199999999) (pos 200000000) e

abbrev pub both : ℤ → ℤ → Ends
both l h = record { lo = l; hi = h }

abbrev pub point : ℤ → Ends
point n = both n n

-- ---- fractions
-- ten-millionths in one
abbrev pub factor_scale : ℕ
factor_scale = 10_000_000

abbrev pub over : ℤ → (d : ℕ) → 0 < d → Frac
over n d some = record { num = n; den = d; some = some }

-- the same fraction, compared crosswise
abbrev pub Same : Frac → Frac → Type 0
Same x y = x.num *ℤ pos y.den ≡ y.num *ℤ pos x.den

abbrev pub whole : ℤ → Frac
whole n = over n 1 (lit< tt)

-- ((1000 - w) x + w y) / 1000
abbrev pub mixed : ℕ → Frac → Frac → Frac
mixed w x y =
    record {
      num = pos (1000 - w) *ℤ x.num *ℤ pos y.den +ℤ pos w *ℤ y.num *ℤ pos x.den;
      den = x.den * y.den * 1000;
      some = mul-pos (mul-pos x.some y.some) (lit< tt);
    }

-- a factor in ten-millionths times an amount: x y / 10^7
abbrev pub applied : Frac → Frac → Frac
applied x y =
    record { num = x.num *ℤ y.num; den = x.den * y.den * factor_scale; some = mul-pos (mul-pos x.some y.some) (lit< tt) }

-- a fraction counted in ten-millionths
abbrev pub in_ten_millionths : Frac → Frac
in_ten_millionths x = record { num = pos factor_scale *ℤ x.num; den = x.den; some = x.some }

-- ---- intervals beside fractions
-- an interval covers a fraction within an allowance: the fraction lies between the ends, and they are no further apart
pub record Covers (x : Frac) (allowance : ℕ) (e : Ends) : Type 0 where
  pub encloses : Between e x
  pub narrow : width e ≤ℤ pos allowance

-- the size of the fraction with its allowance passes the ceiling, compared crosswise
abbrev pub Passes : Frac → ℕ → ℕ → Type 0
Passes x allowance ceiling = ceiling * x.den < unsigned_abs x.num + allowance * x.den
