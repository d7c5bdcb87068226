-- What the stored numbers of a form mean. Numbers that are out of order or past the ceiling count as zero.
use Rattle.std.specs.Prelude.{ℕ, cond, ◌&&◌, ℤ, pos, neg_ℤ, int_le}
use Rattle.algebra.specs.Interval.{Ends}
use Rattle.paper.specs.Numbers.{both, point, inside, between_bounds}
use Rattle.forms.specs.declared.two_ends.EndPair.{EndPair}

-- a whole number as two equal ends
abbrev pub whole_ends : ℤ → Ends
whole_ends x = cond (inside (point x)) (point x) (point (pos 0))

-- the ends of a pair, by the ceiling of its kind
abbrev pub pair_within : {n : ℕ} → ℤ → EndPair n → Ends
pair_within ceiling e =
    cond (int_le e.low e.high && between_bounds (neg_ℤ ceiling) ceiling (both e.low e.high)) (both e.low e.high) (point (pos 0))

abbrev pub two_ends : EndPair 40000000000 → Ends
two_ends e = pair_within (pos 40000000000) e

abbrev pub factor_ends : EndPair 200000000 → Ends
factor_ends f = pair_within (pos 200000000) f
