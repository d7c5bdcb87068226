-- The ends form: both ends are kept, the least exact result rounded down and the greatest up.
use Rattle.std.specs.Prelude.{ℕ, ◌-◌, Bool, ℤ, pos, ◌+ℤ◌, ◌*ℤ◌, int_le}
use Rattle.algebra.specs.Interval.{Ends, floor_div, ceil_div, apply}
use Rattle.paper.specs.Numbers.{factor_scale}
use Rattle.paper.specs.Forms.{Form}

abbrev pub in_order : Ends → Bool
in_order e = int_le e.lo e.hi

abbrev pub ends_ratio : ℤ → ℕ → Ends
ends_ratio p q = record { lo = floor_div (pos factor_scale *ℤ p) q; hi = ceil_div (pos factor_scale *ℤ p) q }

abbrev pub ends_mix : ℕ → Ends → Ends → Ends
ends_mix w f g =
    record {
      lo = floor_div (pos (1000 - w) *ℤ f.lo +ℤ pos w *ℤ g.lo) 1000;
      hi = ceil_div (pos (1000 - w) *ℤ f.hi +ℤ pos w *ℤ g.hi) 1000;
    }

abbrev pub ends_form : Form
ends_form = record { slack = 2; can = in_order; ratio = ends_ratio; mix = ends_mix; apply = apply }
