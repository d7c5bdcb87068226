-- The centre form: a centre and a radius; the centre is rounded down, the exact radius up, and 1 is added to the radius
-- if the centre was not exact.
use Rattle.std.specs.Prelude.{ℕ, ◌-◌, Bool, false, cond, ℤ, pos, ◌+ℤ◌, ◌*ℤ◌, int_le}
use Rattle.algebra.specs.Interval.{Ends, floor_div, ceil_div, width}
use Rattle.algebra.specs.Centre.{Centre, ends_of_centre, rest, apply_c}
use Rattle.paper.specs.Numbers.{factor_scale}
use Rattle.paper.specs.Forms.{Form}

abbrev pub centre_of : Ends → Centre
centre_of e = record { mid = floor_div (e.lo +ℤ e.hi) 2; rad = floor_div (width e) 2 }

-- ends in order, and an even number apart
abbrev pub centred : Ends → Bool
centred e = cond (int_le e.lo e.hi) (int_le (width e) (pos 2 *ℤ floor_div (width e) 2)) false

abbrev pub centre_ratio : ℤ → ℕ → Centre
centre_ratio p q = record { mid = floor_div (pos factor_scale *ℤ p) q; rad = rest (pos factor_scale *ℤ p) q }

abbrev pub mixed_mid : ℕ → Centre → Centre → ℤ
mixed_mid w f g = pos (1000 - w) *ℤ f.mid +ℤ pos w *ℤ g.mid

abbrev pub mixed_rad : ℕ → Centre → Centre → ℤ
mixed_rad w f g = pos (1000 - w) *ℤ f.rad +ℤ pos w *ℤ g.rad

abbrev pub centre_mix : ℕ → Centre → Centre → Centre
centre_mix w f g =
    record { mid = floor_div (mixed_mid w f g) 1000; rad = ceil_div (mixed_rad w f g) 1000 +ℤ rest (mixed_mid w f g) 1000 }

abbrev pub centre_form : Form
centre_form =
    record {
      slack = 4;
      can = centred;
      ratio = λ p q. ends_of_centre (centre_ratio p q);
      mix = λ w f g. ends_of_centre (centre_mix w (centre_of f) (centre_of g));
      apply = λ f a. ends_of_centre (apply_c (centre_of f) (centre_of a));
    }
