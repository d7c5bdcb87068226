-- What a stored centre and radius mean. A radius below 0, or an end past the ceiling, counts as zero.
use Rattle.std.specs.Prelude.{ℕ, Bool, cond, ◌&&◌, ℤ, pos, ◌+ℤ◌, ◌-ℤ◌, neg_ℤ, int_le}
use Rattle.algebra.specs.Interval.{Ends}
use Rattle.algebra.specs.Centre.{Centre, ends_of_centre}
use Rattle.paper.specs.Numbers.{point}
use Rattle.forms.specs.declared.centre.Centred.{Centred}

abbrev pub centred : ℤ → ℤ → Centre
centred c r = record { mid = c; rad = r }

-- the ends a radius apart from a centre
abbrev pub around : ℤ → ℤ → Ends
around c r = ends_of_centre (centred c r)

abbrev pub within_ceiling : ℤ → ℤ → ℤ → Bool
within_ceiling c r ceiling = int_le (pos 0) r && (int_le (neg_ℤ ceiling) (c -ℤ r) && int_le (c +ℤ r) ceiling)

-- the ends around a centre, by the ceiling of its kind
abbrev pub centred_within : {n : ℕ} → ℤ → Centred n → Ends
centred_within ceiling a = cond (within_ceiling a.centre a.radius ceiling) (around a.centre a.radius) (point (pos 0))

abbrev pub centre_ends : Centred 40000000000 → Ends
centre_ends a = centred_within (pos 40000000000) a

abbrev pub factor_centre_ends : Centred 200000000 → Ends
factor_centre_ends f = centred_within (pos 200000000) f
