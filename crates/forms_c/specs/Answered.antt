-- What the numbers that cross to and from a caller mean.
use Rattle.std.specs.Prelude.{cond, ◌&&◌, ℤ, pos, Some, None, Ok, Err, Option, Result, int_lt, unsigned_abs}
use Rattle.algebra.specs.Interval.{Ends}
use Rattle.paper.specs.Numbers.{point, inside}
use Rattle.paper.specs.Forms.{Form}
use Rattle.forms.specs.declared.FormFault.{FormFault}
use Rattle.forms.specs.Told.{ceiled, factor_ceiled}
use Rattle.forms.specs.Held.{two_ends, factor_ends}
use Rattle.forms_c.specs.declared.ends.EndsAnswer.{EndsAnswer}
use Rattle.forms.specs.Centred.{centre_ends, factor_centre_ends}
use Rattle.forms_c.specs.declared.centre.CentreAnswer.{CentreAnswer}

-- the ends, unless they were refused
abbrev pub allowed : Result Ends FormFault → Option Ends
allowed (Ok e) = Some e
allowed (Err f) = None

-- the ratio of any two numbers: a form is asked for it only if both are amounts and q is above 0
abbrev pub ratio_of : Form → ℤ → ℤ → Option Ends
ratio_of F p q = cond (inside (point p) && (int_lt (pos 0) q && inside (point q))) (allowed (factor_ceiled (F.ratio p (unsigned_abs q)))) None

abbrev pub application_of : Form → Ends → Ends → Option Ends
application_of F f a = allowed (ceiled (F.apply f a))

abbrev pub ends_amount : ℤ → ℤ → Ends
ends_amount l h = two_ends (record { low = l; high = h })

abbrev pub ends_factor : ℤ → ℤ → Ends
ends_factor l h = factor_ends (record { low = l; high = h })

-- an answer, by what its two ends mean
abbrev pub ends_answered : (ℤ → ℤ → Ends) → EndsAnswer → Option Ends
ends_answered means a = cond a.refused None (Some (means a.low a.high))

abbrev pub centre_amount : ℤ → ℤ → Ends
centre_amount c r = centre_ends (record { centre = c; radius = r })

abbrev pub centre_factor : ℤ → ℤ → Ends
centre_factor c r = factor_centre_ends (record { centre = c; radius = r })

-- an answer, by what its centre and radius mean
abbrev pub centre_answered : (ℤ → ℤ → Ends) → CentreAnswer → Option Ends
centre_answered means a = cond a.refused None (Some (means a.centre a.radius))
