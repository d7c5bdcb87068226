-- The numbers in which a result crosses to C; a refused one has none, and both are 0.
use Rattle.std.specs.Prelude.{ℕ, true, false, pos, Some, None, Option}
use Rattle.forms.specs.declared.two_ends.EndPair.{EndPair}
use Rattle.forms.specs.declared.centre.Centred.{Centred}
use Rattle.forms_c.specs.declared.ends.EndsAnswer.{EndsAnswer}
use Rattle.forms_c.specs.declared.centre.CentreAnswer.{CentreAnswer}

abbrev pub ends_answer : {n : ℕ} → Option (EndPair n) → EndsAnswer
ends_answer (Some e) = record { refused = false; low = e.low; high = e.high }
ends_answer None = record { refused = true; low = pos 0; high = pos 0 }

abbrev pub centre_answer : {n : ℕ} → Option (Centred n) → CentreAnswer
centre_answer (Some a) = record { refused = false; centre = a.centre; radius = a.radius }
centre_answer None = record { refused = true; centre = pos 0; radius = pos 0 }
