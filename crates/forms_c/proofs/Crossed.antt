-- A result that crossed means what it meant.
use Rattle.std.proofs.Common.{◌≡◌, ℕ, Some, None, Option, refl, pos, rules}
use Rattle.std.specs.Prelude.{option_map, IsTrue}
use Rattle.algebra.specs.Interval.{Ends}
use Rattle.forms.specs.declared.two_ends.EndPair.{EndPair}
use Rattle.forms.specs.declared.centre.Centred.{Centred}
use Rattle.forms_c.specs.Answered.{ends_answered, centre_answered}
use Rattle.forms_c.specs.Crossing.{ends_answer, centre_answer}

pub ends_crossed : {n : ℕ} (f : EndPair n → Ends) (o : Option (EndPair n)) → ends_answered (λ l h. f (record { low = l; high = h })) (ends_answer o) ≡ option_map f o
ends_crossed f (Some e) = refl
ends_crossed f None = refl

pub centre_crossed : {n : ℕ} (f : Centred n → Ends) (o : Option (Centred n)) → centre_answered (λ c r. f (record { centre = c; radius = r })) (centre_answer o) ≡ option_map f o
centre_crossed f (Some a) = refl
centre_crossed f None = refl

pub ends_blank : {n : ℕ} (o : Option (EndPair n)) → IsTrue (ends_answer o).refused → ((ends_answer o).low ≡ pos 0) × ((ends_answer o).high ≡ pos 0)
ends_blank (Some e) t = search rules
ends_blank None t = (refl, refl)

pub centre_blank : {n : ℕ} (o : Option (Centred n)) → IsTrue (centre_answer o).refused → ((centre_answer o).centre ≡ pos 0) × ((centre_answer o).radius ≡ pos 0)
centre_blank (Some a) t = search rules
centre_blank None t = (refl, refl)
