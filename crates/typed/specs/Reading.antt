-- What is read from words.
use Rattle.std.specs.Prelude.{◌≡◌, ℕ, Bool, true, ◌==◌, cond, List, [], ◌∷◌, slice_index, codes, Option, Some, Result, Ok, Err}
use Rattle.std.specs.Str.{byte, bytes_eq}
use Rattle.typed.specs.declared.words.NotUnderstood.{NotUnderstood}
use Rattle.typed.specs.declared.form.FormName.{FormName}
use Rattle.typed.specs.declared.form.FormName.TheVariants.{Ends, Centre}

abbrev pub not_understood : NotUnderstood
not_understood = record {}

-- what was read, whatever the error was
abbrev pub understood : {T E : Type 0} → Result T E → Result T NotUnderstood
understood (Ok value) = Ok value
understood (Err error) = Err not_understood

-- the first word gives r
abbrev pub ParsesFirst : {T E : Type 0} → (List ℕ → Result T E → Type 0) → List (List ℕ) → Result T NotUnderstood → Type 0
ParsesFirst gives [] r = r ≡ Err not_understood
ParsesFirst {T = T} {E = E} gives (word ∷ words) r = (parsed : Result T E) × gives word parsed × (r ≡ understood parsed)

abbrev pub form_named : List ℕ → Result FormName NotUnderstood
form_named word = cond (bytes_eq word (codes "ends")) (Ok Ends) (cond (bytes_eq word (codes "centre")) (Ok Centre) (Err not_understood))

-- a line without words, and one whose first word begins with #
abbrev pub is_skipped : List (List ℕ) → Bool
is_skipped [] = true
is_skipped (word ∷ words) = slice_index word 0 == byte "#"

-- what was read is the whole if no word is left
abbrev pub whole : {T : Type 0} → Result T NotUnderstood → List (List ℕ) → Result (Option T) NotUnderstood
whole (Ok value) [] = Ok (Some value)
whole (Ok value) (word ∷ words) = Err not_understood
whole (Err error) words = Err error

-- r is the whole of what some words give and leave
abbrev pub ReadsWhole : {T : Type 0} → (Result T NotUnderstood → List (List ℕ) → Type 0) → Result (Option T) NotUnderstood → Type 0
ReadsWhole {T = T} gives r = (parsed : Result T NotUnderstood) × (left : List (List ℕ)) × gives parsed left × (r ≡ whole parsed left)
