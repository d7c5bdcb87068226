-- What the meaning of a source has to keep to, whatever the source.
use Rattle.std.specs.Prelude.{◌≡◌, ℕ, ◌+◌, ◌*◌, ◌<◌, ◌≤◌, T, List, [], ◌∷◌, unsigned_abs}
use Rattle.algebra.specs.Interval.{Ends, Frac}
use Rattle.paper.specs.Numbers.{Covers, in_ten_millionths, amount_ceiling}
use Rattle.paper.specs.Forms.{Form, Lawful}
use Rattle.paper.specs.Books.{Book}
use Rattle.paper.specs.Sources.{Cause, no_property, no_column, negative_exposure, amount_past, Step, Meaning, factor, cause, steps_in}

-- what a source of the depth answers for a fraction: ends that the form can have, that cover it within depth times slack
pub record Answered (F : Form) (depth : ℕ) (x : Frac) (g : Ends) : Type 0 where
  pub can : T (F.can g)
  pub covers : Covers (in_ten_millionths x) (depth * F.slack) g

abbrev pub Each : {A : Type 0} → (A → Type 0) → List A → Type 0
Each P [] = Unit {0}
Each P (x ∷ xs) = P x × Each P xs

-- a question within the book
abbrev pub AskedWithin : Book → ℕ → ℕ → Type 0
AskedWithin b m k = (m < b.properties) × (k + 1 < b.columns)

abbrev pub RightCause : Book → ℕ → ℕ → List Step → Cause → Type 0
RightCause b m k before no_property = (b.properties ≤ m) × (before ≡ [])
RightCause b m k before no_column = (m < b.properties) × (b.columns ≤ k + 1) × (before ≡ [])
RightCause b m k before (negative_exposure i) = AskedWithin b m k
RightCause b m k before (amount_past i a) = AskedWithin b m k × (amount_ceiling < unsigned_abs a)

-- no such property exactly past the last, else no such column exactly where none follows, else a factor, a negative
-- exposure, or an amount that does pass the ceiling
abbrev pub Right : Book → ℕ → ℕ → Meaning → Type 0
Right b m k (factor before s) = AskedWithin b m k
Right b m k (cause before n c) = RightCause b m k before c

pub record Sound (depth : ℕ) (b : Book) (m k : ℕ) (M : Meaning) : Type 0 where
  pub grounds : Right b m k M
  -- in every form, the ends of each step cover its fraction
  pub steps : (F : Form) → Lawful F → Each (λ s. Answered F depth s.value (s.ends F)) (steps_in M)
