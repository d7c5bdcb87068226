-- The estimated source: its steps are answered in every form, and its causes are right.
use Rattle.std.proofs.Common.{◌≡◌, ℕ, zero, suc, ◌+◌, ◌*◌, ◌<◌, ◌≤◌, Bool, true, false, cond, T, ltb, List, [], ◌∷◌, ℤ, pos, negsuc, ◌-ℤ◌, nat_abs, ◌≤ℤ◌, Some, None, Option, refl, ⊎_elim, suc-le-suc, zero-le, arith, ltb→lt}
use borrow.Author.Differences.{ints}
use lib.Signed.{≤ℤ_refl, lt_z}
use Rattle.std.proofs.lemmas.Bool.{cases_lt}
use Rattle.algebra.specs.Interval.{width}
use Rattle.paper.specs.Numbers.{over, amount_ceiling}
use Rattle.paper.specs.Sums.{Sum, exact_of, steps_of}
use Rattle.paper.specs.Forms.{Form, Lawful}
use Rattle.paper.specs.Books.{Book, Cell, exposure}
use Rattle.paper.specs.Sources.{Cause, negative_exposure, amount_past, Step, Meaning, past, step_past, amount_cause, first_of, or_else, rising, row_cause, gathering_past, exact_exposure, exposures_through, next_amounts_through, seen, quotient, quotient_ends, quotient_step, unless_caused, within, estimated}
use Rattle.paper.specs.Laws.{Answered, AskedWithin, RightCause, Sound}

pub loosen : (w : ℤ) (a b : ℕ) → a ≤ b → w ≤ℤ pos a → w ≤ℤ pos b
loosen w a b h k = omega (arith, ints)

nought : (a : ℕ) → (pos 0 -ℤ pos 0) ≤ℤ pos a
nought a = omega (arith, ints)

module _ (F : Form) (lawful : Lawful F) where
  pub ratio_answered : (p : ℤ) (q : ℕ) (some : 0 < q) → Answered F 1 (over p q some) (F.ratio p q)
  ratio_answered p q some =
      record {
        can = lawful.can_ratio p q some;
        covers = record {
          encloses = lawful.ratio_encloses p q some;
          narrow = loosen (width (F.ratio p q)) F.slack (1 * F.slack) (omega arith) (lawful.ratio_narrow p q some);
        };
      }

  pub quotient_answered : (p q : ℤ) → Answered F 1 (quotient p q) (quotient_ends F p q)
  quotient_answered p (pos zero) =
      record { can = lawful.can_point (pos 0); covers = record { encloses = record { above = ≤ℤ_refl (pos 0); below = ≤ℤ_refl (pos 0) }; narrow = nought (1 * F.slack) } }
  quotient_answered p (pos (suc q)) = ratio_answered p (suc q) (suc-le-suc zero-le)
  quotient_answered p (negsuc q) =
      record { can = lawful.can_point (pos 0); covers = record { encloses = record { above = ≤ℤ_refl (pos 0); below = ≤ℤ_refl (pos 0) }; narrow = nought (1 * F.slack) } }

-- what holds of a value that is there
abbrev pub Holds : {A : Type 0} → (A → Type 0) → Option A → Type 0
Holds P (Some a) = P a
Holds P None = Unit {0}

pub or_holds : {A : Type 0} (P : A → Type 0) (o other : Option A) → Holds P o → Holds P other → Holds P (or_else o other)
or_holds P (Some a) other h k = h
or_holds P None other h k = k

first_holds : {A E : Type 0} (P : E → Type 0) (f : A → Option E) → ((a : A) → Holds P (f a)) → (xs : List A) → Holds P (first_of f xs)
first_holds P f h [] = tt
first_holds P f h (x ∷ xs) = or_holds P (f x) (first_of f xs) (h x) (first_holds P f h xs)

pub if_holds : {A : Type 0} (P : A → Type 0) (t : Bool) (o other : Option A) → (T t → Holds P o) → Holds P other → Holds P (cond t o other)
if_holds P true o other h k = h tt
if_holds P false o other h k = k

past_holds : (amount : Cell → ℤ) (s : Sum Cell) → Holds (λ a. amount_ceiling < nat_abs a) (step_past amount s)
past_holds amount s = if_holds (λ a. amount_ceiling < nat_abs a) (past (exact_of amount s)) (Some (exact_of amount s)) None (ltb→lt amount_ceiling (nat_abs (exact_of amount s))) tt

module _ (b : Book) (m k : ℕ) (asked : AskedWithin b m k) where
  amount_caused : (before : List Step) (i : ℕ) (o : Option ℤ) → Holds (λ a. amount_ceiling < nat_abs a) o → Holds (RightCause b m k before) (amount_cause i o)
  amount_caused before i (Some a) h = (asked, h)
  amount_caused before i None h = tt

  -- a step of an exposure past the ceiling is a cause, whatever came before it
  pub gathering_caused : (before : List Step) (i : ℕ) → Holds (RightCause b m k before) (amount_cause i (gathering_past b m i k))
  gathering_caused before i =
      amount_caused before i (gathering_past b m i k) (first_holds (λ a. amount_ceiling < nat_abs a) (step_past b.amount) (past_holds b.amount) (steps_of (exposure b m i k)))

  abbrev Caused : Cause → Type 0
  Caused = RightCause b m k []

  row_caused : (i : ℕ) → Holds Caused (row_cause b m k i)
  row_caused i =
      let total = exposures_through b m k (i + 1) in
      or_holds Caused (amount_cause i (gathering_past b m i k)) _
      (gathering_caused [] i)
      (if_holds Caused (lt_z (exact_exposure b m k i) (pos 0)) (Some (negative_exposure i)) _ (λ _. asked)
      (if_holds Caused (past total) (Some (amount_past i total)) None (λ t. (asked, ltb→lt amount_ceiling (nat_abs total) t)) tt))

  unless_sound : (c : Option Cause) (p q : ℤ) → Holds Caused c → Sound 1 b m k (unless_caused c (quotient_step p q))
  unless_sound (Some c) p q h = record { grounds = h; steps = λ F lawful. tt }
  unless_sound None p q h = record { grounds = asked; steps = λ F lawful. (quotient_answered F lawful p q, tt) }

  pub rows_sound : (p q : ℤ) → Sound 1 b m k (unless_caused (first_of (row_cause b m k) (rising 0 (seen b k))) (quotient_step p q))
  rows_sound p q = unless_sound _ p q (first_holds Caused (row_cause b m k) row_caused (rising 0 (seen b k)))

-- a meaning that is sound where it is asked within the book
pub within_sound : (d : ℕ) (b : Book) (m k : ℕ) (M : Meaning) → (AskedWithin b m k → Sound d b m k M) → Sound d b m k (within b m k M)
within_sound d b m k M h =
    ⊎_elim (λ (p : m < b.properties). let e : ltb m b.properties ≡ true = grind arith in rw e
    (⊎_elim (λ (q : k + 1 < b.columns). let f : ltb (k + 1) b.columns ≡ true = grind arith in rw f (h (p, q)))
    (λ (q : b.columns ≤ k + 1). let f : ltb (k + 1) b.columns ≡ false = grind arith in rw f (record { grounds = (p, q, refl); steps = λ F lawful. tt }))
    (cases_lt (k + 1) b.columns)))
    (λ (p : b.properties ≤ m). let e : ltb m b.properties ≡ false = grind arith in rw e (record { grounds = (p, refl); steps = λ F lawful. tt }))
    (cases_lt m b.properties)

pub estimated_sound : (b : Book) (m k : ℕ) → Sound 1 b m k (estimated b m k)
estimated_sound b m k = within_sound 1 b m k _ (λ asked. rows_sound b m k asked (next_amounts_through b m k (seen b k)) (exposures_through b m k (seen b k)))
