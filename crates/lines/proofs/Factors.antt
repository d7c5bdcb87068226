-- What the laws of sources and forms give for a factor question: answers cover, and ceiling refusals are excused.
use Rattle.std.proofs.Common.{◌≡◌, ℕ, ◌+◌, ◌*◌, ◌<◌, Bool, true, false, cond, List, [], ◌∷◌, ◌++◌, map, ℤ, nat_abs, Some, None, Ok, Err, Option, Result, MatchResult, sym, refl, inl, inr, arith}
use Rattle.algebra.specs.Interval.{Ends}
use Rattle.paper.specs.Numbers.{in_ten_millionths, factor_inside, factor_ceiling, amount_ceiling, Covers}
use Rattle.paper.specs.Forms.{Lawful}
use Rattle.paper.specs.Books.{Book}
use Rattle.paper.specs.Sources.{Cause, no_property, no_column, negative_exposure, amount_past, Step, Meaning, factor, cause, fraction_of}
use Rattle.paper.specs.Laws.{Answered, Each, RightCause, Sound}
use Rattle.paper.proofs.Covering.{passing, factor_past}
use Rattle.forms.specs.Told.{told}
use Rattle.book.specs.declared.faults.Fault.{Fault}
use Rattle.book.specs.declared.faults.Ground.TheVariants.{FactorCeiling}
use Rattle.book.specs.declared.faults.Origin.TheVariants.{OfForm}
use Rattle.book.specs.Grounds.{at_place, fault_at}
use Rattle.sources.specs.Asked.{answer_in, unless_past, first_past, cause_fault, counted}
use Rattle.engine.specs.Held.{pair_ends}
use Rattle.lines.specs.Line.{Reading, factor_step, cause_steps, meaning_steps, factor_allowance, SomeOf, Passing, CeilingExcused, Stands}
use Rattle.lines.specs.declared.calls.Call.TheVariants.{AskFactor}
use Rattle.lines.specs.declared.calls.State.TheVariants.{Closed}
use Rattle.lines.specs.declared.calls.Outcome.{Outcome}
use Rattle.lines.specs.declared.calls.Outcome.TheVariants.{Between, Refused}

-- ---- lists of steps
last_of : {A : Type 0} (P : A → Type 0) (xs : List A) (x : A) → Each P (xs ++ (x ∷ [])) → P x
last_of P [] x h = h.0
last_of P (y ∷ ys) x h = last_of P ys x h.1

some_left : {A : Type 0} (P : A → Type 0) (xs ys : List A) → SomeOf P xs → SomeOf P (xs ++ ys)
some_left P [] ys h = absurd h
some_left P (x ∷ xs) ys (inl h) = inl h
some_left P (x ∷ xs) ys (inr h) = inr (some_left P xs ys h)

some_last : {A : Type 0} (P : A → Type 0) (xs : List A) (x : A) → P x → SomeOf P (xs ++ (x ∷ []))
some_last P [] x h = inl h
some_last P (y ∷ ys) x h = inr (some_last P ys x h)

module _ (R : Reading) (lawful : Lawful R.form) (b : Book) (m k : ℕ) where
  abbrev Step-answered : Step → Type 0
  Step-answered s = Answered R.form R.depth s.value (s.ends R.form)

  abbrev steep : ℕ → Fault
  steep n = fault_at OfForm (at_place m 0 k) (counted n) FactorCeiling

  -- the step that passes the factor ceiling in the form passes it on paper, with its allowance
  step_past : (n : ℕ) (s : Step) → Step-answered s → factor_inside (s.ends R.form) ≡ false → Passing (steep n) (factor_step R m k s)
  step_past n s a out =
      record { ground = refl; place = refl; passes = passing (in_ten_millionths s.value) (factor_allowance R) factor_ceiling (s.ends R.form) a.covers (factor_past (s.ends R.form) out) }

  steps_past : (n : ℕ) (xs : List Step) → Each Step-answered xs → first_past R.form xs ≡ Some n → (l : ℕ) → SomeOf (Passing (steep l)) (map (factor_step R m k) xs)
  steps_past n [] a e l = cc
  steps_past n (s ∷ ss) a e l = go (factor_inside (s.ends R.form)) refl e (λ e. steps_past n ss a.1 e l)
    where
      go : (t : Bool) → factor_inside (s.ends R.form) ≡ t → cond t (first_past R.form ss) (Some s.above) ≡ Some n →
          (first_past R.form ss ≡ Some n → SomeOf (Passing (steep l)) (map (factor_step R m k) ss)) → SomeOf (Passing (steep l)) (map (factor_step R m k) (s ∷ ss))
      go true t e later = inr (later e)
      go false t e later = inl (step_past l s a.0 t)

  caused : (before : List Step) (n : ℕ) (c : Cause) → RightCause b m k before c →
      CeilingExcused (cause_fault m k n c) (map (factor_step R m k) before ++ cause_steps m k c)
  caused before n no_property r = λ h. absurd (omega arith)
  caused before n no_column r = λ h. absurd (omega arith)
  caused before n (negative_exposure i) r = λ h. absurd (omega arith)
  caused before n (amount_past i a) r = λ _. some_last (Passing (cause_fault m k n (amount_past i a))) (map (factor_step R m k) before) _ (record { ground = refl; place = refl; passes = over (nat_abs a) r.1 })
    where
      over : (n : ℕ) → amount_ceiling < n → amount_ceiling * 1 < n + 0 * 1
      over n h = omega arith

  -- what an answer owes: ends cover the fraction, and a fault is excused
  abbrev Owed : Meaning → Result Ends Fault → Type 0
  Owed M r = MatchResult r (Covers (in_ten_millionths (fraction_of M)) (factor_allowance R)) (λ f. CeilingExcused f (meaning_steps R m k M))

  owed : (M : Meaning) → Sound R.depth b m k M → Owed M (answer_in R.form m k M)
  owed (factor before s) sound = go (first_past R.form (before ++ (s ∷ []))) refl
    where
      go : (o : Option ℕ) → first_past R.form (before ++ (s ∷ [])) ≡ o → Owed (factor before s) (unless_past m k o (Ok (s.ends R.form)))
      go (Some n) e = λ h. steps_past n (before ++ (s ∷ [])) (sound.steps R.form lawful) e n
      go None e = (last_of Step-answered before s (sound.steps R.form lawful)).covers
  owed (cause before n c) sound = go (first_past R.form before) refl
    where
      go : (o : Option ℕ) → first_past R.form before ≡ o → Owed (cause before n c) (unless_past m k o (Err (cause_fault m k n c)))
      go (Some l) e = λ h. some_left (Passing (steep l)) (map (factor_step R m k) before) (cause_steps m k c) (steps_past l before (sound.steps R.form lawful) e l)
      go None e = caused before n c sound.grounds

  -- the outcome that the answer of a source becomes
  pub factor_stands : Sound R.depth b m k (R.means b m k) → (r : Result (ℤ × ℤ) Fault) (o : Outcome) → told pair_ends r ≡ answer_in R.form m k (R.means b m k) →
      MatchResult r (λ p. o ≡ Between p.0 p.1) (λ f. o ≡ Refused f) → Stands R (record { state = Closed; book = b }) (AskFactor m k) o
  factor_stands sound (Ok p) o e is = rw is (refl, record { exact = sym e; covers = rw (← e) at (owed (R.means b m k) sound) })
  factor_stands sound (Err f) o e is = rw is (refl, sym e, rw (← e) at (owed (R.means b m k) sound))
