-- The paper run beside a line of calls, and what every outcome owes to it.
use Rattle.std.specs.Prelude.{◌≡◌, ℕ, ◌*◌, min, Bool, true, false, ◌⊎◌, List, [], ◌∷◌, ◌++◌, map, length, take, drop, ℤ, Some, None, Ok, Err}
use Rattle.algebra.specs.Interval.{Ends, Frac}
use Rattle.paper.specs.Numbers.{both, whole, in_ten_millionths, Covers, Passes, amount_ceiling, factor_ceiling}
use Rattle.paper.specs.Forms.{Form}
use Rattle.paper.specs.Books.{Book, opened, with_entry, with_last_term}
use Rattle.paper.specs.Sources.{Cause, no_property, no_column, negative_exposure, amount_past, Step, Meaning, factor, cause, fraction_of}
use Rattle.book.specs.declared.faults.Fault.{Fault}
use Rattle.book.specs.declared.faults.Ground.{Ground}
use Rattle.book.specs.declared.faults.Ground.TheVariants.{AmountCeiling, FactorCeiling}
use Rattle.book.specs.declared.faults.Place.{Place}
use Rattle.book.specs.declared.kinds.Sizes.{Sizes}
use Rattle.book.specs.Grounds.{number, at_place}
use Rattle.book.specs.Stored.{cell_of, term_of}
use Rattle.book.specs.Keying.{entry_fault, term_fault}
use Rattle.sources.specs.Asked.{answer_in}
use Rattle.engine.specs.Held.{of_draft, of_closed}
use Rattle.lines.specs.declared.calls.Call.{Call}
use Rattle.lines.specs.declared.calls.Call.TheVariants.{Enter, AddTerm, Close, AskFactor, Reopen}
use Rattle.lines.specs.declared.calls.State.{State}
use Rattle.lines.specs.declared.calls.State.TheVariants.{Drafted, Closed}
use Rattle.lines.specs.declared.calls.Outcome.{Outcome}
use Rattle.lines.specs.declared.calls.Outcome.TheVariants.{NotTaken, Accepted, Between, Refused}
use Rattle.lines.specs.declared.calls.AnyBook.{AnyBook}
use Rattle.lines.specs.declared.calls.AnyBook.TheVariants.{InDraft, InClosed}

-- ---- the paper run
-- what it knows between two calls: the sizes, the amounts and the rules, and which calls the book takes
pub record Paper : Type 0 where
  pub state : State
  pub book : Book

abbrev pub opening : Sizes → Paper
opening s = record { state = Drafted; book = opened s.properties s.rows s.columns }

abbrev pub takes : State → Call → Bool
takes Drafted (Enter p a) = true
takes Drafted (AddTerm m t) = true
takes Drafted Close = true
takes Drafted (AskFactor m k) = false
takes Drafted Reopen = false
takes Closed (Enter p a) = false
takes Closed (AddTerm m t) = false
takes Closed Close = false
takes Closed (AskFactor m k) = true
takes Closed Reopen = true

-- whether a call was accepted: all that the paper run is told of its outcome
abbrev pub accepted : Outcome → Bool
accepted (NotTaken state) = false
accepted Accepted = true
accepted (Between lo hi) = true
accepted (Refused f) = false

-- an accepted entry replaces its amount, an accepted term goes last in its rule, and nothing else changes the book
abbrev pub changed : Book → Call → Book
changed b (Enter p a) = with_entry b (cell_of p) a
changed b (AddTerm m t) = with_last_term b m (term_of t)
changed b _ = b

abbrev pub state_after : State → Call → State
state_after s Close = Closed
state_after s Reopen = Drafted
state_after s _ = s

abbrev pub paper_next : Paper → Call → Bool → Paper
paper_next s call true = record { state = state_after s.state call; book = changed s.book call }
paper_next s call false = s

-- ---- the steps of a call, in fractions
-- a step: what it is refused with and where if it passes its ceiling, its value and its allowance
pub record PaperStep : Type 0 where
  pub ground : Ground
  pub place : Place
  pub ceiling : ℕ
  pub value : Frac
  pub allowance : ℕ

-- what a line is read against: the meaning of its source, the source's depth, and its form
pub record Reading : Type 0 where
  pub means : Book → ℕ → ℕ → Meaning
  pub depth : ℕ
  pub form : Form

abbrev pub reading : (Book → ℕ → ℕ → Meaning) → ℕ → Form → Reading
reading means depth form = record { means = means; depth = depth; form = form }

-- what a factor and each step of its source are allowed
abbrev pub factor_allowance : Reading → ℕ
factor_allowance R = R.depth * R.form.slack

abbrev pub factor_step : Reading → ℕ → ℕ → Step → PaperStep
factor_step R m k s =
    record { ground = FactorCeiling; place = at_place m 0 k; ceiling = factor_ceiling; value = in_ten_millionths s.value; allowance = factor_allowance R }

-- an amount gathered exactly from the book
abbrev pub exact_step : ℕ → ℕ → ℕ → ℤ → PaperStep
exact_step m i k a = record { ground = AmountCeiling; place = at_place m i k; ceiling = amount_ceiling; value = whole a; allowance = 0 }

abbrev pub cause_steps : ℕ → ℕ → Cause → List PaperStep
cause_steps m k no_property = []
cause_steps m k no_column = []
cause_steps m k (negative_exposure i) = []
cause_steps m k (amount_past i a) = exact_step m i k a ∷ []

abbrev pub meaning_steps : Reading → ℕ → ℕ → Meaning → List PaperStep
meaning_steps R m k (factor before s) = map (factor_step R m k) (before ++ (s ∷ []))
meaning_steps R m k (cause before n c) = map (factor_step R m k) before ++ cause_steps m k c

abbrev pub steps : Reading → Book → Call → List PaperStep
steps R b (AskFactor m k) = meaning_steps R m k (R.means b m k)
steps R b _ = []

-- ---- what an outcome says
-- a call that is accepted without an answer
abbrev pub Accepts : Book → Call → Type 0
Accepts b (Enter p a) = entry_fault b p a ≡ None
Accepts b (AddTerm m t) = term_fault b m t ≡ None
Accepts b Close = Unit {0}
Accepts b (AskFactor m k) = ⊥
Accepts b Reopen = Unit {0}

-- an interval: exactly the form's ends of the source's last step, and they cover its fraction within the allowance
pub record AnswersFactor (R : Reading) (b : Book) (m k : ℕ) (e : Ends) : Type 0 where
  pub exact : answer_in R.form m k (R.means b m k) ≡ Ok e
  pub covers : Covers (in_ten_millionths (fraction_of (R.means b m k))) (factor_allowance R) e

abbrev pub Answers : Reading → Book → Call → Ends → Type 0
Answers R b (AskFactor m k) e = AnswersFactor R b m k e
Answers R b _ e = ⊥

-- the ground that the rules give
abbrev pub Refuses : Reading → Book → Call → Fault → Type 0
Refuses R b (Enter p a) f = entry_fault b p a ≡ Some f
Refuses R b (AddTerm m t) f = term_fault b m t ≡ Some f
Refuses R b (AskFactor m k) f = answer_in R.form m k (R.means b m k) ≡ Err f
Refuses R b _ f = ⊥

-- some element of the list has the property; not std's Any, since this is ⊥ of no steps, which the check closes alone
abbrev pub SomeOf : {A : Type 0} → (A → Type 0) → List A → Type 0
SomeOf P [] = ⊥
SomeOf P (x ∷ xs) = P x ⊎ SomeOf P xs

-- the step that a ceiling refusal names: there the size of the paper's value with its allowance passes the ceiling
pub record Passing (f : Fault) (s : PaperStep) : Type 0 where
  pub ground : s.ground ≡ f.ground
  pub place : s.place ≡ f.place
  pub passes : Passes s.value s.allowance s.ceiling

abbrev pub CeilingExcused : Fault → List PaperStep → Type 0
CeilingExcused f ss = (number f.ground ≡ 14) ⊎ (number f.ground ≡ 15) → SomeOf (Passing f) ss

abbrev pub Stands : Reading → Paper → Call → Outcome → Type 0
Stands R s call (NotTaken state) = (takes s.state call ≡ false) × (state ≡ s.state)
Stands R s call Accepted = (takes s.state call ≡ true) × Accepts s.book call
Stands R s call (Between lo hi) = (takes s.state call ≡ true) × Answers R s.book call (both lo hi)
Stands R s call (Refused f) = (takes s.state call ≡ true) × Refuses R s.book call f × CeilingExcused f (steps R s.book call)

-- every call has its outcome, and each stands on the paper's book as the calls before it left it
abbrev pub LineStands : Reading → Paper → List Call → List Outcome → Type 0
LineStands R s [] [] = Unit {0}
LineStands R s (call ∷ cs) (o ∷ os) = Stands R s call o × LineStands R (paper_next s call (accepted o)) cs os
LineStands R s _ _ = ⊥

abbrev pub paper_after : Paper → List Call → List Outcome → Paper
paper_after s (call ∷ cs) (o ∷ os) = paper_after (paper_next s call (accepted o)) cs os
paper_after s _ _ = s

-- the first n calls were run, as many as there was room for, and the room past them is as it was
pub record Ran (R : Reading) (sizes : Sizes) (calls : List Call) (before after : List Outcome) (n : ℕ) : Type 0 where
  pub count : n ≡ min (length calls) (length before)
  pub line : LineStands R (opening sizes) (take n calls) (take n after)
  pub rest : drop n after ≡ drop n before

-- ---- the paper of a stored book
abbrev pub paper_of : AnyBook → Paper
paper_of (InDraft d) = record { state = Drafted; book = of_draft d }
paper_of (InClosed c) = record { state = Closed; book = of_closed c }
