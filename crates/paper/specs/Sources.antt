-- What a source of factors means, and the estimated source.
use Rattle.std.specs.Prelude.{ℕ, zero, suc, ◌+◌, ◌-◌, Bool, cond, List, [], ◌∷◌, ◌++◌, ℤ, pos, negsuc, ◌+ℤ◌, Some, None, Option, int_lt, nat_lt, unsigned_abs}
use Rattle.std.proofs.Common.{zero-le, suc-le-suc}
use Rattle.algebra.specs.Interval.{Ends, Frac}
use Rattle.paper.specs.Numbers.{over, whole, point, amount_ceiling}
use Rattle.paper.specs.Sums.{Sum, steps_of, exact_of}
use Rattle.paper.specs.Forms.{Form}
use Rattle.paper.specs.Books.{Book, Cell, cell_at, exposure}

-- why a source has no factor, at the row of an exposure
pub data Cause : Type 0 where
  no_property : Cause
  no_column : Cause
  negative_exposure : ℕ → Cause
  -- with the amount that passes the ceiling
  amount_past : ℕ → ℤ → Cause

-- a fraction on the way to a factor, what each form makes of it, and how many layers stand above it
pub record Step : Type 0 where
  pub value : Frac
  pub ends : Form → Ends
  pub above : ℕ

-- the fractions that a factor is made from, itself the last; or a cause, the layers above it, and the fractions before it
pub data Meaning : Type 0 where
  factor : List Step → Step → Meaning
  cause : List Step → ℕ → Cause → Meaning

abbrev pub steps_in : Meaning → List Step
steps_in (factor before s) = before ++ (s ∷ [])
steps_in (cause before n c) = before

-- a source without a factor stands at 0
abbrev pub fraction_of : Meaning → Frac
fraction_of (factor before s) = s.value
fraction_of (cause before n c) = whole (pos 0)

-- ---- the first of several things
-- the numbers from a on, n of them
abbrev pub rising : ℕ → ℕ → List ℕ
rising a zero = []
rising a (suc n) = a ∷ rising (a + 1) n

abbrev pub or_else : {E : Type 0} → Option E → Option E → Option E
or_else (Some e) other = Some e
or_else None other = other

abbrev pub first_of : {A E : Type 0} → (A → Option E) → List A → Option E
first_of f [] = None
first_of f (x ∷ xs) = or_else (f x) (first_of f xs)

-- ---- exposures of observed cells, in whole numbers
abbrev pub past : ℤ → Bool
past a = nat_lt amount_ceiling (unsigned_abs a)

-- the amount of a step that passes the ceiling
abbrev pub step_past : (Cell → ℤ) → Sum Cell → Option ℤ
step_past amount s = cond (past (exact_of amount s)) (Some (exact_of amount s)) None

-- the first step on the way to an exposure that passes the ceiling
abbrev pub gathering_past : Book → ℕ → ℕ → ℕ → Option ℤ
gathering_past b m i k = first_of (step_past b.amount) (steps_of (exposure b m i k))

abbrev pub exact_exposure : Book → ℕ → ℕ → ℕ → ℤ
exact_exposure b m k i = exact_of b.amount (exposure b m i k)

abbrev pub next_amount : Book → ℕ → ℕ → ℕ → ℤ
next_amount b m k i = b.amount (cell_at m i (k + 1))

-- ---- the estimated source
-- the sum of y over the rows before n whose exposure r is above 0
abbrev pub total_where : (ℕ → ℤ) → (ℕ → ℤ) → ℕ → ℤ
total_where r y zero = pos 0
total_where r y (suc n) = cond (int_lt (pos 0) (r n)) (total_where r y n +ℤ y n) (total_where r y n)

abbrev pub exposures_through : Book → ℕ → ℕ → ℕ → ℤ
exposures_through b m k n = total_where (exact_exposure b m k) (exact_exposure b m k) n

abbrev pub next_amounts_through : Book → ℕ → ℕ → ℕ → ℤ
next_amounts_through b m k n = total_where (exact_exposure b m k) (next_amount b m k) n

abbrev pub amount_cause : ℕ → Option ℤ → Option Cause
amount_cause i (Some a) = Some (amount_past i a)
amount_cause i None = None

-- what is wrong with row i: a step of its exposure past the ceiling, a negative exposure, or a sum of exposures past the ceiling
abbrev pub row_cause : Book → ℕ → ℕ → ℕ → Option Cause
row_cause b m k i =
    or_else (amount_cause i (gathering_past b m i k))
    (cond (int_lt (exact_exposure b m k i) (pos 0)) (Some (negative_exposure i))
    (cond (past (exposures_through b m k (i + 1))) (Some (amount_past i (exposures_through b m k (i + 1)))) None))

-- how many rows have column k + 1 observed
abbrev pub seen : Book → ℕ → ℕ
seen b k = b.rows - (k + 1)

abbrev pub rows_cause : Book → ℕ → ℕ → Option Cause
rows_cause b m k = first_of (row_cause b m k) (rising 0 (seen b k))

-- p / q, and 0 for a q that is not above 0
abbrev pub quotient : ℤ → ℤ → Frac
quotient p (pos zero) = whole (pos 0)
quotient p (pos (suc q)) = over p (suc q) (suc-le-suc zero-le)
quotient p (negsuc q) = whole (pos 0)

abbrev pub quotient_ends : Form → ℤ → ℤ → Ends
quotient_ends F p (pos zero) = point (pos 0)
quotient_ends F p (pos (suc q)) = F.ratio p (suc q)
quotient_ends F p (negsuc q) = point (pos 0)

abbrev pub quotient_step : ℤ → ℤ → Step
quotient_step p q = record { value = quotient p q; ends = λ F. quotient_ends F p q; above = 0 }

-- a factor, unless there is a cause
abbrev pub unless_caused : Option Cause → Step → Meaning
unless_caused (Some c) s = cause [] 0 c
unless_caused None s = factor [] s

-- a question for a property or a column that the book does not have comes to nothing else
abbrev pub within : Book → ℕ → ℕ → Meaning → Meaning
within b m k otherwise =
    cond (nat_lt m b.properties) (cond (nat_lt (k + 1) b.columns) otherwise (cause [] 0 no_column)) (cause [] 0 no_property)

-- the next amounts over the exposures, of the rows whose exposure is above 0
abbrev pub estimate : Book → ℕ → ℕ → Step
estimate b m k = quotient_step (next_amounts_through b m k (seen b k)) (exposures_through b m k (seen b k))

abbrev pub estimated : Book → ℕ → ℕ → Meaning
estimated b m k = within b m k (unless_caused (rows_cause b m k) (estimate b m k))
