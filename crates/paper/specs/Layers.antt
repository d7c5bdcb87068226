-- Selected factors, and credibility layers over any source.
use Rattle.std.specs.Prelude.{ℕ, ◌+◌, ◌-◌, cond, List, [], ◌∷◌, ◌++◌, map, ℤ, pos, Some, None, Option, int_lt, nat_lt}
use Rattle.std.proofs.Common.{lit<}
use Rattle.paper.specs.Numbers.{over, mixed, point, factor_scale}
use Rattle.paper.specs.Books.{Book}
use Rattle.paper.specs.Sources.{Cause, negative_exposure, Step, Meaning, factor, cause, or_else, amount_cause, gathering_past, exact_exposure, next_amount, seen, quotient_step, within}

-- ---- selected factors
-- a factor in ten-millionths, which is one number in every form
abbrev pub selected_step : ℤ → Step
selected_step n = record { value = over n factor_scale (lit< tt); ends = λ F. point n; above = 0 }

abbrev pub selected : (ℕ → ℕ → ℤ) → Book → ℕ → ℕ → Meaning
selected chosen b m k = within b m k (factor [] (selected_step (chosen m k)))

-- ---- a credibility layer, of a lag and a weight for each column
-- a step with one layer more above it
abbrev pub under : Step → Step
under s = record { value = s.value; ends = s.ends; above = s.above + 1 }

-- a meaning with one layer more above it
abbrev pub passed_up : Meaning → Meaning
passed_up (factor before s) = factor (map under before) (under s)
passed_up (cause before n c) = cause (map under before) (n + 1) c

-- what is wrong with the layer's row: a step of its exposure past the ceiling, or a negative exposure
abbrev pub own_cause : Book → ℕ → ℕ → ℕ → Option Cause
own_cause b m k i =
    or_else (amount_cause i (gathering_past b m i k)) (cond (int_lt (exact_exposure b m k i) (pos 0)) (Some (negative_exposure i)) None)

-- the factor of the row alone
abbrev pub own_step : Book → ℕ → ℕ → ℕ → Step
own_step b m k i = quotient_step (next_amount b m k i) (exact_exposure b m k i)

-- the mean of the factor below and the row's own, of weights 1000 - w and w
abbrev pub mixed_step : ℕ → Step → Step → Step
mixed_step w below own =
    record { value = mixed w below.value own.value; ends = λ F. F.mix w (below.ends F) (own.ends F); above = 0 }

abbrev pub weighed : ℕ → List Step → Step → Step → Meaning
weighed w before below own = factor (before ++ (below ∷ own ∷ [])) (mixed_step w below own)

abbrev pub unless_own : Option Cause → List Step → Meaning → Meaning
unless_own (Some c) before otherwise = cause before 0 c
unless_own None before otherwise = otherwise

-- a factor below, weighed with row i; a row with exposure 0 has no factor of its own
abbrev pub weighed_with : Book → ℕ → ℕ → ℕ → ℕ → List Step → Step → Meaning
weighed_with b m k i w before below =
    unless_own (own_cause b m k i) (before ++ (below ∷ []))
    (cond (int_lt (pos 0) (exact_exposure b m k i)) (weighed w before below (own_step b m k i)) (factor before below))

-- the row is the last that has column k + 1 observed, or lies lag rows before it
abbrev pub layer_on : Book → ℕ → ℕ → ℕ → ℕ → Meaning → Meaning
layer_on b m k lag w (factor before below) =
    cond (nat_lt lag (seen b k)) (weighed_with b m k (seen b k - (lag + 1)) w before below) (factor before below)
layer_on b m k lag w (cause before n c) = cause before n c

abbrev pub layered : (ℕ → ℕ) → (ℕ → ℕ) → (Book → ℕ → ℕ → Meaning) → Book → ℕ → ℕ → Meaning
layered lag weight below b m k = layer_on b m k (lag k) (weight k) (passed_up (below b m k))
