-- The limits of a book's amounts and rules.
use Rattle.std.specs.Prelude.{ℕ, ◌<◌, ◌≤◌, List, [], All, ℤ, pos, negsuc, ◌≤ℤ◌, slice_index_or}
use Rattle.book.specs.declared.rules.Term.{Term}

-- what each term of a rule keeps to
pub record IsRuleTerm (t : Term) : Type 0 where
  pub reach : t.reach ≤ 2
  pub low : negsuc 99 ≤ℤ t.coefficient
  pub high : t.coefficient ≤ℤ pos 100

abbrev pub rule_at : List (List Term) → ℕ → List Term
rule_at rules m = slice_index_or rules m []

-- every term reads one of the first p properties
abbrev pub ReadsWithin : ℕ → List Term → Type 0
ReadsWithin p ts = All (λ t. t.property < p) ts

-- what an observed amount keeps to
pub record IsEntry (a : ℤ) : Type 0 where
  pub low : negsuc 999999999 ≤ℤ a
  pub high : a ≤ℤ pos 1000000000
