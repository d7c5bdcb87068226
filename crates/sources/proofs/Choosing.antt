-- A factor that is set is the one chosen, and every other stays.
use Rattle.std.proofs.Common.{◌≡◌, ℕ, ◌<◌, cond, eqb, List, length, set, ℤ, arith}
use mathlib.Core.Path.{fun_ext}
use Rattle.std.proofs.lemmas.Bool.Decides.{nat_tests}
use Rattle.std.proofs.lemmas.Grind.{common_steps}
use Rattle.sources.specs.declared.selected.FactorRow.{FactorRow}
use Rattle.sources.specs.Selecting.{row_of, factor_of, chosen, with_choice}

module _ (rows : List FactorRow) (m k : ℕ) (x : ℤ) (r : FactorRow) (here : m < length rows)
    (given : (j : ℕ) → factor_of r j ≡ cond (eqb k j) x (factor_of (row_of rows m) j)) where
  chosen_at : (n j : ℕ) → chosen (set rows m r) n j ≡ with_choice (chosen rows) m k x n j
  chosen_at n j = let e = given j in grind (arith, common_steps, nat_tests)

  pub chosen_is : chosen (set rows m r) ≡ with_choice (chosen rows) m k x
  chosen_is = fun_ext (λ n. fun_ext (chosen_at n))
