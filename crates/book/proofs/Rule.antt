-- A rule's terms are found again in its fields.
use Rattle.std.proofs.Common.{◌≡◌, suc, ◌+◌, ◌-◌, ◌<◌, ◌≤◌, List, [], ◌∷◌, ◌++◌, length, set, replicate, sym, refl, ap, subst, append_assoc, arith}
use Rattle.std.specs.Prelude.{All}
use Rattle.std.proofs.lemmas.List.{take_at, set_at, length_push}
use Rattle.book.specs.declared.rules.Term.{Term}
use Rattle.book.specs.Limits.{IsRuleTerm}
use Rattle.book.specs.Rule.{blank, first_terms, padded, IsHeld}

first_terms-padded : (ts : List Term) → first_terms (padded ts) ≡ ts
first_terms-padded ts = take_at ts (replicate (6 - length ts) blank) (length ts) refl

pub IsHeld-padded : (ts : List Term) → length ts ≤ 6 → All IsRuleTerm ts → IsHeld (padded ts)
IsHeld-padded ts few each =
    let e = first_terms-padded ts in
    record { few = few; filled = ap padded e; each = subst (All IsRuleTerm) (sym e) each }

-- a term is written over the first blank
pub padded-push : (ts : List Term) (t : Term) → length ts < 6 → padded (ts ++ t ∷ []) ≡ record { len = length ts + 1; terms = set (padded ts).terms (length ts) t }
padded-push ts t room =
    let left = 6 - (length ts + 1) in
    let more : 6 - length ts ≡ suc left = omega arith in
    rw (length_push ts t, append_assoc ts (t ∷ []) (replicate left blank), more, set_at ts blank (replicate left blank) t (length ts) refl)
