use Rattle.std.proofs.Common.{◌≡◌, ◌+◌, ◌≤◌, [], ◌∷◌, ◌++◌, length, set, sym, ap, ◌∙◌, subst, arith}
use Rattle.std.proofs.lemmas.List.{length_push}
use Rattle.std.proofs.lemmas.List.Elements.{All-push}
use Rattle.book.specs.Limits.{IsRuleTerm}
use Rattle.book.specs.Rule.{padded, IsHeld}
use Rattle.book.proofs.Rule.{IsHeld-padded, padded-push}
use Rattle.book.proofs.rules.Rule.push.Goals as goal

pub invariant_of-self : goal.invariant_of-self
invariant_of-self c =
    let ts = c.args.self.now in
    let held : padded ts ≡ c.self.inside = ap padded (sym c.self.view_is) ∙ c.self.invariant.filled in
    let few : length (ts ++ c.args.term ∷ []) ≤ 6 = simp length_push (omega arith) in
    let each = All-push IsRuleTerm ts c.args.term (rw c.self.view_is at c.self.invariant.each) c.requires.term in
    subst IsHeld (padded-push ts c.args.term c.requires.room ∙ ap (λ r. record { len = r.len + 1; terms = set r.terms r.len c.args.term }) held) (IsHeld-padded (ts ++ c.args.term ∷ []) few each)
