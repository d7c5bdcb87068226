use Rattle.std.proofs.Common.{◌≡◌, ◌∷◌, List, ℕ, rules}
use Rattle.typed.proofs.words.Words.parse.Goals as goal

pub returns-clause-parsed : goal.returns-clause-parsed
returns-clause-parsed g c =
    let left : ◌≡◌ {A = List (List ℕ)} c.args.self.now (c.in_ok-word.word.now ∷ c.next.new.self) = search rules in
    rw left (c.parse.result, c.parse.ensures.value, search rules)
