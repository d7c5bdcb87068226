use Rattle.std.proofs.Common.{◌<◌, [], ◌∷◌, ◌++◌, length, ap, ◌∙◌, arith}
use Rattle.std.proofs.lemmas.Grind.{common_steps}
use Rattle.std.proofs.lemmas.List.{length-map}
use Rattle.std.proofs.lemmas.List.Elements.{All-set, All-push, All-get_or}
use Rattle.book.specs.Limits.{ReadsWithin, rule_at}
use Rattle.book.specs.Stored.{book_from}
use Rattle.book.proofs.Keyed.{added_is}
use Rattle.book.proofs.kinds.Book.add_term.Goals as goal

pub invariant_of-self-clause-own : goal.invariant_of-self-clause-own
invariant_of-self-clause-own c =
    let b = c.args.self.now in
    let p = b.sizes.properties in
    let m = c.args.m in
    let rules = b.rules.records in
    let longer = All-push (λ t. t.property < p) (rule_at rules m) c.args.term (All-get_or (ReadsWithin p) rules m [] (omega arith) b.own) c.if-term-self.false in
    rw c.add.ensures (All-set (ReadsWithin p) rules m (rule_at rules m ++ c.args.term ∷ []) longer b.own)

pub returns : goal.returns
returns c =
    let b = c.args.self.now in
    let rules = b.rules.records in
    let here : c.args.m < length rules = omega arith in
    let few : length (rule_at rules c.args.m) < 6 = grind (arith, common_steps) in
    (grind (arith, common_steps, length-map), ap (book_from b.sizes b.amounts) c.add.ensures ∙ added_is b.sizes b.amounts rules c.args.m c.args.term here)
