use Rattle.std.proofs.Common.{◌<◌, [], replicate, pos, ap, ◌∙◌, arith, rules}
use Rattle.std.proofs.lemmas.Int.{ints}
use Rattle.std.proofs.lemmas.List.Elements.{All-replicate, All-nil}
use Rattle.book.specs.Limits.{ReadsWithin, IsEntry}
use Rattle.book.specs.Stored.{book_from}
use Rattle.book.proofs.Keyed.{opened_is}
use Rattle.book.proofs.kinds.Book.open.Goals as goal

pub invariant_of-result-clause-own : goal.invariant_of-result-clause-own
invariant_of-result-clause-own c =
    let p = c.args.sizes.properties in
    rw c.empty-rules.ensures (All-replicate (ReadsWithin p) 4 [] (All-nil (λ t. t.property < p)))

pub invariant_of-result-clause-entries : goal.invariant_of-result-clause-entries
invariant_of-result-clause-entries c = All-replicate IsEntry 768 (pos 0) (record { low = omega (arith, ints); high = omega (arith, ints) })

pub returns : goal.returns
returns c = (search rules, ap (book_from c.args.sizes (replicate 768 (pos 0))) c.empty-rules.ensures ∙ opened_is c.args.sizes)
