use Rattle.std.proofs.Common.{◌≡◌, take}
use Rattle.book.proofs.rules.Rule.of_first.Given as goal

abbrev pub invariant-loop-term : goal.invariant-loop-term
invariant-loop-term l = l.rule ≡ take l.term-index l.fn.terms
