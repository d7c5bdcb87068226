use Rattle.std.proofs.Common.{◌≡◌, map, drop}
use Rattle.paper.specs.Sums.{nothing}
use Rattle.paper.specs.Books.{with_terms}
use Rattle.forms.specs.Told.{evaluated}
use Rattle.book.specs.Stored.{term_of, terms_of}
use Rattle.gathering.specs.Sheet.{folded, on_sheet, plus_term}
use Rattle.gathering.proofs.Sheet.exposure.Given as goal

-- what is left to add, from the sum so far, gives the whole answer
abbrev pub invariant-loop-term : goal.invariant-loop-term
invariant-loop-term g l =
    let ends = g.F.SummingForm.ends in
    let cell = on_sheet l.self.sizes (map ends l.self.amounts.now) in
    folded (plus_term cell l.row l.column) (ends l.sum) (map term_of (drop l.term-index l.term-items))
    ≡ evaluated cell (with_terms l.row l.column nothing (terms_of l.rule))
