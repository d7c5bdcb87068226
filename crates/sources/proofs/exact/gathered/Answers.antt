use Rattle.std.proofs.Common.{◌<◌, ◌≤◌, [], length, ap, ◌∙◌, arith}
use Rattle.std.proofs.lemmas.List.{get_or_default}
use Rattle.book.specs.Grounds.{placed}
use Rattle.book.specs.Stored.{cells}
use Rattle.sources.proofs.Rows.{book_exact, read_exact}
use Rattle.sources.proofs.exact.gathered.Goals as goal

pub returns-clause-value : goal.returns-clause-value
returns-clause-value c =
    let b = c.args.book.now in
    let p = c.args.place in
    let here : p.property < length b.rules.records = omega arith in
    let rule = get_or_default b.rules.records p.property c.index-book-place.result [] here in
    let room : cells b.sizes ≤ length b.amounts = rw (c.from.ensures.0, c.from.ensures.1) at c.from.result.room in
    read_exact p.property p.row p.column c.read_at.result _ _
    (c.read_at.ensures.value ∙ ap (placed p) ((rw (c.from.ensures.0, c.from.ensures.1, rule) at c.exposure-sum.ensures) ∙ book_exact b p.property p.row p.column here c.requires.1 c.requires.2 room))
