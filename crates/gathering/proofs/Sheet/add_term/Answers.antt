use Rattle.std.proofs.Common.{◌≡◌, map, arith, w64, SFits, rules}
use Rattle.std.proofs.lemmas.Result.{err_from_is_err_and}
use Rattle.std.proofs.lemmas.Int.{to_z-of_z}
use Rattle.std.proofs.lemmas.Grind.{common_steps}
use Rattle.paper.specs.Sums.{sum_of_ends}
use Rattle.forms.specs.Told.{told, next, ceiled}
use Rattle.book.specs.Stored.{term_of}
use Rattle.gathering.specs.Sheet.{on_sheet, plus_term}
use Rattle.gathering.proofs.Rows.{row_read, row_summed}
use Rattle.gathering.proofs.Sheet.add_term.Goals as goal
use Rattle.gathering.proofs.Sheet.add_term.Goals.{After-times, in-0+in_ok-read-in-0, in-1, in-2}

-- the multiple is that of the term, whichever its reach
multiplied : (g : _) (c : After-times g) →
    let ends = g.F.SummingForm.ends in
    plus_term (on_sheet c.args.self.now.sizes (map ends c.args.self.now.amounts.now)) c.args.row c.args.column (ends c.args.sum) (term_of c.args.term.now)
    ≡ next (told ends c.times.result) (λ b. ceiled (sum_of_ends (ends c.args.sum) b))
multiplied g c =
    let fits : SFits w64 c.args.term.now.coefficient = search rules in
    rw (c.times.ensures, to_z-of_z w64 c.args.term.now.coefficient fits) (elim c.match-term.branch [
      | in-0+in_ok-read-in-0 w ↦ grind (arith, common_steps, row_summed)
      | in-1 w ↦ grind (arith, common_steps, row_read)
      | in-2 w ↦ grind (arith, common_steps, row_read)
    ])

pub returns-in_err-read-in-0 : goal.returns-in_err-read-in-0
returns-in_err-read-in-0 g c = grind (arith, common_steps, row_summed)

pub returns-in_err-part : goal.returns-in_err-part
returns-in_err-part g c =
    let p = err_from_is_err_and c.from_residual-in_err-part.result c.from_residual-in_err-part.ensures.1 in
    rw (p.1, p.2, multiplied g (goal.at.returns-in_err-part g c).After-times, c.in_err-part.was)

pub returns : goal.returns
returns g c = rw (multiplied g (goal.at.returns g c).After-times, c.in_ok-part.was) c.plus.ensures
