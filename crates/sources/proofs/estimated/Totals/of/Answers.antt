use Rattle.std.proofs.Common.{◌+◌, ◌-◌}
use Rattle.std.proofs.lemmas.Result.{err_from_is_err_and}
use Rattle.paper.specs.Sources.{first_of, rising, row_cause, seen}
use Rattle.book.specs.Stored.{book_of}
use Rattle.sources.specs.Estimates.{totals_through}
use Rattle.sources.proofs.Rows.{ok_is, or_cause, rising_more}
use Rattle.sources.proofs.estimated.Totals.of.Goals as goal

pub returns-in_err-so_far-clause-value : goal.returns-in_err-so_far-clause-value
returns-in_err-so_far-clause-value c =
    let q = c.args.question.now in
    let b = book_of q.book.now in
    let i = c.loop-row.row in
    let n = seen b q.column in
    let p = err_from_is_err_and c.from_residual.result c.from_residual.ensures.1 in
    let left = rw (rising_more i n c.loop-row-test.true) at c.loop-row.invariant.left in
    rw (p.1, p.2, ← left)
    (or_cause q.property q.column (row_cause b q.property q.column i) (first_of (row_cause b q.property q.column) (rising (i + 1) (n - (i + 1)))) c.in_err-so_far.field-0.0 _
    (totals_through b q.property q.column n) c.in_err-so_far.ensures.value)

pub loop-row-preserved : goal.loop-row-preserved
loop-row-preserved c =
    let q = c.args.question.now in
    let b = book_of q.book.now in
    let i = c.loop-row.row in
    let known = ok_is q.property q.column (row_cause b q.property q.column i) _ c.in_ok-so_far.so_far c.in_ok-so_far.ensures.value in
    record {
      totals = known.1;
      kept = c.in_ok-so_far.ensures.kept;
      left = rw (rising_more i (seen b q.column) c.loop-row-test.true, known.0) at c.loop-row.invariant.left;
    }
