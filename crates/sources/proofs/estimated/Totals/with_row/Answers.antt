use Rattle.std.proofs.Common.{◌≡◌, ◌+◌, ◌≤◌, pos, ◌+ℤ◌, ◌<ℤ◌, arith, w64, to_z, of_z, rules}
use Rattle.std.proofs.lemmas.Result.{err_from_is_err_and}
use Rattle.std.proofs.lemmas.Int.{ints, to_z-of_z}
use Rattle.paper.specs.Sources.{row_cause, next_amount}
use Rattle.forms.specs.Told.{told}
use Rattle.book.specs.Stored.{book_of}
use Rattle.sources.specs.Estimates.{totals_through, unless_cause}
use Rattle.sources.proofs.Rows.{ok_is, with_exposures, row_read, totals_known}
use Rattle.sources.proofs.estimated.Totals.with_row.Goals as goal
use Rattle.sources.proofs.estimated.Totals.with_row.Goals.{After-read_at}

-- the totals with the row, by what was read
totals_read : (c : After-read_at) → let q = c.args.question.now in let b = book_of q.book.now in
    told (with_exposures (c.args.self.amounts +ℤ next_amount b q.property q.column c.args.row)) c.read_at.result
    ≡ unless_cause q.property q.column (row_cause b q.property q.column c.args.row) (totals_through b q.property q.column (c.args.row + 1))
totals_read c =
    let q = c.args.question.now in
    let exposure = c.in_ok-exposure.exposure in
    let back : to_z w64 (of_z w64 exposure) ≡ exposure = to_z-of_z w64 exposure (search rules) in
    let above : pos 0 <ℤ exposure = grind (arith, ints, c.in_ok-not_negative.ensures) in
    row_read (book_of q.book.now) q.property q.column c.args.row exposure c.in_ok-exposure.ensures.value above c.args.self c.requires.totals c.requires.kept.exposures
    c.in_ok-exposure.ensures.amount c.plus.result (cc) c.read_at.result (cc (c.read_at.ensures.value, c.place-place.ensures))

pub returns-in_err-exposures-clause-value : goal.returns-in_err-exposures-clause-value
returns-in_err-exposures-clause-value c =
    let p = err_from_is_err_and c.from_residual-in_err-exposures.result c.from_residual-in_err-exposures.ensures.1 in
    rw (p.1, p.2) (rw c.in_err-exposures.was at (totals_read (goal.at.returns-in_err-exposures-clause-value c).After-read_at))

pub returns : goal.returns
returns c =
    let q = c.args.question.now in
    let b = book_of q.book.now in
    let a = c.args.self.amounts in
    let n = c.following.result in
    let x = c.in_ok-exposures.exposures in
    let value = rw c.in_ok-exposures.was at (totals_read (goal.at.returns c).After-read_at) in
    let few : c.args.row + 1 ≤ 16 = omega (arith, q.book.now.few_rows) in
    let known = totals_known q.book.now q.property q.column (c.args.row + 1) _ (ok_is q.property q.column (row_cause b q.property q.column c.args.row) _ _ value).1 few in
    let amounts : to_z w64 (of_z w64 (to_z w64 (of_z w64 a) +ℤ to_z w64 (of_z w64 n))) ≡ a +ℤ n =
    omega (arith, ints, c.requires.kept.amounts.low, c.requires.kept.amounts.high, c.following.ensures.entry.0, c.following.ensures.entry.1) in
    let exposures : to_z w64 (of_z w64 x) ≡ x = to_z-of_z w64 x (search rules) in
    record {
      value = cc (c.following.ensures.value);
      kept = rw (amounts, exposures, c.following.ensures.value) (record { amounts = known.0; exposures = c.in_ok-exposures.ensures.amount; not_negative = known.1 });
    }
