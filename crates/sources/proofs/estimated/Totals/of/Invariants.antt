use Rattle.std.proofs.Common.{◌≡◌, ◌-◌}
use Rattle.paper.specs.Sources.{first_of, rising, row_cause, rows_cause, seen}
use Rattle.book.specs.Stored.{book_of}
use Rattle.sources.specs.Estimates.{HasQuotient, totals_through}
use Rattle.sources.proofs.estimated.Totals.of.Given as goal

-- the first cause among the rows left is the first of all
abbrev pub invariant-loop-row : goal.invariant-loop-row
invariant-loop-row l =
    let q = l.question in
    let b = book_of q.book.now in
    record {
      totals : l.so_far ≡ totals_through b q.property q.column l.row;
      kept : HasQuotient l.so_far;
      left : first_of (row_cause b q.property q.column) (rising l.row (seen b q.column - l.row)) ≡ rows_cause b q.property q.column;
    }
