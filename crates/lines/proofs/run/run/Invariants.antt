use Rattle.lines.specs.Line.{paper_of, reading}
use Rattle.lines.proofs.Lines.{RanSoFar}
use Rattle.lines.proofs.run.run.Given as goal

abbrev pub invariant-loop-j : goal.invariant-loop-j
invariant-loop-j g l =
    let R = reading (g.S.FactorSource.means l.source) (g.S.FactorSource.depth l.source) g.F.ProjectingForm.form in
    RanSoFar R (paper_of l.initial.book) (paper_of l.book) l.calls l.initial.outcomes l.outcomes l.j
