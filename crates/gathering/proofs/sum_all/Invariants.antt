use Rattle.std.proofs.Common.{◌≡◌, map, drop}
use Rattle.paper.specs.Sums.{sum_of_ends}
use Rattle.forms.specs.Told.{ceiled}
use Rattle.gathering.specs.Sheet.{folded, summed}
use Rattle.gathering.proofs.sum_all.Given as goal

-- what is left to add, from the sum so far, gives the whole answer
abbrev pub invariant-loop-cell : goal.invariant-loop-cell
invariant-loop-cell g l =
    let ends = g.F.SummingForm.ends in
    folded (λ a x. ceiled (sum_of_ends a x)) (ends l.sum) (map ends (drop l.cell-index l.cells)) ≡ summed (map ends l.cells)
