use Rattle.std.proofs.Common.{◌≡◌, ◌<◌, length, arith, rules, w64, to_z, of_z}
use Rattle.std.proofs.lemmas.Int.{to_z-of_z}
use Rattle.sources.proofs.Choosing.{chosen_is}
use Rattle.sources.proofs.selected.Selected.set.Goals as goal

pub returns : goal.returns
returns c =
    let rows = c.args.self.now.rows in
    let here : c.args.property < length rows = omega arith in
    let back : to_z w64 (of_z w64 c.args.factor) ≡ c.args.factor = to_z-of_z w64 c.args.factor c.ranges.factor in
    (search rules, chosen_is rows c.args.property c.args.column c.args.factor _ here (rw back at c.set.ensures))
