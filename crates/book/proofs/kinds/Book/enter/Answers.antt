use Rattle.std.proofs.Common.{◌<◌, length, arith, w64, rules}
use Rattle.std.proofs.lemmas.Grind.{common_steps}
use Rattle.std.proofs.lemmas.Int.{to_z-of_z}
use Rattle.std.proofs.lemmas.List.Elements.{All-set}
use Rattle.book.specs.Limits.{IsEntry}
use Rattle.book.specs.Stored.{cell_of, place_of}
use Rattle.book.proofs.Keyed.{Within, entered_is}
use Rattle.book.proofs.kinds.Book.enter.Goals as goal

pub invariant_of-self-clause-entries : goal.invariant_of-self-clause-entries
invariant_of-self-clause-entries c =
    let b = c.args.self.now in
    let e = to_z-of_z _ c.args.amount c.ranges.amount in
    All-set IsEntry b.amounts _ _ (rw e (grind (arith, common_steps))) b.entries

pub returns : goal.returns
returns c =
    let b = c.args.self.now in
    let cell = cell_of c.args.at in
    let room : place_of b.sizes cell < length b.amounts = omega arith in
    let within : Within b.sizes cell = record { property = omega arith; row = omega arith; column = omega arith } in
    (search rules, rw (c.row_start.ensures.0, to_z-of_z w64 _ c.ranges.amount) (entered_is b.sizes b.amounts cell c.args.amount within room b.rules.records))
