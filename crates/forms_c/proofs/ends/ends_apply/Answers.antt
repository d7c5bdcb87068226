use Rattle.std.proofs.Common.{◌∙◌, w64}
use Rattle.std.proofs.lemmas.Int.{to_z-of_z}
use Rattle.forms.specs.Held.{two_ends}
use Rattle.forms_c.proofs.Crossed.{ends_crossed, ends_blank}
use Rattle.forms_c.proofs.ends.ends_apply.Goals as goal

pub returns : goal.returns
returns c =
    rw c.into.ensures
    (record {
      value = ends_crossed two_ends c.apply.result ∙ (rw (to_z-of_z w64 c.args.factor_low c.ranges.factor_low, to_z-of_z w64 c.args.factor_high c.ranges.factor_high, to_z-of_z w64 c.args.low c.ranges.low, to_z-of_z w64 c.args.high c.ranges.high) at c.apply.ensures);
      blank = ends_blank c.apply.result;
    })
