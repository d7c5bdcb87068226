use Rattle.std.proofs.Common.{◌∙◌, w64}
use Rattle.std.proofs.lemmas.Int.{to_z-of_z}
use Rattle.forms.specs.Centred.{centre_ends}
use Rattle.forms_c.proofs.Crossed.{centre_crossed, centre_blank}
use Rattle.forms_c.proofs.centre.centre_apply.Goals as goal

pub returns : goal.returns
returns c =
    rw c.into.ensures
    (record {
      value = centre_crossed centre_ends c.apply.result ∙ (rw (to_z-of_z w64 c.args.factor_centre c.ranges.factor_centre, to_z-of_z w64 c.args.factor_radius c.ranges.factor_radius, to_z-of_z w64 c.args.centre c.ranges.centre, to_z-of_z w64 c.args.radius c.ranges.radius) at c.apply.ensures);
      blank = centre_blank c.apply.result;
    })
