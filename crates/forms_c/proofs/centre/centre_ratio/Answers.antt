use Rattle.std.proofs.Common.{◌≡◌, ◌∙◌, ap, rules}
use Rattle.std.specs.Prelude.{option_map}
use Rattle.forms.specs.Centred.{factor_centre_ends}
use Rattle.forms_c.proofs.Crossed.{centre_crossed}
use Rattle.forms_c.specs.Answered.{ratio_of}
use Rattle.paper.specs.CentreForm.{centre_form}
use Rattle.forms_c.proofs.centre.centre_ratio.Goals as goal

pub returns-clause-value : goal.returns-clause-value
returns-clause-value c =
    let means : option_map factor_centre_ends c.ok.result ≡ ratio_of centre_form c.args.p c.args.q = search rules in
    rw c.into-2.ensures (centre_crossed factor_centre_ends c.ok.result ∙ means)
