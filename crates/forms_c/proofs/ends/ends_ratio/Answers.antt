use Rattle.std.proofs.Common.{◌≡◌, ◌∙◌, ap, rules}
use Rattle.std.specs.Prelude.{option_map}
use Rattle.forms.specs.Held.{factor_ends}
use Rattle.forms_c.proofs.Crossed.{ends_crossed}
use Rattle.forms_c.specs.Answered.{ratio_of}
use Rattle.paper.specs.EndsForm.{ends_form}
use Rattle.forms_c.proofs.ends.ends_ratio.Goals as goal

pub returns-clause-value : goal.returns-clause-value
returns-clause-value c =
    let means : option_map factor_ends c.ok.result ≡ ratio_of ends_form c.args.p c.args.q = search rules in
    rw c.into-2.ensures (ends_crossed factor_ends c.ok.result ∙ means)
