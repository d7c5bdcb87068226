use Rattle.std.proofs.Common.{sym, ◌∙◌}
use Rattle.forms.proofs.Centring.{ends_read_around, size_of_ceiling}
use Rattle.forms.proofs.centre.Centred.ends.Goals as goal

pub returns : goal.returns
returns g c = c.read-c.ensures.ends ∙ sym (ends_read_around _ _ _ (size_of_ceiling _ c.requires) c.read-c.ensures.size)
