use Rattle.paper.proofs.EndsForm.{ends_lawful}
use Rattle.paper.proofs.ends_form_is_lawful.Goals as goal

pub returns : goal.returns
returns c = ends_lawful
