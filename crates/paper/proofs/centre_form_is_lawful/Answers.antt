use Rattle.paper.proofs.CentreForm.{centre_lawful}
use Rattle.paper.proofs.centre_form_is_lawful.Goals as goal

pub returns : goal.returns
returns c = centre_lawful
