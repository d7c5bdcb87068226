use Rattle.paper.proofs.Layering.{selected_sound}
use Rattle.paper.proofs.selections_are_sound.Goals as goal

pub returns : goal.returns
returns c = selected_sound
