use Rattle.paper.proofs.Layering.{layered_sound}
use Rattle.paper.proofs.layers_are_sound.Goals as goal

pub returns : goal.returns
returns c = layered_sound
