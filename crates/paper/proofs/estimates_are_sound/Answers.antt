use Rattle.paper.proofs.Estimating.{estimated_sound}
use Rattle.paper.proofs.estimates_are_sound.Goals as goal

pub returns : goal.returns
returns c = estimated_sound
