use Rattle.bc_entered_example.proofs.Example.{has_held}
use Rattle.bc_entered_example.proofs.laws.held_exists.Goals as goal

pub returns : goal.returns
returns c = has_held
