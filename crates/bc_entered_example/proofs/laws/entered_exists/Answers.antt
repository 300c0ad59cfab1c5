use Rattle.bc_entered_example.proofs.Example.{has_entered}
use Rattle.bc_entered_example.proofs.laws.entered_exists.Goals as goal

pub returns : goal.returns
returns c = has_entered
