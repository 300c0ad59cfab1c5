use Rattle.bc_entered_example.proofs.Example.{has_ready}
use Rattle.bc_entered_example.proofs.laws.ready_exists.Goals as goal

pub returns : goal.returns
returns c = has_ready
