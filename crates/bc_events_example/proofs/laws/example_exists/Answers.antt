use Rattle.bc_events_example.proofs.Events.{has_example}
use Rattle.bc_events_example.proofs.laws.example_exists.Goals as goal

pub returns : goal.returns
returns c = has_example
