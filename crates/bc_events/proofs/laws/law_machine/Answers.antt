use Rattle.bc_events.proofs.Machine.{law_machine}
use Rattle.bc_events.proofs.laws.law_machine.Goals as goal

pub returns : goal.returns
returns c = law_machine
