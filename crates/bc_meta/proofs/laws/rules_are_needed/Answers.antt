use Rattle.bc_meta.proofs.Teeth as teeth
use Rattle.bc_meta.proofs.laws.rules_are_needed.Goals as goal

pub returns-clause-barrier : goal.returns-clause-barrier
returns-clause-barrier c = teeth.needs_barrier

pub returns-clause-ready : goal.returns-clause-ready
returns-clause-ready c = teeth.needs_ready

pub returns-clause-zeros : goal.returns-clause-zeros
returns-clause-zeros c = teeth.needs_zeros
