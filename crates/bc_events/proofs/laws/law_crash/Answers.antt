use Rattle.bc_events.proofs.Machine.{law_crash}
use Rattle.bc_events.proofs.laws.law_crash.Goals as goal

pub returns : goal.returns
returns c = law_crash
