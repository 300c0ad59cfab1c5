use Rattle.bc_events.proofs.Plain.{law_plain_crash}
use Rattle.bc_events.proofs.laws.law_plain_crash.Goals as goal

pub returns : goal.returns
returns c = law_plain_crash
