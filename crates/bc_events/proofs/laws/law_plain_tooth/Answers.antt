use Rattle.bc_events.proofs.Example.{law_plain_tooth}
use Rattle.bc_events.proofs.laws.law_plain_tooth.Goals as goal

pub returns : goal.returns
returns c = law_plain_tooth
