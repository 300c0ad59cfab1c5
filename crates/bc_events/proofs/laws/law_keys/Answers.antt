use Rattle.bc_events.proofs.Keys.{law_keys}
use Rattle.bc_events.proofs.laws.law_keys.Goals as goal

pub returns : goal.returns
returns c = law_keys
