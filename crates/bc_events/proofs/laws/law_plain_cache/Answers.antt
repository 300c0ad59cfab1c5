use Rattle.bc_events.proofs.Plain.{law_plain_cache}
use Rattle.bc_events.proofs.laws.law_plain_cache.Goals as goal

pub returns : goal.returns
returns c = law_plain_cache
