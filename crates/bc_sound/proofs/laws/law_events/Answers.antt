use Rattle.bc_sound.proofs.Events.{law_events}
use Rattle.bc_sound.proofs.laws.law_events.Goals as goal

pub returns : goal.returns
returns c = law_events
