use Rattle.bc_chosen.proofs.Slots.{law_slots}
use Rattle.bc_chosen.proofs.laws.law_slots.Goals as goal

pub returns : goal.returns
returns c = law_slots
