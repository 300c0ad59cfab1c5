use Rattle.bc_looks.proofs.Law.{law_slots}
use Rattle.bc_looks.proofs.laws.law_slots.Goals as goal

pub returns : goal.returns
returns c = law_slots
