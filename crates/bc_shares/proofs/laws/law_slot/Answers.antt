use Rattle.bc_shares.proofs.Law.{law_slot}
use Rattle.bc_shares.proofs.laws.law_slot.Goals as goal

pub returns : goal.returns
returns c = law_slot
