use Rattle.bc_slots.proofs.Leaves.{pending_fit}
use Rattle.bc_slots.proofs.laws.keys_of_the_journal_fit.Goals as goal

pub returns : goal.returns
returns c = pending_fit
