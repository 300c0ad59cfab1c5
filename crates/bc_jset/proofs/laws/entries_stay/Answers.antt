use Rattle.bc_jset.proofs.Entries.{entries_stay}
use Rattle.bc_jset.proofs.laws.entries_stay.Goals as goal

pub returns : goal.returns
returns c = entries_stay
