use Rattle.bc_journal.proofs.Left.{holds_stays}
use Rattle.bc_journal.proofs.laws.entries_stay.Goals as goal

pub returns : goal.returns
returns c = holds_stays
