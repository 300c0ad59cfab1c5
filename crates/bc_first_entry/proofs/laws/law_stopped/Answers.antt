use Rattle.bc_first_entry.proofs.Law.{law_stopped}
use Rattle.bc_first_entry.proofs.laws.law_stopped.Goals as goal

pub returns : goal.returns
returns c = law_stopped
