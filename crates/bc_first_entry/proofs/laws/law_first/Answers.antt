use Rattle.bc_first_entry.proofs.Law.{law_first}
use Rattle.bc_first_entry.proofs.laws.law_first.Goals as goal

pub returns : goal.returns
returns c = law_first
