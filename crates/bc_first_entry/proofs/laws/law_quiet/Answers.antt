use Rattle.bc_first_entry.proofs.Law.{law_quiet}
use Rattle.bc_first_entry.proofs.laws.law_quiet.Goals as goal

pub returns : goal.returns
returns c = law_quiet
