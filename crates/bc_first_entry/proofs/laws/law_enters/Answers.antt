use Rattle.bc_first_entry.proofs.Law.{law_enters}
use Rattle.bc_first_entry.proofs.laws.law_enters.Goals as goal

pub returns : goal.returns
returns c = law_enters
