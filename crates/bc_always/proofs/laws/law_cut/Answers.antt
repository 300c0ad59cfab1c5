use Rattle.bc_always.proofs.Entries.{law_cut}
use Rattle.bc_always.proofs.laws.law_cut.Goals as goal

pub returns : goal.returns
returns c = law_cut
