use Rattle.bc_dirty_laws.proofs.Law.{law_marked}
use Rattle.bc_dirty_laws.proofs.laws.law_marked.Goals as goal

pub returns : goal.returns
returns c = law_marked
