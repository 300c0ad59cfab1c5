use Rattle.bc_dirty_laws.proofs.Law.{law_stays}
use Rattle.bc_dirty_laws.proofs.laws.law_stays.Goals as goal

pub returns : goal.returns
returns c = law_stays
