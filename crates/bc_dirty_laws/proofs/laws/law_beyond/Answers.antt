use Rattle.bc_dirty_laws.proofs.Law.{law_beyond}
use Rattle.bc_dirty_laws.proofs.laws.law_beyond.Goals as goal

pub returns : goal.returns
returns c = law_beyond
