use Rattle.bc_dirty_laws.proofs.Law.{law_inside}
use Rattle.bc_dirty_laws.proofs.laws.law_inside.Goals as goal

pub returns : goal.returns
returns c = law_inside
