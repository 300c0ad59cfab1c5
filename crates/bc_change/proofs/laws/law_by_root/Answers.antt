use Rattle.bc_change.proofs.Going.{law_by_root}
use Rattle.bc_change.proofs.laws.law_by_root.Goals as goal

pub returns : goal.returns
returns c = law_by_root
