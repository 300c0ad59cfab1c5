use Rattle.bc_held.proofs.Keeping.{law_held_kept}
use Rattle.bc_held.proofs.laws.law_itself.Goals as goal

pub returns : goal.returns
returns c = law_held_kept
