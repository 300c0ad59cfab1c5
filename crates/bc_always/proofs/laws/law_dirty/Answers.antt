use Rattle.bc_always.proofs.Raise.{law_dirty}
use Rattle.bc_always.proofs.laws.law_dirty.Goals as goal

pub returns : goal.returns
returns c = law_dirty
