use Rattle.bc_always.proofs.Entries.{law_teeth_early}
use Rattle.bc_always.proofs.laws.law_teeth_early.Goals as goal

pub returns : goal.returns
returns c = law_teeth_early
