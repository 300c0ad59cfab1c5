use Rattle.bc_always.proofs.Entries.{law_teeth_dropped}
use Rattle.bc_always.proofs.laws.law_teeth_dropped.Goals as goal

pub returns : goal.returns
returns c = law_teeth_dropped
