use Rattle.bc_whole.proofs.Torn.{teeth_drop}
use Rattle.bc_whole.proofs.teeth.law_teeth_drop.Goals as goal

pub returns : goal.returns
returns c = teeth_drop
