use Rattle.bc_whole.proofs.Torn.{teeth_let_go}
use Rattle.bc_whole.proofs.teeth.law_teeth_let_go.Goals as goal

pub returns : goal.returns
returns c = teeth_let_go
