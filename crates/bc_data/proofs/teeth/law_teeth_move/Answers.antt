use Rattle.bc_data.proofs.Broken.{law_teeth_move}
use Rattle.bc_data.proofs.teeth.law_teeth_move.Goals as goal

pub returns : goal.returns
returns c = law_teeth_move
