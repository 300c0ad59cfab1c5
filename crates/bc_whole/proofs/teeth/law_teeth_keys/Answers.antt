use Rattle.bc_whole.proofs.Misread.{teeth_keys}
use Rattle.bc_whole.proofs.teeth.law_teeth_keys.Goals as goal

pub returns : goal.returns
returns c = teeth_keys
