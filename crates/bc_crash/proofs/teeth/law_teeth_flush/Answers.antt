use Rattle.bc_crash.proofs.Broken.{law_teeth_flush}
use Rattle.bc_crash.proofs.teeth.law_teeth_flush.Goals as goal

pub returns : goal.returns
returns c = law_teeth_flush
