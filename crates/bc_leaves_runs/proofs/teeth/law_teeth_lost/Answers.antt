use Rattle.bc_leaves_runs.proofs.Refused as proof
use Rattle.bc_leaves_runs.proofs.teeth.law_teeth_lost.Goals as goal

pub returns : goal.returns
returns c = proof.law_teeth_lost
