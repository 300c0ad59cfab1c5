use Rattle.bc_leaves_runs.proofs.Refused as proof
use Rattle.bc_leaves_runs.proofs.teeth.law_teeth_root.Goals as goal

pub returns : goal.returns
returns c = proof.law_teeth_root
