use Rattle.bc_sealing.proofs.Stage.{law_stage}
use Rattle.bc_sealing.proofs.laws.law_stage.Goals as goal

pub returns : goal.returns
returns c = law_stage
