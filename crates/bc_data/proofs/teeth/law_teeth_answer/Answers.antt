use Rattle.bc_data.proofs.Broken.{law_teeth_answer}
use Rattle.bc_data.proofs.teeth.law_teeth_answer.Goals as goal

pub returns : goal.returns
returns c = law_teeth_answer
