use Rattle.bc_entered_example.proofs.Torn.{law_tears}
use Rattle.bc_entered_example.proofs.laws.law_tears.Goals as goal

pub returns : goal.returns
returns c = law_tears
