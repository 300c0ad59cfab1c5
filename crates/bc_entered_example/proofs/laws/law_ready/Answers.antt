use Rattle.bc_entered_example.proofs.Ready.{law_ready}
use Rattle.bc_entered_example.proofs.laws.law_ready.Goals as goal

pub returns : goal.returns
returns c = law_ready
