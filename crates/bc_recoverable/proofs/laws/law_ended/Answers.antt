use Rattle.bc_recoverable.proofs.Ended.{law_ended}
use Rattle.bc_recoverable.proofs.laws.law_ended.Goals as goal

pub returns : goal.returns
returns c = law_ended
