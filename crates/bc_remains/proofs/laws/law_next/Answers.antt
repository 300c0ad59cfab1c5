use Rattle.bc_remains.proofs.Next as next
use Rattle.bc_remains.proofs.laws.law_next.Goals as goal

pub returns : goal.returns
returns c = next.law_next
