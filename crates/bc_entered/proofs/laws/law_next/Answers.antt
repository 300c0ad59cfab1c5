use Rattle.bc_entered.proofs.Next.{law_next}
use Rattle.bc_entered.proofs.laws.law_next.Goals as goal

pub returns : goal.returns
returns c = law_next
