use Rattle.bc_known.proofs.Next.{law_next}
use Rattle.bc_known.proofs.laws.law_next.Goals as goal

pub returns : goal.returns
returns c = law_next
