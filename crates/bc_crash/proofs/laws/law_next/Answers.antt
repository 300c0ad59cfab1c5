use Rattle.bc_crash.proofs.Next.{law_next}
use Rattle.bc_crash.proofs.laws.law_next.Goals as goal

pub returns : goal.returns
returns c = law_next
