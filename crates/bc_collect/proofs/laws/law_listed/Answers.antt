use Rattle.bc_collect.proofs.Next.{law_listed}
use Rattle.bc_collect.proofs.laws.law_listed.Goals as goal

pub returns : goal.returns
returns c = law_listed
