use Rattle.bc_shares.proofs.Law.{law_spine}
use Rattle.bc_shares.proofs.laws.law_spine.Goals as goal

pub returns : goal.returns
returns c = law_spine
