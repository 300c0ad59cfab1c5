use Rattle.bc_begun.proofs.Spine.{law_spine}
use Rattle.bc_begun.proofs.laws.law_spine.Goals as goal

pub returns : goal.returns
returns c = law_spine
