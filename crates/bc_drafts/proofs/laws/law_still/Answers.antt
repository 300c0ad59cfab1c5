use Rattle.bc_drafts.proofs.Staying.{law_still}
use Rattle.bc_drafts.proofs.laws.law_still.Goals as goal

pub returns : goal.returns
returns c = law_still
