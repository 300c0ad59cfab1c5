use Rattle.bc_drafts.proofs.Staying.{law_drafts}
use Rattle.bc_drafts.proofs.laws.law_drafts.Goals as goal

pub returns : goal.returns
returns c = law_drafts
