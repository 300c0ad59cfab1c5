use Rattle.bc_candidate.proofs.Dropping as known
use Rattle.bc_candidate.proofs.laws.law_kept.Goals as goal

pub returns : goal.returns
returns c = known.law_kept
