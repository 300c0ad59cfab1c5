use Rattle.bc_cached.proofs.Seen.{law_fit}
use Rattle.bc_cached.proofs.laws.law_fit.Goals as goal

pub returns : goal.returns
returns c = law_fit
