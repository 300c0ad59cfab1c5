use Rattle.bc_opening_runs.proofs.Law.{law_shown}
use Rattle.bc_opening_runs.proofs.laws.law_shown.Goals as goal

pub returns : goal.returns
returns c = law_shown
