use Rattle.bc_opening_runs.proofs.Law.{law_old_keys}
use Rattle.bc_opening_runs.proofs.laws.law_old_keys.Goals as goal

pub returns : goal.returns
returns c = law_old_keys
