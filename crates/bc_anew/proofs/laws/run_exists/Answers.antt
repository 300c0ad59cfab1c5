use Rattle.bc_anew.proofs.Law.{has_run}
use Rattle.bc_anew.proofs.laws.run_exists.Goals as goal

pub returns : goal.returns
returns c = has_run
