use Rattle.bc_script.proofs.Drawn.{stays, workers_apart}
use Rattle.bc_script.proofs.laws.workers_are_apart.Goals as goal

pub returns-clause-inside : goal.returns-clause-inside
returns-clause-inside c = stays

pub returns-clause-apart : goal.returns-clause-apart
returns-clause-apart c = workers_apart
