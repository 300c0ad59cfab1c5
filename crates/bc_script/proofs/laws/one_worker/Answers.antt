use Rattle.bc_script.proofs.Marks.{is_served, one_by_one}
use Rattle.bc_script.proofs.laws.one_worker.Goals as goal

pub returns-clause-meets : goal.returns-clause-meets
returns-clause-meets c = is_served

pub returns-clause-only : goal.returns-clause-only
returns-clause-only c = one_by_one
