use Rattle.bc_replay.proofs.First.{no_first}
use Rattle.bc_replay.proofs.Once.{one_refusal as only_one}
use Rattle.bc_replay.proofs.laws.one_refusal.Goals as goal

pub returns-clause-one : goal.returns-clause-one
returns-clause-one c = only_one

pub returns-clause-never_both : goal.returns-clause-never_both
returns-clause-never_both c = no_first
