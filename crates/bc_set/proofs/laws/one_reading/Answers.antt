use Rattle.bc_set.proofs.SetLaws.{one_set, never_both, one_cause}
use Rattle.bc_set.proofs.Deciders.{set_or_none}
use Rattle.bc_set.proofs.laws.one_reading.Goals as goal

pub returns-clause-one_set : goal.returns-clause-one_set
returns-clause-one_set c = one_set

pub returns-clause-never_both : goal.returns-clause-never_both
returns-clause-never_both c = never_both

pub returns-clause-one_cause : goal.returns-clause-one_cause
returns-clause-one_cause c = one_cause

pub returns-clause-either : goal.returns-clause-either
returns-clause-either c = set_or_none
