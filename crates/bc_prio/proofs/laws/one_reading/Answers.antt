use Rattle.bc_prio.proofs.Refused.{never_both, one_cause}
use Rattle.bc_prio.proofs.laws.one_reading.Goals as goal

pub returns-clause-never_both : goal.returns-clause-never_both
returns-clause-never_both c = never_both

pub returns-clause-one_cause : goal.returns-clause-one_cause
returns-clause-one_cause c = one_cause
