use Rattle.bc_jset.proofs.EntryLaws.{one_entry, never_both, one_cause}
use Rattle.bc_jset.proofs.Deciders.{entry_or_none}
use Rattle.bc_jset.proofs.laws.one_reading.Goals as goal

pub returns-clause-one_entry : goal.returns-clause-one_entry
returns-clause-one_entry c = one_entry

pub returns-clause-never_both : goal.returns-clause-never_both
returns-clause-never_both c = never_both

pub returns-clause-one_cause : goal.returns-clause-one_cause
returns-clause-one_cause c = one_cause

pub returns-clause-either : goal.returns-clause-either
returns-clause-either c = entry_or_none
