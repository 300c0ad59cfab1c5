use Rattle.bc_entries.proofs.OneAnswer.{one_journal, one_cause, no_cause}
use Rattle.bc_entries.proofs.laws.one_answer.Goals as goal

pub returns-clause-journal : goal.returns-clause-journal
returns-clause-journal c = one_journal

pub returns-clause-cause : goal.returns-clause-cause
returns-clause-cause c = one_cause

pub returns-clause-never_both : goal.returns-clause-never_both
returns-clause-never_both c = no_cause
