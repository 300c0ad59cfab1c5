use Rattle.bc_facts.proofs.Written as written
use Rattle.bc_facts.proofs.laws.law_written.Goals as goal

pub returns-clause-entries : goal.returns-clause-entries
returns-clause-entries c = written.entry_written

pub returns-clause-sets : goal.returns-clause-sets
returns-clause-sets c = written.set_written

pub returns-clause-first : goal.returns-clause-first
returns-clause-first c = written.first_written

pub returns-clause-prios : goal.returns-clause-prios
returns-clause-prios c = written.prio_written
