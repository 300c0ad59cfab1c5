use Rattle.bc_facts.proofs.Lost as lost
use Rattle.bc_facts.proofs.laws.law_nothing_lost.Goals as goal

pub returns-clause-entries : goal.returns-clause-entries
returns-clause-entries c = lost.one_entry

pub returns-clause-sets : goal.returns-clause-sets
returns-clause-sets c = lost.one_set
