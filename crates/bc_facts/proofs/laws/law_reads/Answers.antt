use Rattle.bc_facts.proofs.Told as told
use Rattle.bc_facts.proofs.laws.law_reads.Goals as goal

pub returns-clause-entries : goal.returns-clause-entries
returns-clause-entries c = told.reads_entries

pub returns-clause-sets : goal.returns-clause-sets
returns-clause-sets c = told.reads_sets

pub returns-clause-chain : goal.returns-clause-chain
returns-clause-chain c = told.reads_chain

pub returns-clause-zeros : goal.returns-clause-zeros
returns-clause-zeros c = told.reads_zeros
