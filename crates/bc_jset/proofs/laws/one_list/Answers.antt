use Rattle.bc_jset.proofs.Entries.{one_list, count_up, stand_in_journal}
use Rattle.bc_jset.proofs.laws.one_list.Goals as goal

pub returns-clause-one : goal.returns-clause-one
returns-clause-one c = one_list

pub returns-clause-numbers : goal.returns-clause-numbers
returns-clause-numbers c = count_up

pub returns-clause-stand : goal.returns-clause-stand
returns-clause-stand c = stand_in_journal
