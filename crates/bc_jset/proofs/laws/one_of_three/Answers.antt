use Rattle.bc_jset.proofs.Journal.{one_of_three, no_gap, no_list, never_both, one_gap}
use Rattle.bc_jset.proofs.laws.one_of_three.Goals as goal

pub returns-clause-either : goal.returns-clause-either
returns-clause-either c = one_of_three

pub returns-clause-no_gap : goal.returns-clause-no_gap
returns-clause-no_gap c = no_gap

pub returns-clause-no_list : goal.returns-clause-no_list
returns-clause-no_list c = no_list

pub returns-clause-never_both : goal.returns-clause-never_both
returns-clause-never_both c = never_both

pub returns-clause-one_gap : goal.returns-clause-one_gap
returns-clause-one_gap c = one_gap
