use Rattle.bc_keys.proofs.KeyLists.{one_list, never_both, one_fault}
use Rattle.bc_keys.proofs.Deciders.{keys_are_or_not}
use Rattle.bc_keys.proofs.laws.one_reading.Goals as goal

pub returns-clause-one_list : goal.returns-clause-one_list
returns-clause-one_list c = one_list

pub returns-clause-never_both : goal.returns-clause-never_both
returns-clause-never_both c = never_both

pub returns-clause-one_fault : goal.returns-clause-one_fault
returns-clause-one_fault c = one_fault

pub returns-clause-either : goal.returns-clause-either
returns-clause-either c = keys_are_or_not
