use Rattle.bc_prio.proofs.Found.{one_next, set_stays, set_reads_back, none_in_zeros}
use Rattle.bc_prio.proofs.laws.sets_in_buckets.Goals as goal

pub returns-clause-one : goal.returns-clause-one
returns-clause-one c = one_next

pub returns-clause-stays : goal.returns-clause-stays
returns-clause-stays c = set_stays

pub returns-clause-reads_back : goal.returns-clause-reads_back
returns-clause-reads_back c = set_reads_back

pub returns-clause-zeros : goal.returns-clause-zeros
returns-clause-zeros c = none_in_zeros
