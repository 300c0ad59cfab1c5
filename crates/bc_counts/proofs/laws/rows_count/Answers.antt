use Rattle.bc_counts.proofs.Rows.{dirty_count, live_count}
use Rattle.bc_counts.proofs.laws.rows_count.Goals as goal

pub returns-clause-live : goal.returns-clause-live
returns-clause-live c = λ g size r rows bucket count are. live_count g r size rows are.last are.keys bucket count

pub returns-clause-dirty : goal.returns-clause-dirty
returns-clause-dirty c = λ g size r rows bucket count are. dirty_count g r size rows are.last are.keys bucket count
