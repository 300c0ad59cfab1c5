use Rattle.bc_uuid.proofs.Unique.{one_table, table_stays, table_in}
use Rattle.bc_uuid.proofs.laws.one_table.Goals as goal

pub returns-clause-one : goal.returns-clause-one
returns-clause-one g c = one_table

pub returns-clause-stays : goal.returns-clause-stays
returns-clause-stays g c = table_stays

pub returns-clause-told : goal.returns-clause-told
returns-clause-told g c = λ geometry d. table_in geometry (g.D.Disk.facts d)
