use Rattle.bc_journal.proofs.Left.{read_now}
use Rattle.bc_jset.proofs.Journal.{stand_exists}
use Rattle.bc_journal.proofs.laws.entries_are_read.Goals as goal

pub returns : goal.returns
returns c = λ ring durable image es holds. let stand = stand_exists ring.geometry image ring.geometry.journal in read_now ring durable image es stand.0 holds stand.1
