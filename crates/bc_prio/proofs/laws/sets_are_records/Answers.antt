use Rattle.bc_prio.proofs.RecordKind.{set_is_read}
use Rattle.bc_prio.proofs.laws.sets_are_records.Goals as goal

pub returns : goal.returns
returns c = set_is_read
