use Rattle.bc_record.proofs.Found.{found_in_bytes}
use Rattle.bc_jset.specs.Records.{entry_kind}
use Rattle.bc_jset.proofs.Records.{entry_codec}
use Rattle.bc_jset.proofs.laws.found_is_spelled.Goals as goal

pub returns : goal.returns
returns c = λ g. found_in_bytes (entry_kind g) (entry_codec g)
