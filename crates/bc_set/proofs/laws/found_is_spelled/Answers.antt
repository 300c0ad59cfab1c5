use Rattle.bc_record.proofs.Found.{found_in_bytes}
use Rattle.bc_set.specs.Records.{set_kind}
use Rattle.bc_set.proofs.Records.{set_codec}
use Rattle.bc_set.proofs.laws.found_is_spelled.Goals as goal

pub returns : goal.returns
returns c = λ g start kind. found_in_bytes (set_kind g start kind) (set_codec g start kind)
