use Rattle.bc_record.proofs.Found.{run_goes_on}
use Rattle.bc_set.specs.Records.{set_kind}
use Rattle.bc_set.proofs.Records.{set_codec}
use Rattle.bc_set.proofs.laws.sets_go_on.Goals as goal

pub returns : goal.returns
returns c = λ g start kind. run_goes_on (set_kind g start kind) (set_codec g start kind)
