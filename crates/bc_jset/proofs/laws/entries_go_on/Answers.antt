use Rattle.bc_record.proofs.Found.{run_goes_on}
use Rattle.bc_jset.specs.Records.{entry_kind}
use Rattle.bc_jset.proofs.Records.{entry_codec}
use Rattle.bc_jset.proofs.laws.entries_go_on.Goals as goal

pub returns : goal.returns
returns c = λ g. run_goes_on (entry_kind g) (entry_codec g)
