use Rattle.bc_set.proofs.Records.{none_in_blank}
use Rattle.bc_set.proofs.laws.zeros_are_no_set.Goals as goal

pub returns : goal.returns
returns c = none_in_blank
