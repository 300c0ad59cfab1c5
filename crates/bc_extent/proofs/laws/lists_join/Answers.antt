use Rattle.bc_extent.proofs.Looks.{last_key-append}
use Rattle.bc_extent.proofs.laws.lists_join.Goals as goal

pub returns : goal.returns
returns c = last_key-append
