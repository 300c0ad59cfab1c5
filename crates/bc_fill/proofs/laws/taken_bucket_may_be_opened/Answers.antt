use Rattle.bc_fill.proofs.Taken.{still_open}
use Rattle.bc_fill.proofs.laws.taken_bucket_may_be_opened.Goals as goal

pub returns : goal.returns
returns c = still_open
