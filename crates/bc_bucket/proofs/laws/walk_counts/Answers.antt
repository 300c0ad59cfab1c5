use Rattle.bc_bucket.proofs.Meanings.{nothing_found, one_more_found}
use Rattle.bc_bucket.proofs.laws.walk_counts.Goals as goal

pub returns-clause-none : goal.returns-clause-none
returns-clause-none c = nothing_found

pub returns-clause-more : goal.returns-clause-more
returns-clause-more c = one_more_found
