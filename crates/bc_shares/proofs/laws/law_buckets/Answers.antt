use Rattle.bc_shares.proofs.Law.{law_buckets}
use Rattle.bc_shares.proofs.laws.law_buckets.Goals as goal

pub returns : goal.returns
returns c = law_buckets
