use Rattle.bc_begun.proofs.Buckets.{law_buckets}
use Rattle.bc_begun.proofs.laws.law_buckets.Goals as goal

pub returns : goal.returns
returns c = law_buckets
