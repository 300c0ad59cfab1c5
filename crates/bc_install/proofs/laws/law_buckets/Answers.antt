use Rattle.bc_install.proofs.Bucketed.{law_buckets}
use Rattle.bc_install.proofs.laws.law_buckets.Goals as goal

pub returns : goal.returns
returns c = law_buckets
