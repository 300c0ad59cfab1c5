use Rattle.bc_bucket.specs.Bucket.{aged}
use Rattle.bc_bucket.proofs.Each.{UpTo}
use Rattle.bc_bucket.proofs.buckets.Buckets.age.Given as goal

abbrev pub invariant-loop-k : goal.invariant-loop-k
invariant-loop-k l = UpTo (aged l.fn.self.data_from) l.k l.fn.self.records l.bucket-items
