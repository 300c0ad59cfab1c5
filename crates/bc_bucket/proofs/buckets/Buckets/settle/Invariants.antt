use Rattle.bc_bucket.specs.Buckets.{settled_at}
use Rattle.bc_bucket.proofs.Each.{UpTo}
use Rattle.bc_bucket.proofs.buckets.Buckets.settle.Given as goal

abbrev pub invariant-loop-k : goal.invariant-loop-k
invariant-loop-k l = UpTo (settled_at l.fn.self.touched l.fn.walk) l.k l.fn.self.records l.bucket-items
