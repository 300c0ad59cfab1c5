use Rattle.std.proofs.Common.{drop}
use Rattle.bc_change.specs.bc_machine.declared.part.BucketsPart.{BucketsPart}
use Rattle.bc_install.specs.Buckets.{HaveUnmade}
use Rattle.bc_install.proofs.buckets.unmake_nodes.Given as goal

-- what was made of the rest is made of all
abbrev pub invariant-loop-bucket : goal.invariant-loop-bucket
invariant-loop-bucket l = (q : BucketsPart)
    → HaveUnmade l.first (drop l.bucket-index l.buckets) l.part q
    → HaveUnmade l.first l.buckets l.initial.part q
