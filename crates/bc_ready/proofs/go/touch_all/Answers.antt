use Rattle.std.proofs.Common.{get_or, length, ap, ◌∙◌, arith, take}
use Rattle.bc_alloc.proofs.Loops.{there}
use Rattle.bc_bucket.specs.Buckets.{Buckets}
use Rattle.bc_ready.proofs.Fitting.{touched_records}
use Rattle.bc_ready.proofs.go.touch_all.Goals as goal

pub touch-requires : goal.touch-requires
touch-requires c =
    let n = get_or c.args.new.now c.loop-bucket.bucket-index 0 in
    let below = c.requires n (there c.args.new.now c.loop-bucket.bucket-index
    c.loop-bucket-test.true) in
    let long = ap (λ (b : Buckets). length b.records) c.loop-bucket.invariant
    ∙ ap length (touched_records (take c.loop-bucket.bucket-index c.args.new.now)
    c.args.buckets.now) in omega (arith, below, long)
