use Rattle.std.proofs.Common.{false, length, get_or, refl, ap, ◌∙◌, arith}
use Rattle.bc_alloc.proofs.Fits.{same_length}
use Rattle.bc_alloc.proofs.Loops.{there}
use Rattle.bc_bucket.specs.Bucket.{with_held}
use Rattle.bc_bucket.specs.Buckets.{Buckets}
use Rattle.bc_ready.proofs.Fitting.{chained_more, next_held}
use Rattle.bc_ready.proofs.go.let_go_all.Goals as goal

pub let_go-requires-clause-bucket : goal.let_go-requires-clause-bucket
let_go-requires-clause-bucket c = (next_held c.args.new.now c.loop-bucket.bucket-index
    c.args.buckets.now c.loop-bucket.buckets c.requires.distinct c.loop-bucket-test.true
    c.loop-bucket.invariant c.requires.each
    (there c.args.new.now c.loop-bucket.bucket-index c.loop-bucket-test.true)).0

pub let_go-requires-clause-held : goal.let_go-requires-clause-held
let_go-requires-clause-held c = (next_held c.args.new.now c.loop-bucket.bucket-index
    c.args.buckets.now c.loop-bucket.buckets c.requires.distinct c.loop-bucket-test.true
    c.loop-bucket.invariant c.requires.each
    (there c.args.new.now c.loop-bucket.bucket-index c.loop-bucket-test.true)).1

pub loop-bucket-preserved : goal.loop-bucket-preserved
loop-bucket-preserved c = chained_more c.args.new.now c.loop-bucket.bucket-index
    (get_or c.args.new.now c.loop-bucket.bucket-index 0) c.args.buckets.now c.loop-bucket.buckets
    c.let_go.new.self c.mark.new.self c.loop-bucket-test.true refl
    (next_held c.args.new.now c.loop-bucket.bucket-index c.args.buckets.now c.loop-bucket.buckets
    c.requires.distinct c.loop-bucket-test.true c.loop-bucket.invariant c.requires.each
    (there c.args.new.now c.loop-bucket.bucket-index c.loop-bucket-test.true)).0
    c.loop-bucket.invariant c.let_go.ensures c.mark.ensures

pub mark-requires : goal.mark-requires
mark-requires c =
    let n = get_or c.args.new.now c.loop-bucket.bucket-index 0 in
    let held = next_held c.args.new.now c.loop-bucket.bucket-index
    c.args.buckets.now c.loop-bucket.buckets c.requires.distinct c.loop-bucket-test.true
    c.loop-bucket.invariant c.requires.each
    (there c.args.new.now c.loop-bucket.bucket-index c.loop-bucket-test.true) in
    let low = held.0 in
    let same = ap (λ (b : Buckets). length b.records) c.let_go.ensures
    ∙ same_length (with_held false) n c.loop-bucket.buckets in omega (arith, low, same)
