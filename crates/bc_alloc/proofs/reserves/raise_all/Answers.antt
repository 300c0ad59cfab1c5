use Rattle.std.proofs.Common.{get_or, sym, subst, arith}
use Rattle.bc_bucket.specs.declared.bucket.Bucket.{Bucket}
use Rattle.bc_bucket.specs.Bucket.{IsReclaimable}
use Rattle.bc_alloc.proofs.Loops.{not_before, there}
use Rattle.bc_alloc.proofs.Raising.{one_raised}
use Rattle.bc_alloc.proofs.reserves.raise_all.Goals as goal

pub raise-requires-clause-bucket : goal.raise-requires-clause-bucket
raise-requires-clause-bucket c =
    let o = c.requires.candidates (get_or c.args.chosen.now c.loop-bucket.bucket-index 0) (there c.args.chosen.now c.loop-bucket.bucket-index (omega arith)) in
    let lt = o.there in
    let same = c.loop-bucket.invariant.same_count in
    omega arith

pub raise-requires-clause-reclaimable : goal.raise-requires-clause-reclaimable
raise-requires-clause-reclaimable c =
    let o = c.requires.candidates (get_or c.args.chosen.now c.loop-bucket.bucket-index 0) (there c.args.chosen.now c.loop-bucket.bucket-index (omega arith)) in
    let new = not_before c.args.chosen.now c.loop-bucket.bucket-index c.requires.distinct (omega arith) in
    subst (λ (b : Bucket). IsReclaimable b) (sym (c.loop-bucket.invariant.others (get_or c.args.chosen.now c.loop-bucket.bucket-index 0) new)) o.reclaimable

pub loop-bucket-preserved : goal.loop-bucket-preserved
loop-bucket-preserved c =
    let flags = c.requires.flags in
    let same = c.loop-bucket.invariant.same_count in
    let kept = c.loop-bucket.auto.listed in
    one_raised c.args.list.now c.args.listed.now c.args.b.now c.args.chosen.now c.loop-bucket.bucket-index c.loop-bucket.list c.loop-bucket.listed c.loop-bucket.b c.push.new.self c.raise.new.self c.requires.distinct c.requires.candidates (omega arith) (omega arith) c.loop-bucket.invariant c.push.ensures c.raise.ensures.raised
