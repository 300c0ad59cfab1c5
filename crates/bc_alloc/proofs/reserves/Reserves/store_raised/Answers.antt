use Rattle.std.proofs.Common.{◌+◌, sym, subst, ap, ◌∙◌, arith}
use Rattle.bc_bucket.specs.Bucket.{made_durable}
use Rattle.bc_bucket.specs.Buckets.{Buckets, changed}
use Rattle.bc_alloc.specs.Buckets.{unmarked}
use Rattle.bc_alloc.proofs.Fits.{changed_twice}
use Rattle.bc_alloc.proofs.Loops.{Stored, stored_one_more}
use Rattle.bc_alloc.proofs.reserves.Reserves.store_raised.Goals as goal

pub loop-i-preserved : goal.loop-i-preserved
loop-i-preserved c =
    let both = c.mark.ensures ∙ ap (λ (d : Buckets). changed unmarked c.pop_raised-bucket.result d) c.make_durable.ensures ∙ changed_twice made_durable unmarked c.pop_raised-bucket.result c.loop-i.b (let f = c.loop-i.invariant.fit.same_count in let below = c.pop_raised-bucket.ensures.below in omega arith) in
    subst (λ (d : Buckets). Stored c.args.self.now c.args.b.now (c.loop-i._i + 1) c.store.new.self d) (sym both)
    (stored_one_more c.args.self.now c.args.b.now c.loop-i._i c.pop_raised-bucket.result c.loop-i.self c.loop-i.b c.pop_raised-bucket.new.self c.store.new.self (let n = c.requires.named in let lt = c.loop-i-test.true in omega arith) c.loop-i.invariant
    c.pop_raised-bucket.ensures.first c.pop_raised-bucket.ensures.others c.pop_raised-bucket.ensures.times c.store.ensures.lists c.store.ensures.times)
