use Rattle.std.proofs.Common.{◌+◌, get_or, sym, subst, ap, arith}
use Rattle.bc_bucket.specs.Buckets.{Buckets}
use Rattle.bc_alloc.specs.Reserves.{Reserves}
use Rattle.bc_alloc.proofs.Loops.{GivenBack, given_back_more, not_before, there}
use Rattle.bc_alloc.proofs.reserves.Reserves.give_back_all.Goals as goal

pub mark-requires : goal.mark-requires
mark-requires c =
    let loose = c.requires.loose (get_or c.args.old.now c.loop-bucket.bucket-index 0) (there c.args.old.now c.loop-bucket.bucket-index (omega arith)) in
    let fit = c.loop-bucket.invariant.fit.same_count in
    let same = ap (λ (r : Reserves). r.count) c.loop-bucket.invariant.lists in
    let below = loose.0 in
    omega arith

pub give_back-requires-clause-loose : goal.give_back-requires-clause-loose
give_back-requires-clause-loose c =
    let loose = c.requires.loose (get_or c.args.old.now c.loop-bucket.bucket-index 0) (there c.args.old.now c.loop-bucket.bucket-index (omega arith)) in
    let none = loose.1 in
    let new = not_before c.args.old.now c.loop-bucket.bucket-index c.requires.distinct (omega arith) in
    let most = c.loop-bucket.invariant.listed (get_or c.args.old.now c.loop-bucket.bucket-index 0) in
    omega arith

pub loop-bucket-preserved : goal.loop-bucket-preserved
loop-bucket-preserved c =
    subst (λ (d : Buckets). GivenBack c.args.self.now c.args.b.now c.args.old.now (c.loop-bucket.bucket-index + 1) c.give_back.new.self d) (sym c.mark.ensures)
    (given_back_more c.args.self.now c.args.b.now c.args.old.now c.loop-bucket.bucket-index c.loop-bucket.self c.loop-bucket.b c.give_back.new.self c.requires.loose (omega arith) c.loop-bucket.invariant c.give_back.ensures.lists c.give_back.ensures.times)
