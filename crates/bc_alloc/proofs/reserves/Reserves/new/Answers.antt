use Rattle.std.proofs.Common.{get_or, subst, ap, arith}
use Rattle.bc_alloc.specs.Reserves.{Reserves, IsInOrder, empty}
use Rattle.bc_alloc.specs.Inside.{reserves_in}
use Rattle.bc_alloc.proofs.Times.{in_order}
use Rattle.bc_alloc.proofs.Loops.{filled_more, not_before, there}
use Rattle.bc_alloc.proofs.reserves.Reserves.new.Goals as goal

pub store-requires-clause-bucket : goal.store-requires-clause-bucket
store-requires-clause-bucket c =
    let below = c.requires.below (get_or c.args.spare.now c.loop-bucket.bucket-index 0) (there c.args.spare.now c.loop-bucket.bucket-index (omega arith)) in
    let same = ap (λ (r : Reserves). r.count) c.loop-bucket.invariant.lists in
    omega arith

pub store-requires-clause-loose : goal.store-requires-clause-loose
store-requires-clause-loose c =
    let new = not_before c.args.spare.now c.loop-bucket.bucket-index c.requires.distinct (omega arith) in
    let most = c.loop-bucket.invariant.listed (get_or c.args.spare.now c.loop-bucket.bucket-index 0) in
    omega arith

pub loop-bucket-preserved : goal.loop-bucket-preserved
loop-bucket-preserved c = filled_more (empty c.args.g.now) c.args.spare.now c.loop-bucket.bucket-index c.loop-bucket.reserves c.store.new.self (omega arith) c.loop-bucket.invariant c.store.ensures.lists c.store.ensures.times

pub returns-clause-in_order : goal.returns-clause-in_order
returns-clause-in_order c = subst (λ (r : Reserves). IsInOrder r) c.reserves.view_is (in_order (reserves_in c.reserves.inside) c.reserves.inside.listed.items c.reserves.invariant.four c.reserves.invariant.short c.reserves.invariant.flagged)
