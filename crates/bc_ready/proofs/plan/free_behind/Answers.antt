use Rattle.std.proofs.Common.{arith}
use Rattle.bc_ready.proofs.Free.{free_behind}
use Rattle.bc_ready.proofs.plan.free_behind.Goals as goal

pub returns : goal.returns
returns c = free_behind _ c.args.reserves.now.lists c.args.old.now
    c.room_of-first.ensures.in_order.four
    (let first = c.room_of-first.ensures.free in
    let rest = c.saturating_sub.ensures in omega (arith, first, rest)) c.room_of.ensures.free
    c.room_of-2.ensures.free c.room_of-3.ensures.free
