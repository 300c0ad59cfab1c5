use Rattle.std.proofs.Common.{length}
use Rattle.bc_cached.specs.bc_hand.Seats.{note}
use Rattle.bc_step_rows.specs.Drop.{alone_at}
use Rattle.bc_step_rows.proofs.Dropping.{can_under, put_kinds}
use Rattle.bc_step_rows.proofs.drops.drop_in.Goals as goal

pub drop_keys-requires-clause-can : goal.drop_keys-requires-clause-can
drop_keys-requires-clause-can g c =
    let d = can_under c.args.hand.now c.part_count.result (length c.args.parts.now.run.start)
    c.args.number (alone_at c.args.first c.args.count)
    (note g.C.Disk.facts g.B.Disk.facts c.args.seat.now).range c.new-key.result
    c.part_count.ensures c.requires.range c.in-Some.ensures in (d.slot, d.cached, d.can, d.may)

pub returns-in-Ok-clause-kinds : goal.returns-in-Ok-clause-kinds
returns-in-Ok-clause-kinds g c =
    let d = can_under c.args.hand.now c.part_count.result (length c.args.parts.now.run.start)
    c.args.number (alone_at c.args.first c.args.count)
    (note g.C.Disk.facts g.B.Disk.facts c.args.seat.now).range c.new-key.result
    c.part_count.ensures c.requires.range c.in-Some.ensures in
    put_kinds c.args.hand.now c.drop_keys.new.hand d.slot d.cached c.new-key.result
    (c.in-Ok.ensures.hand (length c.args.parts.now.run.start) d.slot d.cached d.can)
