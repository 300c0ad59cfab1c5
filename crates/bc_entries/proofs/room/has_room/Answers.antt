use Rattle.std.proofs.Common.{◌+◌, ◌*◌, ◌≤◌, arith}
use Rattle.bc_entries.specs.Lists.{picked}
use Rattle.bc_record.proofs.Blocks.{block_small}
use Rattle.bc_entries.proofs.Rooms.{few_sectors, full_by, room_by}
use Rattle.bc_entries.proofs.room.has_room.Goals as goal

pub overflow_add-next : goal.overflow_add-next
overflow_add-next c =
    let g = c.args.g.now in
    omega (arith, few_sectors g, block_small g, c.next_place-next.ensures.within, c.from.ensures)

pub returns : goal.returns
returns c =
    let g = c.args.g.now in
    let low = c.if-next-from.false in
    room_by g c.args.all.now (picked c.args.all.now c.args.order.now) c.args.newest.now c.next_place-next.result c.bucket_of-bucket.result c.bucket_after.result c.is_free.result c.bucket_of-bucket.ensures
    c.next_place-next.ensures.place c.bucket_after.ensures (full_by g c.next_place-next.result c.bucket_of-bucket.result c.from.result c.from-2.result c.from.ensures c.from-2.ensures low) c.is_free.ensures
