use Rattle.std.proofs.Common.{◌∙◌}
use Rattle.bc_cached.proofs.of_bc_hand.Knowing.{m}
use Rattle.bc_request.proofs.of_bc_reader.Looking.{part_moved}
use Rattle.bc_seats.proofs.Between.{same_both}
use Rattle.bc_step_rows.proofs.Dropping.{range_kept, read_same}
use Rattle.bc_step_rows.proofs.drops.drop_claimed.Goals as goal

pub drop_in-dropped-requires-clause-part : goal.drop_in-dropped-requires-clause-part
drop_in-dropped-requires-clause-part g c = part_moved c.leaf_at.new.hand c.take_both.new.hand _
    c.take_both.ensures.leaves c.in-Ok.ensures.part

pub drop_in-dropped-requires-clause-range : goal.drop_in-dropped-requires-clause-range
drop_in-dropped-requires-clause-range g c = range_kept g.C.Disk.facts g.B.Disk.facts
    c.args.seat.now c.leaf_at.new.seat c.take_both.new.seat c.in-Ok.ensures.did
    c.take_both.ensures.done ∙ c.requires.range

pub returns-clause-same : goal.returns-clause-same
returns-clause-same g c =
    let machine = m g.C.Disk.facts g.B.Disk.facts in
    same_both machine c.args.seat.now c.take_both.new.seat c.give_back.new.seat
    (same_both machine c.args.seat.now c.leaf_at.new.seat c.take_both.new.seat
    (read_same g.C.Disk.facts g.B.Disk.facts c.args.seat.now c.leaf_at.new.seat
    c.in-Ok.ensures.did) c.take_both.ensures.done.same)
    (same_both machine c.take_both.new.seat c.drop_in-dropped.new.seat c.give_back.new.seat
    c.drop_in-dropped.ensures.same c.give_back.ensures.same)
