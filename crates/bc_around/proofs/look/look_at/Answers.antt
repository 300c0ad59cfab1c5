use Rattle.std.proofs.Common.{ap}
use Rattle.bc_flush.specs.bc_hand.Seats.{note}
use Rattle.bc_flush.specs.bc_hand.declared.hand.Hand.{Hand}
use Rattle.bc_flush.proofs.of_bc_reader.Looking.{over_same}
use Rattle.bc_around.proofs.Looked.{found_key, free_moved, halted_look, looked_free, range_read, sees_waited}
use Rattle.bc_around.proofs.look.look_at.Goals as goal

pub returns-then-not-are_free_in-clause-ok : goal.returns-then-not-are_free_in-clause-ok
returns-then-not-are_free_in-clause-ok g c = found_key g.C.Disk.facts g.B.Disk.facts
    c.args.parts.now c.args.first c.args.count c.in-Ok.number c.args.seat.now c.leaf_at.new.seat
    c.give_leaves.new.seat c.leaf_at.new.hand c.in-Ok.ensures.did c.give_leaves.ensures.works.seat
    c.give_leaves.ensures.waited c.leaf_at.ensures.works c.if-not-are_free_in.ensures

pub look_in-looked-requires-clause-range : goal.look_in-looked-requires-clause-range
look_in-looked-requires-clause-range g c = over_same
    (note g.C.Disk.facts g.B.Disk.facts c.args.seat.now).range
    (note g.C.Disk.facts g.B.Disk.facts c.leaf_at.new.seat).range c.args.first c.args.count
    (range_read g.C.Disk.facts g.B.Disk.facts c.args.seat.now c.leaf_at.new.seat
    c.in-Ok.ensures.did) c.requires.range

pub returns-in-Ok-looked-clause-ok : goal.returns-in-Ok-looked-clause-ok
returns-in-Ok-looked-clause-ok g c = looked_free g.C.Disk.facts g.B.Disk.facts
    c.args.parts.now c.args.first c.args.count c.in-Ok.number c.args.seat.now c.leaf_at.new.seat
    c.look_in-looked.new.seat c.give_leaves-2.new.seat c.look_in-looked.new.hand
    c.in-Ok.ensures.did c.give_leaves-2.ensures.works.seat c.give_leaves-2.ensures.waited
    c.look_in-looked.ensures.works
    (free_moved c.leaf_at.new.hand c.look_in-looked.new.hand c.in-Ok.number c.args.first
    c.args.count (ap (λ (h : Hand _ _). h.leaves) c.look_in-looked.ensures.hand)
    c.if-not-are_free_in.ensures) c.in-Ok-looked.ensures.ok

pub returns-in-Ok-looked-clause-sees : goal.returns-in-Ok-looked-clause-sees
returns-in-Ok-looked-clause-sees g c = λ yes. sees_waited g.C.Disk.facts g.B.Disk.facts
    c.look_in-looked.new.seat c.give_leaves-2.new.seat c.args.first c.args.count
    c.look_in-looked.ensures.works.seat c.give_leaves-2.ensures.waited c.in-Ok-looked.ensures.sees

pub returns-in-Err-looked-clause-err : goal.returns-in-Err-looked-clause-err
returns-in-Err-looked-clause-err g c = halted_look g.C.Disk.facts g.B.Disk.facts
    c.args.parts.now c.args.first c.args.count c.in-Ok.number c.in-Err-looked.error
    c.args.seat.now c.leaf_at.new.seat c.look_in-looked.new.seat c.give_leaves-2.new.seat
    c.leaf_at.new.hand c.in-Ok.ensures.did c.give_leaves-2.ensures.works.seat
    c.give_leaves-2.ensures.waited c.leaf_at.ensures.works c.if-not-are_free_in.ensures
    c.in-Err-looked.ensures.err
