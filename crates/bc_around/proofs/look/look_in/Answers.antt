use Rattle.std.proofs.Common.{ap}
use Rattle.bc_flush.specs.bc_hand.Seats.{note}
use Rattle.bc_flush.specs.bc_hand.declared.hand.Hand.{Hand}
use Rattle.bc_flush.proofs.of_bc_reader.Looking.{over_leaf}
use Rattle.bc_around.proofs.Looked.{free_moved, halted_in, looked_in, over_waited, sees_in}
use Rattle.bc_around.proofs.look.look_in.Goals as goal

pub look-looked-requires-clause-leaf : goal.look-looked-requires-clause-leaf
look-looked-requires-clause-leaf g c =
    let cf = g.C.Disk.facts in
    let bf = g.B.Disk.facts in
    let took = c.take_buckets in
    let free = free_moved c.args.hand.now took.new.hand c.args.number c.args.first c.args.count
    (ap (λ (h : Hand _ _). h.leaves) took.ensures.hand) c.requires.leaf in
    over_leaf took.new.hand (note cf bf took.new.seat).range c.args.number c.args.first c.args.count
    free.slot free.cached
    (over_waited cf bf c.args.first c.args.count c.args.seat.now took.new.seat
    took.ensures.works.seat took.ensures.waited c.requires.range) free.leaf

pub returns-clause-ok : goal.returns-clause-ok
returns-clause-ok g c = looked_in g.C.Disk.facts g.B.Disk.facts c.look-looked.result c.args.number
    c.args.seat.now c.take_buckets.new.seat c.look-looked.new.seat c.give_buckets.new.seat
    c.take_buckets.ensures.works.seat c.take_buckets.ensures.waited
    c.give_buckets.ensures.works.seat c.give_buckets.ensures.waited c.look-looked.ensures.ok

pub returns-clause-sees : goal.returns-clause-sees
returns-clause-sees g c =
    let cf = g.C.Disk.facts in
    let bf = g.B.Disk.facts in
    let took = c.take_buckets in
    sees_in cf bf c.look-looked.result c.args.number c.args.first c.args.count took.new.seat
    c.look-looked.new.seat c.give_buckets.new.seat took.new.hand took.ensures.has
    (free_moved c.args.hand.now took.new.hand c.args.number c.args.first c.args.count
    (ap (λ (h : Hand _ _). h.leaves) took.ensures.hand) c.requires.leaf)
    (over_waited cf bf c.args.first c.args.count c.args.seat.now took.new.seat
    took.ensures.works.seat took.ensures.waited c.requires.range) c.give_buckets.ensures.waited
    c.look-looked.ensures.ok c.look-looked.ensures.knows

pub returns-clause-err : goal.returns-clause-err
returns-clause-err g c = halted_in g.C.Disk.facts g.B.Disk.facts c.look-looked.result
    c.args.seat.now c.take_buckets.new.seat c.look-looked.new.seat c.give_buckets.new.seat
    c.take_buckets.ensures.works.seat c.take_buckets.ensures.waited
    c.give_buckets.ensures.works.seat c.give_buckets.ensures.waited c.look-looked.ensures.halted
    c.look-looked.ensures.err
