use Rattle.bc_fetch.proofs.Ways.{then_done, waited_done}
use Rattle.std.proofs.Common.{inl}
use Rattle.bc_dirty.proofs.Walking.{asked_by, marked_still, stopped_by}
use Rattle.bc_dirty.proofs.walk.any_dirty.Goals as goal

pub returns-then-not-any_marked-clause-asked : goal.returns-then-not-any_marked-clause-asked
returns-then-not-any_marked-clause-asked g c = record {
  walked = inl (waited_done g.C.Disk.facts g.B.Disk.facts c.args.seat.now c.any_marked.new.seat
      c.any_marked.ensures.works.seat c.any_marked.ensures.waited);
  told = c.any_marked.ensures.none c.if-not-any_marked.true;
}

pub returns-clause-asked : goal.returns-clause-asked
returns-clause-asked g c =
    let one = waited_done g.C.Disk.facts g.B.Disk.facts c.args.seat.now c.any_marked.new.seat
    c.any_marked.ensures.works.seat c.any_marked.ensures.waited in
    let two = waited_done g.C.Disk.facts g.B.Disk.facts c.any_marked.new.seat
    c.data_size-size.new.seat c.data_size-size.ensures.works.seat
    c.data_size-size.ensures.waited in
    asked_by g.C.Disk.facts g.B.Disk.facts c.walk.result c.args.seat.now c.data_size-size.new.seat
    c.walk.new.seat
    (marked_still g.C.Disk.facts g.B.Disk.facts c.args.seat.now c.any_marked.new.seat
    c.requires.all one c.any_marked.ensures.works.seat
    (c.any_marked.ensures.some c.if-not-any_marked.false))
    (then_done g.C.Disk.facts g.B.Disk.facts c.args.seat.now c.any_marked.new.seat
    c.data_size-size.new.seat one two) c.walk.ensures.walked c.walk.ensures.told

pub returns-clause-stopped : goal.returns-clause-stopped
returns-clause-stopped g c =
    let one = waited_done g.C.Disk.facts g.B.Disk.facts c.args.seat.now c.any_marked.new.seat
    c.any_marked.ensures.works.seat c.any_marked.ensures.waited in
    let two = waited_done g.C.Disk.facts g.B.Disk.facts c.any_marked.new.seat
    c.data_size-size.new.seat c.data_size-size.ensures.works.seat
    c.data_size-size.ensures.waited in
    stopped_by g.C.Disk.facts g.B.Disk.facts c.walk.result c.args.seat.now
    c.data_size-size.new.seat c.walk.new.seat
    (marked_still g.C.Disk.facts g.B.Disk.facts c.args.seat.now c.any_marked.new.seat
    c.requires.all one c.any_marked.ensures.works.seat
    (c.any_marked.ensures.some c.if-not-any_marked.false))
    (then_done g.C.Disk.facts g.B.Disk.facts c.args.seat.now c.any_marked.new.seat
    c.data_size-size.new.seat one two) c.walk.ensures.stopped
