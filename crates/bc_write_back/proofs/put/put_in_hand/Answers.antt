use Rattle.std.proofs.Common.{length, ◌∙◌, arith}
use Rattle.bc_room.proofs.Reserved.{law_reserved}
use Rattle.bc_stored.proofs.of_bc_deed.May.{did_nothing}
use Rattle.bc_write_back.proofs.Hands.{has_leaf, lacks_room, put_kinds, reserved_kinds, room_made}
use Rattle.bc_write_back.proofs.put.put_in_hand.Goals as goal

pub lack_in-requires : goal.lack_in-requires
lack_in-requires g c = record {
  three = (
    length c.args.parts.now.run.start,
    c.args.first,
    length c.args.values.now,
    c.requires.three,
  );
}

pub returns-in-Some-clause-ok : goal.returns-in-Some-clause-ok
returns-in-Some-clause-ok g c = (
  did_nothing g.C.Disk.facts g.B.Disk.facts c.args.seat.now c.requires.works.seat,
  lacks_room g.C.Disk.facts g.B.Disk.facts c.args.parts.now c.args.seat.now c.args.hand.now
      (length c.args.parts.now.run.start) c.args.number c.args.first (length c.args.values.now)
      c.requires.three c.in-Some.lack c.args.places.now c.args.keys.now c.requires.works
      c.requires.keys (c.in-Some.ensures.some (length c.args.parts.now.run.start) c.args.first
      (length c.args.values.now) c.requires.three),
)

pub reserve-requires : goal.reserve-requires
reserve-requires g c = has_leaf c.args.hand.now (length c.args.parts.now.run.start) c.args.number
    c.args.first (length c.args.values.now) c.requires.three

pub insert_write-requires-clause-works : goal.insert_write-requires-clause-works
insert_write-requires-clause-works g c = law_reserved g.C.Disk.facts g.B.Disk.facts
    c.args.parts.now c.args.seat.now c.args.number _ c.reserve.result c.args.hand.now
    c.reserve.new.hand c.reserve.ensures c.requires.works

pub returns-in_default-reserve-clause-works : goal.returns-in_default-reserve-clause-works
returns-in_default-reserve-clause-works g c = law_reserved g.C.Disk.facts g.B.Disk.facts
    c.args.parts.now c.args.seat.now c.args.number _ c.reserve.result c.args.hand.now
    c.reserve.new.hand c.reserve.ensures c.requires.works

pub returns-in_default-reserve-clause-err : goal.returns-in_default-reserve-clause-err
returns-in_default-reserve-clause-err g c = did_nothing g.C.Disk.facts g.B.Disk.facts
    c.args.seat.now c.requires.works.seat

pub insert_write-requires-clause-can : goal.insert_write-requires-clause-can
insert_write-requires-clause-can g c =
    let parts = length c.args.parts.now.run.start in
    let count = length c.args.values.now in
    room_made c.args.hand.now parts c.args.number c.args.first count c.requires.three
    (c.lack_in.ensures.slot parts c.args.first count c.requires.three) c.reserve.new.hand
    (length c.args.keys.now) c.in-Ok.field-0 c.in-Ok.ensures c.args.keys.now
    (c.in_default.ensures.none parts c.args.first count c.requires.three) (omega arith)
    c.requires.extents c.requires.within

pub returns-in-Ok-insert_write-clause-kinds : goal.returns-in-Ok-insert_write-clause-kinds
returns-in-Ok-insert_write-clause-kinds g c =
    let parts = length c.args.parts.now.run.start in
    let count = length c.args.values.now in
    let can = room_made c.args.hand.now parts c.args.number c.args.first count c.requires.three
    (c.lack_in.ensures.slot parts c.args.first count c.requires.three) c.reserve.new.hand
    (length c.args.keys.now) c.in-Ok.field-0 c.in-Ok.ensures c.args.keys.now
    (c.in_default.ensures.none parts c.args.first count c.requires.three) (omega arith)
    c.requires.extents c.requires.within in
    put_kinds c.reserve.new.hand c.insert_write.new.hand can.0 can.1 c.args.keys.now
    c.args.places.now (c.in-Ok-insert_write.ensures.hand parts can.0 can.1 can.2)
    ∙ reserved_kinds c.args.number (length c.args.keys.now) c.reserve.result c.args.hand.now
    c.reserve.new.hand c.reserve.ensures
