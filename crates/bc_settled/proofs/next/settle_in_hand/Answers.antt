use Rattle.std.proofs.Common.{length, ◌∙◌}
use Rattle.bc_room.proofs.Reserved.{law_reserved}
use Rattle.bc_settle.proofs.of_bc_insert.of_bc_deed.May.{did_nothing}
use Rattle.bc_settled.proofs.Coming.{tried}
use Rattle.bc_settled.proofs.Hands.{can_settle, has_leaf, reserved_kinds, stood_for, tried_kinds, tried_left}
use Rattle.bc_settled.proofs.next.settle_in_hand.Goals as goal

pub lack_in-requires : goal.lack_in-requires
lack_in-requires g c = record {
  four = (
    length c.args.parts.now.run.start,
    c.requires.four.0,
    c.requires.four.1,
    c.requires.four.2,
  );
}

pub returns-in-Some-clause-ok : goal.returns-in-Some-clause-ok
returns-in-Some-clause-ok g c =
    let parts = length c.args.parts.now.run.start in record {
      stood = stood_for g.C.Disk.facts g.B.Disk.facts c.args.parts.now c.args.seat.now
          c.args.hand.now c.requires.works parts c.args.number c.requires.four.0
          c.requires.four.1 c.requires.four.2;
      short = c.in-Some.ensures.some parts c.requires.four.0 c.requires.four.1
          c.requires.four.2;
      waited = did_nothing g.C.Disk.facts g.B.Disk.facts c.args.seat.now c.requires.works.seat;
    }

pub reserve-requires : goal.reserve-requires
reserve-requires g c = has_leaf c.args.hand.now (length c.args.parts.now.run.start) c.args.number
    c.requires.four.0 c.requires.four.1 c.requires.four.2

pub returns-in_default-reserve-clause-works : goal.returns-in_default-reserve-clause-works
returns-in_default-reserve-clause-works g c = law_reserved g.C.Disk.facts g.B.Disk.facts
    c.args.parts.now c.args.seat.now c.args.number _ c.reserve.result c.args.hand.now
    c.reserve.new.hand c.reserve.ensures c.requires.works

pub returns-in_default-reserve-clause-err : goal.returns-in_default-reserve-clause-err
returns-in_default-reserve-clause-err g c = did_nothing g.C.Disk.facts g.B.Disk.facts
    c.args.seat.now c.requires.works.seat

pub settle-requires-clause-works : goal.settle-requires-clause-works
settle-requires-clause-works g c = law_reserved g.C.Disk.facts g.B.Disk.facts
    c.args.parts.now c.args.seat.now c.args.number _ c.reserve.result c.args.hand.now
    c.reserve.new.hand c.reserve.ensures c.requires.works

pub settle-requires-clause-can : goal.settle-requires-clause-can
settle-requires-clause-can g c =
    let parts = length c.args.parts.now.run.start in
    let four = c.requires.four.2 in
    let can = can_settle c.args.hand.now parts c.args.number c.requires.four.0 c.requires.four.1
    four (c.lack_in.ensures.slot parts c.requires.four.0 c.requires.four.1 four) c.reserve.new.hand
    _ c.reserve.result c.reserve.ensures
    (c.in_default.ensures.none parts c.requires.four.0 c.requires.four.1 four) in
    can

pub returns-in-Ok-settle-clause-kinds : goal.returns-in-Ok-settle-clause-kinds
returns-in-Ok-settle-clause-kinds g c =
    let parts = length c.args.parts.now.run.start in
    let four = c.requires.four.2 in
    let can = can_settle c.args.hand.now parts c.args.number c.requires.four.0 c.requires.four.1
    four (c.lack_in.ensures.slot parts c.requires.four.0 c.requires.four.1 four) c.reserve.new.hand
    _ c.reserve.result c.reserve.ensures
    (c.in_default.ensures.none parts c.requires.four.0 c.requires.four.1 four) in
    tried_kinds g.C.Disk.facts g.B.Disk.facts c.args.before parts c.args.number can.0 can.1
    c.reserve.new.hand c.settle.new.hand can.2 c.args.seat.now c.settle.new.seat
    c.in-Ok-settle.outcome (c.in-Ok-settle.ensures.ok parts can.0 can.1 can.2)
    ∙ reserved_kinds c.args.number _ c.reserve.result c.args.hand.now c.reserve.new.hand
    c.reserve.ensures

pub returns-in-Ok-settle-clause-left : goal.returns-in-Ok-settle-clause-left
returns-in-Ok-settle-clause-left g c =
    let parts = length c.args.parts.now.run.start in
    let four = c.requires.four.2 in
    let can = can_settle c.args.hand.now parts c.args.number c.requires.four.0 c.requires.four.1
    four (c.lack_in.ensures.slot parts c.requires.four.0 c.requires.four.1 four) c.reserve.new.hand
    _ c.reserve.result c.reserve.ensures
    (c.in_default.ensures.none parts c.requires.four.0 c.requires.four.1 four) in
    tried_left g.C.Disk.facts g.B.Disk.facts c.args.before parts c.args.number can.0 can.1
    c.reserve.new.hand c.settle.new.hand can.2 c.args.seat.now c.settle.new.seat
    c.in-Ok-settle.outcome (c.in-Ok-settle.ensures.ok parts can.0 can.1 can.2)

pub returns-in-Ok-settle-clause-ok : goal.returns-in-Ok-settle-clause-ok
returns-in-Ok-settle-clause-ok g c =
    let parts = length c.args.parts.now.run.start in
    let four = c.requires.four.2 in
    let can = can_settle c.args.hand.now parts c.args.number c.requires.four.0 c.requires.four.1
    four (c.lack_in.ensures.slot parts c.requires.four.0 c.requires.four.1 four) c.reserve.new.hand
    _ c.reserve.result c.reserve.ensures
    (c.in_default.ensures.none parts c.requires.four.0 c.requires.four.1 four) in
    tried g.C.Disk.facts g.B.Disk.facts c.args.parts.now c.args.before c.args.number parts can.0
    c.args.seat.now c.settle.new.seat c.reserve.new.hand c.settle.new.hand
    (law_reserved g.C.Disk.facts g.B.Disk.facts c.args.parts.now c.args.seat.now c.args.number _
    c.reserve.result c.args.hand.now c.reserve.new.hand c.reserve.ensures c.requires.works) can.1
    can.2 c.in-Ok-settle.outcome (c.in-Ok-settle.ensures.ok parts can.0 can.1 can.2)
