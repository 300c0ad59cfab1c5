use Rattle.std.proofs.Common.{◌+◌, ◌≤◌, List, length, sym, subst, ◌∙◌, arith}
use Rattle.bc_bypass.proofs.Emptying.{few}
use Rattle.bc_bypass.specs.Empty.{AreEmpty}
use Rattle.bc_key.specs.declared.key.Key.{Key}
use Rattle.bc_bypass.proofs.Room.{can_drop, had_dirty, had_no_room, put_kinds}
use Rattle.bc_write_back.proofs.Hands.{has_leaf, reserved_kinds}
use Rattle.bc_write_back.proofs.of_bc_deed.May.{did_nothing}
use Rattle.bc_write_back.proofs.of_bc_room.Reserved.{law_reserved}
use Rattle.bc_write_back.specs.bc_deed.Asked.{size_of}
use Rattle.bc_write_back.specs.bc_hand.Seats.{note}
use Rattle.bc_write_back.specs.bc_machine.Frame.{Range}
use Rattle.bc_bypass.proofs.drop.drop_in_hand.Goals as goal

pub are_backed_in-requires-clause-three : goal.are_backed_in-requires-clause-three
are_backed_in-requires-clause-three g c = (length c.args.parts.now.run.start, c.requires.three)

pub bucket_sectors_in-requires : goal.bucket_sectors_in-requires
bucket_sectors_in-requires g c = (
  length c.args.parts.now.run.start,
  c.args.number,
  c.args.first,
  c.args.count,
  c.requires.three,
)

pub lack_in-requires : goal.lack_in-requires
lack_in-requires g c = record {
  three = (length c.args.parts.now.run.start, c.args.first, c.args.count, c.requires.three);
}

pub reserve-requires : goal.reserve-requires
reserve-requires g c = has_leaf c.args.hand.now (length c.args.parts.now.run.start) c.args.number
    c.args.first c.args.count c.requires.three

pub returns-then-not-are_backed_in-clause-ok : goal.returns-then-not-are_backed_in-clause-ok
returns-then-not-are_backed_in-clause-ok g c = (
  did_nothing g.C.Disk.facts g.B.Disk.facts c.args.seat.now c.requires.works.seat,
  had_dirty g.C.Disk.facts g.B.Disk.facts c.args.parts.now c.args.seat.now c.args.hand.now
      (length c.args.parts.now.run.start) c.args.number c.args.first c.args.count c.requires.three
      c.requires.works (c.if-not-are_backed_in.ensures (length c.args.parts.now.run.start)
      c.requires.three),
)

pub returns-in_default-reserve-clause-works : goal.returns-in_default-reserve-clause-works
returns-in_default-reserve-clause-works g c = law_reserved g.C.Disk.facts g.B.Disk.facts
    c.args.parts.now c.args.seat.now c.args.number _ c.reserve.result c.args.hand.now
    c.reserve.new.hand c.reserve.ensures c.requires.works

pub returns-in_default-reserve-clause-err : goal.returns-in_default-reserve-clause-err
returns-in_default-reserve-clause-err g c = did_nothing g.C.Disk.facts g.B.Disk.facts
    c.args.seat.now c.requires.works.seat

pub drop_keys-requires-clause-works : goal.drop_keys-requires-clause-works
drop_keys-requires-clause-works g c = law_reserved g.C.Disk.facts g.B.Disk.facts
    c.args.parts.now c.args.seat.now c.args.number _ c.reserve.result c.args.hand.now
    c.reserve.new.hand c.reserve.ensures c.requires.works

pub drop_keys-requires-clause-inside : goal.drop_keys-requires-clause-inside
drop_keys-requires-clause-inside g c = subst
    (λ (r : Range). r.first + r.count ≤ size_of g.C.Disk.facts g.B.Disk.facts
    c.args.seat.now.run.start) (sym c.requires.alone) c.requires.inside

pub returns-in_default-clause-err : goal.returns-in_default-clause-err
returns-in_default-clause-err g c = did_nothing g.C.Disk.facts g.B.Disk.facts
    c.args.seat.now c.requires.works.seat

pub returns-in-Some-clause-ok : goal.returns-in-Some-clause-ok
returns-in-Some-clause-ok g c =
    let parts = length c.args.parts.now.run.start in (
      did_nothing g.C.Disk.facts g.B.Disk.facts c.args.seat.now c.requires.works.seat,
      had_no_room g.C.Disk.facts g.B.Disk.facts c.args.parts.now c.args.seat.now c.args.hand.now
          parts c.args.number c.args.first c.args.count c.requires.three c.requires.works
          c.in-Some.lack c.bucket_sectors_in.result c.as_slice-keys.result.now
          (subst (λ (ks : List Key). AreEmpty c.bucket_sectors_in.result c.args.first
          (c.args.first + c.args.count) ks) (sym c.as_slice-keys.ensures) c.in-Ok.ensures)
          (c.in-Some.ensures.some parts c.args.first c.args.count c.requires.three),
    )

pub overflow_cast-keys : goal.overflow_cast-keys
overflow_cast-keys g c =
    let most = few c.bucket_sectors_in.result c.args.first (c.args.first + c.args.count)
    c.as_slice-keys.result.now
    (subst (λ (ks : List Key). AreEmpty c.bucket_sectors_in.result c.args.first
    (c.args.first + c.args.count) ks) (sym c.as_slice-keys.ensures) c.in-Ok.ensures) in
    let fits = c.ranges.count.fits in
    omega (arith, most, fits)

pub drop_keys-requires-clause-can : goal.drop_keys-requires-clause-can
drop_keys-requires-clause-can g c =
    let parts = length c.args.parts.now.run.start in
    can_drop c.args.hand.now parts c.args.number c.args.first c.args.count c.requires.three
    (c.lack_in.ensures.slot parts c.args.first c.args.count c.requires.three) c.reserve.new.hand
    (length c.as_slice-keys.result.now) c.in-Ok-reserve.field-0 c.in-Ok-reserve.ensures
    c.bucket_sectors_in.result c.as_slice-keys.result.now
    (note g.C.Disk.facts g.B.Disk.facts c.args.seat.now).range
    (c.bucket_sectors_in.ensures.size parts c.args.number c.args.first c.args.count
    c.requires.three) c.requires.alone c.requires.some
    (subst (λ (ks : List Key). AreEmpty c.bucket_sectors_in.result c.args.first
    (c.args.first + c.args.count) ks) (sym c.as_slice-keys.ensures) c.in-Ok.ensures)
    (c.if-not-are_backed_in.ensures parts c.requires.three)
    (c.in_default-lack_in.ensures.none parts c.args.first c.args.count c.requires.three)
    (omega arith)

pub returns-in-Ok-drop_keys-clause-kinds : goal.returns-in-Ok-drop_keys-clause-kinds
returns-in-Ok-drop_keys-clause-kinds g c =
    let parts = length c.args.parts.now.run.start in
    let can = can_drop c.args.hand.now parts c.args.number c.args.first c.args.count
    c.requires.three
    (c.lack_in.ensures.slot parts c.args.first c.args.count c.requires.three) c.reserve.new.hand
    (length c.as_slice-keys.result.now) c.in-Ok-reserve.field-0 c.in-Ok-reserve.ensures
    c.bucket_sectors_in.result c.as_slice-keys.result.now
    (note g.C.Disk.facts g.B.Disk.facts c.args.seat.now).range
    (c.bucket_sectors_in.ensures.size parts c.args.number c.args.first c.args.count
    c.requires.three) c.requires.alone c.requires.some
    (subst (λ (ks : List Key). AreEmpty c.bucket_sectors_in.result c.args.first
    (c.args.first + c.args.count) ks) (sym c.as_slice-keys.ensures) c.in-Ok.ensures)
    (c.if-not-are_backed_in.ensures parts c.requires.three)
    (c.in_default-lack_in.ensures.none parts c.args.first c.args.count c.requires.three)
    (omega arith) in
    put_kinds c.reserve.new.hand c.drop_keys.new.hand can.0 can.1 c.as_slice-keys.result.now
    (c.in-Ok-drop_keys.ensures.hand parts can.0 can.1 can.2)
    ∙ reserved_kinds c.args.number (length c.as_slice-keys.result.now) c.reserve.result
    c.args.hand.now c.reserve.new.hand c.reserve.ensures
