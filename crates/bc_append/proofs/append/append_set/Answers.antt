use Rattle.std.proofs.Common.{◌+◌, ◌<◌, ◌≤◌, None, refl, sym, ap, ◌∙◌, subst}
use Rattle.std.specs.Prelude.{length}
use Rattle.bc_append.proofs.Lasting.{law_known}
use Rattle.bc_append.proofs.Returned.{appended_back, appended_keeps, appended_kinds, can_in, full_where, leaf_in, lost_back, lost_keeps, lost_kinds, on_true, outside_where, same_back, sectors_of, some_back}
use Rattle.bc_append.specs.Append.{CanAppend, HasFailedToAppend, HasLeafIn}
use Rattle.bc_append.specs.Durable.{IsDurableTo}
use Rattle.bc_place.proofs.Keeping.{keeps_waited}
use Rattle.bc_place.proofs.of_bc_deed.May.{did_nothing}
use Rattle.bc_place.proofs.of_bc_hand.Between.{did_between}
use Rattle.bc_place.specs.bc_hand.Seats.{world}
use Rattle.bc_place.specs.bc_hand.declared.error.StepError.{StepError}
use Rattle.bc_place.specs.bc_hand.declared.hand.Hand.{Hand}
use Rattle.bc_place.specs.bc_machine.World.{FromEach}
use Rattle.bc_append.proofs.append.append_set.Goals as goal

pub returns-in-Some-clause-err : goal.returns-in-Some-clause-err
returns-in-Some-clause-err g c = (
  c.in-Some.ensures.stopped c.in-Some.device refl,
  did_nothing g.C.Disk.facts g.B.Disk.facts c.args.seat.now c.requires.works.seat,
  refl,
)

pub fits_in-requires : goal.fits_in-requires
fits_in-requires g c = (
  c.args.leaf,
  subst (λ s. HasLeafIn c.args.hand.now s c.args.leaf)
      (c.slot_in-slot.ensures c.requires.can.0 c.requires.can.1.at).0 c.requires.can.1.at,
)

pub returns-then-not-fits_in-clause-ok : goal.returns-then-not-fits_in-clause-ok
returns-then-not-fits_in-clause-ok g c =
    let at = subst (λ s. HasLeafIn c.args.hand.now s c.args.leaf)
    (c.slot_in-slot.ensures c.requires.can.0 c.requires.can.1.at).0 c.requires.can.1.at in
    record {
      slot = c.slot_in-slot.result;
      at = at;
      cause = full_where at.leaves.cache.geometry at.cached.leaf c.fits_in.result
          c.if-not-fits_in.true (c.fits_in.ensures c.args.leaf at);
      did = did_nothing g.C.Disk.facts g.B.Disk.facts c.args.seat.now c.requires.works.seat;
      now = refl;
    }

pub returns-in_default-buffer_for-clause-err : goal.returns-in_default-buffer_for-clause-err
returns-in_default-buffer_for-clause-err g c = (
  did_nothing g.C.Disk.facts g.B.Disk.facts c.args.seat.now c.requires.works.seat,
  refl,
)

pub lies_within-room-requires : goal.lies_within-room-requires
lies_within-room-requires g c = (
  c.args.leaf,
  leaf_in c.args.hand.now c.borrow_cache-cache.new.hand c.slot_in-slot.result c.args.leaf
      (ap (λ (h : Hand _ _). h.leaves) c.borrow_cache-cache.ensures.hand)
      (subst (λ s. HasLeafIn c.args.hand.now s c.args.leaf)
      (c.slot_in-slot.ensures c.requires.can.0 c.requires.can.1.at).0 c.requires.can.1.at),
)

pub returns-then-not-room-clause-ok : goal.returns-then-not-room-clause-ok
returns-then-not-room-clause-ok g c =
    let cf = g.C.Disk.facts in
    let bf = g.B.Disk.facts in
    let at = subst (λ s. HasLeafIn c.args.hand.now s c.args.leaf)
    (c.slot_in-slot.ensures c.requires.can.0 c.requires.can.1.at).0 c.requires.can.1.at in
    let same = ap (λ (h : Hand _ _). h.leaves) c.borrow_cache-cache.ensures.hand in
    let count = c.sectors.ensures ∙ sectors_of cf bf c.args.parts.now
    c.borrow_cache-cache.new.seat c.borrow_cache-cache.ensures.lent.run
    c.borrow_cache-cache.result.0 c.borrow_cache-cache.ensures.lent.stand.cache in
    record {
      slot = c.slot_in-slot.result;
      at = at;
      cause = subst (λ n. n < at.cached.leaf.ptr.offset + at.leaves.cache.geometry.node_sectors)
          count (outside_where _ c.sectors.result c.lies_within-room.result c.if-not-room.true
          (c.lies_within-room.ensures c.args.leaf
          (leaf_in c.args.hand.now c.borrow_cache-cache.new.hand c.slot_in-slot.result c.args.leaf
          same at)));
      did = did_between cf bf None c.args.seat.now c.borrow_cache-cache.new.seat
          c.borrow_cache-cache.new.seat c.return_cache.new.seat c.borrow_cache-cache.ensures.still
          c.borrow_cache-cache.ensures.waited (did_nothing cf bf c.borrow_cache-cache.new.seat
          c.borrow_cache-cache.ensures.lent.seat) c.return_cache.ensures.waited
          c.return_cache.ensures.seen c.return_cache.ensures.heard
          c.return_cache.ensures.works.seat;
      now = same_back c.args.hand.now c.borrow_cache-cache.new.hand c.return_cache.new.hand _
          c.borrow_cache-cache.ensures.hand c.return_cache.ensures.hand;
    }

pub returns-then-not-room-clause-keeps : goal.returns-then-not-room-clause-keeps
returns-then-not-room-clause-keeps g c =
    let cf = g.C.Disk.facts in
    let bf = g.B.Disk.facts in
    keeps_waited cf bf c.args.seat.now c.return_cache.new.seat c.requires.works.seat
    (did_between cf bf None c.args.seat.now c.borrow_cache-cache.new.seat
    c.borrow_cache-cache.new.seat c.return_cache.new.seat c.borrow_cache-cache.ensures.still
    c.borrow_cache-cache.ensures.waited (did_nothing cf bf c.borrow_cache-cache.new.seat
    c.borrow_cache-cache.ensures.lent.seat) c.return_cache.ensures.waited
    c.return_cache.ensures.seen c.return_cache.ensures.heard c.return_cache.ensures.works.seat).is

pub append_in-done-requires-clause-can : goal.append_in-done-requires-clause-can
append_in-done-requires-clause-can g c =
    let cf = g.C.Disk.facts in
    let bf = g.B.Disk.facts in
    let n = length c.args.parts.now.run.start in
    let moved : (can : CanAppend c.args.hand.now n c.slot_in-slot.result c.args.leaf)
    × FromEach (world cf bf c.args.seat.now) (IsDurableTo can.entries.last) =
    subst (λ s. (can : CanAppend c.args.hand.now n s c.args.leaf)
    × FromEach (world cf bf c.args.seat.now) (IsDurableTo can.entries.last))
    (c.slot_in-slot.ensures c.requires.can.0 c.requires.can.1.at).0
    (c.requires.can.1, c.requires.can.2) in
    let can = moved.0 in
    let same = ap (λ (h : Hand _ _). h.leaves) c.borrow_cache-cache.ensures.hand in
    let here = can_in c.args.hand.now c.borrow_cache-cache.new.hand n c.slot_in-slot.result
    c.args.leaf same can in (
      here,
      (law_known cf bf).waited c.args.seat.now c.borrow_cache-cache.new.seat can.entries.last
          c.borrow_cache-cache.ensures.waited moved.1,
      (c.slot_in-slot.ensures c.slot_in-slot.result can.at).1,
      record {
        fits = (c.fits_in.ensures c.args.leaf can.at).0
            (on_true c.fits_in.result c.if-not-fits_in.false);
        inside = subst (λ k. can.at.cached.leaf.ptr.offset
            + can.at.leaves.cache.geometry.node_sectors ≤ k) c.sectors.ensures
            ((c.lies_within-room.ensures c.args.leaf here.at).0
            (on_true c.lies_within-room.result c.if-not-room.false));
      },
      c.in-Some-buffer_for.ensures can.at.leaves can.at.is,
    )

pub returns-in-Ok-clause-kinds : goal.returns-in-Ok-clause-kinds
returns-in-Ok-clause-kinds g c =
    let cf = g.C.Disk.facts in
    let bf = g.B.Disk.facts in
    appended_kinds cf bf c.args.seat.now c.borrow_cache-cache.new.seat
    c.append_in-done.new.seat c.return_cache-2.new.seat c.borrow_cache-cache.ensures.still
    c.requires.works.seat c.borrow_cache-cache.ensures.waited
    c.borrow_cache-cache.ensures.lent.seat c.append_in-done.ensures.works.seat
    c.return_cache-2.ensures.waited c.return_cache-2.ensures.seen c.return_cache-2.ensures.heard
    c.return_cache-2.ensures.works.seat c.args.hand.now c.borrow_cache-cache.new.hand
    c.append_in-done.new.hand c.return_cache-2.new.hand c.args.leaf _
    c.borrow_cache-cache.ensures.hand c.return_cache-2.ensures.hand c.in-Ok.ensures.ok
    (some_back c.args.hand.now.cache _ c.borrow_cache-cache.result.1
    c.borrow_cache-cache.ensures.taken)

pub returns-in-Ok-clause-ok : goal.returns-in-Ok-clause-ok
returns-in-Ok-clause-ok g c =
    let cf = g.C.Disk.facts in
    let bf = g.B.Disk.facts in
    appended_back cf bf c.args.seat.now c.borrow_cache-cache.new.seat
    c.append_in-done.new.seat c.return_cache-2.new.seat c.borrow_cache-cache.ensures.still
    c.requires.works.seat c.borrow_cache-cache.ensures.waited
    c.borrow_cache-cache.ensures.lent.seat c.append_in-done.ensures.works.seat
    c.return_cache-2.ensures.waited c.return_cache-2.ensures.seen c.return_cache-2.ensures.heard
    c.return_cache-2.ensures.works.seat c.args.hand.now c.borrow_cache-cache.new.hand
    c.append_in-done.new.hand c.return_cache-2.new.hand c.args.leaf _
    c.borrow_cache-cache.ensures.hand c.return_cache-2.ensures.hand c.in-Ok.ensures.ok

pub returns-in-Ok-clause-keeps : goal.returns-in-Ok-clause-keeps
returns-in-Ok-clause-keeps g c =
    let cf = g.C.Disk.facts in
    let bf = g.B.Disk.facts in
    appended_keeps cf bf c.args.seat.now c.borrow_cache-cache.new.seat
    c.append_in-done.new.seat c.return_cache-2.new.seat c.borrow_cache-cache.ensures.still
    c.requires.works.seat c.borrow_cache-cache.ensures.waited
    c.borrow_cache-cache.ensures.lent.seat c.append_in-done.ensures.works.seat
    c.return_cache-2.ensures.waited c.return_cache-2.ensures.seen c.return_cache-2.ensures.heard
    c.return_cache-2.ensures.works.seat c.args.hand.now c.borrow_cache-cache.new.hand
    c.append_in-done.new.hand c.return_cache-2.new.hand c.args.leaf _
    c.borrow_cache-cache.ensures.hand c.return_cache-2.ensures.hand c.in-Ok.ensures.ok

pub returns-in-Err-clause-kinds : goal.returns-in-Err-clause-kinds
returns-in-Err-clause-kinds g c =
    let cf = g.C.Disk.facts in
    let bf = g.B.Disk.facts in
    lost_kinds cf bf c.args.seat.now c.borrow_cache-cache.new.seat
    c.append_in-done.new.seat c.return_cache-2.new.seat c.borrow_cache-cache.ensures.still
    c.requires.works.seat c.borrow_cache-cache.ensures.waited
    c.borrow_cache-cache.ensures.lent.seat c.append_in-done.ensures.works.seat
    c.return_cache-2.ensures.waited c.return_cache-2.ensures.seen c.return_cache-2.ensures.heard
    c.return_cache-2.ensures.works.seat c.args.hand.now c.borrow_cache-cache.new.hand
    c.append_in-done.new.hand c.return_cache-2.new.hand c.args.leaf _
    c.borrow_cache-cache.ensures.hand c.return_cache-2.ensures.hand c.in-Err.ensures.err.1
    (some_back c.args.hand.now.cache _ c.borrow_cache-cache.result.1
    c.borrow_cache-cache.ensures.taken)

pub returns-in-Err-clause-err : goal.returns-in-Err-clause-err
returns-in-Err-clause-err g c =
    let cf = g.C.Disk.facts in
    let bf = g.B.Disk.facts in
    subst (λ (e : StepError). HasFailedToAppend cf bf e c.args.leaf c.args.hand.now
    c.return_cache-2.new.hand c.args.seat.now c.return_cache-2.new.seat)
    (sym c.in-Err.ensures.err.0) (
      refl,
      lost_back cf bf c.args.seat.now c.borrow_cache-cache.new.seat
          c.append_in-done.new.seat c.return_cache-2.new.seat c.borrow_cache-cache.ensures.still
          c.requires.works.seat c.borrow_cache-cache.ensures.waited
          c.borrow_cache-cache.ensures.lent.seat c.append_in-done.ensures.works.seat
          c.return_cache-2.ensures.waited c.return_cache-2.ensures.seen c.return_cache-2.ensures.heard
          c.return_cache-2.ensures.works.seat c.args.hand.now c.borrow_cache-cache.new.hand
          c.append_in-done.new.hand c.return_cache-2.new.hand c.args.leaf _
          c.borrow_cache-cache.ensures.hand c.return_cache-2.ensures.hand c.in-Err.ensures.err.1,
    )

pub returns-in-Err-clause-keeps : goal.returns-in-Err-clause-keeps
returns-in-Err-clause-keeps g c =
    let cf = g.C.Disk.facts in
    let bf = g.B.Disk.facts in
    lost_keeps cf bf c.args.seat.now c.borrow_cache-cache.new.seat
    c.append_in-done.new.seat c.return_cache-2.new.seat c.borrow_cache-cache.ensures.still
    c.requires.works.seat c.borrow_cache-cache.ensures.waited
    c.borrow_cache-cache.ensures.lent.seat c.append_in-done.ensures.works.seat
    c.return_cache-2.ensures.waited c.return_cache-2.ensures.seen c.return_cache-2.ensures.heard
    c.return_cache-2.ensures.works.seat c.args.hand.now c.borrow_cache-cache.new.hand
    c.append_in-done.new.hand c.return_cache-2.new.hand c.args.leaf _
    c.borrow_cache-cache.ensures.hand c.return_cache-2.ensures.hand c.in-Err.ensures.err.1
