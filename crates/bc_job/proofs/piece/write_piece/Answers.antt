use Rattle.std.proofs.Common.{sym, subst}
use Rattle.bc_job.specs.Deeds.{WriteStop}
use Rattle.bc_job.specs.Requests.{HasStoppedBy}
use Rattle.bc_job.specs.declared.error.RequestError.{RequestError}
use Rattle.bc_job.proofs.Holding.{still_empty}
use Rattle.bc_job.proofs.Sequence.{ready_released, room_left, room_still, written_under, write_unclaimed, write_stopped_for}
use Rattle.bc_job.proofs.piece.write_piece.Goals as goal

pub returns-in-Err-clause-err : goal.returns-in-Err-clause-err
returns-in-Err-clause-err g c = subst (λ (e : RequestError). HasStoppedBy g.C.Disk.facts g.B.Disk.facts e
    (WriteStop e c.args.force c.args.of c.args.first c.args.values.now) c.args.seat.now c.claim_range.new.seat)
    (sym c.refusal.ensures)
    (write_unclaimed g.C.Disk.facts g.B.Disk.facts c.in-Err.error c.args.force c.args.of c.args.first
    c.args.values.now c.args.seat.now c.take_room.new.seat c.claim_range.new.seat c.take_room.ensures.done
    c.in-Err.ensures.err.0 c.in-Err.ensures.err.1)

pub returns-in-Ok-written-clause-ok : goal.returns-in-Ok-written-clause-ok
returns-in-Ok-written-clause-ok g c = written_under g.C.Disk.facts g.B.Disk.facts c.args.force c.args.of c.args.first
    c.len-count.result c.args.values.now c.args.seat.now c.take_room.new.seat c.claim_range.new.seat
    c.write_under-written.new.seat c.release.new.seat c.len-count.ensures c.take_room.ensures.done
    c.in-Ok-claim_range.ensures.ok.done c.in-Ok-written.ensures.ok c.release.ensures.did

pub returns-in-Err-written-clause-err : goal.returns-in-Err-written-clause-err
returns-in-Err-written-clause-err g c = subst (λ (e : RequestError). HasStoppedBy g.C.Disk.facts g.B.Disk.facts e
    (WriteStop e c.args.force c.args.of c.args.first c.args.values.now) c.args.seat.now c.release.new.seat)
    (sym c.refusal-in-Err-written.ensures)
    (write_stopped_for g.C.Disk.facts g.B.Disk.facts c.in-Err-written.error c.args.force c.args.of c.args.first
    c.len-count.result c.args.values.now c.args.seat.now c.take_room.new.seat c.claim_range.new.seat
    c.write_under-written.new.seat c.release.new.seat c.len-count.ensures c.take_room.ensures.done
    c.in-Ok-claim_range.ensures.ok.done c.in-Err-written.ensures.err c.release.ensures.did)

pub returns-in-Err-clause-ready : goal.returns-in-Err-clause-ready
returns-in-Err-clause-ready g c = record {
  works = c.claim_range.ensures.works;
  free = c.claim_range.ensures.empty;
  room = room_still g.C.Disk.facts g.B.Disk.facts c.args.force c.take_room.new.stock.room _ _ _ c.deeds_of.ensures.some
      c.in-Ok.ensures.ok c.claim_range.ensures.left;
  plain = c.requires.ready.plain;
  unclaimed = c.in-Err.ensures.err.2;
}

pub returns-in-Ok-written-clause-ready : goal.returns-in-Ok-written-clause-ready
returns-in-Ok-written-clause-ready g c = ready_released g.C.Disk.facts g.B.Disk.facts c.args.parts.now
    c.write_under-written.new.seat c.release.new.seat _
    (still_empty c.write_under-written.new.hand c.release.new.hand c.write_under-written.ensures.empty
    c.release.ensures.hand) c.release.ensures.works c.requires.ready.plain
    c.write_under-written.ensures.works.seat c.release.ensures.did
    (room_left g.C.Disk.facts g.B.Disk.facts c.args.force c.take_room.new.stock.room _ _ _ _ c.deeds_of.ensures.some
    c.in-Ok.ensures.ok c.claim_range.ensures.left c.write_under-written.ensures.left)

pub returns-in-Err-written-clause-ready : goal.returns-in-Err-written-clause-ready
returns-in-Err-written-clause-ready g c = ready_released g.C.Disk.facts g.B.Disk.facts c.args.parts.now
    c.write_under-written.new.seat c.release.new.seat _
    (still_empty c.write_under-written.new.hand c.release.new.hand c.write_under-written.ensures.empty
    c.release.ensures.hand) c.release.ensures.works c.requires.ready.plain
    c.write_under-written.ensures.works.seat c.release.ensures.did
    (room_left g.C.Disk.facts g.B.Disk.facts c.args.force c.take_room.new.stock.room _ _ _ _ c.deeds_of.ensures.some
    c.in-Ok.ensures.ok c.claim_range.ensures.left c.write_under-written.ensures.left)
