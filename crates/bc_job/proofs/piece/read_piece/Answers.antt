use Rattle.std.proofs.Common.{sym, subst, arith}
use Rattle.bc_job.specs.Deeds.{ReadStop}
use Rattle.bc_job.specs.Requests.{HasStoppedBy}
use Rattle.bc_job.specs.declared.error.RequestError.{RequestError}
use Rattle.bc_job.proofs.Holding.{still_empty}
use Rattle.bc_job.proofs.Sequence.{ready_released, answered_under, read_unclaimed, read_stopped}
use Rattle.bc_model.specs.Sector.{values_of}
use Rattle.bc_job.proofs.piece.read_piece.Goals as goal

pub returns-in-Err-clause-err : goal.returns-in-Err-clause-err
returns-in-Err-clause-err g c = subst (λ (e : RequestError). HasStoppedBy g.C.Disk.facts g.B.Disk.facts e
    (ReadStop e c.args.first c.args.count) c.args.seat.now c.claim_range.new.seat) (sym c.refusal.ensures)
    (read_unclaimed g.C.Disk.facts g.B.Disk.facts c.in-Err.error c.args.first c.args.count c.args.seat.now
    c.take_room.new.seat c.claim_range.new.seat c.take_room.ensures.done c.in-Err.ensures.err.0
    c.in-Err.ensures.err.1)

pub returns-in-Ok-answered-clause-ok : goal.returns-in-Ok-answered-clause-ok
returns-in-Ok-answered-clause-ok g c = answered_under g.C.Disk.facts g.B.Disk.facts c.args.of c.args.first
    c.args.count (values_of c.read_under-answered.new.into)
    c.args.seat.now c.take_room.new.seat c.claim_range.new.seat c.read_under-answered.new.seat c.release.new.seat
    c.take_room.ensures.done c.in-Ok-claim_range.ensures.ok.done c.in-Ok-answered.ensures.ok c.release.ensures.did

pub returns-in-Err-answered-clause-err : goal.returns-in-Err-answered-clause-err
returns-in-Err-answered-clause-err g c = subst (λ (e : RequestError). HasStoppedBy g.C.Disk.facts g.B.Disk.facts e
    (ReadStop e c.args.first c.args.count) c.args.seat.now c.release.new.seat) (sym c.refusal-in-Err-answered.ensures)
    (read_stopped g.C.Disk.facts g.B.Disk.facts c.in-Err-answered.error c.args.first c.args.count c.args.seat.now
    c.take_room.new.seat c.claim_range.new.seat c.read_under-answered.new.seat c.release.new.seat
    c.take_room.ensures.done c.in-Ok-claim_range.ensures.ok.done c.in-Err-answered.ensures.err c.release.ensures.did)

pub returns-in-Err-clause-ready : goal.returns-in-Err-clause-ready
returns-in-Err-clause-ready g c = record {
  works = c.claim_range.ensures.works;
  free = c.claim_range.ensures.empty;
  room = omega (arith, c.in-Ok.ensures.ok, c.claim_range.ensures.left);
  plain = c.requires.ready.plain;
  unclaimed = c.in-Err.ensures.err.2;
}

pub returns-in-Ok-answered-clause-ready : goal.returns-in-Ok-answered-clause-ready
returns-in-Ok-answered-clause-ready g c = ready_released g.C.Disk.facts g.B.Disk.facts c.args.parts.now
    c.read_under-answered.new.seat c.release.new.seat _
    (still_empty c.read_under-answered.new.hand c.release.new.hand c.read_under-answered.ensures.empty
    c.release.ensures.hand) c.release.ensures.works c.requires.ready.plain
    c.read_under-answered.ensures.works.seat c.release.ensures.did
    (omega (arith, c.in-Ok.ensures.ok, c.claim_range.ensures.left, c.read_under-answered.ensures.left))

pub returns-in-Err-answered-clause-ready : goal.returns-in-Err-answered-clause-ready
returns-in-Err-answered-clause-ready g c = ready_released g.C.Disk.facts g.B.Disk.facts c.args.parts.now
    c.read_under-answered.new.seat c.release.new.seat _
    (still_empty c.read_under-answered.new.hand c.release.new.hand c.read_under-answered.ensures.empty
    c.release.ensures.hand) c.release.ensures.works c.requires.ready.plain
    c.read_under-answered.ensures.works.seat c.release.ensures.did
    (omega (arith, c.in-Ok.ensures.ok, c.claim_range.ensures.left, c.read_under-answered.ensures.left))
