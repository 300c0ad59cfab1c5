use Rattle.std.proofs.Common.{refl, ap, ◌∙◌}
use Rattle.bc_job.specs.bc_hand.Seats.{note}
use Rattle.bc_job.proofs.Holding.{still_empty}
use Rattle.bc_job.specs.bc_machine.Frame.{Range}
use Rattle.bc_model.specs.Sector.{values_of}
use Rattle.bc_reader.proofs.Looking.{range_still}
use Rattle.bc_request.proofs.Pieces.{claim_still, first_read, halted_or, idle_again, idle_still, over_claim, piece_read, piece_stopped, piece_unclaimed}
use Rattle.bc_request.proofs.piece.read_piece.Goals as goal

pub claim_range-requires-clause-none : goal.claim_range-requires-clause-none
claim_range-requires-clause-none g c = ap (λ (r : Range). r.count)
    (range_still g.C.Disk.facts g.B.Disk.facts c.args.seat.now c.promise.new.seat
    c.promise.ensures.done) ∙ c.requires.idle.unclaimed

pub returns-in-Err-clause-idle : goal.returns-in-Err-clause-idle
returns-in-Err-clause-idle g c = idle_still g.C.Disk.facts g.B.Disk.facts c.args.parts.now
    c.args.seat.now c.claim_range.new.seat c.claim_range.new.hand c.requires.idle
    c.claim_range.ensures.empty c.claim_range.ensures.works c.in-Err.ensures.err.2

pub returns-in-Err-clause-err : goal.returns-in-Err-clause-err
returns-in-Err-clause-err g c = piece_unclaimed g.C.Disk.facts g.B.Disk.facts c.args.parts.now
    c.args.first c.args.count c.in-Err.error c.args.seat.now c.promise.new.seat
    c.claim_range.new.seat c.promise.ensures.done c.in-Err.ensures.err.1
    (halted_or c.in-Err.error c.claim_range.new.seat.seen c.in-Err.ensures.err.0)

pub read_claimed-read-requires-clause-range : goal.read_claimed-read-requires-clause-range
read_claimed-read-requires-clause-range g c = over_claim
    (note g.C.Disk.facts g.B.Disk.facts c.claim_range.new.seat).range _ c.args.first c.args.count
    refl refl c.in-Ok-claim_range.ensures.ok.range

pub release-requires-clause-its : goal.release-requires-clause-its
release-requires-clause-its g c = claim_still g.C.Disk.facts g.B.Disk.facts c.in-Ok-claim_range.claim
    c.claim_range.new.seat c.read_claimed-read.new.seat
    (first_read g.C.Disk.facts g.B.Disk.facts c.args.parts.now c.args.first c.args.count
    c.read_claimed-read.result c.args.of (values_of c.read_claimed-read.new.bytes)
    c.claim_range.new.seat c.read_claimed-read.new.seat c.read_claimed-read.ensures.ok
    c.read_claimed-read.ensures.err) c.read_claimed-read.ensures.claim c.in-Ok-claim_range.ensures.ok.its

pub returns-in-Ok-read-clause-idle : goal.returns-in-Ok-read-clause-idle
returns-in-Ok-read-clause-idle g c = idle_again g.C.Disk.facts g.B.Disk.facts c.args.parts.now
    c.args.seat.now c.read_claimed-read.new.seat c.release.new.seat c.release.new.hand
    c.requires.idle
    (still_empty c.read_claimed-read.new.hand c.release.new.hand c.read_claimed-read.ensures.empty
    c.release.ensures.hand) c.release.ensures.works c.release.ensures.did

pub returns-in-Ok-read-clause-ok : goal.returns-in-Ok-read-clause-ok
returns-in-Ok-read-clause-ok g c = piece_read g.C.Disk.facts g.B.Disk.facts c.args.parts.now
    c.args.first c.args.count c.args.of (values_of c.read_claimed-read.new.bytes) c.args.seat.now
    c.promise.new.seat c.claim_range.new.seat c.read_claimed-read.new.seat c.release.new.seat
    c.promise.ensures.done c.in-Ok-claim_range.ensures.ok.done c.in-Ok-read.ensures.ok c.release.ensures.did

pub returns-clause-idle : goal.returns-clause-idle
returns-clause-idle g c = idle_again g.C.Disk.facts g.B.Disk.facts c.args.parts.now
    c.args.seat.now c.read_claimed-read.new.seat c.release.new.seat c.release.new.hand
    c.requires.idle
    (still_empty c.read_claimed-read.new.hand c.release.new.hand c.read_claimed-read.ensures.empty
    c.release.ensures.hand) c.release.ensures.works c.release.ensures.did

pub returns-clause-err : goal.returns-clause-err
returns-clause-err g c = piece_stopped g.C.Disk.facts g.B.Disk.facts c.args.parts.now
    c.args.first c.args.count c.in-Err-read.error c.args.seat.now c.promise.new.seat
    c.claim_range.new.seat c.read_claimed-read.new.seat c.release.new.seat
    c.promise.ensures.done c.in-Ok-claim_range.ensures.ok.done c.in-Err-read.ensures.err c.release.ensures.did
