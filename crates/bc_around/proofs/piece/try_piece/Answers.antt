use Rattle.bc_around.proofs.Holding.{still_empty}
use Rattle.bc_around.proofs.Pieces.{claim_of_all, come_same, halted_or, idle_again, no_memory, not_claimed, stop_same, stopped_there, tried_there}
use Rattle.bc_around.proofs.piece.try_piece.Goals as goal

pub returns-in_default-clause-err : goal.returns-in_default-clause-err
returns-in_default-clause-err g c = no_memory g.C.Disk.facts g.B.Disk.facts c.args.parts.now
    c.args.force c.args.of c.args.first c.args.values.now c.args.seat.now
    c.requires.idle.works.seat

pub returns-in_default-bytes_of-clause-err : goal.returns-in_default-bytes_of-clause-err
returns-in_default-bytes_of-clause-err g c = no_memory g.C.Disk.facts g.B.Disk.facts
    c.args.parts.now c.args.force c.args.of c.args.first c.args.values.now c.args.seat.now
    c.requires.idle.works.seat

pub returns-in-Err-clause-err : goal.returns-in-Err-clause-err
returns-in-Err-clause-err g c = not_claimed g.C.Disk.facts g.B.Disk.facts c.args.parts.now
    c.args.force c.args.of c.args.first c.args.values.now c.in-Err.error c.args.seat.now
    c.promise.new.seat c.claim_range.new.seat c.promise.ensures.done c.in-Err.ensures.err.1
    (halted_or c.in-Err.error c.claim_range.new.seat.seen c.in-Err.ensures.err.0)

pub returns-clause-idle : goal.returns-clause-idle
returns-clause-idle g c = idle_again g.C.Disk.facts g.B.Disk.facts c.args.parts.now
    c.args.seat.now c.write_past-tried.new.seat c.release.new.seat c.release.new.hand
    c.requires.idle
    (still_empty c.write_past-tried.new.hand c.release.new.hand c.write_past-tried.ensures.empty
    c.release.ensures.hand) c.release.ensures.works c.release.ensures.did

pub returns-clause-ok : goal.returns-clause-ok
returns-clause-ok g c =
    let cf = g.C.Disk.facts in
    let bf = g.B.Disk.facts in
    tried_there cf bf c.args.parts.now c.args.force c.args.of c.args.first c.args.values.now
    c.args.seat.now c.promise.new.seat c.claim_range.new.seat c.write_past-tried.new.seat
    c.release.new.seat c.promise.ensures.done
    (claim_of_all cf bf c.promise.new.seat c.claim_range.new.seat c.args.first c.len-count.result
    c.args.values.now c.len-count.ensures c.in-Ok-claim_range.ensures.ok.done)
    c.release.ensures.did c.write_past-tried.result
    (come_same cf bf c.write_past-tried.result c.args.parts.now c.args.force c.args.of c.args.first
    c.in-Ok.own c.args.values.now c.claim_range.new.seat c.write_past-tried.new.seat
    c.in-Ok.ensures c.write_past-tried.ensures.ok)

pub returns-clause-err : goal.returns-clause-err
returns-clause-err g c =
    let cf = g.C.Disk.facts in
    let bf = g.B.Disk.facts in
    stopped_there cf bf c.args.parts.now c.args.force c.args.of c.args.first c.args.values.now
    c.args.seat.now c.promise.new.seat c.claim_range.new.seat c.write_past-tried.new.seat
    c.release.new.seat c.promise.ensures.done
    (claim_of_all cf bf c.promise.new.seat c.claim_range.new.seat c.args.first c.len-count.result
    c.args.values.now c.len-count.ensures c.in-Ok-claim_range.ensures.ok.done)
    c.release.ensures.did c.write_past-tried.result
    (stop_same cf bf c.write_past-tried.result c.args.parts.now c.args.force c.args.of c.args.first
    c.in-Ok.own c.args.values.now c.claim_range.new.seat c.write_past-tried.new.seat
    c.in-Ok.ensures c.write_past-tried.ensures.err)
