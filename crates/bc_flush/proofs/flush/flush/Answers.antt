use Rattle.std.proofs.Common.{Some, [], ◌∷◌, sym, ap, ◌∙◌, subst}
use Rattle.std.specs.Prelude.{OnOk}
use Rattle.bc_entry.specs.bc_deed.Flushed.{HasDone}
use Rattle.bc_events.specs.declared.event.Deed.TheVariants as deed
use Rattle.bc_events.specs.declared.event.LineNumber.{LineNumber}
use Rattle.bc_entry.specs.bc_hand.Seats.{Did}
use Rattle.bc_request.specs.bc_job.Asked.{line_of}
use Rattle.bc_entry.specs.bc_machine.World.{cache_among}
use Rattle.bc_flush.specs.Flushed.{HasNotFlushed}
use Rattle.bc_flush.proofs.Flushing.{all_synced_now, flush_ended, flush_halted, flush_not_ended, flush_synced, idle_either, idle_refused, still_going, still_its}
use Rattle.bc_flush.proofs.flush.flush.Goals as goal

pub returns-in-Err-clause-err : goal.returns-in-Err-clause-err
returns-in-Err-clause-err g c =
    let cf = g.C.Disk.facts in
    let bf = g.B.Disk.facts in
    let sectors = (cache_among cf bf c.args.parts.now.run.start).sectors in
    subst (λ e. HasNotFlushed cf bf sectors e (line_of c.args.job.now)
    c.args.seat.now c.flush_from.new.seat) (sym c.refusal.ensures)
    (flush_halted cf bf sectors c.in-Err.error (line_of c.args.job.now)
    c.args.seat.now c.promise.new.seat c.flush_from.new.seat c.promise.ensures.done
    c.in-Err.ensures.cause c.in-Err.ensures.err)

pub returns-in-Err-sync_journal-clause-err : goal.returns-in-Err-sync_journal-clause-err
returns-in-Err-sync_journal-clause-err g c =
    let cf = g.C.Disk.facts in
    let bf = g.B.Disk.facts in
    let sectors = (cache_among cf bf c.args.parts.now.run.start).sectors in
    subst (λ (of : LineNumber). HasNotFlushed cf bf sectors c.in-Err-sync_journal.error of
    c.args.seat.now c.sync_journal.new.seat) c.of.ensures
    (flush_synced cf bf sectors c.of.result c.args.seat.now c.promise.new.seat
    c.flush_from.new.seat c.promise.ensures.done c.in-Ok-flush_from.ensures.ok
    c.in-Err-sync_journal.error c.sync_journal.new.seat c.in-Err-sync_journal.ensures.err)

pub returns-in-Err-sync_journal-clause-idle : goal.returns-in-Err-sync_journal-clause-idle
returns-in-Err-sync_journal-clause-idle g c =
    let cf = g.C.Disk.facts in
    let bf = g.B.Disk.facts in
    let sectors = (cache_among cf bf c.args.parts.now.run.start).sectors in
    idle_refused cf bf c.args.parts.now sectors c.in-Err-sync_journal.error c.of.result
    c.args.seat.now c.sync_journal.new.seat c.requires.idle c.in-Err-sync_journal.ensures.works
    (flush_synced cf bf sectors c.of.result c.args.seat.now c.promise.new.seat
    c.flush_from.new.seat c.promise.ensures.done c.in-Ok-flush_from.ensures.ok
    c.in-Err-sync_journal.error c.sync_journal.new.seat c.in-Err-sync_journal.ensures.err)

pub end-requires-clause-going : goal.end-requires-clause-going
end-requires-clause-going g c = still_going g.C.Disk.facts g.B.Disk.facts c.of.result
    c.args.seat.now c.promise.new.seat c.flush_from.new.seat c.promise.ensures.done
    c.in-Ok-flush_from.ensures.ok c.sync_journal.new.seat
    c.in-Ok-sync_journal.ensures.ok c.promise.ensures.works.seat

pub end-requires-clause-its : goal.end-requires-clause-its
end-requires-clause-its g c = still_its g.C.Disk.facts g.B.Disk.facts c.of.result
    c.args.seat.now c.promise.new.seat c.flush_from.new.seat c.promise.ensures.done
    c.in-Ok-flush_from.ensures.ok c.sync_journal.new.seat
    c.in-Ok-sync_journal.ensures.ok c.promise.ensures.works.seat
    ∙ ap (λ (of : LineNumber). of.line) (c.of.ensures ∙ sym c.of-2.ensures)

pub end-requires-clause-flushed : goal.end-requires-clause-flushed
end-requires-clause-flushed g c = all_synced_now g.C.Disk.facts g.B.Disk.facts c.of.result
    c.args.seat.now c.promise.new.seat c.flush_from.new.seat c.promise.ensures.done
    c.in-Ok-flush_from.ensures.ok c.sync_journal.new.seat
    c.in-Ok-sync_journal.ensures.ok c.promise.ensures.works.seat
    c.in-Ok-sync_journal.ensures.durable

pub returns-clause-ok : goal.returns-clause-ok
returns-clause-ok g c =
    let cf = g.C.Disk.facts in
    let bf = g.B.Disk.facts in
    let begins = subst (λ (of : LineNumber). Did cf bf (Some (deed.FlushFrom of))
    c.promise.new.seat c.flush_from.new.seat) c.of.ensures c.in-Ok-flush_from.ensures.ok in
    flush_ended cf bf (cache_among cf bf c.args.parts.now.run.start).sectors
    (line_of c.args.job.now) c.args.seat.now c.promise.new.seat
    c.flush_from.new.seat c.promise.ensures.done begins c.sync_journal.new.seat
    c.in-Ok-sync_journal.ensures.ok c.end.new.seat c.end.result
    (subst (λ (of : LineNumber). OnOk c.end.result (HasDone cf bf
    (deed.BackingBarrier ∷ deed.FlushDone of ∷ []) c.sync_journal.new.seat c.end.new.seat))
    c.of-2.ensures c.end.ensures.ok)

pub returns-clause-err : goal.returns-clause-err
returns-clause-err g c =
    let cf = g.C.Disk.facts in
    let bf = g.B.Disk.facts in
    let begins = subst (λ (of : LineNumber). Did cf bf (Some (deed.FlushFrom of))
    c.promise.new.seat c.flush_from.new.seat) c.of.ensures c.in-Ok-flush_from.ensures.ok in
    flush_not_ended cf bf (cache_among cf bf c.args.parts.now.run.start).sectors
    (line_of c.args.job.now) c.args.seat.now c.promise.new.seat
    c.flush_from.new.seat c.promise.ensures.done begins c.sync_journal.new.seat
    c.in-Ok-sync_journal.ensures.ok c.end.new.seat c.end.result c.end.ensures.err

pub returns-clause-idle : goal.returns-clause-idle
returns-clause-idle g c =
    let cf = g.C.Disk.facts in
    let bf = g.B.Disk.facts in
    let sectors = (cache_among cf bf c.args.parts.now.run.start).sectors in
    let of = line_of c.args.job.now in
    let begins = subst (λ (of : LineNumber). Did cf bf (Some (deed.FlushFrom of))
    c.promise.new.seat c.flush_from.new.seat) c.of.ensures c.in-Ok-flush_from.ensures.ok in
    idle_either cf bf c.end.result c.args.parts.now sectors of c.args.seat.now
    c.end.new.seat c.requires.idle c.end.ensures.works
    (flush_ended cf bf sectors of c.args.seat.now c.promise.new.seat
    c.flush_from.new.seat c.promise.ensures.done begins c.sync_journal.new.seat
    c.in-Ok-sync_journal.ensures.ok c.end.new.seat c.end.result
    (subst (λ (of : LineNumber). OnOk c.end.result (HasDone cf bf
    (deed.BackingBarrier ∷ deed.FlushDone of ∷ []) c.sync_journal.new.seat c.end.new.seat))
    c.of-2.ensures c.end.ensures.ok))
    (flush_not_ended cf bf sectors of c.args.seat.now c.promise.new.seat
    c.flush_from.new.seat c.promise.ensures.done begins c.sync_journal.new.seat
    c.in-Ok-sync_journal.ensures.ok c.end.new.seat c.end.result c.end.ensures.err)
