use Rattle.bc_flush.specs.bc_machine.World.{cache_among}
use Rattle.bc_around.proofs.Pieces.{idle_synced, not_synced_behind, synced_behind}
use Rattle.bc_around.proofs.piece.make_durable.Goals as goal

pub returns-clause-idle : goal.returns-clause-idle
returns-clause-idle g c =
    let cf = g.C.Disk.facts in
    let bf = g.B.Disk.facts in
    idle_synced cf bf c.sync_journal.result c.args.parts.now
    (cache_among cf bf c.args.parts.now.run.start).sectors c.args.seat.now
    c.promise.new.seat c.sync_journal.new.seat c.requires.idle c.promise.ensures.done
    c.sync_journal.ensures.works c.sync_journal.ensures.ok c.sync_journal.ensures.err

pub returns-clause-ok : goal.returns-clause-ok
returns-clause-ok g c = synced_behind g.C.Disk.facts g.B.Disk.facts c.sync_journal.result c.args.seat.now c.promise.new.seat c.sync_journal.new.seat
    c.promise.ensures.done c.sync_journal.ensures.ok

pub returns-clause-err : goal.returns-clause-err
returns-clause-err g c =
    let cf = g.C.Disk.facts in
    let bf = g.B.Disk.facts in
    not_synced_behind cf bf c.sync_journal.result
    (cache_among cf bf c.args.parts.now.run.start).sectors c.args.seat.now
    c.promise.new.seat c.sync_journal.new.seat c.promise.ensures.done c.sync_journal.ensures.err
