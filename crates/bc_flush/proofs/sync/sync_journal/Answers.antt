use Rattle.bc_entry.specs.bc_machine.World.{cache_among}
use Rattle.bc_flush.proofs.Syncing.{as_waited, durable_around, refused_around, synced_around, taken_done}
use Rattle.bc_flush.proofs.sync.sync_journal.Goals as goal

pub returns-clause-ok : goal.returns-clause-ok
returns-clause-ok g c =
    let cf = g.C.Disk.facts in
    let bf = g.B.Disk.facts in
    let took = c.borrow_journal-journal in
    let back = c.return_journal in
    let last = c.return_journal-2 in
    synced_around cf bf c.args.seat.now back.new.seat c.sync_in-done.new.seat
    last.new.seat
    (taken_done cf bf c.args.seat.now took.new.seat back.new.seat took.ensures.waited
    back.ensures.waited)
    (as_waited cf bf c.sync_in-done.new.seat last.new.seat last.ensures.waited)
    c.sync_in-done.result c.sync_in-done.ensures.ok

pub returns-clause-durable : goal.returns-clause-durable
returns-clause-durable g c =
    let cf = g.C.Disk.facts in
    let bf = g.B.Disk.facts in
    let took = c.borrow_journal-journal in
    let back = c.return_journal in
    let last = c.return_journal-2 in
    durable_around cf bf c.args.seat.now back.new.seat c.sync_in-done.new.seat
    last.new.seat
    (taken_done cf bf c.args.seat.now took.new.seat back.new.seat took.ensures.waited
    back.ensures.waited)
    (as_waited cf bf c.sync_in-done.new.seat last.new.seat last.ensures.waited)
    c.sync_in-done.result c.sync_in-done.ensures.durable

pub returns-clause-err : goal.returns-clause-err
returns-clause-err g c =
    let cf = g.C.Disk.facts in
    let bf = g.B.Disk.facts in
    let took = c.borrow_journal-journal in
    let back = c.return_journal in
    let last = c.return_journal-2 in
    refused_around cf bf c.args.seat.now back.new.seat c.sync_in-done.new.seat
    last.new.seat
    (taken_done cf bf c.args.seat.now took.new.seat back.new.seat took.ensures.waited
    back.ensures.waited)
    (as_waited cf bf c.sync_in-done.new.seat last.new.seat last.ensures.waited)
    (cache_among cf bf c.args.parts.now.run.start).sectors c.sync_in-done.result
    last.ensures.seen c.sync_in-done.ensures.err
