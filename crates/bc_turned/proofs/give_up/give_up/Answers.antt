use Rattle.bc_flush.proofs.of_bc_deed.May.{map_if_err}
use Rattle.bc_flush.proofs.Syncing.{as_waited, refused_around, taken_done}
use Rattle.bc_flush.specs.bc_machine.World.{cache_among}
use Rattle.bc_turned.proofs.Keeping.{keeps_given}
use Rattle.bc_turned.proofs.Giving.{either_around, needs_done}
use Rattle.std.proofs.Common.{[], ◌∙◌}
use Rattle.bc_turned.proofs.give_up.give_up.Goals as goal

pub give_in-done-requires-clause-needs : goal.give_in-done-requires-clause-needs
give_in-done-requires-clause-needs g c =
    let cf = g.C.Disk.facts in
    let bf = g.B.Disk.facts in
    let took = c.borrow_journal-journal in
    let back = c.return_journal in
    needs_done cf bf c.args.seat.now back.new.seat [] c.args.low
    (taken_done cf bf c.args.seat.now took.new.seat back.new.seat took.ensures.waited
    back.ensures.waited) c.requires.needs

pub returns-clause-ok : goal.returns-clause-ok
returns-clause-ok g c =
    let cf = g.C.Disk.facts in
    let bf = g.B.Disk.facts in
    let took = c.borrow_journal-journal in
    let back = c.return_journal in
    let last = c.return_journal-2 in
    either_around cf bf c.args.seat.now back.new.seat c.give_in-done.new.seat last.new.seat
    (taken_done cf bf c.args.seat.now took.new.seat back.new.seat took.ensures.waited
    back.ensures.waited) last.ensures.waited last.ensures.seen c.args.low c.give_in-done.result
    c.give_in-done.ensures.ok

pub returns-clause-err : goal.returns-clause-err
returns-clause-err g c =
    let cf = g.C.Disk.facts in
    let bf = g.B.Disk.facts in
    let took = c.borrow_journal-journal in
    let back = c.return_journal in
    let last = c.return_journal-2 in
    refused_around cf bf c.args.seat.now back.new.seat c.give_in-done.new.seat
    last.new.seat
    (taken_done cf bf c.args.seat.now took.new.seat back.new.seat took.ensures.waited
    back.ensures.waited)
    (as_waited cf bf c.give_in-done.new.seat last.new.seat last.ensures.waited)
    (cache_among cf bf c.args.parts.now.run.start).sectors c.give_in-done.result
    last.ensures.seen c.give_in-done.ensures.err

pub returns-clause-memory : goal.returns-clause-memory
returns-clause-memory g c = map_if_err c.give_in-done.result
    (λ e none memory. c.return_journal-2.ensures.heard ∙ none memory) c.give_in-done.ensures.memory

pub returns-clause-keeps : goal.returns-clause-keeps
returns-clause-keeps g c = keeps_given g.C.Disk.facts g.B.Disk.facts
    (cache_among g.C.Disk.facts g.B.Disk.facts c.args.parts.now.run.start).sectors c.args.low
    c.give_in-done.result c.args.seat.now c.return_journal-2.new.seat
    (returns-clause-ok g c) (returns-clause-err g c)
