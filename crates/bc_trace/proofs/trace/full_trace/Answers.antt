use Rattle.std.proofs.Common.{[]}
use Rattle.bc_leaf_walk.specs.bc_machine.World.{cache_among}
use Rattle.bc_trace.proofs.Ending.{gives_none, not_traced, traced_behind}
use Rattle.bc_trace.proofs.Going.{before_done, gone_both, gone_done, none_done, stopped_on}
use Rattle.bc_trace.proofs.Keeping.{keeps_not, keeps_traced}
use Rattle.bc_trace.proofs.trace.full_trace.Goals as goal

pub go_on-requires-clause-before : goal.go_on-requires-clause-before
go_on-requires-clause-before g c = before_done g.C.Disk.facts g.B.Disk.facts c.args.before
    c.in-Ok.ensures.ok.deeds c.data_size-size.new.seat c.begin.new.seat c.in-Ok.ensures.ok.done
    (before_done g.C.Disk.facts g.B.Disk.facts c.args.before [] c.args.seat.now
    c.data_size-size.new.seat c.data_size-size.ensures.done c.requires.before)

pub returns-in-Err-clause-err : goal.returns-in-Err-clause-err
returns-in-Err-clause-err g c =
    let cf = g.C.Disk.facts in
    let bf = g.B.Disk.facts in
    let sectors = (cache_among cf bf c.args.parts.now.run.start).sectors in
    not_traced cf bf sectors c.in-Err.error c.args.seat.now c.begin.new.seat c.begin.new.seat
    (stopped_on cf bf sectors c.in-Err.error c.args.seat.now c.data_size-size.new.seat
    c.begin.new.seat
    (gone_done cf bf c.args.seat.now c.data_size-size.new.seat c.data_size-size.ensures.done)
    c.in-Err.ensures.err)
    (gives_none cf bf c.begin.new.seat c.begin.new.seat
    (none_done cf bf c.begin.new.seat c.begin.ensures.works.seat))

pub returns-in-Ok-go_on-clause-ok : goal.returns-in-Ok-go_on-clause-ok
returns-in-Ok-go_on-clause-ok g c =
    let cf = g.C.Disk.facts in
    let bf = g.B.Disk.facts in
    traced_behind cf bf c.args.seat.now c.begin.new.seat c.go_on.new.seat
    (gone_both cf bf c.args.seat.now c.data_size-size.new.seat c.begin.new.seat
    (gone_done cf bf c.args.seat.now c.data_size-size.new.seat c.data_size-size.ensures.done)
    c.in-Ok.ensures.ok) c.in-Ok-go_on.ensures.ok

pub returns-in-Err-go_on-clause-err : goal.returns-in-Err-go_on-clause-err
returns-in-Err-go_on-clause-err g c =
    let cf = g.C.Disk.facts in
    let bf = g.B.Disk.facts in
    let sectors = (cache_among cf bf c.args.parts.now.run.start).sectors in
    not_traced cf bf sectors c.in-Err-go_on.error c.args.seat.now c.go_on.new.seat
    c.give_up.new.seat
    (stopped_on cf bf sectors c.in-Err-go_on.error c.args.seat.now c.begin.new.seat
    c.go_on.new.seat
    (gone_both cf bf c.args.seat.now c.data_size-size.new.seat c.begin.new.seat
    (gone_done cf bf c.args.seat.now c.data_size-size.new.seat c.data_size-size.ensures.done)
    c.in-Ok.ensures.ok) c.in-Err-go_on.ensures.err) c.give_up.ensures.gives

pub returns-in-Err-clause-keeps : goal.returns-in-Err-clause-keeps
returns-in-Err-clause-keeps g c = keeps_not g.C.Disk.facts g.B.Disk.facts
    (cache_among g.C.Disk.facts g.B.Disk.facts c.args.parts.now.run.start).sectors c.in-Err.error
    c.args.seat.now c.begin.new.seat (returns-in-Err-clause-err g c)

pub returns-in-Ok-go_on-clause-keeps : goal.returns-in-Ok-go_on-clause-keeps
returns-in-Ok-go_on-clause-keeps g c = keeps_traced g.C.Disk.facts g.B.Disk.facts c.args.seat.now
    c.go_on.new.seat (returns-in-Ok-go_on-clause-ok g c)

pub returns-in-Err-go_on-clause-keeps : goal.returns-in-Err-go_on-clause-keeps
returns-in-Err-go_on-clause-keeps g c = keeps_not g.C.Disk.facts g.B.Disk.facts
    (cache_among g.C.Disk.facts g.B.Disk.facts c.args.parts.now.run.start).sectors
    c.in-Err-go_on.error c.args.seat.now c.give_up.new.seat (returns-in-Err-go_on-clause-err g c)
