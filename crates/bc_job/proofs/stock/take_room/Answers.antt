use Rattle.std.proofs.Common.{refl, arith}
use Rattle.bc_job.proofs.Looping.{done_none}
use Rattle.bc_job.proofs.Ready.{no_less, ready_less, ready_more}
use Rattle.bc_job.proofs.stock.take_room.Goals as goal

pub returns-then-stock-deeds-clause-ready : goal.returns-then-stock-deeds-clause-ready
returns-then-stock-deeds-clause-ready g c = ready_less g.C.Disk.facts g.B.Disk.facts c.args.parts.now
    c.args.seat.now c.args.stock.now _ c.requires.ready (omega arith)

pub returns-then-stock-deeds-clause-done : goal.returns-then-stock-deeds-clause-done
returns-then-stock-deeds-clause-done g c = done_none g.C.Disk.facts g.B.Disk.facts c.args.seat.now
    c.requires.ready.works.seat

pub returns-then-stock-deeds-clause-ok : goal.returns-then-stock-deeds-clause-ok
returns-then-stock-deeds-clause-ok g c = let room = c.requires.ready.room in omega arith

pub returns-in_default-clause-ready : goal.returns-in_default-clause-ready
returns-in_default-clause-ready g c = ready_more g.C.Disk.facts g.B.Disk.facts c.args.parts.now c.args.seat.now
    c.promise.new.seat c.args.stock.now c.promise.new.hand _ c.requires.ready c.promise.ensures.works
    c.promise.ensures.hand c.promise.ensures.note
    (no_less c.promise.result _ _ _ c.args.stock.now.room c.promise.ensures.ok c.promise.ensures.err
    c.requires.ready.room)

pub returns-clause-ready : goal.returns-clause-ready
returns-clause-ready g c = ready_more g.C.Disk.facts g.B.Disk.facts c.args.parts.now c.args.seat.now
    c.promise.new.seat c.args.stock.now c.promise.new.hand _ c.requires.ready c.promise.ensures.works
    c.promise.ensures.hand c.promise.ensures.note
    (let room = c.requires.ready.room in let more = c.in-Ok.ensures.ok in omega arith)

pub returns-clause-ok : goal.returns-clause-ok
returns-clause-ok g c =
    let room = c.requires.ready.room in
    let more = c.in-Ok.ensures.ok in
    omega arith
