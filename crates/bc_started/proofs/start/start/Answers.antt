use Rattle.std.proofs.Common.{sym, subst}
use Rattle.bc_entry.specs.bc_hand.Seats.{world}
use Rattle.bc_entry.specs.bc_machine.World.{IsBacking, IsCache}
use Rattle.bc_entry.specs.bc_machine.declared.part.BackingPart.{BackingPart}
use Rattle.bc_started.proofs.Ended.{can_first, ended, started}
use Rattle.bc_started.proofs.start.start.Goals as goal

pub put_first-requires-clause-can : goal.put_first-requires-clause-can
put_first-requires-clause-can g c =
    can_first g.C.Disk.facts g.B.Disk.facts c.args.g.now c.args.read.now c.args.ready
    c.requires.can c.in-Ok.journal c.in-Ok.ensures.found c.in-Ok-begin.run'.0 c.in-Ok-begin.run'.1
    c.in-Ok-begin.ensures.ok

pub returns-in-Ok-put_first-clause-ok : goal.returns-in-Ok-put_first-clause-ok
returns-in-Ok-put_first-clause-ok g c =
    started g.C.Disk.facts g.B.Disk.facts c.args.g.now c.args.read.now c.args.ready
    c.requires.can c.in-Ok.journal c.in-Ok.ensures.found c.in-Ok-begin.run'.0 c.in-Ok-begin.run'.1
    c.in-Ok-begin.ensures.ok
    c.put_first.new.seat c.in-Ok-put_first.ensures.works c.in-Ok-put_first.ensures.all
    c.in-Ok-put_first.ensures.ok

pub returns-in-Err-put_first-clause-err : goal.returns-in-Err-put_first-clause-err
returns-in-Err-put_first-clause-err g c =
    let cf = g.C.Disk.facts in
    let bf = g.B.Disk.facts in
    let now = world cf bf c.put_first.new.seat in
    ended cf bf c.args.g.now c.args.read.now c.args.ready
    c.requires.can c.in-Ok.journal c.in-Ok.ensures.found c.in-Ok-begin.run'.0 c.in-Ok-begin.run'.1
    c.in-Ok-begin.ensures.ok
    c.put_first.new.seat c.in-Err-put_first.ensures.works c.in-Err-put_first.error c.ended.result
    c.end.result.pass c.ended.ensures.cause c.end.ensures.events
    (subst (λ (d : g.row.C.Denot). IsCache {B = g.row.B.Denot} cf bf d now)
    (sym c.ended.ensures.cache) c.end.ensures.cache)
    (subst (λ (d : BackingPart g.row.B.Denot). IsBacking {C = g.row.C.Denot} cf bf d now)
    (sym c.ended.ensures.backing) c.end.ensures.backing) c.ended.ensures.pass
    c.in-Err-put_first.ensures.err
