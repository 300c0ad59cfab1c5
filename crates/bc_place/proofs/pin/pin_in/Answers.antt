use Rattle.std.proofs.Common.{subst, arith}
use Rattle.bc_place.specs.Place.{HasOpened}
use Rattle.bc_place.proofs.Keeping.{keeps_both}
use Rattle.bc_place.proofs.Placing.{given_place, halted_behind, opened_left, own_given}
use Rattle.bc_place.proofs.pin.pin_in.Goals as goal

pub returns-in-Ok-clause-ok : goal.returns-in-Ok-clause-ok
returns-in-Ok-clause-ok g c = given_place g.C.Disk.facts g.B.Disk.facts c.args.before c.args.count
    c.in-Ok-Ok.opened c.in-Ok.placed c.args.seat.now c.open_in.new.seat c.cut_in.new.seat
    (subst (λ r. HasOpened g.C.Disk.facts g.B.Disk.facts c.args.before r c.args.seat.now
    c.open_in.new.seat) c.in-Ok-Ok.field-0-is c.in-Ok-Ok.ensures.ok) c.in-Ok.ensures.ok

pub returns-in-Ok-clause-knows : goal.returns-in-Ok-clause-knows
returns-in-Ok-clause-knows g c = own_given g.C.Disk.facts g.B.Disk.facts c.in-Ok-Ok.opened
    c.in-Ok.placed c.cut_in.new.seat c.in-Ok.ensures.knows

pub returns-in-Ok-clause-apart : goal.returns-in-Ok-clause-apart
returns-in-Ok-clause-apart g c = λ p own. c.in-Ok.ensures.apart p (c.open_in.ensures.keeps.own p own)

pub returns-in-Ok-clause-keeps : goal.returns-in-Ok-clause-keeps
returns-in-Ok-clause-keeps g c = keeps_both g.C.Disk.facts g.B.Disk.facts c.args.seat.now
    c.open_in.new.seat c.cut_in.new.seat c.open_in.ensures.keeps c.cut_in.ensures.keeps

pub returns-in-Err-cut_in-clause-err : goal.returns-in-Err-cut_in-clause-err
returns-in-Err-cut_in-clause-err g c = halted_behind g.C.Disk.facts g.B.Disk.facts
    c.in-Err-cut_in.error c.args.before c.in-Ok-Ok.opened c.args.seat.now c.open_in.new.seat
    c.cut_in.new.seat
    (subst (λ r. HasOpened g.C.Disk.facts g.B.Disk.facts c.args.before r c.args.seat.now
    c.open_in.new.seat) c.in-Ok-Ok.field-0-is c.in-Ok-Ok.ensures.ok) c.in-Err-cut_in.ensures.cause
    c.in-Err-cut_in.ensures.err

pub returns-in-Err-cut_in-clause-keeps : goal.returns-in-Err-cut_in-clause-keeps
returns-in-Err-cut_in-clause-keeps g c = keeps_both g.C.Disk.facts g.B.Disk.facts c.args.seat.now
    c.open_in.new.seat c.cut_in.new.seat c.open_in.ensures.keeps c.cut_in.ensures.keeps

pub returns-in-Ok-clause-left : goal.returns-in-Ok-clause-left
returns-in-Ok-clause-left g c =
    let opened = opened_left g.C.Disk.facts g.B.Disk.facts c.args.before _ c.args.seat.now
    c.open_in.new.seat c.in-Ok-Ok.ensures.ok in
    let pinned = c.in-Ok.ensures.ok.did.is.promises in omega (arith, opened, pinned)

pub returns-in-Err-cut_in-clause-left : goal.returns-in-Err-cut_in-clause-left
returns-in-Err-cut_in-clause-left g c =
    let opened = opened_left g.C.Disk.facts g.B.Disk.facts c.args.before _ c.args.seat.now
    c.open_in.new.seat c.in-Ok-Ok.ensures.ok in
    let none = c.in-Err-cut_in.ensures.err.is.promises in omega (arith, opened, none)
