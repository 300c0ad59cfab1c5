use Rattle.bc_deed.proofs.Room.{works_promised, note_promised}
use Rattle.bc_deed.proofs.promise.promise.Goals as goal

pub returns-clause-works : goal.returns-clause-works
returns-clause-works g c = works_promised g.C.Disk.facts g.B.Disk.facts c.args.parts.now c.args.seat.now
    c.promise.new.seat c.args.hand.now _ c.requires.works c.promise.ensures.kept c.promise.ensures.went
    c.promise.ensures.since c.promise.ensures.heard

pub returns-clause-note : goal.returns-clause-note
returns-clause-note g c = note_promised g.C.Disk.facts g.B.Disk.facts c.args.seat.now c.promise.new.seat
    c.requires.works.seat c.promise.ensures.went c.promise.ensures.since c.promise.ensures.heard
