use Rattle.bc_new_chain.proofs.of_bc_chain.of_bc_deed.Room.{works_promised}
use Rattle.bc_refill.proofs.Promised.{held_promised, places_promised}
use Rattle.bc_refill.proofs.refill.promise_all.Goals as goal

pub returns-clause-works : goal.returns-clause-works
returns-clause-works g c = works_promised g.C.Disk.facts g.B.Disk.facts c.args.parts.now c.args.seat.now
    c.promise.new.seat c.args.hand.now _ c.requires c.promise.ensures.kept c.promise.ensures.went
    c.promise.ensures.since c.promise.ensures.heard

pub returns-clause-keeps : goal.returns-clause-keeps
returns-clause-keeps g c = places_promised g.C.Disk.facts g.B.Disk.facts c.args.seat.now
    c.promise.new.seat c.requires.seat c.promise.ensures.went c.promise.ensures.since
    c.promise.ensures.heard

pub returns-clause-held : goal.returns-clause-held
returns-clause-held g c = held_promised g.C.Disk.facts g.B.Disk.facts c.args.seat.now
    c.promise.new.seat c.requires.seat c.promise.ensures.went c.promise.ensures.since
    c.promise.ensures.heard
