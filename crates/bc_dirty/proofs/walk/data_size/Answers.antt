use Rattle.std.proofs.Common.{None, inl, refl, sym, ap, ◌∙◌}
use Rattle.bc_fetch.proofs.of_bc_deed.May.{did_nothing}
use Rattle.bc_fetch.proofs.of_bc_hand.Between.{did_between}
use Rattle.bc_fetch.specs.bc_hand.Seats.{world}
use Rattle.bc_fetch.specs.bc_machine.World.{World}
use Rattle.bc_dirty.proofs.Walking.{same_world}
use Rattle.bc_dirty.proofs.walk.data_size.Goals as goal

pub returns-clause-waited : goal.returns-clause-waited
returns-clause-waited g c = (did_between g.C.Disk.facts g.B.Disk.facts None c.args.seat.now
    c.borrow_backing-backing.new.seat c.borrow_backing-backing.new.seat c.return_backing.new.seat
    c.borrow_backing-backing.ensures.still c.borrow_backing-backing.ensures.waited
    (did_nothing g.C.Disk.facts g.B.Disk.facts c.borrow_backing-backing.new.seat
    c.borrow_backing-backing.ensures.lent.seat) c.return_backing.ensures.waited
    c.return_backing.ensures.seen c.return_backing.ensures.heard
    c.return_backing.ensures.works.seat).is

pub returns-clause-size : goal.returns-clause-size
returns-clause-size g c =
    let v = c.borrow_backing-backing.new.seat in
    ap (λ (x : World). x.opening.machine.flow.books.size)
    (same_world g.C.Disk.facts g.B.Disk.facts v c.return_backing.new.seat
    c.return_backing.ensures.waited.same.run c.return_backing.ensures.seen)
    ∙ sym (c.borrow_backing-backing.ensures.lent.stand.backing
    (world g.C.Disk.facts g.B.Disk.facts v) (inl refl)).size
