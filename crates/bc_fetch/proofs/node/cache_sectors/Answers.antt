use Rattle.std.proofs.Common.{None, ap, ◌∙◌}
use Rattle.bc_parts.specs.Seat.{Run}
use Rattle.bc_sight.specs.bc_machine.declared.part.CorePart.{CorePart}
use Rattle.bc_sight.specs.bc_machine.World.{cache_among}
use Rattle.bc_sight.proofs.of_bc_hand.Between.{did_between}
use Rattle.bc_sight.proofs.of_bc_deed.May.{did_nothing}
use Rattle.bc_sight.proofs.Reading.{cache_sectors}
use Rattle.bc_fetch.proofs.node.cache_sectors.Goals as goal

pub returns-clause-waited : goal.returns-clause-waited
returns-clause-waited g c = (did_between g.C.Disk.facts g.B.Disk.facts None c.args.seat.now
    c.borrow_cache-cache.new.seat c.borrow_cache-cache.new.seat c.return_cache.new.seat
    c.borrow_cache-cache.ensures.still c.borrow_cache-cache.ensures.waited
    (did_nothing g.C.Disk.facts g.B.Disk.facts c.borrow_cache-cache.new.seat
    c.borrow_cache-cache.ensures.lent.seat) c.return_cache.ensures.waited
    c.return_cache.ensures.seen c.return_cache.ensures.heard c.return_cache.ensures.works.seat).is

pub returns-clause-sectors : goal.returns-clause-sectors
returns-clause-sectors g c = c.sectors-sectors.ensures
    ∙ cache_sectors g.C.Disk.facts g.B.Disk.facts c.borrow_cache-cache.new.seat
    c.borrow_cache-cache.result.0 c.borrow_cache-cache.ensures.lent.stand.cache
    ∙ ap (λ (r : Run (CorePart g.row.C.Denot g.row.B.Denot)).
    (cache_among g.C.Disk.facts g.B.Disk.facts r.start).sectors)
    c.borrow_cache-cache.ensures.lent.run
