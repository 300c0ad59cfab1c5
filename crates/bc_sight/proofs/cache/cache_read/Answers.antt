use Rattle.std.proofs.Common.{Some, refl}
use Rattle.bc_model.specs.Sector.{values_of}
use Rattle.bc_events.specs.declared.event.Deed.TheVariants as deed
use Rattle.bc_deed.proofs.of_bc_hand.Knowing.{map_ok}
use Rattle.bc_deed.proofs.of_bc_hand.Lends.{works_cache}
use Rattle.bc_deed.proofs.of_bc_hand.Between.{did_between}
use Rattle.bc_deed.proofs.May.{did_nothing, other_number, map_if_err}
use Rattle.bc_sight.specs.Sight.{HasLooked, with_values}
use Rattle.bc_sight.proofs.Claims.{claim_waited}
use Rattle.bc_sight.proofs.Reading.{knows_read, knows_waited, read_failed_between, same_but_cache}
use Rattle.bc_sight.proofs.cache.cache_read.Goals as goal

pub returns-in-Some-clause-err : goal.returns-in-Some-clause-err
returns-in-Some-clause-err g c = (
  c.in-Some.ensures.stopped c.in-Some.device refl,
  did_nothing g.C.Disk.facts g.B.Disk.facts c.args.seat.now c.requires.works.seat,
)

pub returns-in_default-with_capacity-clause-err : goal.returns-in_default-with_capacity-clause-err
returns-in_default-with_capacity-clause-err g c = did_nothing g.C.Disk.facts g.B.Disk.facts
    c.args.seat.now c.requires.works.seat

pub read_in-done-requires-clause-looked : goal.read_in-done-requires-clause-looked
read_in-done-requires-clause-looked g c = (
  c.requires.looked.0,
  claim_waited g.C.Disk.facts g.B.Disk.facts c.args.seat.now c.borrow_cache-cache.new.seat
      c.requires.works.seat (λ o c'. HasLooked c.requires.looked.0 c') c.borrow_cache-cache.ensures.waited
      c.requires.looked.1,
  c.requires.looked.2,
)

pub return_cache-requires : goal.return_cache-requires
return_cache-requires g c = works_cache g.C.Disk.facts g.B.Disk.facts c.args.parts.now
    c.borrow_cache-cache.new.seat c.read_in-done.new.seat c.borrow_cache-cache.new.hand
    c.borrow_cache-cache.result.0 c.read_in-done.new.cache _ c.borrow_cache-cache.ensures.lent
    c.read_in-done.ensures.seat c.read_in-done.ensures.kept (other_number 4) c.read_in-done.ensures.cache

pub returns-clause-rest : goal.returns-clause-rest
returns-clause-rest g c = same_but_cache c.args.hand.now c.borrow_cache-cache.new.hand
    c.return_cache.new.hand _ c.borrow_cache-cache.ensures.hand c.return_cache.ensures.hand

pub returns-clause-ok : goal.returns-clause-ok
returns-clause-ok g c = map_ok c.read_in-done.result (λ did.
    did_between g.C.Disk.facts g.B.Disk.facts
    (Some (deed.CacheRead c.args.at (Some c.args.first) (values_of c.read_in-done.new.into))) c.args.seat.now
    c.borrow_cache-cache.new.seat c.read_in-done.new.seat c.return_cache.new.seat
    c.borrow_cache-cache.ensures.still c.borrow_cache-cache.ensures.waited did
    c.return_cache.ensures.waited c.return_cache.ensures.seen c.return_cache.ensures.heard
    c.return_cache.ensures.works.seat)
    c.read_in-done.ensures.ok

pub returns-clause-knows : goal.returns-clause-knows
returns-clause-knows g c = map_ok c.read_in-done.result (λ did leaf buckets read knows.
    knows_waited g.C.Disk.facts g.B.Disk.facts c.read_in-done.new.seat c.return_cache.new.seat
    c.read_in-done.ensures.seat c.return_cache.ensures.waited leaf buckets
    (with_values c.args.first (values_of c.read_in-done.new.into) read)
    (knows_read g.C.Disk.facts g.B.Disk.facts c.borrow_cache-cache.new.seat c.read_in-done.new.seat
    c.borrow_cache-cache.ensures.lent.seat c.args.at c.args.first (values_of c.read_in-done.new.into) did
    leaf buckets read
    (knows_waited g.C.Disk.facts g.B.Disk.facts c.args.seat.now c.borrow_cache-cache.new.seat
    c.requires.works.seat c.borrow_cache-cache.ensures.waited leaf buckets read knows)))
    c.read_in-done.ensures.ok

pub returns-clause-err : goal.returns-clause-err
returns-clause-err g c = map_if_err c.read_in-done.result (λ e h.
    read_failed_between g.C.Disk.facts g.B.Disk.facts e
    c.args.seat.now c.borrow_cache-cache.new.seat c.read_in-done.new.seat c.return_cache.new.seat
    c.borrow_cache-cache.ensures.still c.borrow_cache-cache.ensures.waited h
    c.return_cache.ensures.waited c.return_cache.ensures.seen c.return_cache.ensures.heard
    c.return_cache.ensures.works.seat)
    c.read_in-done.ensures.err
