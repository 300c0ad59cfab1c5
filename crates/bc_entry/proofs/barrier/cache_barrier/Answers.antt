use Rattle.std.proofs.Common.{refl, Some, arith}
use Rattle.bc_events.specs.declared.event.Deed.TheVariants as deed
use Rattle.bc_events.specs.declared.event.Failure.TheVariants as failure
use Rattle.bc_disk.specs.declared.disk.Device.TheVariants as device
use Rattle.bc_deed.proofs.of_bc_hand.Knowing.{map_ok}
use Rattle.bc_deed.proofs.of_bc_hand.Lends.{works_cache}
use Rattle.bc_deed.proofs.of_bc_hand.Between.{did_between}
use Rattle.bc_deed.proofs.May.{did_nothing, other_number, map_if_err}
use Rattle.bc_entry.proofs.CacheDevice.{failed_between}
use Rattle.bc_entry.proofs.Holding.{makes_firm, works_cache_held, works_journal_held}
use Rattle.bc_entry.proofs.barrier.cache_barrier.Goals as goal

pub returns-in-Some-clause-err : goal.returns-in-Some-clause-err
returns-in-Some-clause-err g c = (
  c.in-Some.ensures.stopped c.in-Some.device refl,
  did_nothing g.C.Disk.facts g.B.Disk.facts c.args.seat.now c.requires.works.seat,
)

pub return_cache-requires : goal.return_cache-requires
return_cache-requires g c = works_cache g.C.Disk.facts g.B.Disk.facts c.args.parts.now
    c.borrow_cache-cache.new.seat c.barrier_in-done.new.seat c.borrow_cache-cache.new.hand
    c.borrow_cache-cache.result.0 c.barrier_in-done.new.cache _ c.borrow_cache-cache.ensures.lent
    c.barrier_in-done.ensures.seat c.barrier_in-done.ensures.kept (other_number 4)
    c.barrier_in-done.ensures.cache

pub returns-clause-ok : goal.returns-clause-ok
returns-clause-ok g c = map_ok c.barrier_in-done.result (λ did.
    did_between g.C.Disk.facts g.B.Disk.facts (Some deed.CacheBarrier) c.args.seat.now
    c.borrow_cache-cache.new.seat c.barrier_in-done.new.seat c.return_cache.new.seat
    c.borrow_cache-cache.ensures.still c.borrow_cache-cache.ensures.waited did
    c.return_cache.ensures.waited c.return_cache.ensures.seen c.return_cache.ensures.heard
    c.return_cache.ensures.works.seat) c.barrier_in-done.ensures.ok

pub returns-clause-err : goal.returns-clause-err
returns-clause-err g c = map_if_err c.barrier_in-done.result (λ e h.
    failed_between g.C.Disk.facts g.B.Disk.facts e
    (deed.DeviceFault (failure.Barrier device.Cache)) c.args.seat.now
    c.borrow_cache-cache.new.seat c.barrier_in-done.new.seat c.return_cache.new.seat
    c.borrow_cache-cache.ensures.still c.borrow_cache-cache.ensures.waited h
    c.return_cache.ensures.waited c.return_cache.ensures.seen c.return_cache.ensures.heard
    c.return_cache.ensures.works.seat) c.barrier_in-done.ensures.err

pub returns-clause-firm : goal.returns-clause-firm
returns-clause-firm g c = map_ok c.barrier_in-done.result (λ did both.
    makes_firm g.C.Disk.facts g.B.Disk.facts c.args.seat.now c.return_cache.new.seat
    (works_journal_held g.C.Disk.facts g.B.Disk.facts c.args.parts.now c.args.seat.now
    c.args.hand.now c.requires.works both.journal)
    (works_cache_held g.C.Disk.facts g.B.Disk.facts c.args.parts.now c.args.seat.now
    c.args.hand.now c.requires.works both.cache)
    (did_between g.C.Disk.facts g.B.Disk.facts (Some deed.CacheBarrier) c.args.seat.now
    c.borrow_cache-cache.new.seat c.barrier_in-done.new.seat c.return_cache.new.seat
    c.borrow_cache-cache.ensures.still c.borrow_cache-cache.ensures.waited did
    c.return_cache.ensures.waited c.return_cache.ensures.seen c.return_cache.ensures.heard
    c.return_cache.ensures.works.seat)) c.barrier_in-done.ensures.ok

pub returns-clause-left : goal.returns-clause-left
returns-clause-left g c =
    let lent = c.borrow_cache-cache.ensures.waited.promises in
    let done = c.barrier_in-done.ensures.left in
    let back = c.return_cache.ensures.waited.promises in
    omega (arith, lent, done, back)
