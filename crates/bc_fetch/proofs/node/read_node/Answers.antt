use Rattle.std.proofs.Common.{Some, refl}
use Rattle.bc_model.specs.Sector.{values_of}
use Rattle.bc_sight.proofs.of_bc_hand.Knowing.{map_ok}
use Rattle.bc_sight.proofs.of_bc_hand.Lends.{works_cache}
use Rattle.bc_sight.proofs.of_bc_hand.Between.{did_between}
use Rattle.bc_sight.proofs.of_bc_deed.May.{did_nothing, other_number, map_if_err}
use Rattle.bc_fetch.specs.Fetch.{node_read}
use Rattle.bc_fetch.proofs.Reading.{read_failed, seen_world, stand_seen}
use Rattle.bc_fetch.proofs.node.read_node.Goals as goal

pub returns-in-Some-clause-err : goal.returns-in-Some-clause-err
returns-in-Some-clause-err g c = (
  c.in-Some.ensures.stopped c.in-Some.device refl,
  did_nothing g.C.Disk.facts g.B.Disk.facts c.args.seat.now c.requires.works.seat,
)

pub return_cache-requires : goal.return_cache-requires
return_cache-requires g c = works_cache g.C.Disk.facts g.B.Disk.facts c.args.parts.now
    c.borrow_cache-cache.new.seat c.read_in-done.new.seat c.borrow_cache-cache.new.hand
    c.borrow_cache-cache.result.0 c.read_in-done.new.cache _ c.borrow_cache-cache.ensures.lent
    c.read_in-done.ensures.seat c.read_in-done.ensures.kept (other_number 4)
    c.read_in-done.ensures.cache

pub returns-clause-ok : goal.returns-clause-ok
returns-clause-ok g c = map_ok c.read_in-done.result (λ did.
    did_between g.C.Disk.facts g.B.Disk.facts (Some (node_read c.args.at)) c.args.seat.now
    c.borrow_cache-cache.new.seat c.read_in-done.new.seat c.return_cache.new.seat
    c.borrow_cache-cache.ensures.still c.borrow_cache-cache.ensures.waited did
    c.return_cache.ensures.waited c.return_cache.ensures.seen c.return_cache.ensures.heard
    c.return_cache.ensures.works.seat) c.read_in-done.ensures.ok

pub returns-clause-read : goal.returns-clause-read
returns-clause-read g c = map_ok c.read_in-done.result (λ stand.
    stand_seen g.C.Disk.facts g.B.Disk.facts c.read_in-done.new.seat c.return_cache.new.seat
    c.args.at (values_of c.read_in-done.new.into)
    (seen_world g.C.Disk.facts g.B.Disk.facts c.read_in-done.new.seat c.return_cache.new.seat
    c.return_cache.ensures.waited c.return_cache.ensures.seen) stand) c.read_in-done.ensures.read

pub returns-clause-err : goal.returns-clause-err
returns-clause-err g c = map_if_err c.read_in-done.result (λ e h.
    read_failed g.C.Disk.facts g.B.Disk.facts e
    c.args.seat.now c.borrow_cache-cache.new.seat c.read_in-done.new.seat c.return_cache.new.seat
    c.borrow_cache-cache.ensures.still c.borrow_cache-cache.ensures.waited h
    c.return_cache.ensures.waited c.return_cache.ensures.seen c.return_cache.ensures.heard
    c.return_cache.ensures.works.seat) c.read_in-done.ensures.err
