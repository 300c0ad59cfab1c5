use Rattle.std.proofs.Common.{◌≡◌, ◌*◌, ◌/◌, ◌≤◌, inl, inr, length, ap, ◌∙◌, subst, arith, Some}
use Rattle.bc_cache.specs.Slots.{Misses, NodeCache, NoneCanGo}
use Rattle.bc_sight.proofs.of_bc_deed.May.{map_if_err}
use Rattle.bc_disk.specs.declared.geometry.Geometry.{Geometry}
use Rattle.bc_sight.proofs.of_bc_hand.Knowing.{map_ok}
use Rattle.bc_sight.specs.bc_machine.World.{cache_among}
use Rattle.bc_fetch.specs.Fetch.{HasTaken, node_read}
use Rattle.bc_fetch.proofs.Fetching.{both_after, did_before, map_if_ok, of_after, part_after, spine_after, stop_before}
use Rattle.bc_fetch.proofs.fetch.read_leaf.Goals as goal

pub returns-then-sectors-range-clause-err : goal.returns-then-sectors-range-clause-err
returns-then-sectors-range-clause-err g c = (
  (
    c.in-Some.leaves,
    c.in-Some.is,
    inl (let less = c.if-sectors-range.true in
        let all = c.cache_sectors-sectors.ensures.sectors in
        let long = c.from.ensures ∙ ap (λ (a : Geometry). a.node_sectors) c.geometry-g.ensures in
        omega (arith, less, all, long)),
  ),
  record {
    is = c.cache_sectors-sectors.ensures.waited;
    seat = c.cache_sectors-sectors.ensures.works.seat;
  },
)

pub returns-then-from-at-clause-err : goal.returns-then-from-at-clause-err
returns-then-from-at-clause-err g c = (
  (
    c.in-Some.leaves,
    c.in-Some.is,
    inr (subst (λ (a : Geometry). a.nbuckets ≤ c.args.range.now.ptr.offset / a.bucket)
        c.geometry-g.ensures
        (subst (λ n. n ≤ c.args.range.now.ptr.offset / c.geometry-g.result.now.bucket) c.from-3.ensures
        (subst (λ k. c.from-3.result ≤ c.args.range.now.ptr.offset / k) c.from-2.ensures
        c.if-from-at.true))),
  ),
  record {
    is = c.cache_sectors-sectors.ensures.waited;
    seat = c.cache_sectors-sectors.ensures.works.seat;
  },
)

pub read_into-requires-clause-begins : goal.read_into-requires-clause-begins
read_into-requires-clause-begins g c = of_after c.args.hand.now c.cache_sectors-sectors.new.hand
    (λ (x : NodeCache). c.args.range.now.ptr.offset / c.from-2.result
    ≡ c.args.range.now.ptr.offset / x.geometry.bucket) c.cache_sectors-sectors.ensures.hand (
      c.in-Some.leaves,
      c.in-Some.is,
      ap (λ k. c.args.range.now.ptr.offset / k)
          (c.from-2.ensures ∙ ap (λ (a : Geometry). a.bucket) c.geometry-g.ensures),
    )

pub read_into-requires-clause-spine : goal.read_into-requires-clause-spine
read_into-requires-clause-spine g c = spine_after c.args.hand.now c.cache_sectors-sectors.new.hand
    c.args.range.now c.cache_sectors-sectors.ensures.hand c.requires.spine

pub read_into-requires-clause-part : goal.read_into-requires-clause-part
read_into-requires-clause-part g c = part_after c.args.hand.now
    c.cache_sectors-sectors.new.hand _ c.cache_sectors-sectors.ensures.hand c.requires.part

pub read_into-requires-clause-new : goal.read_into-requires-clause-new
read_into-requires-clause-new g c = of_after c.args.hand.now c.cache_sectors-sectors.new.hand
    (λ (x : NodeCache). Misses x.slots c.args.range.now.number)
    c.cache_sectors-sectors.ensures.hand c.requires.new

pub read_into-requires-clause-some : goal.read_into-requires-clause-some
read_into-requires-clause-some g c = of_after c.args.hand.now c.cache_sectors-sectors.new.hand
    (λ (x : NodeCache). NoneCanGo x.slots → ⊥) c.cache_sectors-sectors.ensures.hand c.requires.some

pub read_into-requires-clause-whole : goal.read_into-requires-clause-whole
read_into-requires-clause-whole g c = of_after c.args.hand.now c.cache_sectors-sectors.new.hand
    (λ (x : NodeCache). length c.deref_mut.result.now ≡ 512 * x.geometry.node_sectors)
    c.cache_sectors-sectors.ensures.hand (
      c.in-Some.leaves,
      c.in-Some.is,
      c.deref_mut.ensures.len ∙ c.in-Ok.ensures.len
          ∙ ap (λ (a : Geometry). 512 * a.node_sectors) c.geometry-g.ensures,
    )

pub returns-clause-slots : goal.returns-clause-slots
returns-clause-slots g c = map_if_ok c.read_into.result (λ slot both.
    both_after c.args.hand.now c.cache_sectors-sectors.new.hand c.read_into.new.hand
    (HasTaken slot c.args.range.now.number) c.cache_sectors-sectors.ensures.hand both)
    c.read_into.ensures.slots

pub returns-clause-did : goal.returns-clause-did
returns-clause-did g c = map_ok c.read_into.result (λ did.
    did_before g.C.Disk.facts g.B.Disk.facts c.args.parts.now c.args.seat.now
    c.cache_sectors-sectors.new.seat c.args.hand.now c.cache_sectors-sectors.new.hand
    c.requires.works c.cache_sectors-sectors.ensures.works c.cache_sectors-sectors.ensures.hand
    c.cache_sectors-sectors.ensures.waited (Some (node_read c.args.range.now.ptr.offset))
    c.read_into.new.seat did) c.read_into.ensures.did

pub returns-clause-err : goal.returns-clause-err
returns-clause-err g c = map_if_err c.read_into.result (λ e stop.
    stop_before g.C.Disk.facts g.B.Disk.facts c.args.parts.now c.args.seat.now
    c.cache_sectors-sectors.new.seat c.args.hand.now c.cache_sectors-sectors.new.hand
    c.requires.works c.cache_sectors-sectors.ensures.works c.cache_sectors-sectors.ensures.hand
    c.cache_sectors-sectors.ensures.waited c.args.range.now
    (cache_among g.C.Disk.facts g.B.Disk.facts c.args.parts.now.run.start).sectors e
    c.read_into.new.seat stop) c.read_into.ensures.err
