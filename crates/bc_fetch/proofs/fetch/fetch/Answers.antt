use Rattle.std.proofs.Common.{◌≡◌, ◌-◌, inl, inr, Some, refl, sym, ◌∙◌, subst}
use Rattle.bc_cache.specs.Slots.{Misses, NodeCache, NoneCanGo}
use Rattle.bc_sight.proofs.of_bc_deed.May.{did_nothing, map_if_err}
use Rattle.bc_sight.proofs.of_bc_hand.Knowing.{map_ok}
use Rattle.bc_sight.specs.bc_hand.Seats.{world}
use Rattle.bc_sight.specs.bc_hand.declared.hand.Hand.{Hand}
use Rattle.bc_sight.specs.bc_machine.World.{AreLeaves, cache_among}
use Rattle.bc_fetch.specs.Fetch.{HasTaken, IsLeafStop, OfBoth}
use Rattle.bc_fetch.proofs.Fetching.{always_err, in_hand, its_number, map_if_ok, same_hand, use_leaves, works_with}
use Rattle.bc_fetch.proofs.Slots.{none_go, one_goes, used_has, used_taken}
use Rattle.bc_fetch.proofs.fetch.fetch.Goals as goal

pub returns-then-not-can_go-clause-err : goal.returns-then-not-can_go-clause-err
returns-then-not-can_go-clause-err g c = (
  (
    c.in-Some.leaves,
    sym c.take.ensures.value ∙ c.in-Some.is,
    subst (λ (x : NodeCache). NoneCanGo x.slots) c.in-None.ensures.none.1
        (none_go c.oldest.result c.use_slot-used.new.cache.slots c.oldest.ensures
        (sym c.is_some-can_go.ensures ∙ c.if-not-can_go.true)),
  ),
  did_nothing g.C.Disk.facts g.B.Disk.facts c.args.seat.now c.requires.works.seat,
)

pub returns-then-not-can_go-clause-missed : goal.returns-then-not-can_go-clause-missed
returns-then-not-can_go-clause-missed g c = (
  c.in-Some.leaves,
  sym c.take.ensures.value ∙ c.in-Some.is,
  c.in-None.ensures.none.0,
)

pub read_leaf-requires-clause-works : goal.read_leaf-requires-clause-works
read_leaf-requires-clause-works g c =
    let h = c.args.hand.now in
    let l = c.in-Some.leaves in
    let is : h.leaves ≡ Some l = sym c.take.ensures.value ∙ c.in-Some.is in
    works_with g.C.Disk.facts g.B.Disk.facts c.args.parts.now c.args.seat.now h l
    c.use_slot-used.new.cache c.requires.works is
    (subst (λ (x : NodeCache). AreLeaves (l.part - 6) x
    (world g.C.Disk.facts g.B.Disk.facts c.args.seat.now)) (sym c.in-None.ensures.none.1)
    (in_hand g.C.Disk.facts g.B.Disk.facts c.args.parts.now c.args.seat.now h l c.requires.works
    is).1)

pub read_leaf-requires-clause-part : goal.read_leaf-requires-clause-part
read_leaf-requires-clause-part g c = record {
  hand = record { part = c.in-Some.leaves.part; cache = c.use_slot-used.new.cache };
  is = refl;
  part_is = its_number c.args.hand.now _ c.in-Some.leaves c.requires.part
      (sym c.take.ensures.value ∙ c.in-Some.is);
}

pub read_leaf-requires-clause-new : goal.read_leaf-requires-clause-new
read_leaf-requires-clause-new g c = (
  record { part = c.in-Some.leaves.part; cache = c.use_slot-used.new.cache },
  refl,
  subst (λ (x : NodeCache). Misses x.slots c.args.range.now.number) (sym c.in-None.ensures.none.1)
      c.in-None.ensures.none.0,
)

pub read_leaf-requires-clause-some : goal.read_leaf-requires-clause-some
read_leaf-requires-clause-some g c = (
  record { part = c.in-Some.leaves.part; cache = c.use_slot-used.new.cache },
  refl,
  one_goes c.oldest.result c.use_slot-used.new.cache.slots c.oldest.ensures
      (sym c.is_some-can_go.ensures ∙ c.if-not-can_go.false),
)

pub returns-in-Some-used-clause-works : goal.returns-in-Some-used-clause-works
returns-in-Some-used-clause-works g c =
    let h = c.args.hand.now in
    let l = c.in-Some.leaves in
    let x = world g.C.Disk.facts g.B.Disk.facts c.args.seat.now in
    let is : h.leaves ≡ Some l = sym c.take.ensures.value ∙ c.in-Some.is in
    works_with g.C.Disk.facts g.B.Disk.facts c.args.parts.now c.args.seat.now h l
    c.use_slot-used.new.cache c.requires.works is
    (use_leaves x (l.part - 6) c.in-Some-used.slot l.cache c.use_slot-used.new.cache
    (in_hand g.C.Disk.facts g.B.Disk.facts c.args.parts.now c.args.seat.now h l c.requires.works
    is).1 c.in-Some-used.ensures.some.1)

pub returns-in-Some-used-clause-ok : goal.returns-in-Some-used-clause-ok
returns-in-Some-used-clause-ok g c = (
  record { part = c.in-Some.leaves.part; cache = c.use_slot-used.new.cache },
  refl,
  used_has c.in-Some-used.slot c.args.range.now.number c.in-Some.leaves.cache
      c.use_slot-used.new.cache c.in-Some-used.ensures.some.0 c.in-Some-used.ensures.some.1,
)

pub returns-in-Some-used-clause-slots : goal.returns-in-Some-used-clause-slots
returns-in-Some-used-clause-slots g c = (
  c.in-Some.leaves,
  sym c.take.ensures.value ∙ c.in-Some.is,
  (
    record { part = c.in-Some.leaves.part; cache = c.use_slot-used.new.cache },
    refl,
    used_taken c.in-Some-used.slot c.args.range.now.number c.in-Some.leaves.cache
        c.use_slot-used.new.cache c.in-Some-used.ensures.some.0 c.in-Some-used.ensures.some.1,
  ),
)

pub returns-in-Some-used-clause-did : goal.returns-in-Some-used-clause-did
returns-in-Some-used-clause-did g c = inl (
  (
    c.in-Some.leaves,
    sym c.take.ensures.value ∙ c.in-Some.is,
    (c.in-Some-used.slot, c.in-Some-used.ensures.some.0),
  ),
  did_nothing g.C.Disk.facts g.B.Disk.facts c.args.seat.now c.requires.works.seat,
)

pub returns-else-not-can_go-clause-slots : goal.returns-else-not-can_go-clause-slots
returns-else-not-can_go-clause-slots g c = map_if_ok c.read_leaf.result (λ slot both.
    subst (λ (h : Hand _ _). OfBoth h c.read_leaf.new.hand (HasTaken slot c.args.range.now.number))
    (same_hand c.args.hand.now c.in-Some.leaves c.use_slot-used.new.cache
    (sym c.take.ensures.value ∙ c.in-Some.is) c.in-None.ensures.none.1) both)
    c.read_leaf.ensures.slots

pub returns-else-not-can_go-clause-did : goal.returns-else-not-can_go-clause-did
returns-else-not-can_go-clause-did g c = map_ok c.read_leaf.result (λ did. inr (
  (
    c.in-Some.leaves,
    sym c.take.ensures.value ∙ c.in-Some.is,
    c.in-None.ensures.none.0,
  ),
  did,
)) c.read_leaf.ensures.did

pub returns-else-not-can_go-clause-err : goal.returns-else-not-can_go-clause-err
returns-else-not-can_go-clause-err g c = map_if_err c.read_leaf.result (λ e stop.
    subst (λ (h : Hand _ _). IsLeafStop g.C.Disk.facts g.B.Disk.facts h c.args.range.now
    (cache_among g.C.Disk.facts g.B.Disk.facts c.args.parts.now.run.start).sectors e
    c.args.seat.now c.read_leaf.new.seat)
    (same_hand c.args.hand.now c.in-Some.leaves c.use_slot-used.new.cache
    (sym c.take.ensures.value ∙ c.in-Some.is) c.in-None.ensures.none.1) stop)
    c.read_leaf.ensures.err

pub returns-else-not-can_go-clause-missed : goal.returns-else-not-can_go-clause-missed
returns-else-not-can_go-clause-missed g c = always_err c.read_leaf.result (
  c.in-Some.leaves,
  sym c.take.ensures.value ∙ c.in-Some.is,
  c.in-None.ensures.none.0,
)
