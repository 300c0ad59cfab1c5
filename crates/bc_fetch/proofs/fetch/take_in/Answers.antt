use Rattle.std.proofs.Common.{◌≡◌, ◌-◌, ◌*◌, ◌/◌, length, Some, refl, sym, ◌∙◌, subst}
use Rattle.bc_cache.specs.Slots.{Misses, NodeCache, NoneCanGo}
use Rattle.bc_disk.specs.declared.geometry.Geometry.{Geometry}
use Rattle.bc_fetch.specs.declared.error.LeafError.{LeafError}
use Rattle.bc_fetch.specs.Fetch.{IsNoLeaf}
use Rattle.bc_sight.specs.bc_hand.Seats.{world}
use Rattle.bc_node.specs.Loading.{IsDecoded, IsNotDecoded}
use Rattle.bc_fetch.proofs.Fetching.{in_hand, its_number, its_part, no_leaf, of_leaves, put_leaves, spine_in_hand, works_with}
use Rattle.bc_fetch.proofs.Slots.{put_taken}
use Rattle.bc_fetch.proofs.fetch.take_in.Goals as goal

pub put_leaf-slot-requires-clause-new : goal.put_leaf-slot-requires-clause-new
put_leaf-slot-requires-clause-new g c = of_leaves c.args.hand.now
    (λ (x : NodeCache). Misses x.slots c.args.range.now.number) c.requires.new c.in-Some.leaves
    (sym c.take.ensures.value ∙ c.in-Some.is)

pub put_leaf-slot-requires-clause-some : goal.put_leaf-slot-requires-clause-some
put_leaf-slot-requires-clause-some g c = of_leaves c.args.hand.now
    (λ (x : NodeCache). NoneCanGo x.slots → ⊥) c.requires.some c.in-Some.leaves
    (sym c.take.ensures.value ∙ c.in-Some.is)

pub returns-in-Ok-clause-works : goal.returns-in-Ok-clause-works
returns-in-Ok-clause-works g c =
    let h = c.args.hand.now in
    let p = c.args.parts.now in
    let v = c.args.seat.now in
    let l = c.in-Some.leaves in
    let is : h.leaves ≡ Some l = sym c.take.ensures.value ∙ c.in-Some.is in
    let tree = c.requires.spine in
    let part = its_number h _ l c.requires.part is in
    works_with g.C.Disk.facts g.B.Disk.facts p v h l c.put_leaf-slot.new.cache c.requires.works is
    (put_leaves (world g.C.Disk.facts g.B.Disk.facts v) tree.part.spine (l.part - 6) l.cache
    c.args.range.now c.key_of-key.result c.args.bytes.now c.in-Ok.leaf
    (spine_in_hand g.C.Disk.facts g.B.Disk.facts p v h tree.part c.requires.works tree.is)
    tree.range_in (in_hand g.C.Disk.facts g.B.Disk.facts p v h l c.requires.works is).1
    (its_part g.C.Disk.facts g.B.Disk.facts p v c.args.range.now.number l.part c.requires.works.run
    part)
    (of_leaves h (λ (x : NodeCache). Misses x.slots c.args.range.now.number) c.requires.new l is)
    c.key_of-key.ensures.names c.requires.stand
    (subst (λ (a : Geometry).
    IsDecoded a c.key_of-key.result c.args.range.now.from c.args.bytes.now c.in-Ok.leaf)
    c.geometry-2.ensures c.in-Ok.ensures.ok)
    c.put_leaf-slot.result c.put_leaf-slot.new.cache c.put_leaf-slot.ensures)

pub returns-in-Ok-clause-ok : goal.returns-in-Ok-clause-ok
returns-in-Ok-clause-ok g c = (
  record { part = c.in-Some.leaves.part; cache = c.put_leaf-slot.new.cache },
  refl,
  c.put_leaf-slot.ensures.has,
)

pub returns-in-Ok-clause-slots : goal.returns-in-Ok-clause-slots
returns-in-Ok-clause-slots g c =
    let h = c.args.hand.now in
    let l = c.in-Some.leaves in
    let is : h.leaves ≡ Some l = sym c.take.ensures.value ∙ c.in-Some.is in (
      l,
      is,
      (
        record { part = l.part; cache = c.put_leaf-slot.new.cache },
        refl,
        put_taken c.put_leaf-slot.result c.args.range.now.number c.in-Ok.leaf l.cache
            c.put_leaf-slot.new.cache
            (of_leaves h (λ (x : NodeCache). Misses x.slots c.args.range.now.number) c.requires.new l
            is) c.put_leaf-slot.ensures,
      ),
    )

pub returns-in-Ok-clause-part : goal.returns-in-Ok-clause-part
returns-in-Ok-clause-part g c = record {
  hand = record { part = c.in-Some.leaves.part; cache = c.put_leaf-slot.new.cache };
  is = refl;
  part_is = its_number c.args.hand.now _ c.in-Some.leaves c.requires.part
      (sym c.take.ensures.value ∙ c.in-Some.is);
}

pub returns-in-Err-clause-part : goal.returns-in-Err-clause-part
returns-in-Err-clause-part g c = record {
  hand = c.in-Some.leaves;
  is = refl;
  part_is = its_number c.args.hand.now _ c.in-Some.leaves c.requires.part
      (sym c.take.ensures.value ∙ c.in-Some.is);
}

pub returns-in-Err-clause-err : goal.returns-in-Err-clause-err
returns-in-Err-clause-err g c =
    let h = c.args.hand.now in
    let v = c.args.seat.now in
    let l = c.in-Some.leaves in
    let is : h.leaves ≡ Some l = sym c.take.ensures.value ∙ c.in-Some.is in
    let tree = c.requires.spine in
    subst (λ (e : LeafError). IsNoLeaf g.C.Disk.facts g.B.Disk.facts h c.args.range.now e v)
    (sym c.refusal.ensures)
    (no_leaf g.C.Disk.facts g.B.Disk.facts h c.args.range.now v l
    c.key_of-key.result c.args.bytes.now c.args.bucket is
    c.key_of-key.ensures.names
    (record {
      spine = tree.part.spine;
      tree = spine_in_hand g.C.Disk.facts g.B.Disk.facts c.args.parts.now v h tree.part
          c.requires.works tree.is;
      range_in = tree.range_in;
    })
    (of_leaves h (λ (x : NodeCache). length c.args.bytes.now ≡ 512 * x.geometry.node_sectors)
    c.requires.whole l is) c.requires.stand
    (of_leaves h (λ (x : NodeCache). c.args.bucket ≡ c.args.range.now.ptr.offset / x.geometry.bucket)
    c.requires.begins l is) c.in-Err.error
    (subst (λ (a : Geometry).
    IsNotDecoded a c.key_of-key.result c.args.range.now.from c.args.bytes.now c.in-Err.error)
    c.geometry-2.ensures c.in-Err.ensures.refused))
