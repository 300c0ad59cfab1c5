use Rattle.std.proofs.Common.{◌≡◌, ◌+◌, List, [], ◌∷◌, ◌++◌, take, sym, subst, arith, rules}
use Rattle.bc_key.specs.declared.key.Key.{Key}
use Rattle.std.specs.Prelude.{All}
use Rattle.bc_key.specs.Key.{IsExtent}
use Rattle.bc_node.specs.Leaf.{AreWithin}
use Rattle.bc_place.specs.Named.{AreKeysFor, sectors_of}
use Rattle.bc_place.proofs.Naming.{all_keys, keys_more, sectors_more, sectors_within}
use Rattle.bc_place.proofs.Saying.{extents_for, within_for}
use Rattle.bc_place.proofs.keys.keys_for.Goals as goal

pub loop-place-preserved : goal.loop-place-preserved
loop-place-preserved c =
    let l = c.loop-place in
    let more = sectors_more c.args.places.now l.place-index c.place-item.result
    c.loop-place-test.true c.place-item.is in
    let count = c.from.ensures in
    let at = l.invariant.0 in
    let size = c.new.ensures.size in
    let pushed : c.push.new.self.items ≡ l.keys.items ++ c.new.result ∷ [] = search rules in (
      omega (arith, more, count, at),
      subst (λ (ks : List Key). AreKeysFor c.args.first
          (take (l.place-index + 1) c.args.places.now) ks) (sym pushed)
          (keys_more c.args.first c.args.places.now l.keys.items l.place-index l.next
          c.place-item.result c.new.result c.loop-place-test.true c.place-item.is at l.invariant.1
          (record {
            inode = c.new.ensures.inode;
            end = let end = c.new.ensures.end in omega (arith, end, count);
            size = size;
            dirty = c.new.ensures.dirty;
            csum = c.new.ensures.csum;
            pointer = c.new.ensures.pointer;
          })),
    )

pub overflow_add-end : goal.overflow_add-end
overflow_add-end c =
    let l = c.loop-place in
    let more = sectors_more c.args.places.now l.place-index c.place-item.result
    c.loop-place-test.true c.place-item.is in
    let most = sectors_within c.args.places.now (l.place-index + 1) in
    let count = c.from.ensures in
    let at = l.invariant.0 in
    let all = c.requires.range in omega (arith, more, most, count, at, all)

pub returns-clause-within : goal.returns-clause-within
returns-clause-within c =
    let ps = c.args.places.now in
    let end = c.args.first + sectors_of ps in
    subst (λ (ks : List Key). AreWithin c.args.first end ks) (sym c.from_vec.ensures)
    (within_for c.args.first ps c.loop-place.keys.items c.args.first end
    (all_keys ps c.loop-place.keys.items c.args.first c.loop-place.place-index
    c.loop-place-test.false c.loop-place.invariant.1) (omega arith) (omega arith))

pub returns-clause-extents : goal.returns-clause-extents
returns-clause-extents c =
    let ps = c.args.places.now in
    subst (λ (ks : List Key). All IsExtent ks) (sym c.from_vec.ensures)
    (extents_for c.args.first ps c.loop-place.keys.items
    (all_keys ps c.loop-place.keys.items c.args.first c.loop-place.place-index
    c.loop-place-test.false c.loop-place.invariant.1))
