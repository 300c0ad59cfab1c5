use Rattle.std.proofs.Common.{◌+◌, List, All, subst, sym, ap, take}
use Rattle.std.proofs.lemmas.List.{take_all}
use Rattle.bc_image.specs.Tree.{set_keys}
use Rattle.bc_key.specs.Key.{IsExtent}
use Rattle.bc_key.specs.declared.key.Key.{Key}
use Rattle.bc_set.specs.declared.set.Set.{Set}
use Rattle.bc_set.specs.declared.set.SetKind.TheVariants.{Extents}
use Rattle.bc_set.specs.SetBytes.{AreSetKeys}
use Rattle.bc_node.specs.Leaf.{AreAdded}
use Rattle.bc_node.proofs.KeyLists.{taken_set}
use Rattle.bc_node.proofs.LastKeys.{added_none, added_more}
use Rattle.bc_replay.proofs.index.add_sets.Goals as goal

pub loop-set-init : goal.loop-set-init
loop-set-init c = added_none c.args.map.now.keys

pub add_keys-requires : goal.add_keys-requires
add_keys-requires c =
    let proper = subst (λ (s : Set). AreSetKeys Extents s.keys) (sym c.set-item.is) (c.requires.each c.loop-set.set-index c.set-item.result c.loop-set-test.true) in
    subst (λ (ks : List Key). All IsExtent ks) (sym c.as_slice.ensures) proper.each

pub loop-set-preserved : goal.loop-set-preserved
loop-set-preserved c =
    let i = c.loop-set.set-index in
    let sets = c.args.sets.now in
    let set = c.set-item.result in
    let one = subst (λ (ks : List Key). AreAdded ks c.loop-set.map.keys c.add_keys.new.map.keys) c.as_slice.ensures c.in_ok-add_keys.ensures in
    added_more (set_keys (take i sets)) set.keys (set_keys (take (i + 1) sets)) c.args.map.now.keys c.loop-set.map.keys c.add_keys.new.map.keys c.loop-set.invariant one (taken_set sets i set c.loop-set-test.true c.set-item.is)

pub returns : goal.returns
returns c = subst (λ (ks : List Key). AreAdded ks c.args.map.now.keys c.loop-set.map.keys) (ap set_keys (take_all c.loop-set.set-index c.args.sets.now c.loop-set-test.false)) c.loop-set.invariant
