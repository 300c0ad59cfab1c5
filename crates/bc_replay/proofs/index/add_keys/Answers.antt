use Rattle.std.proofs.Common.{◌+◌, List, [], ◌∷◌, subst, take}
use Rattle.std.proofs.lemmas.List.{take_all}
use Rattle.bc_key.specs.declared.key.Key.{Key}
use Rattle.bc_node.specs.Leaf.{AreAdded}
use Rattle.bc_node.proofs.KeyLists.{taken_key}
use Rattle.bc_node.proofs.LastKeys.{added, added_none, added_more}
use Rattle.bc_replay.proofs.index.add_keys.Goals as goal

pub loop-key-init : goal.loop-key-init
loop-key-init c = added_none c.args.map.now.keys

pub loop-key-preserved : goal.loop-key-preserved
loop-key-preserved c =
    let i = c.loop-key.key-index in
    let keys = c.args.keys.now in
    let key = c.key-item.result in
    let one = subst (λ (ks : List Key). AreAdded (key ∷ []) ks c.insert.new.self.keys) c.reserve.ensures.keys (added key c.reserve.new.self.keys c.insert.new.self.keys c.insert.ensures.shows c.insert.ensures.order) in
    added_more (take i keys) (key ∷ []) (take (i + 1) keys) c.args.map.now.keys c.loop-key.map.keys c.insert.new.self.keys c.loop-key.invariant one (taken_key keys i key c.loop-key-test.true c.key-item.is)

pub returns : goal.returns
returns c = subst (λ (ks : List Key). AreAdded ks c.args.map.now.keys c.loop-key.map.keys) (take_all c.loop-key.key-index c.args.keys.now c.loop-key-test.false) c.loop-key.invariant
