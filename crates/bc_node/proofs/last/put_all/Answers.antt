use Rattle.std.proofs.Common.{◌+◌, List, [], ◌∷◌, subst, take}
use Rattle.std.proofs.lemmas.List.{take_all}
use Rattle.bc_key.specs.declared.key.Key.{Key}
use Rattle.bc_node.specs.Leaf.{ArePut}
use Rattle.bc_node.proofs.KeyLists.{taken_key}
use Rattle.bc_node.proofs.LastKeys.{put_none, put_more}
use Rattle.bc_node.proofs.last.put_all.Goals as goal

pub loop-key-init : goal.loop-key-init
loop-key-init c = put_none c.args.map.now.keys

pub loop-key-preserved : goal.loop-key-preserved
loop-key-preserved c =
    let i = c.loop-key.key-index in
    let keys = c.args.keys.now in
    let key = c.key-item.result in
    let one = subst (λ (ks : List Key). ArePut (key ∷ []) ks c.put.new.map.keys) c.reserve.ensures.keys c.put.ensures.put in
    put_more (take i keys) (key ∷ []) (take (i + 1) keys) c.args.map.now.keys c.loop-key.map.keys c.put.new.map.keys c.loop-key.invariant one (taken_key keys i key c.loop-key-test.true c.key-item.is)

pub returns : goal.returns
returns c = subst (λ (ks : List Key). ArePut ks c.args.map.now.keys c.loop-key.map.keys) (take_all c.loop-key.key-index c.args.keys.now c.loop-key-test.false) c.loop-key.invariant
