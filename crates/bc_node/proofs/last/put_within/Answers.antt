use Rattle.std.proofs.Common.{◌+◌, List, [], ◌∷◌, subst, take, arith}
use Rattle.std.proofs.lemmas.List.{take_all}
use Rattle.bc_key.specs.declared.key.Key.{Key}
use Rattle.bc_node.specs.Leaf.{ArePut}
use Rattle.bc_node.proofs.KeyLists.{taken_key}
use Rattle.bc_node.proofs.LastKeys.{put_none, put_more}
use Rattle.bc_node.proofs.last.put_within.Goals as goal

pub loop-key-init : goal.loop-key-init
loop-key-init c = record { gone = put_none c.args.map.now.keys; room = omega arith }

pub loop-key-preserved : goal.loop-key-preserved
loop-key-preserved c =
    let i = c.loop-key.key-index in
    let keys = c.args.keys.now in
    let key = c.key-item.result in
    let so = c.loop-key.invariant in
    let some = c.put.ensures.spare in
    let room = so.room in
    record {
      gone = put_more (take i keys) (key ∷ []) (take (i + 1) keys) c.args.map.now.keys c.loop-key.map.keys c.put.new.map.keys so.gone c.put.ensures.put (taken_key keys i key c.loop-key-test.true c.key-item.is);
      room = omega (arith, room, some);
    }

pub returns-clause-put : goal.returns-clause-put
returns-clause-put c = subst (λ (ks : List Key). ArePut ks c.args.map.now.keys c.loop-key.map.keys) (take_all c.loop-key.key-index c.args.keys.now c.loop-key-test.false) c.loop-key.invariant.gone
