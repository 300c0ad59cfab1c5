use Rattle.std.proofs.Common.{◌+◌, List, [], ◌∷◌, subst, take, arith}
use Rattle.std.proofs.lemmas.List.{take_all}
use Rattle.bc_key.specs.declared.key.Key.{Key}
use Rattle.bc_node.specs.Leaf.{AreAdded}
use Rattle.bc_node.proofs.KeyLists.{taken_key}
use Rattle.bc_node.proofs.LastKeys.{added_none, added_more}
use Rattle.bc_node.proofs.pending.add_all.Goals as goal

pub loop-key-init : goal.loop-key-init
loop-key-init c = record { gone = added_none c.args.map.now.keys; room = omega arith }

pub loop-key-preserved : goal.loop-key-preserved
loop-key-preserved c =
    let i = c.loop-key.key-index in
    let keys = c.args.keys.now in
    let key = c.key-item.result in
    let so = c.loop-key.invariant in
    let some = c.add.ensures.spare in
    let room = so.room in
    record {
      gone = added_more (take i keys) (key ∷ []) (take (i + 1) keys) c.args.map.now.keys c.loop-key.map.keys c.add.new.map.keys so.gone c.add.ensures.added (taken_key keys i key c.loop-key-test.true c.key-item.is);
      room = omega (arith, room, some);
    }

pub returns-clause-added : goal.returns-clause-added
returns-clause-added c = subst (λ (ks : List Key). AreAdded ks c.args.map.now.keys c.loop-key.map.keys) (take_all c.loop-key.key-index c.args.keys.now c.loop-key-test.false) c.loop-key.invariant.gone
