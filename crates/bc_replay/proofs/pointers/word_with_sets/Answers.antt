use Rattle.std.proofs.Common.{◌+◌, ◌++◌, List, subst, take}
use Rattle.bc_image.specs.Tree.{set_keys}
use Rattle.bc_key.specs.declared.key.Key.{Key}
use Rattle.bc_node.proofs.KeyLists.{taken_set}
use Rattle.bc_replay.specs.Limits.{rule_in}
use Rattle.bc_replay.specs.Refused.{KeepsWord}
use Rattle.bc_replay.proofs.Words.{kept_parts}
use Rattle.bc_replay.proofs.pointers.word_with_sets.Goals as goal

pub loop-set-preserved : goal.loop-set-preserved
loop-set-preserved c = λ seen kept.
    let r = rule_in c.args.limits.now in
    let i = c.loop-set.set-index in
    let sets = c.args.sets.now in
    let set = c.set-item.result in
    kept_parts r seen (set_keys (take i sets)) set.keys (set_keys (take (i + 1) sets)) c.word_with-word.result (taken_set sets i set c.loop-set-test.true c.set-item.is)
    (subst (λ (ks : List Key). KeepsWord r ((seen ++ set_keys (take i sets)) ++ ks) c.word_with-word.result) c.as_slice.ensures (c.word_with-word.ensures (seen ++ set_keys (take i sets)) (c.loop-set.invariant seen kept)))
