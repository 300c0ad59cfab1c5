use Rattle.std.proofs.Common.{◌+◌, ◌++◌, subst, sym, ap, take}
use Rattle.std.proofs.lemmas.List.{take_all}
use Rattle.std.proofs.lemmas.List.Elements.{All-nil, All-append, All-same}
use Rattle.bc_image.specs.Sound.{LiesWithin}
use Rattle.bc_image.specs.Tree.{set_keys}
use Rattle.bc_node.proofs.KeyLists.{taken_set, of_one_set}
use Rattle.bc_walk.proofs.node.lie_within.Goals as goal

pub loop-set-init : goal.loop-set-init
loop-set-init c = All-nil (LiesWithin 0 c.args.from c.args.end)

pub returns-then-not-are_within : goal.returns-then-not-are_within
returns-then-not-are_within c = λ all.
    let P = LiesWithin 0 c.args.from c.args.end in
    let one = of_one_set P c.args.sets.now c.loop-set.set-index c.set-item.result c.loop-set-test.true c.set-item.is all in
    let bad = c.if-not-are_within.ensures in
    bad.4 (subst P bad.3 (All-same P c.as_slice.result.now c.set-item.result.keys c.as_slice.ensures one bad.0 bad.1 bad.2))

pub loop-set-preserved : goal.loop-set-preserved
loop-set-preserved c =
    let P = LiesWithin 0 c.args.from c.args.end in
    let i = c.loop-set.set-index in
    let sets = c.args.sets.now in
    let set = c.set-item.result in
    All-same P (set_keys (take (i + 1) sets)) (set_keys (take i sets) ++ set.keys) (taken_set sets i set c.loop-set-test.true c.set-item.is)
    (All-append P (set_keys (take i sets)) set.keys c.loop-set.invariant (All-same P set.keys c.as_slice.result.now (sym c.as_slice.ensures) c.if-not-are_within.ensures))

pub returns : goal.returns
returns c =
    All-same (LiesWithin 0 c.args.from c.args.end) (set_keys c.args.sets.now) (set_keys (take c.loop-set.set-index c.args.sets.now)) (ap set_keys (sym (take_all c.loop-set.set-index c.args.sets.now c.loop-set-test.false))) c.loop-set.invariant
