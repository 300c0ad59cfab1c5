use Rattle.std.proofs.Common.{◌≡◌, length, subst, arith}
use Rattle.bc_spine.proofs.Flags.{AreFlags, all_flagged}
use Rattle.bc_spine.proofs.numbers.flag.Goals as goal

pub returns : goal.returns
returns c =
    let leaves = c.args.leaves.now in
    let end = c.loop-leaf.auto.leaf-index-end in
    let over = c.loop-leaf-test.false in
    let all : c.loop-leaf.leaf-index ≡ length leaves = omega arith in
    all_flagged leaves c.loop-leaf.flags (subst (λ n. AreFlags leaves n c.loop-leaf.flags) all c.loop-leaf.invariant)
