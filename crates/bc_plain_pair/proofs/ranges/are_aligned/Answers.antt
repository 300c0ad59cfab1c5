use Rattle.std.proofs.Common.{◌≡◌}
use Rattle.std.specs.Prelude.{◌%◌}
use Rattle.bc_key.specs.declared.key.Key.{Key}
use Rattle.bc_plain_pair.proofs.Alls.{all_more, all_ends}
use Rattle.bc_plain_pair.proofs.ranges.are_aligned.Goals as goal

pub loop-child-preserved : goal.loop-child-preserved
loop-child-preserved c =
    all_more (λ (k : Key). k.end % 256 ≡ 0) c.args.children.now c.loop-child.child-index c.child-item.result c.loop-child-test.true c.child-item.is c.if-child-ne0.false c.loop-child.invariant

pub returns : goal.returns
returns c = all_ends (λ (k : Key). k.end % 256 ≡ 0) c.args.children.now c.loop-child.child-index c.loop-child-test.false c.loop-child.invariant
