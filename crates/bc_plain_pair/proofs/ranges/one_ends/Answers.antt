use Rattle.std.proofs.Common.{◌≡◌}
use Rattle.bc_key.specs.declared.key.Key.{Key}
use Rattle.bc_plain_pair.proofs.Alls.{any_here, any_more, any_none}
use Rattle.bc_plain_pair.proofs.ranges.one_ends.Goals as goal

pub returns-then-child-end : goal.returns-then-child-end
returns-then-child-end c = any_here (λ (k : Key). k.end ≡ c.args.end) c.args.children.now c.loop-child.child-index c.child-item.result c.loop-child-test.true c.child-item.is c.if-child-end.true

pub loop-child-preserved : goal.loop-child-preserved
loop-child-preserved c =
    any_more (λ (k : Key). k.end ≡ c.args.end) c.args.children.now c.loop-child.child-index c.child-item.result c.loop-child-test.true c.child-item.is c.if-child-end.false c.loop-child.invariant

pub returns : goal.returns
returns c = any_none (λ (k : Key). k.end ≡ c.args.end) c.args.children.now c.loop-child.child-index c.loop-child-test.false c.loop-child.invariant
