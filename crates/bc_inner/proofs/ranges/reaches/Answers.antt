use Rattle.std.proofs.Common.{◌≡◌, sym, take}
use Rattle.std.proofs.lemmas.List.{take_all}
use Rattle.std.proofs.lemmas.List.Elements.{All-same}
use Rattle.bc_key.specs.declared.key.Key.{Key}
use Rattle.bc_inner.proofs.ranges.reaches.Goals as goal

pub returns-then-child-end : goal.returns-then-child-end
returns-then-child-end c = (c.loop-child.child-index, c.child-item.result, c.loop-child-test.true, sym c.child-item.is, c.if-child-end.true)

pub returns : goal.returns
returns c =
    All-same (λ (k : Key). ¬ (k.end ≡ c.args.end)) c.args.children.now (take c.loop-child.child-index c.args.children.now) (sym (take_all c.loop-child.child-index c.args.children.now c.loop-child-test.false)) c.loop-child.invariant
