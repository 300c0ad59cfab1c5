use Rattle.std.proofs.Common.{subst, sym, take}
use Rattle.std.proofs.lemmas.List.{take_all}
use Rattle.std.proofs.lemmas.List.Elements.{All-more, All-same}
use Rattle.bc_inner.proofs.Covers.{IsMultiple}
use Rattle.bc_inner.proofs.ranges.are_multiples.Goals as goal

pub returns-then-child-ne0 : goal.returns-then-child-ne0
returns-then-child-ne0 c = (c.loop-child.child-index, c.child-item.result, c.loop-child-test.true, sym c.child-item.is, c.if-child-ne0.true)

pub loop-child-preserved : goal.loop-child-preserved
loop-child-preserved c =
    All-more IsMultiple c.args.children.now c.loop-child.child-index c.child-item.result c.loop-child-test.true c.loop-child.invariant (subst IsMultiple c.child-item.is c.if-child-ne0.false)

pub returns : goal.returns
returns c =
    All-same IsMultiple c.args.children.now (take c.loop-child.child-index c.args.children.now) (sym (take_all c.loop-child.child-index c.args.children.now c.loop-child-test.false)) c.loop-child.invariant
