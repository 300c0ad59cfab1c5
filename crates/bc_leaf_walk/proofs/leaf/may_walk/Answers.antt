use Rattle.std.proofs.Common.{Some, sym, ap, ◌∙◌, subst}
use Rattle.std.specs.Prelude.{◌↔◌, IsTrue}
use Rattle.bc_leaf_walk.proofs.Doing.{has_leaf, same_leaf}
use Rattle.bc_leaf_walk.specs.Steps.{ComesNext}
use Rattle.bc_mark.proofs.InHand.{same_some}
use Rattle.bc_mark.specs.bc_machine.declared.part.BucketsPart.{BucketsPart}
use Rattle.bc_node.specs.Leaf.{Leaf}
use Rattle.bc_leaf_walk.proofs.leaf.may_walk.Goals as goal

pub unreachable-requires-in_default-find : goal.unreachable-requires-in_default-find
unreachable-requires-in_default-find g c = c.in_default-find.ensures c.requires.slot
    (has_leaf c.args.hand.now c.requires.slot c.args.leaf c.requires.leaf c.in-Some.leaves
    c.in-Some.is)

pub returns : goal.returns
returns g c = λ both.
    subst (λ (l : Leaf). IsTrue c.comes_next.result ↔ ComesNext both.part l)
    (same_leaf c.args.hand.now both.slot c.args.leaf both.leaf c.in-Some.leaves c.in-Some.is
    c.in-Some-find.slot c.in-Some-find.ensures c.leaf.result.now c.leaf.ensures)
    (subst (λ (p : BucketsPart). IsTrue c.comes_next.result ↔ ComesNext p c.leaf.result.now)
    (same_some c.args.hand.now.buckets c.get.result.now both.part
    (c.in-Some-buckets.is ∙ ap Some (sym c.get.ensures)) both.is)
    c.comes_next.ensures)
