use Rattle.std.proofs.Common.{sym, subst}
use Rattle.bc_tree.specs.Spine.{AreInner, AreLeavesOf}
use Rattle.bc_tree.proofs.spine.Spine.new.Goals as goal

pub leaves_below-requires : goal.leaves_below-requires
leaves_below-requires c = (c.args.g.now, subst (λ ns. AreInner c.args.g.now c.args.root ns) (sym c.as_slice.ensures.value) c.requires)

pub invariant_of-result : goal.invariant_of-result
invariant_of-result c =
    let are = subst (λ ns. AreLeavesOf c.args.root ns c.in_ok-leaves.leaves) c.as_slice.ensures.value c.in_ok-leaves.ensures in
    (record { inner = c.requires; names = are.names; cover = are.cover }, are.end)
