use Rattle.std.proofs.Common.{refl, sym, ◌∙◌}
use Rattle.bc_tree.proofs.Appends.{more_shape}
use Rattle.bc_tree.proofs.Same.{same_shapes, spine_shape}
use Rattle.bc_tree.proofs.spine.Spine.append_root.Goals as goal

pub append-requires-clause-can : goal.append-requires-clause-can
append-requires-clause-can g c = rw (← c.self.view_is) at c.requires.can

pub append-requires-clause-whole : goal.append-requires-clause-whole
append-requires-clause-whole g c = rw (← c.self.view_is) at c.requires.whole

pub invariant_of-self : goal.invariant_of-self
invariant_of-self g c =
    let i = c.self.inside in
    let same = more_shape c.append.result i.g c.args.keys.now i.root c.append.new.node c.append.ensures.taken in
    (spine_shape i.g i.root c.append.new.node i.below.items i.below.items i.leaves.leaves same (same_shapes i.below.items) c.self.invariant.0, c.self.invariant.1 ∙ sym same.end)

pub returns-clause-set : goal.returns-clause-set
returns-clause-set g c = rw (← c.self.view_is) c.append.ensures.set

pub returns-clause-tree : goal.returns-clause-tree
returns-clause-tree g c = rw (← c.self.view_is) (record { only = refl; more = c.append.ensures.taken })
