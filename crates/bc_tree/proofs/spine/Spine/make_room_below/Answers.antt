use Rattle.std.proofs.Common.{◌≡◌, ◌≤◌, Some, refl, subst}
use Rattle.std.specs.Prelude.{slice_get, slice_set}
use Rattle.bc_inner.specs.Inner.{Inner}
use Rattle.bc_tree.proofs.Coming.{item_there, node_of, room_is, set_get}
use Rattle.bc_tree.proofs.Same.{same_node, same_set, spine_same}
use Rattle.bc_tree.proofs.spine.Spine.make_room_below.Goals as goal

pub invariant_of-self : goal.invariant_of-self
invariant_of-self c =
    let within = rw (← c.self.view_is) at c.requires in
    let there = item_there c.self.inside.below.items c.args.place c.index_mut.result.now within c.index_mut.ensures.value in
    let same = node_of c.index_mut.result.now c.reserve.new.self c.reserve.ensures.node c.reserve.ensures.children in (
      spine_same c.self.inside.g c.self.inside.root c.self.inside.root c.self.inside.below.items (slice_set c.self.inside.below.items c.args.place c.reserve.new.self) c.self.inside.leaves.leaves
          (same_node c.self.inside.root) (same_set c.self.inside.below.items c.args.place c.index_mut.result.now c.reserve.new.self there same) c.self.invariant.0,
      c.self.invariant.1,
    )

pub returns-clause-tree : goal.returns-clause-tree
returns-clause-tree c =
    let within = rw (← c.self.view_is) at c.requires in
    let there = item_there c.self.inside.below.items c.args.place c.index_mut.result.now within c.index_mut.ensures.value in
    let same = node_of c.index_mut.result.now c.reserve.new.self c.reserve.ensures.node c.reserve.ensures.children in
    rw (← c.self.view_is)
    (record { geometry_is = refl; leaves_are = refl; root_is = same_node c.self.inside.root; below_are = same_set c.self.inside.below.items c.args.place c.index_mut.result.now c.reserve.new.self there same })

pub returns-clause-room : goal.returns-clause-room
returns-clause-room c =
    let within = rw (← c.self.view_is) at c.requires in
    room_is c.reserve.result (4 ≤ c.reserve.new.self.spare) ((node : Inner) → slice_get (slice_set c.self.inside.below.items c.args.place c.reserve.new.self) c.args.place ≡ Some node → 4 ≤ node.spare) c.reserve.ensures.ok
    (λ room node there. subst (λ (n : Inner). 4 ≤ n.spare) (set_get c.self.inside.below.items c.args.place c.reserve.new.self node within there) room)
