use Rattle.std.proofs.Common.{◌≡◌, ◌-◌, List, length, sym, subst, ◌∙◌, arith}
use Rattle.std.specs.Prelude.{vec_capacity, vec_len}
use Rattle.bc_spine.specs.declared.leaf.LeafRange.{LeafRange}
use Rattle.bc_spine.specs.Leaves.{AreLeaves}
use Rattle.bc_tree.specs.Group.{CanStand}
use Rattle.bc_tree.specs.Next.{below_next, nodes_next, root_next}
use Rattle.bc_tree.specs.Same.{SameNodes}
use Rattle.bc_tree.specs.Spine.{IsSpine}
use Rattle.bc_tree.proofs.Besides.{beside_same, next_long}
use Rattle.bc_tree.proofs.LastKeys.{are_kept}
use Rattle.bc_tree.proofs.Same.{long_same, spine_same}
use Rattle.bc_tree.proofs.spine.Spine.install.Goals as goal

pub change_nodes-requires-clause-node : goal.change_nodes-requires-clause-node
change_nodes-requires-clause-node c = (c.requires.node, rw (← c.self.view_is) at c.requires.there, c.requires.takes)

pub set_beside-requires : goal.set_beside-requires
set_beside-requires c =
    let i = c.self.inside in
    let p = c.args.plan in
    let new = c.change_nodes.new.below in
    let stands = rw (← c.self.view_is) at c.requires.stands in
    let long : length new.items ≡ length i.below.items = long_same (nodes_next i.below.items p.place p.bottom) new.items c.change_nodes.ensures.below ∙ next_long i.below.items p.place p.bottom in
    let room : vec_capacity i.below - vec_len i.below ≡ vec_capacity new - length new.items = omega (arith, c.change_nodes.ensures.room, long, i.below.ok.0) in
    subst (λ n. CanStand n (vec_capacity new - length new.items) p.place p.beside) (sym long) (subst (λ r. CanStand (length i.below.items) r p.place p.beside) room stands)

pub invariant_of-self : goal.invariant_of-self
invariant_of-self c =
    let i = c.self.inside in
    let p = c.args.plan in
    let tree = rw (← c.self.view_is) at c.requires.tree in
    let end = rw (← c.self.view_is) at c.requires.end in
    let mid = c.change_nodes.new.below.items in
    let nodes = subst (λ ns. SameNodes (below_next i.below.items p.place p.bottom p.beside) ns) (sym c.set_beside.ensures) (beside_same (nodes_next i.below.items p.place p.bottom) mid p.place p.beside c.change_nodes.ensures.below) in (
      spine_same i.g (root_next i.root i.below.items p.bottom p.top) c.change_nodes.new.root (below_next i.below.items p.place p.bottom p.beside) c.set_beside.new.nodes.items c.install.new.self.leaves
          c.change_nodes.ensures.root nodes
          (subst (λ (ls : List LeafRange). IsSpine i.g (root_next i.root i.below.items p.bottom p.top) (below_next i.below.items p.place p.bottom p.beside) ls) (sym c.install.ensures.leaves) tree),
      c.install.ensures.end ∙ c.self.invariant.1 ∙ sym end ∙ sym c.change_nodes.ensures.root.node.end,
    )

pub returns-clause-below : goal.returns-clause-below
returns-clause-below c =
    let i = c.self.inside in
    let p = c.args.plan in
    let mid = c.change_nodes.new.below.items in
    rw (← c.self.view_is)
    (subst (λ ns. SameNodes (below_next i.below.items p.place p.bottom p.beside) ns) (sym c.set_beside.ensures) (beside_same (nodes_next i.below.items p.place p.bottom) mid p.place p.beside c.change_nodes.ensures.below))

pub returns-clause-cover : goal.returns-clause-cover
returns-clause-cover c = rw (← c.self.view_is) (subst (λ n. AreLeaves c.install.new.self.leaves n) (c.install.ensures.end ∙ c.self.invariant.1) c.install.ensures.all)

pub returns-clause-kept : goal.returns-clause-kept
returns-clause-kept c =
    let i = c.self.inside in
    let fits = rw (← c.self.view_is) at c.requires.leaves_fit in
    let old = rw (← c.self.view_is) at c.len.ensures.all in
    rw (← c.self.view_is) (are_kept i.leaves.leaves c.install.new.self.leaves i.root.end c.install.new.self.end c.args.plan old fits c.install.ensures.leaves c.install.ensures.all)
