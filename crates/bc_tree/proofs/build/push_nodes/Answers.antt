use Rattle.std.proofs.Common.{◌+◌, ◌++◌, take, sym, ap, ◌∙◌, subst}
use Rattle.std.specs.Prelude.{All}
use Rattle.std.proofs.lemmas.List.{take_all}
use Rattle.bc_inner.specs.Inner.{Inner}
use Rattle.bc_tree.specs.Spine.{Covers, HaveCome, Rise, children_in, last_end}
use Rattle.bc_tree.proofs.Spines.{begins_at, children_more, cover_ends, cover_rises, covers_more, more_come, row_more}
use Rattle.bc_tree.proofs.build.push_nodes.Goals as goal

pub push_children-requires-clause-rise : goal.push_children-requires-clause-rise
push_children-requires-clause-rise c =
    let nodes = c.args.nodes.now in
    let i = c.loop-node.node-index in
    let node = c.node-item.result in
    let begin = ap (λ (n : Inner). n.from) c.node-item.is ∙ begins_at c.args.leaves.now.end nodes i node c.requires.row c.loop-node-test.true in
    subst (λ ks. Rise c.loop-node.leaves.end ks) (sym c.children.ensures.children)
    (subst (λ a. Rise a node.children) (begin ∙ sym c.loop-node.invariant.1) (cover_rises node.from node.end node.children c.children.ensures.cover))

pub loop-node-preserved : goal.loop-node-preserved
loop-node-preserved c =
    let nodes = c.args.nodes.now in
    let i = c.loop-node.node-index in
    let node = c.node-item.result in
    let inside = c.loop-node-test.true in
    let old = c.args.leaves.now in
    let mid = c.loop-node.leaves in
    let new = c.push_children.new.leaves in
    let begin = ap (λ (n : Inner). n.from) c.node-item.is ∙ begins_at old.end nodes i node c.requires.row inside in
    let are = children_more nodes i node inside ∙ ap (λ (n : Inner). children_in (take i nodes) ++ n.children) (sym c.node-item.is) in (
      more_come (children_in (take i nodes)) node.children (children_in (take (i + 1) nodes)) old mid new are c.loop-node.invariant.0
          (subst (λ ks. HaveCome ks mid new) c.children.ensures.children c.in_ok-push_children.ensures.come),
      c.in_ok-push_children.ensures.end ∙ ap (λ ks. last_end mid.end ks) c.children.ensures.children
          ∙ ap (λ a. last_end a node.children) (c.loop-node.invariant.1 ∙ sym begin)
          ∙ cover_ends node.from node.end node.children c.children.ensures.cover
          ∙ ap (λ (n : Inner). n.end) c.node-item.is ∙ sym (row_more old.end nodes i node inside),
      covers_more nodes i node inside c.loop-node.invariant.2 (subst Covers c.node-item.is c.children.ensures.cover),
    )

pub returns-clause-cover : goal.returns-clause-cover
returns-clause-cover c = subst (All Covers) (take_all c.loop-node.node-index c.args.nodes.now c.loop-node-test.false) c.loop-node.invariant.2
