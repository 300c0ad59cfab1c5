use Rattle.std.proofs.Common.{◌≤◌, length, ap, sym, subst, ◌∙◌}
use Rattle.std.proofs.lemmas.Option.{slice_get_within}
use Rattle.bc_disk.specs.declared.geometry.Geometry.{Geometry}
use Rattle.bc_inner.specs.Inner.{Inner}
use Rattle.bc_tree.specs.Change.{CanChange, IsChangeOf, set_words}
use Rattle.bc_tree.specs.Needs.{has_room}
use Rattle.bc_tree.specs.Plan.{moves}
use Rattle.bc_tree.specs.Spine.{bottom}
use Rattle.bc_tree.proofs.Coming.{more_places, same_there, some_place}
use Rattle.bc_tree.proofs.Nexts.{succeeds}
use Rattle.bc_tree.proofs.spine.Spine.above.Goals as goal

pub node-node-requires : goal.node-node-requires
node-node-requires c = slice_get_within (bottom c.args.self.now.root c.args.self.now.below) c.args.place c.requires.node.0 c.requires.node.1

pub change_node-requires-clause-can : goal.change_node-requires-clause-can
change_node-requires-clause-can c =
    subst (λ (g : Geometry). CanChange g c.node-node.result.now c.args.at c.args.gone c.args.come.now) (sym c.geometry.ensures)
    (subst (λ (n : Inner). CanChange c.args.self.now.geometry n c.args.at c.args.gone c.args.come.now) (same_there c.args.self.now c.args.place c.requires.node.0 c.node-node.result.now c.requires.node.1 c.node-node.ensures) c.requires.node.2)

pub change_node-requires-clause-place : goal.change_node-requires-clause-place
change_node-requires-clause-place c none =
    let s = c.args.self.now in
    let n = set_words c.args.gone c.args.come.now in
    let places = subst (λ (m : Inner). moves s m n ≤ length c.args.to.now) (same_there s c.args.place c.requires.node.0 c.node-node.result.now c.requires.node.1 c.node-node.ensures) c.requires.node.3 in
    some_place s c.node-node.result.now n (length c.args.to.now) (ap (λ (g : Geometry). has_room g c.node-node.result.now n) (sym c.geometry.ensures) ∙ none) places

pub top_change-requires-clause-node : goal.top_change-requires-clause-node
top_change-requires-clause-node c = (
  c.node-node.result.now,
  c.node-node.ensures,
  (succeeds c.geometry.result.now c.node-node.result.now c.args.at c.args.gone c.args.come.now c.args.to.now c.args.seq c.in_ok-bottom.bottom c.in_ok-bottom.ensures).end,
)

pub top_change-requires-clause-room : goal.top_change-requires-clause-room
top_change-requires-clause-room c =
    let s = c.args.self.now in
    let n = set_words c.args.gone c.args.come.now in
    let is = subst (λ (g : Geometry). IsChangeOf g c.node-node.result.now c.args.at c.args.gone c.args.come.now c.args.to.now c.args.seq c.in_ok-bottom.bottom) c.geometry.ensures c.in_ok-bottom.ensures in
    let places = subst (λ (m : Inner). moves s m n ≤ length c.args.to.now) (same_there s c.args.place c.requires.node.0 c.node-node.result.now c.requires.node.1 c.node-node.ensures) c.requires.node.3 in
    more_places s c.node-node.result.now c.args.at c.args.gone c.args.come.now c.args.to.now c.args.seq c.in_ok-bottom.bottom is places c.root.ensures.spine

pub returns : goal.returns
returns c =
    let s = c.args.self.now in
    let is = subst (λ (g : Geometry). IsChangeOf g c.node-node.result.now c.args.at c.args.gone c.args.come.now c.args.to.now c.args.seq c.in_ok-bottom.bottom) c.geometry.ensures c.in_ok-bottom.ensures in
    (c.node-node.result.now, c.node-node.ensures, record { change_is = is; top_is = c.in_ok-top.ensures })
