use Rattle.std.proofs.Common.{[], ◌∷◌, ap, sym, subst, ◌∙◌, arith}
use Rattle.std.specs.Prelude.{IfOk}
use Rattle.bc_disk.specs.declared.geometry.Geometry.{Geometry}
use Rattle.bc_inner.specs.Inner.{Inner}
use Rattle.bc_tree.specs.Change.{CanChange, IsChangeOf}
use Rattle.bc_tree.specs.Needs.{has_room}
use Rattle.bc_tree.proofs.Coming.{change_named, names_of, root_can, three_words}
use Rattle.bc_tree.proofs.spine.Spine.root_change.Goals as goal

pub change_node-requires-clause-can : goal.change_node-requires-clause-can
change_node-requires-clause-can c =
    let s = c.args.self.now in
    subst (λ (g : Geometry). CanChange g c.root.result.now c.args.place 1 (c.new-key.result ∷ [])) (sym c.geometry.ensures)
    (subst (λ (r : Inner). CanChange s.geometry r c.args.place 1 (c.new-key.result ∷ [])) (sym c.root.ensures.root)
    (root_can s.geometry s.root s.below s.leaves c.args.place c.requires.below.0 c.args.next.now c.new-key.result c.root.ensures.spine c.requires.below.1 c.requires.below.2 (c.new-key.ensures.end ∙ c.end.ensures) c.new-key.ensures.count))

pub change_node-requires-clause-few : goal.change_node-requires-clause-few
change_node-requires-clause-few c = omega (arith, three_words c.new-key.result c.new-key.ensures.count)

pub change_node-requires-clause-place : goal.change_node-requires-clause-place
change_node-requires-clause-place c none =
    let s = c.args.self.now in
    c.requires.room
    (ap (λ (g : Geometry). has_room g s.root 3) (sym c.geometry.ensures) ∙ ap (λ (r : Inner). has_room c.geometry.result.now r 3) (sym c.root.ensures.root)
    ∙ ap (λ n. has_room c.geometry.result.now c.root.result.now n) (sym (three_words c.new-key.result c.new-key.ensures.count)) ∙ none)

pub returns : goal.returns
returns c =
    let s = c.args.self.now in
    let is = subst (λ (r : Inner). IfOk c.change_node.result (IsChangeOf s.geometry r c.args.place 1 (c.new-key.result ∷ []) c.args.to.now c.args.seq)) c.root.ensures.root
    (subst (λ (g : Geometry). IfOk c.change_node.result (IsChangeOf g c.root.result.now c.args.place 1 (c.new-key.result ∷ []) c.args.to.now c.args.seq)) c.geometry.ensures c.change_node.ensures) in
    change_named s.geometry s.root c.args.place c.new-key.result c.args.next.now c.args.to.now c.args.seq c.change_node.result
    (names_of c.new-key.result c.args.next.now c.ptr.result (c.new-key.ensures.end ∙ c.end.ensures) c.new-key.ensures.pointer c.ptr.ensures c.new-key.ensures.count) is
