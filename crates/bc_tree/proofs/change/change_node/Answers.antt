use Rattle.std.proofs.Common.{◌≡◌, false, List, length, refl, sym, ap, ◌∙◌, subst}
use Rattle.std.proofs.lemmas.Option.{slice_get_read}
use Rattle.bc_key.specs.declared.key.Key.{Key}
use Rattle.bc_tree.specs.Change.{IsMoved, set_words}
use Rattle.bc_tree.specs.Children.{children_after}
use Rattle.bc_tree.specs.Needs.{has_room, words}
use Rattle.bc_tree.proofs.change.change_node.Goals as goal

pub returns : goal.returns
returns c =
    let g = c.args.g.now in
    let node = c.args.node.now in
    let at = c.args.at in
    let gone = c.args.gone in
    let come = c.args.come.now in
    let size : c.word_count.result ≡ set_words gone come = c.word_count.ensures.count ∙ ap words c.deref.ensures.value ∙ c.in_ok-keys.ensures.words in
    let room : has_room g node (set_words gone come) ≡ false = ap (has_room g node) (sym size) ∙ sym c.has_room.ensures ∙ c.if-has_room.false in
    let are = c.from_vec-2.ensures ∙ c.in_ok-children.ensures ∙ ap (λ (ks : List Key). children_after ks at gone come) c.children-2.ensures.children in (
      room,
      (
        c.index-to-0.result,
        slice_get_read c.args.to.now (length c.args.to.now) 0 c.index-to-0.result refl (c.requires.place room) c.index-to-0.is,
        subst (λ (ks : List Key). IsMoved node ks c.index-to-0.result c.args.seq c.moved-next.result) are c.moved-next.ensures,
      ),
    )
