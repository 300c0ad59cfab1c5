use Rattle.std.proofs.Common.{List, [], sym, subst, ap, ◌∙◌, take}
use Rattle.bc_image.specs.Children.{with_children}
use Rattle.bc_image.specs.Tree.{set_keys}
use Rattle.bc_image.proofs.Children.{children_rise}
use Rattle.bc_key.specs.declared.key.Key.{Key}
use Rattle.bc_node.proofs.KeyLists.{taken_set}
use Rattle.bc_inner.proofs.ChildLists.{Rise, with_append}
use Rattle.bc_inner.proofs.children.children_in.Goals as goal

pub put_children-requires : goal.put_children-requires
put_children-requires c = subst Rise (sym c.loop-set.invariant) (children_rise (set_keys (take c.loop-set.set-index c.args.sets.now)))

pub loop-set-preserved : goal.loop-set-preserved
loop-set-preserved c =
    let sets = c.args.sets.now in
    let i = c.loop-set.set-index in
    let s = c.set-item.result in
    c.in_ok-put_children.ensures.ok
    ∙ ap (λ (ks : List Key). with_children ks c.loop-set.children.items) c.as_slice.ensures
    ∙ ap (λ (xs : List Key). with_children s.keys xs) c.loop-set.invariant
    ∙ sym (ap (λ (ks : List Key). with_children ks []) (taken_set sets i s c.loop-set-test.true c.set-item.is) ∙ with_append (set_keys (take i sets)) s.keys [])
