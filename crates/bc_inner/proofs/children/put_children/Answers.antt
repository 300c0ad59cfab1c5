use Rattle.std.proofs.Common.{List, sym, subst, ap, ◌∙◌}
use Rattle.bc_image.specs.Children.{with_child}
use Rattle.bc_key.specs.declared.key.Key.{Key}
use Rattle.bc_inner.proofs.ChildLists.{Rise, with_order, with_more}
use Rattle.bc_inner.proofs.children.put_children.Goals as goal

pub loop-key-preserved : goal.loop-key-preserved
loop-key-preserved c =
    let so = c.loop-key.invariant in
    let key = c.key-item.result in
    let done = c.in_ok-put_child.ensures.ok in
    record {
      is = done ∙ ap (λ (xs : List Key). with_child key xs) so.is ∙ sym (with_more c.args.keys.now c.loop-key.key-index key c.args.children.now.items c.loop-key-test.true c.key-item.is);
      order = subst Rise (sym done) (with_order key c.loop-key.children.items so.order);
    }
