use Rattle.std.proofs.Common.{◌≡◌, ◌≤◌, List, sym, subst, ap, ◌∙◌, arith}
use Rattle.std.specs.Prelude.{vec_len, vec_capacity}
use Rattle.bc_image.specs.Children.{with_child}
use Rattle.bc_key.specs.declared.key.Key.{Key}
use Rattle.bc_inner.proofs.ChildLists.{Rise, with_order, with_more, surely}
use Rattle.bc_inner.proofs.children.put_within.Goals as goal

pub loop-key-preserved : goal.loop-key-preserved
loop-key-preserved c =
    let so = c.loop-key.invariant in
    let key = c.key-item.result in
    let room = so.room in
    let few = so.few in
    let low = c.loop-key-test.true in
    let had = c.requires.room in
    let put = c.put_child.ensures in
    let done =
    surely c.put_child.result (c.put_child.new.children.items ≡ with_child key c.loop-key.children.items) (vec_capacity c.loop-key.children ≤ vec_len c.loop-key.children) put.ok put.full
    (λ full. omega (arith, full, room, few, low, had)) in
    record {
      is = done ∙ ap (λ (xs : List Key). with_child key xs) so.is ∙ sym (with_more c.args.keys.now c.loop-key.key-index key c.args.children.now.items low c.key-item.is);
      order = subst Rise (sym done) (with_order key c.loop-key.children.items so.order);
      room = (let more = put.room in omega (arith, room, more));
      few = (let one = put.one in omega (arith, few, one));
    }
