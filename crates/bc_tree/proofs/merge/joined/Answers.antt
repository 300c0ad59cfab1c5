use Rattle.std.proofs.Common.{◌++◌, List, ap, sym, subst, ◌∙◌, arith}
use Rattle.std.specs.Prelude.{All}
use Rattle.bc_extent.specs.Extents.{IsInOrder}
use Rattle.bc_key.specs.declared.key.Key.{Key}
use Rattle.bc_node.specs.Leaf.{AreProperKeys}
use Rattle.bc_tree.specs.Parts.{LiesBetween}
use Rattle.bc_tree.proofs.Joins.{joined_order, joined_within}
use Rattle.bc_tree.proofs.merge.joined.Goals as goal

pub leaf_with-requires-clause-order : goal.leaf_with-requires-clause-order
leaf_with-requires-clause-order c =
    let left = c.args.left.now in
    let right = c.args.right.now in
    let one = c.in_ok-push_keys.ensures ∙ ap (λ (ks : List Key). ks ++ c.keys.result.now.keys) c.new-keys.ensures.items ∙ c.keys.ensures.keys in
    let are = c.deref.ensures.value ∙ c.in_ok-push_keys-2.ensures ∙ ap (λ (ks : List Key). ks ++ c.keys-2.result.now.keys) one ∙ ap (λ (ks : List Key). left.keys ++ ks) c.keys-2.ensures.keys in
    subst IsInOrder (sym are) (joined_order left.from left.end right.end left.keys right.keys c.keys.ensures.proper (subst (λ n. AreProperKeys n right.end right.keys) (sym c.requires.beside) c.keys-2.ensures.proper))

pub leaf_with-requires-clause-within : goal.leaf_with-requires-clause-within
leaf_with-requires-clause-within c =
    let left = c.args.left.now in
    let right = c.args.right.now in
    let both = left.keys ++ right.keys in
    let one = c.in_ok-push_keys.ensures ∙ ap (λ (ks : List Key). ks ++ c.keys.result.now.keys) c.new-keys.ensures.items ∙ c.keys.ensures.keys in
    let are = c.deref.ensures.value ∙ c.in_ok-push_keys-2.ensures ∙ ap (λ (ks : List Key). ks ++ c.keys-2.result.now.keys) one ∙ ap (λ (ks : List Key). left.keys ++ ks) c.keys-2.ensures.keys in
    subst (λ (ks : List Key). All (LiesBetween c.from.result c.end.result) ks) (sym are)
    (subst (λ n. All (LiesBetween n c.end.result) both) (sym c.from.ensures)
    (subst (λ n. All (LiesBetween left.from n) both) (sym c.end.ensures)
    (joined_within left.from left.end right.end left.keys right.keys c.requires.left (omega (arith, c.requires.beside, c.requires.right)) c.keys.ensures.proper (subst (λ n. AreProperKeys n right.end right.keys) (sym c.requires.beside) c.keys-2.ensures.proper))))
