use Rattle.std.proofs.Common.{List, ◌∙◌, sym, subst}
use Rattle.bc_inner.specs.Inner.{CoverRange}
use Rattle.bc_key.specs.declared.key.Key.{Key}
use Rattle.bc_plan.proofs.Examples.{three_cover}
use Rattle.bc_tree_rows.proofs.plans.tree.Goals as goal

pub new-root-requires : goal.new-root-requires
new-root-requires c =
    let are = c.from_vec-keys.ensures ∙ c.in_ok-from_slice.ensures.items in
    subst (λ n. CoverRange 0 n c.from_vec-keys.result) (sym c.child-4.ensures.end)
    (subst (λ (ks : List Key). CoverRange 0 2048 ks) (sym are) (three_cover c.child.result c.child-2.result c.child-3.result c.child.ensures.end c.child-2.ensures.end c.child-3.ensures.end))
