use Rattle.std.proofs.Common.{List, ◌∙◌, sym, subst}
use Rattle.bc_inner.specs.Inner.{CoverRange}
use Rattle.bc_key.specs.declared.key.Key.{Key}
use Rattle.bc_plan.proofs.Examples.{one_cover}
use Rattle.bc_tree_rows.proofs.plans.small_tree.Goals as goal

pub new-root-requires : goal.new-root-requires
new-root-requires c =
    let are = c.from_vec-keys.ensures ∙ c.in_ok-from_slice.ensures.items in
    subst (λ n. CoverRange 0 n c.from_vec-keys.result) (sym c.child-2.ensures.end)
    (subst (λ (ks : List Key). CoverRange 0 1048576 ks) (sym are) (one_cover c.child.result c.child.ensures.end))
