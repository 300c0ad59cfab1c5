use Rattle.std.proofs.Common.{List, All, Contains, length, sym, ap, ◌∙◌, subst}
use Rattle.std.proofs.lemmas.List.Elements.{All-contains}
use Rattle.bc_held.specs.declared.held.HeldBucket.{HeldBucket}
use Rattle.bc_key.specs.declared.ptr.Ptr.{Ptr}
use Rattle.bc_leaf_plan.proofs.Handed.{none_of, some_of}
use Rattle.bc_leaf_plan.proofs.Lists.{moves_same, places_many}
use Rattle.bc_leaf_plan.specs.Leaf.{EndsWithin}
use Rattle.bc_leaf_plan.specs.Way.{IsPlanBy}
use Rattle.bc_tree.proofs.Same.{same_tree}
use Rattle.bc_leaf_plan.proofs.plan.plan_in.Goals as goal

pub returns-in_default-clause-tree : goal.returns-in_default-clause-tree
returns-in_default-clause-tree c = same_tree c.args.part.now.spine

pub returns-then-is_some-clause-tree : goal.returns-then-is_some-clause-tree
returns-then-is_some-clause-tree c = same_tree c.args.part.now.spine

pub returns-then-is_some-clause-err : goal.returns-then-is_some-clause-err
returns-then-is_some-clause-err c =
    let one = some_of (λ (b : HeldBucket). Contains c.args.buckets.now b
    × (EndsWithin c.args.sectors c.args.part.now.spine b → ⊥)) c.outside.result
    (sym c.is_some.ensures ∙ c.if-is_some.true) c.outside.ensures.some in
    (one.0, one.1.0, one.1.1)

pub returns-then-not-moves_up-clause-err : goal.returns-then-not-moves_up-clause-err
returns-then-not-moves_up-clause-err c =
    let p = c.in-Ok-plan_by.plan in
    let s = c.args.part.now.spine in (
      p,
      subst (λ (to : List Ptr). IsPlanBy c.args.way c.args.count s c.args.leaf.now to
          c.args.part.now.next_seq p) (c.deref.ensures.value ∙ c.in-Ok.ensures)
          c.in-Ok-plan_by.ensures.planned,
      sym (moves_same s.below c.plan_by.new.spine.below p.bottom p.top
          c.plan_by.ensures.tree.below_are) ∙ sym c.moves_up.ensures ∙ c.if-not-moves_up.true,
    )

pub returns-clause-ok : goal.returns-clause-ok
returns-clause-ok c =
    let p = c.in-Ok-plan_by.plan in
    let s = c.args.part.now.spine in
    let to_is = c.deref.ensures.value ∙ c.in-Ok.ensures in
    let inside = none_of (All (EndsWithin c.args.sectors s) c.args.buckets.now) c.outside.result
    (sym c.is_some.ensures ∙ c.if-is_some.false) c.outside.ensures.none in record {
      planned = subst (λ (to : List Ptr). IsPlanBy c.args.way c.args.count s c.args.leaf.now to
          c.args.part.now.next_seq p) to_is c.in-Ok-plan_by.ensures.planned;
      fits = c.in-Ok-plan_by.ensures.fits;
      kept = c.in-Ok-plan_by.ensures.kept;
      many = c.in-Ok-plan_by.ensures.count ∙ ap (λ (to : List Ptr). length to) to_is
          ∙ places_many c.args.buckets.now;
      up = sym c.moves_up.ensures ∙ c.if-not-moves_up.false;
      within = λ b m. All-contains (EndsWithin c.args.sectors s) c.args.buckets.now b inside m;
      proper = c.proper_pending.ensures;
    }
