-- What the steps behind a plan ask, of the hand for which it was made.
use Rattle.std.proofs.Common.{◌≡◌, ℕ, ◌-◌, ◌≤◌, true, false, List, Option, None, Some, refl, sym, ap, ◌∙◌, subst}
use Rattle.std.specs.Prelude.{IfSome, is_some}
use Rattle.bc_by_root.proofs.Sealing.{some_bucket}
use Rattle.bc_by_root.specs.bc_install.bc_change.Ready.{IsTree}
use Rattle.bc_disk.specs.Disk.{DiskFacts}
use Rattle.bc_disk.specs.declared.geometry.Geometry.{Geometry}
use Rattle.bc_facts.specs.Layout.{IsLayoutOf}
use Rattle.bc_leaf_plan.proofs.Roomed.{spine_on}
use Rattle.bc_leaf_plan.proofs.Rows.{some_one}
use Rattle.bc_leaf_plan.specs.Leaf.{HasLeafToGo, HasPlan, HasRoomed}
use Rattle.bc_leaf_plan.specs.declared.way.Way.{Way}
use Rattle.bc_new_nodes.specs.Asked.{ChildrenPoint}
use Rattle.bc_new_nodes.specs.bc_hand.Seats.{HasNoneBehindLeaves, Kinds, View, Works, kinds, world}
use Rattle.bc_new_nodes.specs.bc_hand.declared.hand.Hand.{Hand}
use Rattle.bc_new_nodes.specs.bc_hand.declared.hand.LeafHand.{LeafHand}
use Rattle.bc_new_nodes.specs.bc_held.declared.held.HeldBucket.{HeldBucket}
use Rattle.bc_new_nodes.specs.bc_held_all.All.{AreHeld}
use Rattle.bc_new_nodes.specs.bc_machine.World.{AreLeaves, FromEach, replay}
use Rattle.bc_new_nodes.specs.bc_machine.declared.part.CorePart.{CorePart}
use Rattle.bc_new_nodes.specs.bc_machine.declared.part.SpinePart.{SpinePart}
use Rattle.bc_new_nodes.specs.bc_new_node.Kind.{IsDividedBy}
use Rattle.bc_parts.specs.Seat.{PartsView}
use Rattle.bc_replaced.proofs.Pointing.{points}
use Rattle.bc_tree.specs.declared.plan.Plan.{Plan}

no_yes : false ≡ true → ⊥
no_yes is = cc

none_there : {X : Type 0} (o : Option X) → is_some o ≡ false → o ≡ None
none_there None is = refl
none_there (Some x) is = absurd (no_yes (sym is))

-- where the buckets alone were taken for a while, the hand is as it was
pub same_hand : {C B : Type 0} (h k : Hand C B) → HasNoneBehindLeaves h → kinds k ≡ kinds h
    → k ≡ record h { buckets = k.buckets } → k ≡ h
same_hand h k behind alike is =
    let none = none_there k.buckets
    (ap (λ (x : Kinds). x.buckets) alike ∙ ap is_some behind.buckets) in
    is ∙ ap (λ b. record h { buckets = b }) (none ∙ sym behind.buckets)

module _ {C B : Type 0} (cache_facts : C → DiskFacts) (backing_facts : B → DiskFacts)
    (ps : PartsView (CorePart C B)) (v : View cache_facts backing_facts) (h : Hand C B)
    (works : Works cache_facts backing_facts ps v h) (parts slot : ℕ) (way : Way)
    (at : HasLeafToGo h parts way slot) where
  leaves_on : (6 ≤ at.leaves.part)
      × AreLeaves (at.leaves.part - 6) at.leaves.cache (world cache_facts backing_facts v)
  leaves_on = subst (λ (o : Option LeafHand). IfSome o (λ l. (6 ≤ l.part)
      × AreLeaves (l.part - 6) l.cache (world cache_facts backing_facts v))) at.are_leaves
      works.stand.leaves

  divided : FromEach (world cache_facts backing_facts v) (IsDividedBy at.spine.spine.geometry)
  divided o is course = subst (λ (g : Geometry). IsLayoutOf g o.opening.machine.layout) at.geometry
      (leaves_on.1 o is course).layout

  module _ (k : Hand C B) (roomed : HasRoomed h at.spine k) where
    its_geometry : (spine : SpinePart) → k.spine ≡ Some spine
        → at.spine.spine.geometry ≡ spine.spine.geometry
    its_geometry spine is = sym roomed.tree.geometry_is
        ∙ ap (λ (s : SpinePart). s.spine.geometry)
        (some_one (sym (ap (λ (x : Hand C B). x.spine) roomed.hand) ∙ is))

    pub divided_now : (spine : SpinePart) → k.spine ≡ Some spine
        → FromEach (world cache_facts backing_facts v) (IsDividedBy spine.spine.geometry)
    divided_now spine is o origin course =
        subst (λ (g : Geometry). IsLayoutOf g o.opening.machine.layout) (its_geometry spine is)
        (divided o origin course)

    pub none_behind_now : HasNoneBehindLeaves h → HasNoneBehindLeaves k
    none_behind_now behind = subst (λ (x : Hand C B). HasNoneBehindLeaves x) (sym roomed.hand)
        (record {
          flight = behind.flight;
          buckets = behind.buckets;
          journal = behind.journal;
          cache = behind.cache;
          backing = behind.backing;
        })

  pub points_now : (within : ℕ) (bs : List HeldBucket) (k : Hand C B) (p : Plan)
      → IsTree at.spine.spine → AreHeld cache_facts backing_facts bs v
      → (plan : HasPlan way (parts - 6) within h at.spine at.cached.leaf bs k p)
      → (spine : SpinePart) → k.spine ≡ Some spine
      → FromEach (world cache_facts backing_facts v) (ChildrenPoint spine.spine.geometry p)
  points_now within bs k p tree are plan spine is o origin course =
      let g = at.spine.spine.geometry in
      let on = spine_on cache_facts backing_facts ps v h works at.spine at.is_spine
      plan.roomed.spine plan.roomed.tree in
      subst (λ (x : Geometry). ChildrenPoint x p o
      (replay o (world cache_facts backing_facts v).log)) (its_geometry k plan.roomed spine is)
      (points (world cache_facts backing_facts v) o origin course g (divided o origin course)
      (some_bucket g) way (parts - 6) at.spine.spine at.cached.leaf bs at.spine.next_seq p
      tree.spine_is (on o origin course).spine (λ b m. (are.held b m o origin course).lies)
      plan.is.planned)
