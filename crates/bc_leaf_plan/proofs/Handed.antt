-- What is in hand is what was asked for.
use Rattle.std.proofs.Common.{◌≡◌, ℕ, true, false, List, Option, None, Some, sym, ap, ◌∙◌, subst}
use Rattle.std.specs.Prelude.{IfErr, IfNone, IfOk, IfSome, Result, Ok, Err, is_some, slice_get}
use Rattle.bc_cache.specs.Fetch.{IsLeafIn}
use Rattle.bc_cache.specs.declared.slots.Cached.{Cached}
use Rattle.bc_held.specs.bc_hand.declared.hand.Hand.{Hand}
use Rattle.bc_held.specs.bc_hand.declared.hand.LeafHand.{LeafHand}
use Rattle.bc_held.specs.bc_machine.declared.part.SpinePart.{SpinePart}
use Rattle.bc_held.specs.declared.held.HeldBucket.{HeldBucket}
use Rattle.bc_leaf_plan.proofs.Rows.{some_one}
use Rattle.bc_leaf_plan.specs.Leaf.{HasFor, HasNoPlan, HasPlan, IsPlanned, IsUnplanned, with_spine}
use Rattle.bc_leaf_plan.specs.Way.{IsFullAbove, IsNeededBy}
use Rattle.bc_leaf_plan.specs.declared.refused.Refused.{Refused}
use Rattle.bc_leaf_plan.specs.declared.way.Way.{Way}
use Rattle.bc_leaf_plan.specs.declared.way.Way.TheVariants.{Split}
use Rattle.bc_node.specs.Leaf.{Leaf}
use Rattle.bc_tree.specs.Needs.{IsNeeded, split_needs}
use Rattle.bc_tree.specs.Same.{IsSameTree}
use Rattle.bc_tree.specs.Spine.{Spine}
use Rattle.bc_tree.specs.declared.needs.Needs.{Needs}
use Rattle.bc_tree.specs.declared.plan.Plan.{Plan}

-- ---- options

no_yes : false ≡ true → ⊥
no_yes is = cc

pub some_of : {X : Type 0} (P : X → Type 0) (r : Option X) → is_some r ≡ true → IfSome r P
    → (x : X) × P x
some_of P None is so = absurd (no_yes is)
some_of P (Some x) is so = (x, so)

pub none_of : {X : Type 0} (P : Type 0) (r : Option X) → is_some r ≡ false → IfNone r P → P
none_of P None is so = so
none_of P (Some x) is so = absurd (no_yes (sym is))

-- ---- what a split needs

pub split_some : (way : Way) (s : Spine) (leaf : Leaf) (r : Option Needs) → way ≡ Split
    → IsNeeded (split_needs s) s leaf.from r → IfSome r (IsNeededBy way s leaf)
split_some way s leaf None is needed = tt
split_some way s leaf (Some n) is needed = subst (λ w. IsNeededBy w s leaf n) (sym is) needed

pub split_none : (way : Way) (s : Spine) (leaf : Leaf) (r : Option Needs) → way ≡ Split
    → IsNeeded (split_needs s) s leaf.from r → IfNone r (IsFullAbove way s leaf)
split_none way s leaf None is needed = subst (λ w. IsFullAbove w s leaf) (sym is) needed
split_none way s leaf (Some n) is needed = tt

-- ---- the leaf in hand

pub at_slot : (o : Option LeafHand) (a b : LeafHand) (slot : ℕ) (c : Cached) → o ≡ Some a
    → o ≡ Some b → slice_get a.cache.slots slot ≡ Some (Some c)
    → (x : Cached) × (slice_get b.cache.slots slot ≡ Some (Some x))
at_slot o a b slot c is also there = (
  c,
  subst (λ (l : LeafHand).
      slice_get l.cache.slots slot ≡ Some (Some c)) (some_one (sym is ∙ also)) there,
)

leaf_is : (o : Option LeafHand) (a b : LeafHand) (slot : ℕ) (c : Cached) (leaf : Leaf)
    → o ≡ Some a → o ≡ Some b → slice_get a.cache.slots slot ≡ Some (Some c)
    → IsLeafIn b.cache.slots slot leaf → leaf ≡ c.leaf
leaf_is o a b slot c leaf is also there (x, here, its) =
    let same = subst (λ (l : LeafHand). slice_get l.cache.slots slot ≡ Some (Some c))
    (some_one (sym is ∙ also)) there in
    sym its ∙ ap (λ (y : Cached). y.leaf) (some_one (some_one (sym here ∙ same)))

module _ {C B : Type 0} (h : Hand C B) (slot count sectors : ℕ) (way : Way) (bs : List HeldBucket)
    (old new : SpinePart) (l : LeafHand) (leaf : Leaf) (is_spine : h.spine ≡ Some old)
    (are_leaves : h.leaves ≡ Some l) (there : IsLeafIn l.cache.slots slot leaf)
    (part : new ≡ record old { spine = new.spine }) (tree : IsSameTree old.spine new.spine)
    (at : HasFor h slot way bs) where
  same_spine : old ≡ at.spine
  same_spine = some_one (sym is_spine ∙ at.is_spine)

  same_leaf : leaf ≡ at.cached.leaf
  same_leaf = leaf_is h.leaves at.leaves l slot at.cached leaf at.are_leaves are_leaves at.there there

  hand_is : record h { spine = Some new } ≡ with_spine h (record at.spine { spine = new.spine })
  hand_is = ap (λ (s : SpinePart). record h { spine = Some s })
      (part ∙ ap (λ (s : SpinePart). record s { spine = new.spine }) same_spine)

  tree_is : IsSameTree at.spine.spine new.spine
  tree_is = subst (λ (s : SpinePart). IsSameTree s.spine new.spine) same_spine tree

  pub has_plan : (r : Result Plan Refused)
      → IfOk r (IsPlanned way count sectors old leaf bs new.spine)
      → IfOk r (HasPlan way count sectors h at.spine at.cached.leaf bs (record h { spine = Some new }))
  has_plan (Err why) is = tt
  has_plan (Ok p) is = record {
    roomed = record { spine = new.spine; tree = tree_is; hand = hand_is };
    is = subst (λ (x : Leaf). IsPlanned way count sectors at.spine x bs new.spine p) same_leaf
        (subst (λ (s : SpinePart). IsPlanned way count sectors s leaf bs new.spine p) same_spine is);
  }

  pub has_no_plan : (r : Result Plan Refused)
      → IfErr r (IsUnplanned way count sectors old leaf bs)
      → IfErr r (HasNoPlan way count sectors h at.spine at.cached.leaf bs
      (record h { spine = Some new }))
  has_no_plan (Ok p) is = tt
  has_no_plan (Err why) is = record {
    roomed = record { spine = new.spine; tree = tree_is; hand = hand_is };
    why_not = subst (λ (x : Leaf). IsUnplanned way count sectors at.spine x bs why) same_leaf
        (subst (λ (s : SpinePart). IsUnplanned way count sectors s leaf bs why) same_spine is);
  }
