-- The whole change of a leaf, put together from its steps.
use Rattle.std.proofs.Common.{◌≡◌, inr, ℕ, ◌+◌, ◌-◌, ◌≤◌, ◌<◌, ◌^◌, Bool, true, false, List, length, Option, sym, ap, ◌∙◌, subst, arith}
use Rattle.std.specs.Prelude.{◌↔◌, Contains, IfErr, IsTrue, OnOk, Result, Ok, Err}
use Rattle.bc_alloc.specs.declared.purpose.Purpose.TheVariants as list
use Rattle.bc_by_root.specs.bc_install.bc_change.Ready.{IsTree}
use Rattle.bc_disk.specs.Disk.{DiskFacts}
use Rattle.bc_leaf_plan.proofs.Rows.{below_end, of_spine, some_one}
use Rattle.bc_leaf_plan.specs.Leaf.{HasFor, HasLeafToGo, HasNoPlan, HasPlan, HasRoomed, HasSlot, IsUnplanned, with_spine}
use Rattle.bc_leaf_plan.specs.Way.{IsNeededBy}
use Rattle.bc_leaf_plan.specs.declared.refused.Refused.{Refused}
use Rattle.bc_leaf_plan.specs.declared.refused.Refused.TheVariants as no
use Rattle.bc_leaf_plan.specs.declared.way.Way.{Way}
use Rattle.bc_new_nodes.specs.bc_hand.Seats.{View}
use Rattle.bc_new_nodes.specs.bc_hand.declared.hand.Hand.{Hand}
use Rattle.bc_new_nodes.specs.bc_held.declared.held.HeldBucket.{HeldBucket}
use Rattle.bc_new_nodes.specs.bc_machine.declared.part.SpinePart.{SpinePart}
use Rattle.bc_replaced.specs.Given.{HasBucketsFor}
use Rattle.bc_replaced.specs.Made.{HasMade, HasNotMade}
use Rattle.bc_replaced.specs.Replaced.{HasNotReplaced, HasNotReplacedIn, HasReplaced, HasReplacedIn, HasStoppedIn, HasTakenFor, HaveGoneBack, IsGivenUp, IsRefusal}
use Rattle.bc_replaced.specs.declared.error.MakeError.{MakeError}
use Rattle.bc_replaced.specs.declared.error.ReplaceError.{ReplaceError}
use Rattle.bc_replaced.specs.declared.error.ReplaceError.TheVariants as error
use Rattle.bc_spine.specs.declared.leaf.LeafRange.{LeafRange}
use Rattle.bc_tree.proofs.Same.{same_tree}
use Rattle.bc_tree.specs.LastKeys.{HasKeysOf, KeepLastKeys, LeafKeys, StandIn, keys_next}
use Rattle.bc_tree.specs.declared.needs.Needs.{Needs}
use Rattle.bc_tree.specs.declared.plan.Plan.{Plan}

no_yes : false ≡ true → ⊥
no_yes is = cc

-- where a test says that so many numbers aren't left
pub none_left : (b : Bool) (n : ℕ) → IsTrue b ↔ (n < 2 ^ 64) → b ≡ false → 2 ^ 64 ≤ n
none_left b n tells off =
    let not : n < 2 ^ 64 → ⊥ = λ few. no_yes (sym off ∙ tells.1 few) in omega (arith, not)

-- ---- answers

pub on_ok : {A E P Q : Type 0} (r : Result A E) → (P → Q) → OnOk r P → OnOk r Q
on_ok (Ok a) f its = f its
on_ok (Err e) f its = tt

pub if_err : {A E : Type 0} (P Q : E → Type 0) (r : Result A E) → ((e : E) → P e → Q e) → IfErr r P
    → IfErr r Q
if_err P Q (Ok a) f its = tt
if_err P Q (Err e) f its = f e its

-- ---- the leaf in hand

module _ {C B : Type 0} (h : Hand C B) (parts slot : ℕ) (way : Way)
    (at : HasLeafToGo h parts way slot) where
  -- nothing is changed
  pub roomed_now : HasRoomed h at.spine h
  roomed_now = record {
    spine = at.spine.spine;
    tree = same_tree at.spine.spine;
    hand = ap (λ (s : Option SpinePart). record h { spine = s }) at.is_spine;
  }

  pub same_roomed : (k : Hand C B) → k ≡ h → HasRoomed h at.spine k
  same_roomed k same = record {
    spine = at.spine.spine;
    tree = same_tree at.spine.spine;
    hand = same ∙ ap (λ (s : Option SpinePart). record h { spine = s }) at.is_spine;
  }

  pub roomed_at : (k j : Hand C B) → j ≡ k → HasRoomed h at.spine k → HasRoomed h at.spine j
  roomed_at k j same roomed = record {
    spine = roomed.spine;
    tree = roomed.tree;
    hand = same ∙ roomed.hand;
  }

  module _ (tree : IsTree at.spine.spine) where
    abbrev pub has_slot : HasSlot h slot
    has_slot = record {
      spine = at.spine;
      is_spine = at.is_spine;
      leaves = at.leaves;
      are_leaves = at.are_leaves;
      cached = at.cached;
      there = at.there;
      below = below_end at.spine.spine tree.leaves at.cached.leaf at.range at.in_tree at.from
          at.end;
    }

    -- with the buckets that it needs
    abbrev pub has_for : (bs : List HeldBucket) (n : Needs)
        → IsNeededBy way at.spine.spine at.cached.leaf n → length bs ≡ n.tree + n.moving
        → HasFor h slot way bs
    has_for bs n needed many = record {
      spine = at.spine;
      is_spine = at.is_spine;
      leaves = at.leaves;
      are_leaves = at.are_leaves;
      cached = at.cached;
      there = at.there;
      of = of_spine at.spine.spine tree.leaves at.cached.leaf at.range at.in_tree at.from at.end;
      long = at.long;
      needs = n;
      needed = needed;
      many = many;
    }

  -- ---- what is planned, where leaves are in as many parts as were counted

  module _ (within all : ℕ) (many : all ≡ parts) (bs : List HeldBucket) (mid : Hand C B) where
    pub plan_at : (p : Plan)
        → HasPlan way (all - 6) within h at.spine at.cached.leaf bs mid p
        → HasPlan way (parts - 6) within h at.spine at.cached.leaf bs mid p
    plan_at p plan =
        subst (λ n. HasPlan way (n - 6) within h at.spine at.cached.leaf bs mid p) many plan

    pub no_plan_at : (why : Refused)
        → HasNoPlan way (all - 6) within h at.spine at.cached.leaf bs mid why
        → HasNoPlan way (parts - 6) within h at.spine at.cached.leaf bs mid why
    no_plan_at why plan =
        subst (λ n. HasNoPlan way (n - 6) within h at.spine at.cached.leaf bs mid why) many plan

  -- ---- the change was made, or was begun

  module _ (cache_facts : C → DiskFacts) (backing_facts : B → DiskFacts)
      (before within : ℕ) (mid k : Hand C B) (bs : List HeldBucket) (p : Plan)
      (v w : View cache_facts backing_facts)
      (plan : HasPlan way (parts - 6) within h at.spine at.cached.leaf bs mid p) where
    abbrev roomy : Hand C B
    roomy = with_spine h (record at.spine { spine = plan.roomed.spine })

    module _ (made : HasMade cache_facts backing_facts before (parts - 6) roomy k bs p v w) where
      old_is : made.tree.old.spine.leaves ≡ at.spine.spine.leaves
      old_is = sym (ap (λ (s : SpinePart). s.spine.leaves) (some_one made.tree.is_old))
          ∙ plan.roomed.tree.leaves_are

      -- the keys of the tree, once the plan is in it
      keys_kept : (keys : LeafKeys) → HasKeysOf at.spine.spine.leaves keys at.cached.leaf
          → KeepLastKeys at.spine.spine.leaves made.tree.now.spine.leaves keys (keys_next keys p)
      keys_kept keys its =
          subst (λ (ls : List LeafRange). KeepLastKeys ls made.tree.now.spine.leaves keys
          (keys_next keys p)) old_is
          (made.tree.kept keys (subst (λ (ls : List LeafRange). StandIn ls keys p) (sym old_is)
          (plan.is.kept keys its)))

      replaced_by : HasReplacedIn cache_facts backing_facts before at bs k v w
      replaced_by = record {
        plan = p;
        planned = plan.is.planned;
        spine = plan.roomed.spine;
        tree = plan.roomed.tree;
        made = made;
        keeps = keys_kept;
      }

    pub replaced : HasMade cache_facts backing_facts before (parts - 6) mid k bs p v w
        → HasReplacedIn cache_facts backing_facts before at bs k v w
    replaced made = replaced_by (subst (λ (x : Hand C B).
        HasMade cache_facts backing_facts before (parts - 6) x k bs p v w) plan.roomed.hand made)

    pub stopped_in : (sectors : ℕ) (e : MakeError)
        → HasNotMade cache_facts backing_facts sectors parts before e mid k bs p v w
        → HasStoppedIn cache_facts backing_facts sectors before at bs e k v w
    stopped_in sectors e not = record {
      plan = p;
      planned = plan.is.planned;
      spine = plan.roomed.spine;
      tree = plan.roomed.tree;
      stopped = subst (λ (x : Hand C B).
          HasNotMade cache_facts backing_facts sectors parts before e x k bs p v w)
          plan.roomed.hand not;
    }

  -- ---- given up

  module _ (cache_facts : C → DiskFacts) (backing_facts : B → DiskFacts)
      (sectors within before : ℕ) (bs : List HeldBucket) where
    pub given_up : (k : Hand C B) → HasRoomed h at.spine k → (why : Refused) (e : ReplaceError)
        (v w : View cache_facts backing_facts)
        → IsUnplanned way (parts - 6) within at.spine at.cached.leaf bs why
        → IsGivenUp cache_facts backing_facts before why bs e v w
        → HasNotReplacedIn cache_facts backing_facts sectors within before at bs e k v w
    given_up k roomed why (error.Refused cause) v w un (same, gone) = record {
      roomed = roomed;
      why_not = subst (IsUnplanned way (parts - 6) within at.spine at.cached.leaf bs) (sym same) un;
      gone = gone;
    }
    given_up k roomed why (error.Before e) v w un halted =
        record { roomed = roomed; halted = halted }
    given_up k roomed why (error.Made e) v w un none = absurd none

    refusal : (why : Refused) (v w : View cache_facts backing_facts)
        → IsUnplanned way (parts - 6) within at.spine at.cached.leaf bs why
        → HaveGoneBack cache_facts backing_facts before at bs v w
        → IsRefusal cache_facts backing_facts within before at why v w
    refusal no.Memory v w un back = inr (bs, back)
    refusal (no.NoBucket none) v w un back = absurd un
    refusal no.Large v w un back = (bs, back, un)
    refusal no.Above v w un back = absurd un
    refusal no.Number v w un back = absurd un
    refusal no.Outside v w un back = (bs, back, un)
    refusal no.BySet v w un back = (bs, back, un)

    -- with the buckets that were taken for it
    module _ (v u w : View cache_facts backing_facts)
        (took : HasTakenFor cache_facts backing_facts before at bs v u) (k : Hand C B) where
      pub all_replaced : HasReplacedIn cache_facts backing_facts before at bs k u w
          → HasReplaced cache_facts backing_facts parts before slot way h k v w
      all_replaced done = record { at = at; buckets = bs; taken = u; took = took; done = done }

      pub not_replaced : (e : ReplaceError)
          → HasNotReplacedIn cache_facts backing_facts sectors within before at bs e k u w
          → HasNotReplaced cache_facts backing_facts sectors within parts before slot way e h k v w
      not_replaced (error.Refused why) not = record {
        at = at;
        roomed = not.roomed;
        why_not = refusal why v w not.why_not (record { taken = u; took = took; gone = not.gone });
      }
      not_replaced (error.Before e) not = record {
        at = at;
        roomed = not.roomed;
        buckets = bs;
        needs = took.needs;
        needed = took.needed;
        far = inr (u, took, not.halted);
      }
      not_replaced (error.Made e) not =
          record { at = at; buckets = bs; taken = u; took = took; stopped = not }

  -- ---- the buckets that were taken

  abbrev pub has_buckets : (bs : List HeldBucket) (n : Needs)
      → IsNeededBy way at.spine.spine at.cached.leaf n → length bs ≡ n.tree + n.moving
      → ((b : HeldBucket) → Contains bs b → b.purpose ≡ list.Tree)
      → at.spine.next_seq + (n.tree + n.moving) < 2 ^ 64 → HasBucketsFor h parts way slot bs
  has_buckets bs n needed many purposes few = record {
    leaf = at;
    needs = n;
    needed = needed;
    many = many;
    purposes = purposes;
    numbered = subst (λ m. at.spine.next_seq + m < 2 ^ 64) (sym many) few;
  }

-- so it is with the buckets that were given
abbrev pub for_has : {C B : Type 0} (h : Hand C B) (parts slot : ℕ) (way : Way)
    (bs : List HeldBucket) (has : HasBucketsFor h parts way slot bs) → IsTree has.leaf.spine.spine
    → HasFor h slot way bs
for_has h parts slot way bs has tree =
    has_for h parts slot way has.leaf tree bs has.needs has.needed has.many
