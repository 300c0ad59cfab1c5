-- Which slots are nodes and drafts, and where they lie.
use Rattle.std.proofs.Common.{◌≡◌, ◌≢◌, ◌⊎◌, ℕ, Bool, true, false, List, [], ◌∷◌, refl, sym, subst, if◌then◌else◌}
use Rattle.bc_model.specs.Sector.{Value}
use Rattle.bc_key.specs.declared.key.Key.{Key}
use Rattle.bc_books.specs.Shelves.{Tree, Shelf, Held}
use Rattle.bc_meta.specs.Facts.{In}
use Rattle.bc_meta.specs.Tree.{NodeSet}
use Rattle.bc_meta.specs.Events as event
use Rattle.bc_meta.specs.Acts as meta
use Rattle.bc_meta.proofs.Lists.{by_test}
use Rattle.bc_leaves.specs.Parts.{Role, NoNode, Draft, Free, Leaving, Coming, Leaf, InnerNode, State}
use Rattle.bc_leaves.specs.Events as parts_event
use Rattle.bc_leaves.specs.After.{after, has, changed, forgotten, installed}
use Rattle.bc_leaves.specs.Enabled.{CanBegin}
use Rattle.bc_leaves.specs.Laws.{parts_of}
use Rattle.bc_leaves.proofs.Chains.{in_has}
use Rattle.bc_whole.specs.Together.{inserted, step}
use Rattle.bc_known.specs.Asked.{IsAfter}
use Rattle.bc_known.specs.Known.{AreInBuckets}
use Rattle.bc_known.proofs.Keyed.{parts_join}

-- each slot that is a node or a draft was one, in the same bucket
pub record AreOld (old new : State) : Type 0 where
  pub leaves : (k : ℕ) → (new.leaves k).role ≢ NoNode → ((old.leaves k).role ≢ NoNode)
      × ((new.leaves k).bucket ≡ (old.leaves k).bucket)
  pub inner_nodes : (x : ℕ) → (new.inner_nodes x).role ≢ NoNode
      → ((old.inner_nodes x).role ≢ NoNode)
      × ((new.inner_nodes x).bucket ≡ (old.inner_nodes x).bucket)

-- buckets for nodes
abbrev pub IsFor : (ℕ → Bool) → (ℕ → Shelf) → ℕ → Type 0
IsFor node shelf q = (node q ≡ true) ⊎ ((i : ℕ) × (shelf q ≡ Held i Tree))

pub old_in : (old new : State) (node node2 : ℕ → Bool) (shelf shelf2 : ℕ → Shelf)
    → AreOld old new → ((q : ℕ) → IsFor node shelf q → IsFor node2 shelf2 q)
    → AreInBuckets old node shelf → AreInBuckets new node2 shelf2
old_in old new node node2 shelf shelf2 are more h = record {
  leaves = λ k some. let a = are.leaves k some in
      subst (IsFor node2 shelf2) (sym a.1) (more (old.leaves k).bucket (h.leaves k a.0));
  inner_nodes = λ x some. let a = are.inner_nodes x some in
      subst (IsFor node2 shelf2) (sym a.1)
      (more (old.inner_nodes x).bucket (h.inner_nodes x a.0));
}

pub same_slots : (st : State) → AreOld st st
same_slots st = record {
  leaves = λ k some. (some, refl);
  inner_nodes = λ x some. (some, refl);
}

-- keys that come in
pub inserted_slots : (st : State) (slot : ℕ) (keys : List Key)
    → AreOld st (parts_of st (inserted slot keys))
inserted_slots st slot [] = same_slots st
inserted_slots st slot (key ∷ keys) =
    let ih = inserted_slots st slot keys in
    subst (λ (p : State). AreOld st p) (sym (parts_join st (inserted slot keys)
    (step (meta.Plain (event.AddKey key)) (parts_event.Insert slot key)))) (record {
      leaves = ih.leaves;
      inner_nodes = ih.inner_nodes;
    })

pub set_slots : (st : State) (i : ℕ) (set : NodeSet) (values : List Value)
    → AreOld st (after st (parts_event.WriteSet i set values))
set_slots st i set values = record {
  leaves = λ k some. (some, refl);
  inner_nodes = λ x some. (some, refl);
}

forgotten_some : (r : Role) → forgotten r ≢ NoNode → r ≢ NoNode
forgotten_some NoNode h e = h refl
forgotten_some Draft h e = cc
forgotten_some Free h e = cc
forgotten_some Leaving h e = cc
forgotten_some Coming h e = cc

pub forget_slots : (st : State) → AreOld st (after st parts_event.ForgetDrafts)
forget_slots st = record {
  leaves = λ k some. (forgotten_some (st.leaves k).role some, refl);
  inner_nodes = λ x some. (forgotten_some (st.inner_nodes x).role some, refl);
}

free_some : (r : Role) → r ≡ Free → r ≢ NoNode
free_some r e n = cc

draft_some : (r : Role) → r ≡ Draft → r ≢ NoNode
draft_some r e n = cc

changed_some : (gone come : List ℕ) (k : ℕ) (r : Role) → (In k gone → r ≡ Free)
    → (In k come → r ≡ Draft) → changed gone come k r ≢ NoNode → r ≢ NoNode
changed_some gone come k r g c = cases (has gone k) refl (has come k) refl
  where
    cases : (a : Bool) → has gone k ≡ a → (b : Bool) → has come k ≡ b
        → (if a then Leaving else (if b then Coming else r)) ≢ NoNode → r ≢ NoNode
    cases true e b d h = free_some r (g (in_has gone k e))
    cases false e true d h = draft_some r (c (in_has come k d))
    cases false e false d h = h

pub change_slots : (st : State) (low high : ℕ) (gone come old new : List ℕ) (un : ℕ → Bool)
    → CanBegin st low high gone come old new un
    → AreOld st (after st (parts_event.BeginChange low high gone come old new un))
change_slots st low high gone come old new un can = record {
  leaves = λ k some. (
    changed_some gone come k (st.leaves k).role
        (λ i. (can.gone_leaf k i).0) (λ i. (can.come_leaf k i).0) some,
    refl,
  );
  inner_nodes = λ x some. (
    changed_some old new x (st.inner_nodes x).role
        (λ i. can.old_inner x i) (λ i. (can.new_inner x i).0) some,
    refl,
  );
}

installed_after : (r : Role) → installed r ≢ NoNode → (r ≢ NoNode) × IsAfter r
installed_after NoNode h = absurd (h refl)
installed_after Draft h = (λ e. cc, tt)
installed_after Free h = (λ e. cc, tt)
installed_after Leaving h = absurd (h refl)
installed_after Coming h = (λ e. cc, tt)

pub install_slots : (st : State) (un : ℕ → Bool)
    → AreOld st (after st (parts_event.Install un))
install_slots st un = record {
  leaves = λ k some. ((installed_after (st.leaves k).role some).0, refl);
  inner_nodes = λ x some. ((installed_after (st.inner_nodes x).role some).0, refl);
}

-- those that stay lie in no bucket that is given up
pub after_install : (st : State) (un : ℕ → Bool)
    → ((k : ℕ) → ((after st (parts_event.Install un)).leaves k).role ≢ NoNode
    → IsAfter (st.leaves k).role)
    × ((x : ℕ) → ((after st (parts_event.Install un)).inner_nodes x).role ≢ NoNode
    → IsAfter (st.inner_nodes x).role)
after_install st un = (
  λ k some. (installed_after (st.leaves k).role some).1,
  λ x some. (installed_after (st.inner_nodes x).role some).1,
)

-- a new draft
pub leaf_slots : (st : State) (j : ℕ) (leaf : Leaf) (set : NodeSet) (values : List Value)
    (node : ℕ → Bool) (shelf : ℕ → Shelf) → IsFor node shelf leaf.bucket
    → AreInBuckets st node shelf
    → AreInBuckets (after st (parts_event.NewLeaf j leaf set values)) node shelf
leaf_slots st j leaf set values node shelf here h = record {
  leaves = λ k. by_test k j (λ t. (if t then leaf else st.leaves k).role ≢ NoNode
      → IsFor node shelf (if t then leaf else st.leaves k).bucket) (λ _ _. here)
      (λ _ some. h.leaves k some);
  inner_nodes = h.inner_nodes;
}

pub inner_slots : (st : State) (j : ℕ) (inner : InnerNode) (set : NodeSet) (values : List Value)
    (node : ℕ → Bool) (shelf : ℕ → Shelf) → IsFor node shelf inner.bucket
    → AreInBuckets st node shelf
    → AreInBuckets (after st (parts_event.NewInner j inner set values)) node shelf
inner_slots st j inner set values node shelf here h = record {
  leaves = h.leaves;
  inner_nodes = λ x. by_test x j (λ t. (if t then inner else st.inner_nodes x).role ≢ NoNode
      → IsFor node shelf (if t then inner else st.inner_nodes x).bucket) (λ _ _. here)
      (λ _ some. h.inner_nodes x some);
}
