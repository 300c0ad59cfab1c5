-- The leaves and the inner nodes of the tree that a change makes, each in its slot.
use Rattle.std.proofs.Common.{◌≡◌, ◌≢◌, ◌⊎◌, inl, inr, ℕ, Bool, true, false, List, [], ◌∷◌, length, Option, Some, None, refl, sym, subst, ap, ◌∙◌, arith, if◌then◌else◌}
use Rattle.std.specs.Prelude.{option_to_list, slice_get}
use Rattle.bc_events.specs.declared.event.Change.{Change}
use Rattle.bc_facts.proofs.Stood.{in_contains}
use Rattle.bc_inner.specs.Inner.{Inner}
use Rattle.bc_key.specs.Words.{ptr_word}
use Rattle.bc_key.specs.declared.key.Key.{Key}
use Rattle.bc_key.specs.declared.ptr.Ptr.{Ptr}
use Rattle.bc_leaves.specs.After.{changed, has, inner_nodes_changed, leaves_changed}
use Rattle.bc_leaves.specs.Parts.{Role, NoNode, Draft, Free, Leaving, Coming, Stays}
use Rattle.bc_leaves.specs.Parts as parts
use Rattle.bc_leaves.proofs.Chains.{has_in}
use Rattle.bc_nodes_known.specs.bc_machine.Containers.{IsInTree, IsTreeInner, IsTreeLeaf, inner_slot}
use Rattle.bc_meta.specs.Facts.{In}
use Rattle.bc_meta.proofs.Lists.{by_test}
use Rattle.bc_node.specs.Leaf.{Leaf}
use Rattle.bc_shares.specs.Shares.{inner_share, shape_of}
use Rattle.bc_spine.specs.Exchange.{coming, going}
use Rattle.bc_spine.specs.Leaves.{AreLeaves, HaveTwoNumbers}
use Rattle.bc_spine.specs.declared.leaf.LeafRange.{LeafRange}
use Rattle.bc_spine.proofs.Lists.{AllPairs-right}
use Rattle.bc_spine.proofs.Rows.{leaves_replaced}
use Rattle.bc_tree.specs.LastKeys.{LeafKeys, keys_next, with_keys, with_second}
use Rattle.bc_tree.specs.Next.{below_next, leaves_next, root_next}
use Rattle.bc_tree.specs.Spine.{Spine}
use Rattle.bc_tree.specs.declared.plan.Plan.{Plan}
use Rattle.bc_whole.specs.State.{Opening}
use Rattle.bc_change.specs.Goes.{IsChangeBy, new_leaves, new_nodes, old_nodes, second_comes}
use Rattle.bc_change.specs.Ready.{IsReadyChange, IsReadyInner, IsReadyLeaf, IsUnchanged}
use Rattle.bc_change.proofs.Filled.{HasInner, HasLeaf}
use Rattle.bc_change.proofs.Lists.{get_in, has_not, in_map, map_in}
use Rattle.bc_change.proofs.Nexts.{Remains, next_is, old_in}
use Rattle.bc_change.proofs.Sites.{comes_apart, leaf_goes, leaf_next, slots_apart, two_apart}

-- ---- roles

-- what doesn't go stays, where it was of the tree or comes
pub stays : (gone come : List ℕ) (k : ℕ) (role : Role) → has gone k ≡ false
    → (role ≡ Free) ⊎ (has come k ≡ true) → Stays (changed gone come k role)
stays gone come k role out kind =
    subst (λ b. Stays (if b then Leaving else (if has come k then Coming else role))) (sym out)
    (go (has come k) kind)
  where
    go : (b : Bool) → (role ≡ Free) ⊎ (b ≡ true) → Stays (if b then Coming else role)
    go true h = tt
    go false (inl free) = subst Stays (sym free) tt
    go false (inr on) = absurd (cc)

draft_no_tree : (r : Role) → r ≡ Draft → IsInTree r → ⊥
draft_no_tree r is tree = subst IsInTree is tree

pub free_of : (r : Role) → IsUnchanged r → IsInTree r → r ≡ Free
free_of NoNode calm tree = absurd tree
free_of Draft calm tree = absurd tree
free_of Free calm tree = refl
free_of Leaving calm tree = absurd calm
free_of Coming calm tree = absurd calm

-- ---- leaves that come

-- a range that comes is a leaf's
pub new_leaf : (first : LeafRange) (low : Leaf) (r : Option LeafRange) (s : Option Leaf)
    → length (option_to_list r) ≡ length (option_to_list s) → (l : LeafRange)
    → In l (first ∷ option_to_list r)
    → (leaf : Leaf) × In (l, leaf) ((first, low) ∷ second_comes r s)
new_leaf first low r s both l (inl here) = (low, inl (ap (λ (x : LeafRange). (x, low)) here))
new_leaf first low None s both l (inr later) = absurd later
new_leaf first low (Some range) None both l (inr later) = absurd (omega (arith, both))
new_leaf first low (Some range) (Some leaf) both l (inr (inl here)) =
    (leaf, inr (inl (ap (λ (x : LeafRange). (x, leaf)) here)))
new_leaf first low (Some range) (Some leaf) both l (inr (inr later)) = absurd later

pair_left : {A B : Type 0} (a c : A) (b d : B) → ◌≡◌ {A = A × B} (a, b) (c, d) → a ≡ c
pair_left {A} {B} a c b d e = ap (λ (p : A × B). p.0) e

pair_right : {A B : Type 0} (a c : A) (b d : B) → ◌≡◌ {A = A × B} (a, b) (c, d) → b ≡ d
pair_right {A} {B} a c b d e = ap (λ (p : A × B). p.1) e

pub new_range : (first : LeafRange) (low : Leaf) (r : Option LeafRange) (s : Option Leaf)
    (l : LeafRange) (leaf : Leaf) → In (l, leaf) ((first, low) ∷ second_comes r s)
    → In l (first ∷ option_to_list r)
new_range first low r s l leaf (inl here) = inl (pair_left l first leaf low here)
new_range first low None s l leaf (inr later) = absurd later
new_range first low (Some range) None l leaf (inr later) = absurd later
new_range first low (Some range) (Some high) l leaf (inr (inl here)) =
    inr (inl (pair_left l range leaf high here))
new_range first low (Some range) (Some high) l leaf (inr (inr later)) = absurd later

module _ (w : Opening) (st : parts.State) (sp : Spine) (plan : Plan) (keys : LeafKeys) (c : Change)
    (ready : IsReadyChange w st sp plan keys) (is : IsChangeBy w sp plan c) where
  abbrev come : List LeafRange
  come = coming plan.leaves

  abbrev goes : List LeafRange
  goes = going sp.leaves plan.leaves

  abbrev leaves : ℕ → parts.Leaf
  leaves = leaves_changed st c.gone.items c.come.items

  abbrev inner_nodes : ℕ → parts.InnerNode
  inner_nodes = inner_nodes_changed st c.old.items c.new.items

  -- ---- which leaves stay

  pub goes_in : (l : LeafRange) → In l goes → In l sp.leaves
  goes_in l m = leaf_goes sp plan l m

  come_apart : (x y : LeafRange) → In x sp.leaves → In y come → x.number ≢ y.number
  come_apart x y m n = comes_apart sp plan ready.tree ready.fits x y m n

  -- its number isn't one of those that go
  kept : (l : LeafRange) → ((g : LeafRange) → In g goes → l.number ≢ g.number)
      → has c.gone.items l.number ≡ false
  kept l other = has_not c.gone.items l.number (λ m.
      let one = in_map (λ (x : LeafRange). x.number) goes l.number
      (subst (λ (ks : List ℕ). In l.number ks) is.gone m) in other one.0 one.1 (sym one.2))

  pub comes : (l : LeafRange) → In l come → has c.come.items l.number ≡ true
  comes l m = has_in c.come.items l.number (subst (λ (ks : List ℕ). In l.number ks) (sym is.come)
      (map_in (λ (x : LeafRange). x.number) come l m))

  pub tree_leaf : (l : LeafRange) → In l sp.leaves
      → IsTreeLeaf w l.from l.end l.ptr (shape_of (st.leaves l.number))
  tree_leaf l m = ready.stands.leaves l (in_contains sp.leaves l m)

  pub leaf_free : (l : LeafRange) → In l sp.leaves → (st.leaves l.number).role ≡ Free
  leaf_free l m = free_of (st.leaves l.number).role (ready.ready.calm.leaves l.number) (tree_leaf l m).role

  pub leaf_ready : (l : LeafRange) → In l come
      → (leaf : Leaf) × In (l, leaf) (new_leaves plan) × IsReadyLeaf w st l leaf
  leaf_ready l m = let one = new_leaf plan.leaves.first plan.first plan.leaves.second plan.second
      ready.both l m in
      (one.0, one.1, ready.ready.come l one.0 (in_contains (new_leaves plan) (l, one.0) one.1))

  old_place : (l : LeafRange) → In l sp.leaves → ((g : LeafRange) → In g goes → l.number ≢ g.number)
      → HasLeaf w leaves inner_nodes l
  old_place l m other = let one = tree_leaf l m in record {
    slot = l.number;
    stays = stays c.gone.items c.come.items l.number (st.leaves l.number).role (kept l other)
        (inl (leaf_free l m));
    bucket = one.bucket;
    first = one.first;
    end = one.end_is;
    word = one.word;
  }

  new_place : (l : LeafRange) → In l come → HasLeaf w leaves inner_nodes l
  new_place l m = let one = leaf_ready l m in
      let range = one.2.range_is in
      let new = one.2.new in record {
        slot = l.number;
        stays = stays c.gone.items c.come.items l.number (st.leaves l.number).role
            (kept l (λ g at same. come_apart g l (goes_in g at) m (sym same))) (inr (comes l m));
        bucket = new.bucket ∙ ap (λ (p : Ptr). w.flow.books.bucket p.offset) (sym range.ptr);
        first = new.first ∙ sym range.from;
        end = new.end ∙ sym range.end;
        word = new.word ∙ ap ptr_word (sym range.ptr);
      }

  -- each leaf of the tree that is made has its place
  pub leaf_place : (l : LeafRange) → In l (leaves_next sp.leaves plan.leaves)
      → HasLeaf w leaves inner_nodes l
  leaf_place l m = elim (leaf_next sp plan ready.tree ready.fits l m) [
    | inl new ↦ new_place l new
    | inr old ↦ old_place l old.0 old.1
  ]

  pub leaves_row : AreLeaves (leaves_next sp.leaves plan.leaves) sp.root.end
  leaves_row = leaves_replaced sp.leaves come (leaves_next sp.leaves plan.leaves) plan.leaves.place
      plan.leaves.gone sp.root.end ready.tree.leaves ready.fits.leaves_fit.fits refl

  -- ---- keys of what comes

  own_keys : (f : LeafKeys) (n : ℕ) (own : List Key) → with_keys f n own n ≡ own
  own_keys f n own = by_test n n (λ b. (if b then own else f n) ≡ own) (λ _. refl)
      (λ other. absurd (other refl))

  other_keys : (f : LeafKeys) (m n : ℕ) (own : List Key) → n ≢ m → with_keys f m own n ≡ f n
  other_keys f m n own other = by_test n m (λ b. (if b then own else f n) ≡ f n)
      (λ same. absurd (other same)) (λ _. refl)

  pub new_keys : (l : LeafRange) (leaf : Leaf) → In (l, leaf) (new_leaves plan)
      → keys_next keys plan l.number ≡ leaf.keys
  new_keys l leaf (inl here) =
      ap (λ (x : LeafRange). keys_next keys plan x.number)
      (pair_left l plan.leaves.first leaf plan.first here)
      ∙ own_keys (with_second keys plan.leaves.second plan.second) plan.leaves.first.number
      plan.first.keys
      ∙ sym (ap (λ (x : Leaf). x.keys) (pair_right l plan.leaves.first leaf plan.first here))
  new_keys l leaf (inr later) = second plan.leaves.second plan.second refl refl later
    where
      second : (r : Option LeafRange) (s : Option Leaf) → plan.leaves.second ≡ r → plan.second ≡ s
          → In (l, leaf) (second_comes r s) → keys_next keys plan l.number ≡ leaf.keys
      second None s r_is s_is m = absurd m
      second (Some range) None r_is s_is m = absurd m
      second (Some range) (Some high) r_is s_is (inl here) =
          let at = pair_left l range leaf high here in
          other_keys (with_second keys plan.leaves.second plan.second) plan.leaves.first.number
          l.number plan.first.keys (λ same. pairs r_is (sym same ∙ ap (λ (x : LeafRange). x.number) at))
          ∙ ap (λ (o : Option LeafRange). with_second keys o plan.second l.number) r_is
          ∙ ap (λ (o : Option Leaf). with_second keys (Some range) o l.number) s_is
          ∙ ap (with_keys keys range.number high.keys) (ap (λ (x : LeafRange). x.number) at)
          ∙ own_keys keys range.number high.keys
          ∙ sym (ap (λ (x : Leaf). x.keys) (pair_right l range leaf high here))
        where
          -- the two have numbers of their own
          pairs : plan.leaves.second ≡ Some range
              → plan.leaves.first.number ≡ range.number → ⊥
          pairs there same = two_apart (plan.leaves.first ∷ []) (option_to_list plan.leaves.second)
              plan.leaves.first range
              (AllPairs-right HaveTwoNumbers sp.leaves come ready.fits.leaves_fit.fits.numbers)
              (inl refl)
              (subst (λ (o : Option LeafRange). In range (option_to_list o)) (sym there) (inl refl))
              same
      second (Some range) (Some high) r_is s_is (inr more) = absurd more

  -- ---- inner nodes

  abbrev nodes : List Inner
  nodes = sp.root ∷ sp.below

  pub tree_inner : (n : Inner) → In n nodes
      → IsTreeInner w st.change (inner_slot w n) n (inner_share st (inner_slot w n))
  tree_inner n m = ready.stands.nodes n (in_contains nodes n m)

  pub inner_ready : (n : Inner) → In n (new_nodes plan) → IsReadyInner w st n
  inner_ready n m = ready.ready.new n (in_contains (new_nodes plan) n m)

  -- two nodes at two places have two slots
  pub two_slots : (i j : ℕ) (a b : Inner) → slice_get nodes i ≡ Some a → slice_get nodes j ≡ Some b
      → i ≢ j → inner_slot w a ≡ inner_slot w b → ⊥
  two_slots i j a b at there other same =
      slots_apart w st sp ready.tree ready.stands i j a b at there other same

  -- the slot isn't one of those that go
  pub stays_there : (n : Inner) → ((o : Inner) → In o (old_nodes sp plan) → inner_slot w o ≢ inner_slot w n)
      → has c.old.items (inner_slot w n) ≡ false
  stays_there n other = has_not c.old.items (inner_slot w n) (λ m.
      let one = in_map (inner_slot w) (old_nodes sp plan) (inner_slot w n)
      (subst (λ (ks : List ℕ). In (inner_slot w n) ks) is.old m) in other one.0 one.1 one.2)

  pub new_comes : (n : Inner) → In n (new_nodes plan) → has c.new.items (inner_slot w n) ≡ true
  new_comes n m = has_in c.new.items (inner_slot w n)
      (subst (λ (ks : List ℕ). In (inner_slot w n) ks) (sym is.new)
      (map_in (inner_slot w) (new_nodes plan) n m))

  pub old_there : (o : Inner) → In o (old_nodes sp plan) → In o nodes
  old_there o m = old_in sp.root sp.below plan.place plan.bottom plan.top plan.beside o m

  -- a new one is in the slot of none that goes
  pub new_stays : (n : Inner) → In n (new_nodes plan) → Stays (inner_nodes (inner_slot w n)).role
  new_stays n m = let new = (inner_ready n m).new in
      stays c.old.items c.new.items (inner_slot w n) (st.inner_nodes (inner_slot w n)).role
      (stays_there n (λ o at same. draft_no_tree (st.inner_nodes (inner_slot w n)).role new.role_is
      (subst (λ k. IsInTree (st.inner_nodes k).role) same (tree_inner o (old_there o at)).role)))
      (inr (new_comes n m))

  new_inner : (n : Inner) → In n (new_nodes plan) → HasInner w leaves inner_nodes n
  new_inner n m = let new = (inner_ready n m).new in record {
    slot = inner_slot w n;
    stays = new_stays n m;
    level = new.level;
    bucket = new.bucket;
    first = new.first;
    end = new.end;
    word = new.word;
  }

  old_inner : (n : Inner) → Remains nodes (old_nodes sp plan) n → HasInner w leaves inner_nodes n
  old_inner n h =
      let m = get_in nodes h.at h.before h.there in
      let one = tree_inner h.before m in
      let slot = inner_slot w h.before in record {
        slot = slot;
        stays = stays c.old.items c.new.items slot (st.inner_nodes slot).role
            (stays_there h.before (λ o at same. let other = h.apart o at in
            two_slots other.0 h.at o h.before other.1 h.there other.2 same))
            (inl (free_of (st.inner_nodes slot).role (ready.ready.calm.inner_nodes slot) one.role));
        level = one.level ∙ sym h.site.level;
        bucket = one.bucket ∙ ap (λ (p : Ptr). w.flow.books.bucket p.offset) (sym h.site.ptr);
        first = one.first ∙ sym h.site.from;
        end = one.end ∙ sym h.site.end;
        word = one.word ∙ ap ptr_word (sym h.site.ptr);
      }

  -- each inner node of the tree that is made has its place
  pub next_place : (n : Inner) → In n (root_next sp.root sp.below plan.bottom plan.top
      ∷ below_next sp.below plan.place plan.bottom plan.beside) → HasInner w leaves inner_nodes n
  next_place n m = elim (next_is sp.root sp.below plan.place sp.room plan.bottom plan.top plan.beside
      ready.fits.alone ready.fits.stands n m) [
        | inl new ↦ new_inner n new
        | inr old ↦ old_inner n old
      ]
