-- The parts fit after each event of nodes: a barrier, a leaf's further set, new nodes, an inner node's further set.
use Rattle.std.proofs.Common.{◌≡◌, ◌≢◌, ◌⊎◌, inl, inr, ℕ, suc, ◌≤◌, Bool, true, false, List, [], ◌∷◌, None, refl, sym, ap, ◌∙◌, subst, arith, if◌then◌else◌, ◌==◌}
use Rattle.bc_model.specs.Sector.{Value}
use Rattle.bc_meta.specs.Facts.{In}
use Rattle.bc_meta.specs.Records.{Node, after_barrier, failed_node, loose_node, new_node, put, sent_node, stable_node}
use Rattle.bc_meta.specs.Tree.{NodeSet, children_of}
use Rattle.bc_meta.proofs.Lists.{by_test, decide}
use Rattle.bc_leaves.specs.Parts.{AllFrom, AllUpTo, Begun, BySet, Coming, Draft, Free, InRange, InnerNode, IsLive, Leaf, Leaving, Lost, NoChange, NoNode, Pending, Role, State, Stays, inner_owner, keys_of, leaf_owner, ready_number}
use Rattle.bc_leaves.specs.Events.{Barrier, FailParent, FailSet, NewInner, NewLeaf, Reuse, SetParent, WriteSet}
use Rattle.bc_leaves.specs.Fits.{DraftFits, Fits, InnerFits, LeafKeys, LeafNode, LostFits, Partners, journal_of}
use Rattle.bc_leaves.specs.Rows.{Fills}
use Rattle.bc_leaves.specs.Enabled.{IsEnabled, IsVacant}
use Rattle.bc_leaves.specs.After.{after}
use Rattle.bc_leaves.specs.Keys.{last_said}
use Rattle.bc_leaves.proofs.Contents.{by_bool, fill_roles, free_live, last_false, live_some, stable_firm, stable_in, stable_keys, stable_some, stays_live}
use Rattle.bc_leaves.proofs.Keep.{differ, inner_kept, none_barrier, order_stage, ready_least, roots_kept, some_barrier}
use Rattle.bc_leaves.proofs.Leaves.{keys_stage, keys_write}
use Rattle.bc_leaves.proofs.Pend.{none_of, top_barrier, upto_head}
use Rattle.bc_leaves.proofs.Chains.{put_else, put_there}

pub same_test : (i : ℕ) → (i == i) ≡ true
same_test i = by_test i i (λ t. t ≡ true) (λ _. refl) (λ ne. absurd (ne refl))

pub other_test : (i k : ℕ) → i ≢ k → (i == k) ≡ false
other_test i k ne = by_test i k (λ t. t ≡ false) (λ e. absurd (ne e)) (λ _. refl)

-- a node that is put where one with the same owner is
put_owner_same : (nodes : ℕ → Node) (q : ℕ) (x : Node) (p : ℕ) → x.owner ≡ (nodes q).owner → (put nodes q x p).owner ≡ (nodes p).owner
put_owner_same nodes q x p same = by_test p q (λ t. (if t then x else nodes p).owner ≡ (nodes p).owner) (λ e. same ∙ ap (λ (n : ℕ). (nodes n).owner) (sym e)) (λ _. refl)

no_true : false ≡ true → ⊥
no_true e = cc

true_no : true ≡ false → ⊥
true_no e = cc

pub draft_free : (r : Role) → r ≡ Free → r ≡ Draft → ⊥
draft_free r a b = no (sym a ∙ b)
  where
    no : Free ≡ Draft → ⊥
    no e = cc

pub draft_some : (r : Role) → r ≡ Draft → r ≢ NoNode
draft_some r a b = no (sym a ∙ b)
  where
    no : Draft ≡ NoNode → ⊥
    no e = cc

pub draft_dead : (r : Role) → r ≡ Draft → IsLive r → ⊥
draft_dead r e l = subst (λ (x : Role). IsLive x) e l

pub live_stays : (r : Role) → IsLive r → (r ≡ Leaving → ⊥) → Stays r
live_stays NoNode l n = l
live_stays Draft l n = l
live_stays Free l n = tt
live_stays Leaving l n = n refl
live_stays Coming l n = tt

module _ (st : State) (fits : Fits st) where
  pub keep_barrier : Fits (after st Barrier)
  keep_barrier = record {
    leaves = record {
      node = λ i l. let n = st.records.nodes (st.leaves i).bucket in let k = fits.leaves.node i l in record {
        last = λ s. refl;
        sets_inside = λ s out. stable_in n s (k.sets_inside s out) (k.last s ∙ k.sent_inside s out);
        sent_inside = λ s out. refl;
        pending_inside = k.pending_inside;
      };
      firm = λ i l. let n = st.records.nodes (st.leaves i).bucket in let k = fits.leaves.firm i l in (stable_firm n k.0, stable_some n k.1);
      keys = λ i l. let n = st.records.nodes (st.leaves i).bucket in
          keys_stage (journal_of st.records) n.sets (stable_node n).sets (st.sent (st.leaves i).bucket) [] (st.leaves i) (after_barrier st.records.stage) (top_barrier st.records.stage st.records.newest.number) (some_barrier st.records.stage)
          (λ s. stable_keys n (st.sent (st.leaves i).bucket) s ((fits.leaves.node i l).last s)) (λ y m. absurd m) (λ r y m. absurd m) (fits.leaves.keys i l);
      used = fits.leaves.used;
      below = fits.leaves.below;
      fresh = λ i l e. absurd (no_true e);
      lost = λ i l e. let n = st.records.nodes (st.leaves i).bucket in by_bool n.sent (λ t. (if t then false else n.failed) ≡ true → LostFits st.records.newest.number n.last.keys (st.leaves i)) (λ _ x. absurd (no_true x)) (λ _ x. fits.leaves.lost i l x) e;
      apart = fits.leaves.apart;
      drafts = λ i d. let n = st.records.nodes (st.leaves i).bucket in let k = fits.leaves.drafts i d in record {
        sets_inside = λ s out. stable_in n s (k.sets_inside s out) (k.last_inside s out);
        last_inside = λ s out. refl;
        none = k.none;
        not_sent = refl;
      };
    };
    tree = record {
      inner = λ x l. let n = st.records.nodes (st.inner_nodes x).bucket in let f = fits.tree.inner x l in record {
        firm = stable_firm n f.firm;
        some = stable_some n f.some;
        now = by_bool n.sent (λ t. Fills st.leaves st.inner_nodes IsLive (st.inner_nodes x) (children_of (if t then n.last ∷ n.sets else n.sets))) (λ e. fill_roles st.leaves st.inner_nodes Stays IsLive (st.inner_nodes x) (children_of (n.last ∷ n.sets)) stays_live (f.next e).1) (λ _. f.now);
        still = λ c s _. by_bool n.sent (λ t. Fills st.leaves st.inner_nodes Stays (st.inner_nodes x) (children_of (if t then n.last ∷ n.sets else n.sets))) (λ e. (f.next e).1) (λ e. f.still c s e);
        next = λ e. absurd (no_true e);
        lost = λ e. by_bool n.sent (λ t. (if t then false else n.failed) ≡ true → (st.change ≡ Lost) × Fills st.leaves st.inner_nodes IsLive (st.inner_nodes x) (children_of (n.last ∷ (if t then n.last ∷ n.sets else n.sets)))) (λ _ x. absurd (no_true x)) (λ _ x. f.lost x) e;
      };
      inner_used = fits.tree.inner_used;
    };
    roots = (let h = fits.roots in record {
      newest = h.newest;
      entry = λ ne. h.entry (some_barrier st.records.stage ne);
      newest_stays = h.newest_stays;
      entry_stays = λ c ne. h.entry_stays c (some_barrier st.records.stage ne);
      order = order_stage st.change st.records.stage (after_barrier st.records.stage) st.records.newest.number (none_barrier st.records.stage) h.order;
      waiting = h.waiting;
      sealed = λ ne. h.sealed (some_barrier st.records.stage ne);
      index = h.index;
    });
    buckets = record {
      one_leaf = fits.buckets.one_leaf;
      one_inner = fits.buckets.one_inner;
      one_kind = fits.buckets.one_kind;
      named = fits.buckets.named;
      inner_named = fits.buckets.inner_named;
    };
    quiet = record {
      calm = fits.quiet.calm;
      calm_inner = fits.quiet.calm_inner;
    };
  }

  -- a further set of leaf i
  module _ (i : ℕ) (set : NodeSet) (values : List Value) (on : IsEnabled st (WriteSet i set values)) where
    abbrev pub leaf_sent : Node
    leaf_sent = sent_node set (st.records.nodes (st.leaves i).bucket)

    live_i : IsLive (st.leaves i).role
    live_i = free_live (st.leaves i).role on.0

    -- of the leaf itself, and of each other slot
    set_cases : (P : Node → List Pending → Leaf → Type 0)
        → P leaf_sent (st.leaves i).pending (record (st.leaves i) { pending = [] })
        → (k : ℕ) → (st.leaves k).role ≢ NoNode → P (st.records.nodes (st.leaves k).bucket) (st.sent (st.leaves k).bucket) (st.leaves k)
        → P ((after st (WriteSet i set values)).records.nodes (st.leaves k).bucket) ((after st (WriteSet i set values)).sent (st.leaves k).bucket) ((after st (WriteSet i set values)).leaves k)
    set_cases P here k some else_ = at_slot (decide k i)
      where
        at_slot : (k ≡ i) ⊎ (k ≢ i) → P ((after st (WriteSet i set values)).records.nodes (st.leaves k).bucket) ((after st (WriteSet i set values)).sent (st.leaves k).bucket) ((after st (WriteSet i set values)).leaves k)
        at_slot (inl e) =
            subst (λ (n : ℕ). P ((after st (WriteSet i set values)).records.nodes (st.leaves n).bucket) ((after st (WriteSet i set values)).sent (st.leaves n).bucket) ((after st (WriteSet i set values)).leaves n)) (sym e)
            (subst (λ (t : Bool). P (if t then leaf_sent else st.records.nodes (st.leaves i).bucket) (if t then (st.leaves i).pending else st.sent (st.leaves i).bucket) (record (st.leaves i) { pending = if i == i then [] else (st.leaves i).pending })) (sym (same_test (st.leaves i).bucket))
            (subst (λ (t : Bool). P leaf_sent (st.leaves i).pending (record (st.leaves i) { pending = if t then [] else (st.leaves i).pending })) (sym (same_test i)) here))
        at_slot (inr ne) =
            let far : (st.leaves k).bucket ≢ (st.leaves i).bucket = λ e. ne (fits.buckets.one_leaf k i some (live_some (st.leaves i).role live_i) e) in
            subst (λ (t : Bool). P (if t then leaf_sent else st.records.nodes (st.leaves k).bucket) (if t then (st.leaves i).pending else st.sent (st.leaves k).bucket) (record (st.leaves k) { pending = if k == i then [] else (st.leaves k).pending })) (sym (other_test (st.leaves k).bucket (st.leaves i).bucket far))
            (subst (λ (t : Bool). P (st.records.nodes (st.leaves k).bucket) (st.sent (st.leaves k).bucket) (record (st.leaves k) { pending = if t then [] else (st.leaves k).pending })) (sym (other_test k i ne)) else_)

    -- its keys are durable, so that a barrier was made since the set before
    pub was_still : (st.records.nodes (st.leaves i).bucket).sent ≡ false
    was_still = by_bool_is (st.records.nodes (st.leaves i).bucket).sent (λ e. absurd (none_left (st.leaves i).pending on.2 on.3 (fits.leaves.fresh i live_i e)))
      where
        by_bool_is : (t : Bool) → (t ≡ true → t ≡ false) → t ≡ false
        by_bool_is true f = f refl
        by_bool_is false f = refl

        none_left : (p : List Pending) → p ≢ [] → AllUpTo st.records.newest.number p → AllFrom (suc (ready_number st.records.stage st.records.newest.number)) p → ⊥
        none_left [] ne a b = ne refl
        none_left (x ∷ xs) ne a b = let up = a x (inl refl) in let down = b x (inl refl) in let m = ready_least st.records.stage st.records.newest.number in absurd (omega arith)

    none_sent : (s : ℕ) → last_said (keys_of (st.sent (st.leaves i).bucket)) s ≡ None
    none_sent s = sym ((fits.leaves.node i live_i).last s) ∙ last_false (st.records.nodes (st.leaves i).bucket) was_still s

    pub keep_set : Fits (after st (WriteSet i set values))
    keep_set = record {
      leaves = record {
        node = λ k l. set_cases (λ n ss x. LeafNode n ss x)
            (let h = fits.leaves.node i live_i in record { last = on.4; sets_inside = h.sets_inside; sent_inside = h.pending_inside; pending_inside = λ s out. refl })
            k (live_some (st.leaves k).role l) (fits.leaves.node k l);
        firm = λ k l. set_cases (λ n ss x. (n.loose ≡ false) × (n.sets ≢ [])) (refl, (fits.leaves.firm i live_i).1) k (live_some (st.leaves k).role l) (fits.leaves.firm k l);
        keys = λ k l. set_cases (λ n ss x. LeafKeys (journal_of st.records) n.sets ss x) (keys_write (journal_of st.records) (st.records.nodes (st.leaves i).bucket).sets (st.sent (st.leaves i).bucket) (st.leaves i) on.3 none_sent (fits.leaves.keys i live_i)) k (live_some (st.leaves k).role l) (fits.leaves.keys k l);
        used = fits.leaves.used;
        below = fits.leaves.below;
        fresh = λ k l. set_cases (λ n ss x. n.sent ≡ true → AllFrom (suc (ready_number st.records.stage st.records.newest.number)) x.pending) (λ e x m. absurd m) k (live_some (st.leaves k).role l) (fits.leaves.fresh k l);
        lost = λ k l. set_cases (λ n ss x. n.failed ≡ true → LostFits st.records.newest.number n.last.keys x) (λ e. absurd (no_true e)) k (live_some (st.leaves k).role l) (fits.leaves.lost k l);
        apart = fits.leaves.apart;
        drafts = λ k d. set_cases (λ n ss x. x.role ≡ Draft → DraftFits n ss x) (λ e. absurd (draft_free (st.leaves i).role on.0 e)) k (draft_some (st.leaves k).role d) (λ _. fits.leaves.drafts k d) d;
      };
      tree = record {
        inner = λ x l.
            subst (λ (n : Node). InnerFits (after st (WriteSet i set values)).leaves st.inner_nodes st.change n x (st.inner_nodes x))
            (sym (put_else st.records.nodes (st.leaves i).bucket leaf_sent (st.inner_nodes x).bucket (λ e. fits.buckets.one_kind i x (live_some (st.leaves i).role live_i) (live_some (st.inner_nodes x).role l) (sym e))))
            (inner_kept st.leaves (after st (WriteSet i set values)).leaves st.inner_nodes st.inner_nodes (λ i l. (refl, refl, refl, refl, refl)) (λ x l. (refl, refl, refl, refl, refl, refl)) st.change _ x (st.inner_nodes x) (st.inner_nodes x).role (λ s. s) (fits.tree.inner x l));
        inner_used = fits.tree.inner_used;
      };
      roots = fits.roots;
      buckets = record {
        one_leaf = fits.buckets.one_leaf;
        one_inner = fits.buckets.one_inner;
        one_kind = fits.buckets.one_kind;
        named = λ k a. set_cases (λ n ss x. n.owner ≡ leaf_owner x) (fits.buckets.named i (live_some (st.leaves i).role live_i)) k a (fits.buckets.named k a);
        inner_named = λ x a. ap (λ (n : Node). n.owner) (put_else st.records.nodes (st.leaves i).bucket leaf_sent (st.inner_nodes x).bucket (λ e. fits.buckets.one_kind i x (live_some (st.leaves i).role live_i) a (sym e))) ∙ fits.buckets.inner_named x a;
      };
      quiet = record {
        calm = fits.quiet.calm;
        calm_inner = fits.quiet.calm_inner;
      };
    }

  -- a new node that is to be a leaf, at an unused bucket
  module _ (j : ℕ) (leaf : Leaf) (set : NodeSet) (values : List Value) (on : IsEnabled st (NewLeaf j leaf set values)) where
    abbrev pub leaf_begun : Node
    leaf_begun = new_node (leaf_owner leaf) set

    -- of the new slot, and of each other one
    new_cases : (P : ℕ → Node → List Pending → Leaf → Type 0)
        → P j leaf_begun [] leaf
        → ((k : ℕ) → (st.leaves k).role ≢ NoNode → P k (st.records.nodes (st.leaves k).bucket) (st.sent (st.leaves k).bucket) (st.leaves k))
        → (k : ℕ) → (put st.leaves j leaf k).role ≢ NoNode
        → P k ((after st (NewLeaf j leaf set values)).records.nodes (put st.leaves j leaf k).bucket) ((after st (NewLeaf j leaf set values)).sent (put st.leaves j leaf k).bucket) (put st.leaves j leaf k)
    new_cases P here else_ k = at_slot (decide k j)
      where
        at_slot : (k ≡ j) ⊎ (k ≢ j) → (put st.leaves j leaf k).role ≢ NoNode → P k (put st.records.nodes leaf.bucket leaf_begun (put st.leaves j leaf k).bucket) (put st.sent leaf.bucket [] (put st.leaves j leaf k).bucket) (put st.leaves j leaf k)
        at_slot (inl e) some =
            subst (λ (n : ℕ). P n (put st.records.nodes leaf.bucket leaf_begun (put st.leaves j leaf n).bucket) (put st.sent leaf.bucket [] (put st.leaves j leaf n).bucket) (put st.leaves j leaf n)) (sym e)
            (subst (λ (x : Leaf). P j (put st.records.nodes leaf.bucket leaf_begun x.bucket) (put st.sent leaf.bucket [] x.bucket) x) (sym (put_there st.leaves j leaf))
            (subst (λ (t : Bool). P j (if t then leaf_begun else st.records.nodes leaf.bucket) (if t then [] else st.sent leaf.bucket) leaf) (sym (same_test leaf.bucket)) here))
        at_slot (inr ne) some =
            let same : put st.leaves j leaf k ≡ st.leaves k = put_else st.leaves j leaf k ne in
            let alive : (st.leaves k).role ≢ NoNode = subst (λ (x : Leaf). x.role ≢ NoNode) same some in
            subst (λ (x : Leaf). P k (put st.records.nodes leaf.bucket leaf_begun x.bucket) (put st.sent leaf.bucket [] x.bucket) x) (sym same)
            (subst (λ (t : Bool). P k (if t then leaf_begun else st.records.nodes (st.leaves k).bucket) (if t then [] else st.sent (st.leaves k).bucket) (st.leaves k)) (sym (other_test (st.leaves k).bucket leaf.bucket (on.1.1 k alive))) (else_ k alive))

    live_else : (k : ℕ) → IsLive (put st.leaves j leaf k).role → put st.leaves j leaf k ≡ st.leaves k
    live_else k l = elim (decide k j) [
      | inl e ↦ absurd (draft_dead leaf.role on.2 (subst (λ (x : Leaf). IsLive x.role) (put_there st.leaves j leaf) (subst (λ (n : ℕ). IsLive (put st.leaves j leaf n).role) e l)))
      | inr ne ↦ put_else st.leaves j leaf k ne
    ]

    was_live : (k : ℕ) → IsLive (put st.leaves j leaf k).role → IsLive (st.leaves k).role
    was_live k l = subst (λ (x : Leaf). IsLive x.role) (live_else k l) l

    -- a leaf of the tree has another slot
    stays_same : (k : ℕ) → IsLive (st.leaves k).role → put st.leaves j leaf k ≡ st.leaves k
    stays_same k l = put_else st.leaves j leaf k (λ e. live_some (st.leaves k).role l (ap (λ (n : ℕ). (st.leaves n).role) e ∙ on.0))

    pub keep_leaf : Fits (after st (NewLeaf j leaf set values))
    keep_leaf = record {
      leaves = record {
        node = λ k l. new_cases (λ k n ss x. IsLive x.role → LeafNode n ss x) (λ l. absurd (draft_dead leaf.role on.2 l)) (λ k _ l. fits.leaves.node k l) k (live_some (put st.leaves j leaf k).role l) l;
        firm = λ k l. new_cases (λ k n ss x. IsLive x.role → (n.loose ≡ false) × (n.sets ≢ [])) (λ l. absurd (draft_dead leaf.role on.2 l)) (λ k _ l. fits.leaves.firm k l) k (live_some (put st.leaves j leaf k).role l) l;
        keys = λ k l. new_cases (λ k n ss x. IsLive x.role → LeafKeys (journal_of st.records) n.sets ss x) (λ l. absurd (draft_dead leaf.role on.2 l)) (λ k _ l. fits.leaves.keys k l) k (live_some (put st.leaves j leaf k).role l) l;
        used = λ k l. subst (λ (x : Leaf). st.records.unused x.bucket ≡ false) (sym (live_else k l)) (fits.leaves.used k (was_live k l));
        below = λ k l. subst (λ (x : Leaf). x.end ≤ st.end) (sym (live_else k l)) (fits.leaves.below k (was_live k l));
        fresh = λ k l. new_cases (λ k n ss x. IsLive x.role → n.sent ≡ true → AllFrom (suc (ready_number st.records.stage st.records.newest.number)) x.pending) (λ l. absurd (draft_dead leaf.role on.2 l)) (λ k _ l. fits.leaves.fresh k l) k (live_some (put st.leaves j leaf k).role l) l;
        lost = λ k l. new_cases (λ k n ss x. IsLive x.role → n.failed ≡ true → LostFits st.records.newest.number n.last.keys x) (λ l. absurd (draft_dead leaf.role on.2 l)) (λ k _ l. fits.leaves.lost k l) k (live_some (put st.leaves j leaf k).role l) l;
        apart = λ i k s li lk.
            subst (λ (x : Leaf). InRange x s → InRange (put st.leaves j leaf k) s → (i ≡ k) ⊎ Partners x.role (put st.leaves j leaf k).role) (sym (live_else i li))
            (subst (λ (x : Leaf). InRange (st.leaves i) s → InRange x s → (i ≡ k) ⊎ Partners (st.leaves i).role x.role) (sym (live_else k lk)) (fits.leaves.apart i k s (was_live i li) (was_live k lk)));
        drafts = λ k d. new_cases (λ k n ss x. x.role ≡ Draft → DraftFits n ss x)
            (λ _. record { sets_inside = λ s out. refl; last_inside = on.4; none = on.3; not_sent = refl })
            (λ k _ e. fits.leaves.drafts k e) k (draft_some (put st.leaves j leaf k).role d) d;
      };
      tree = record {
        inner = λ x l.
            subst (λ (n : Node). InnerFits (put st.leaves j leaf) st.inner_nodes st.change n x (st.inner_nodes x)) (sym (put_else st.records.nodes leaf.bucket leaf_begun (st.inner_nodes x).bucket (on.1.2 x (live_some (st.inner_nodes x).role l))))
            (inner_kept st.leaves (put st.leaves j leaf) st.inner_nodes st.inner_nodes
            (λ i l. let e = stays_same i l in (ap (λ (y : Leaf). y.role) e, ap (λ (y : Leaf). y.bucket) e, ap (λ (y : Leaf). y.first) e, ap (λ (y : Leaf). y.end) e, ap (λ (y : Leaf). y.word) e))
            (λ x l. (refl, refl, refl, refl, refl, refl)) st.change _ x (st.inner_nodes x) (st.inner_nodes x).role (λ s. s) (fits.tree.inner x l));
        inner_used = fits.tree.inner_used;
      };
      roots = fits.roots;
      buckets = record {
        one_leaf = λ i k ri rk. new_cases (λ i n ss x. (put st.leaves j leaf k).role ≢ NoNode → x.bucket ≡ (put st.leaves j leaf k).bucket → i ≡ k)
            (λ rk. new_cases (λ k n ss x. leaf.bucket ≡ x.bucket → j ≡ k) (λ _. refl) (λ k alive e. absurd (on.1.1 k alive (sym e))) k rk)
            (λ i ai rk. new_cases (λ k n ss x. (st.leaves i).bucket ≡ x.bucket → i ≡ k) (λ e. absurd (on.1.1 i ai e)) (λ k ak e. fits.buckets.one_leaf i k ai ak e) k rk) i ri rk;
        one_inner = fits.buckets.one_inner;
        one_kind = λ i x ri rx. new_cases (λ i n ss y. y.bucket ≢ (st.inner_nodes x).bucket) (λ e. on.1.2 x rx (sym e)) (λ i ai e. fits.buckets.one_kind i x ai rx e) i ri;
        named = λ k a. new_cases (λ k n ss x. n.owner ≡ leaf_owner x) refl (λ k a. fits.buckets.named k a) k a;
        inner_named = λ x a. ap (λ (n : Node). n.owner) (put_else st.records.nodes leaf.bucket leaf_begun (st.inner_nodes x).bucket (on.1.2 x a)) ∙ fits.buckets.inner_named x a;
      };
      quiet = record {
        calm = λ e k l. subst (λ (x : Leaf). x.role ≡ Free) (sym (live_else k l)) (fits.quiet.calm e k (was_live k l));
        calm_inner = fits.quiet.calm_inner;
      };
    }

  -- a new node that is to be an inner one
  module _ (j : ℕ) (inner : InnerNode) (set : NodeSet) (values : List Value) (on : IsEnabled st (NewInner j inner set values)) where
    abbrev pub inner_begun : Node
    inner_begun = new_node (inner_owner inner) set

    far : (k : ℕ) → (st.leaves k).role ≢ NoNode → put st.records.nodes inner.bucket inner_begun (st.leaves k).bucket ≡ st.records.nodes (st.leaves k).bucket
    far k some = put_else st.records.nodes inner.bucket inner_begun (st.leaves k).bucket (on.1.1 k some)

    live_inner : (x : ℕ) → IsLive (put st.inner_nodes j inner x).role → put st.inner_nodes j inner x ≡ st.inner_nodes x
    live_inner x l = elim (decide x j) [
      | inl e ↦ absurd (draft_dead inner.role on.2 (subst (λ (y : InnerNode). IsLive y.role) (put_there st.inner_nodes j inner) (subst (λ (n : ℕ). IsLive (put st.inner_nodes j inner n).role) e l)))
      | inr ne ↦ put_else st.inner_nodes j inner x ne
    ]

    was_inner : (x : ℕ) → IsLive (put st.inner_nodes j inner x).role → IsLive (st.inner_nodes x).role
    was_inner x l = subst (λ (y : InnerNode). IsLive y.role) (live_inner x l) l

    same_inner : (x : ℕ) → IsLive (st.inner_nodes x).role → put st.inner_nodes j inner x ≡ st.inner_nodes x
    same_inner x l = put_else st.inner_nodes j inner x (λ e. live_some (st.inner_nodes x).role l (ap (λ (n : ℕ). (st.inner_nodes n).role) e ∙ on.0))

    -- of the new slot, and of each other one
    inner_cases : (P : ℕ → InnerNode → Type 0) → P j inner → ((x : ℕ) → (st.inner_nodes x).role ≢ NoNode → P x (st.inner_nodes x)) → (x : ℕ) → (put st.inner_nodes j inner x).role ≢ NoNode → P x (put st.inner_nodes j inner x)
    inner_cases P here else_ x = at_slot (decide x j)
      where
        at_slot : (x ≡ j) ⊎ (x ≢ j) → (put st.inner_nodes j inner x).role ≢ NoNode → P x (put st.inner_nodes j inner x)
        at_slot (inl e) some = subst (λ (n : ℕ). P n (put st.inner_nodes j inner n)) (sym e) (subst (λ (y : InnerNode). P j y) (sym (put_there st.inner_nodes j inner)) here)
        at_slot (inr ne) some =
            let same = put_else st.inner_nodes j inner x ne in
            subst (λ (y : InnerNode). P x y) (sym same) (else_ x (subst (λ (y : InnerNode). y.role ≢ NoNode) same some))

    pub keep_inner : Fits (after st (NewInner j inner set values))
    keep_inner = record {
      leaves = record {
        node = λ k l. subst (λ (n : Node). LeafNode n (st.sent (st.leaves k).bucket) (st.leaves k)) (sym (far k (live_some (st.leaves k).role l))) (fits.leaves.node k l);
        firm = λ k l. subst (λ (n : Node). (n.loose ≡ false) × (n.sets ≢ [])) (sym (far k (live_some (st.leaves k).role l))) (fits.leaves.firm k l);
        keys = λ k l. subst (λ (n : Node). LeafKeys (journal_of st.records) n.sets (st.sent (st.leaves k).bucket) (st.leaves k)) (sym (far k (live_some (st.leaves k).role l))) (fits.leaves.keys k l);
        used = fits.leaves.used;
        below = fits.leaves.below;
        fresh = λ k l. subst (λ (n : Node). n.sent ≡ true → AllFrom (suc (ready_number st.records.stage st.records.newest.number)) (st.leaves k).pending) (sym (far k (live_some (st.leaves k).role l))) (fits.leaves.fresh k l);
        lost = λ k l. subst (λ (n : Node). n.failed ≡ true → LostFits st.records.newest.number n.last.keys (st.leaves k)) (sym (far k (live_some (st.leaves k).role l))) (fits.leaves.lost k l);
        apart = fits.leaves.apart;
        drafts = λ k d. subst (λ (n : Node). DraftFits n (st.sent (st.leaves k).bucket) (st.leaves k)) (sym (far k (draft_some (st.leaves k).role d))) (fits.leaves.drafts k d);
      };
      tree = record {
        inner = λ x l.
            let w = was_inner x l in
            subst (λ (y : InnerNode). InnerFits st.leaves (put st.inner_nodes j inner) st.change (put st.records.nodes inner.bucket inner_begun y.bucket) x y) (sym (live_inner x l))
            (subst (λ (n : Node). InnerFits st.leaves (put st.inner_nodes j inner) st.change n x (st.inner_nodes x)) (sym (put_else st.records.nodes inner.bucket inner_begun (st.inner_nodes x).bucket (on.1.2 x (live_some (st.inner_nodes x).role w))))
            (inner_kept st.leaves st.leaves st.inner_nodes (put st.inner_nodes j inner) (λ i l. (refl, refl, refl, refl, refl)) kept st.change _ x (st.inner_nodes x) (st.inner_nodes x).role (λ s. s) (fits.tree.inner x w)));
        inner_used = λ x l. subst (λ (y : InnerNode). st.records.unused y.bucket ≡ false) (sym (live_inner x l)) (fits.tree.inner_used x (was_inner x l));
      };
      roots = roots_kept (journal_of st.records) st.inner_nodes (put st.inner_nodes j inner) st.end st.change kept fits.roots;
      buckets = record {
        one_leaf = fits.buckets.one_leaf;
        one_inner = λ x y rx ry. inner_cases (λ x z. (put st.inner_nodes j inner y).role ≢ NoNode → z.bucket ≡ (put st.inner_nodes j inner y).bucket → x ≡ y)
            (λ ry. inner_cases (λ y z. inner.bucket ≡ z.bucket → j ≡ y) (λ _. refl) (λ y ay e. absurd (on.1.2 y ay (sym e))) y ry)
            (λ x ax ry. inner_cases (λ y z. (st.inner_nodes x).bucket ≡ z.bucket → x ≡ y) (λ e. absurd (on.1.2 x ax e)) (λ y ay e. fits.buckets.one_inner x y ax ay e) y ry) x rx ry;
        one_kind = λ i x ri rx. inner_cases (λ x z. (st.leaves i).bucket ≢ z.bucket) (λ e. on.1.1 i ri e) (λ x ax e. fits.buckets.one_kind i x ri ax e) x rx;
        named = λ k a. ap (λ (n : Node). n.owner) (far k a) ∙ fits.buckets.named k a;
        inner_named = inner_cases (λ x z. (put st.records.nodes inner.bucket inner_begun z.bucket).owner ≡ inner_owner z)
            (ap (λ (n : Node). n.owner) (put_there st.records.nodes inner.bucket inner_begun))
            (λ x a. ap (λ (n : Node). n.owner) (put_else st.records.nodes inner.bucket inner_begun (st.inner_nodes x).bucket (on.1.2 x a)) ∙ fits.buckets.inner_named x a);
      };
      quiet = record {
        calm = fits.quiet.calm;
        calm_inner = λ e x l. subst (λ (y : InnerNode). y.role ≡ Free) (sym (live_inner x l)) (fits.quiet.calm_inner e x (was_inner x l));
      };
    }
      where
        kept : (x : ℕ) → IsLive (st.inner_nodes x).role → ((put st.inner_nodes j inner x).role ≡ (st.inner_nodes x).role) × ((put st.inner_nodes j inner x).height ≡ (st.inner_nodes x).height) × ((put st.inner_nodes j inner x).bucket ≡ (st.inner_nodes x).bucket) × ((put st.inner_nodes j inner x).first ≡ (st.inner_nodes x).first) × ((put st.inner_nodes j inner x).end ≡ (st.inner_nodes x).end) × ((put st.inner_nodes j inner x).word ≡ (st.inner_nodes x).word)
        kept x l = let e = same_inner x l in (ap (λ (y : InnerNode). y.role) e, ap (λ (y : InnerNode). y.height) e, ap (λ (y : InnerNode). y.bucket) e, ap (λ (y : InnerNode). y.first) e, ap (λ (y : InnerNode). y.end) e, ap (λ (y : InnerNode). y.word) e)

  -- an inner node's further set, which makes the change
  module _ (q : ℕ) (set : NodeSet) (values : List Value) (on : IsEnabled st (SetParent q set values)) where
    abbrev pub sent_inner : Node
    sent_inner = sent_node set (st.records.nodes (st.inner_nodes q).bucket)

    live_q : IsLive (st.inner_nodes q).role
    live_q = stays_live (st.inner_nodes q).role on.1

    leaf_node : (k : ℕ) → (st.leaves k).role ≢ NoNode → put st.records.nodes (st.inner_nodes q).bucket sent_inner (st.leaves k).bucket ≡ st.records.nodes (st.leaves k).bucket
    leaf_node k some = put_else st.records.nodes (st.inner_nodes q).bucket sent_inner (st.leaves k).bucket (fits.buckets.one_kind k q some (live_some (st.inner_nodes q).role live_q))

    -- while a change is only begun no inner node's set is on its way
    pub no_set_sent : (x : ℕ) → IsLive (st.inner_nodes x).role → (st.records.nodes (st.inner_nodes x).bucket).sent ≡ false
    no_set_sent x l = by_bool_is (st.records.nodes (st.inner_nodes x).bucket).sent (λ e. absurd (no x (sym on.0 ∙ ((fits.tree.inner x l).next e).0)))
      where
        no : (x : ℕ) → Begun ≡ BySet x → ⊥
        no x e = cc

        by_bool_is : (t : Bool) → (t ≡ true → t ≡ false) → t ≡ false
        by_bool_is true f = f refl
        by_bool_is false f = refl

    pub no_set_failed : (x : ℕ) → IsLive (st.inner_nodes x).role → (st.records.nodes (st.inner_nodes x).bucket).failed ≡ false
    no_set_failed x l = by_bool_is (st.records.nodes (st.inner_nodes x).bucket).failed (λ e. absurd (no (sym on.0 ∙ ((fits.tree.inner x l).lost e).0)))
      where
        no : Begun ≡ Lost → ⊥
        no e = cc

        by_bool_is : (t : Bool) → (t ≡ true → t ≡ false) → t ≡ false
        by_bool_is true f = f refl
        by_bool_is false f = refl

    pub keep_parent : Fits (after st (SetParent q set values))
    keep_parent = record {
      leaves = record {
        node = λ k l. subst (λ (n : Node). LeafNode n (st.sent (st.leaves k).bucket) (st.leaves k)) (sym (leaf_node k (live_some (st.leaves k).role l))) (fits.leaves.node k l);
        firm = λ k l. subst (λ (n : Node). (n.loose ≡ false) × (n.sets ≢ [])) (sym (leaf_node k (live_some (st.leaves k).role l))) (fits.leaves.firm k l);
        keys = λ k l. subst (λ (n : Node). LeafKeys (journal_of st.records) n.sets (st.sent (st.leaves k).bucket) (st.leaves k)) (sym (leaf_node k (live_some (st.leaves k).role l))) (fits.leaves.keys k l);
        used = fits.leaves.used;
        below = fits.leaves.below;
        fresh = λ k l. subst (λ (n : Node). n.sent ≡ true → AllFrom (suc (ready_number st.records.stage st.records.newest.number)) (st.leaves k).pending) (sym (leaf_node k (live_some (st.leaves k).role l))) (fits.leaves.fresh k l);
        lost = λ k l. subst (λ (n : Node). n.failed ≡ true → LostFits st.records.newest.number n.last.keys (st.leaves k)) (sym (leaf_node k (live_some (st.leaves k).role l))) (fits.leaves.lost k l);
        apart = fits.leaves.apart;
        drafts = λ k d. subst (λ (n : Node). DraftFits n (st.sent (st.leaves k).bucket) (st.leaves k)) (sym (leaf_node k (draft_some (st.leaves k).role d))) (fits.leaves.drafts k d);
      };
      tree = record {
        inner = λ x l. elim (decide x q) [ inl e ↦ subst (λ (n : ℕ). InnerFits st.leaves st.inner_nodes (BySet q) (put st.records.nodes (st.inner_nodes q).bucket sent_inner (st.inner_nodes n).bucket) n (st.inner_nodes n)) (sym e) here | inr ne ↦ there x l ne ];
        inner_used = fits.tree.inner_used;
      };
      roots = (let h = fits.roots in record {
        newest = h.newest;
        entry = h.entry;
        newest_stays = λ _. (let r = h.newest in (r.0, live_stays (st.inner_nodes r.0).role r.1 (λ e. (on.5 r.0 e).0 r.2), r.2, r.3, r.4, r.5, r.6));
        entry_stays = λ _ ne. (let r = h.entry ne in (r.0, live_stays (st.inner_nodes r.0).role r.1 (λ e. (on.5 r.0 e).1 ne r.2), r.2, r.3, r.4, r.5, r.6));
        order = tt;
        waiting = h.waiting;
        sealed = h.sealed;
        index = h.index;
      });
      buckets = record {
        one_leaf = fits.buckets.one_leaf;
        one_inner = fits.buckets.one_inner;
        one_kind = fits.buckets.one_kind;
        named = λ k a. ap (λ (n : Node). n.owner) (leaf_node k a) ∙ fits.buckets.named k a;
        inner_named = λ x a. put_owner_same st.records.nodes (st.inner_nodes q).bucket sent_inner (st.inner_nodes x).bucket refl ∙ fits.buckets.inner_named x a;
      };
      quiet = record {
        calm = λ e. absurd (no_idle e);
        calm_inner = λ e. absurd (no_idle e);
      };
    }
      where
        no_idle : BySet q ≡ NoChange → ⊥
        no_idle e = cc

        here : InnerFits st.leaves st.inner_nodes (BySet q) (put st.records.nodes (st.inner_nodes q).bucket sent_inner (st.inner_nodes q).bucket) q (st.inner_nodes q)
        here =
            subst (λ (n : Node). InnerFits st.leaves st.inner_nodes (BySet q) n q (st.inner_nodes q)) (sym (put_there st.records.nodes (st.inner_nodes q).bucket sent_inner))
            (let f = fits.tree.inner q live_q in record { firm = refl; some = f.some; now = f.now; still = λ c s e. absurd (true_no e); next = λ _. (refl, on.3); lost = λ e. absurd (no_true e) })

        there : (x : ℕ) → IsLive (st.inner_nodes x).role → x ≢ q → InnerFits st.leaves st.inner_nodes (BySet q) (put st.records.nodes (st.inner_nodes q).bucket sent_inner (st.inner_nodes x).bucket) x (st.inner_nodes x)
        there x l ne =
            subst (λ (n : Node). InnerFits st.leaves st.inner_nodes (BySet q) n x (st.inner_nodes x))
            (sym (put_else st.records.nodes (st.inner_nodes q).bucket sent_inner (st.inner_nodes x).bucket (λ e. ne (fits.buckets.one_inner x q (live_some (st.inner_nodes x).role l) (live_some (st.inner_nodes q).role live_q) e))))
            (let f = fits.tree.inner x l in record { firm = f.firm; some = f.some; now = f.now; still = λ c s e. on.4 x s ne; next = λ e. absurd (differ (st.records.nodes (st.inner_nodes x).bucket).sent e (no_set_sent x l)); lost = λ e. absurd (differ (st.records.nodes (st.inner_nodes x).bucket).failed e (no_set_failed x l)) })

    abbrev pub failed_inner : Node
    failed_inner = failed_node set (st.records.nodes (st.inner_nodes q).bucket)

    leaf_kept : (k : ℕ) → (st.leaves k).role ≢ NoNode → put st.records.nodes (st.inner_nodes q).bucket failed_inner (st.leaves k).bucket ≡ st.records.nodes (st.leaves k).bucket
    leaf_kept k some = put_else st.records.nodes (st.inner_nodes q).bucket failed_inner (st.leaves k).bucket (fits.buckets.one_kind k q some (live_some (st.inner_nodes q).role live_q))

    pub keep_fail_parent : Fits (after st (FailParent q set values))
    keep_fail_parent = record {
      leaves = record {
        node = λ k l. subst (λ (n : Node). LeafNode n (st.sent (st.leaves k).bucket) (st.leaves k)) (sym (leaf_kept k (live_some (st.leaves k).role l))) (fits.leaves.node k l);
        firm = λ k l. subst (λ (n : Node). (n.loose ≡ false) × (n.sets ≢ [])) (sym (leaf_kept k (live_some (st.leaves k).role l))) (fits.leaves.firm k l);
        keys = λ k l. subst (λ (n : Node). LeafKeys (journal_of st.records) n.sets (st.sent (st.leaves k).bucket) (st.leaves k)) (sym (leaf_kept k (live_some (st.leaves k).role l))) (fits.leaves.keys k l);
        used = fits.leaves.used;
        below = fits.leaves.below;
        fresh = λ k l. subst (λ (n : Node). n.sent ≡ true → AllFrom (suc (ready_number st.records.stage st.records.newest.number)) (st.leaves k).pending) (sym (leaf_kept k (live_some (st.leaves k).role l))) (fits.leaves.fresh k l);
        lost = λ k l. subst (λ (n : Node). n.failed ≡ true → LostFits st.records.newest.number n.last.keys (st.leaves k)) (sym (leaf_kept k (live_some (st.leaves k).role l))) (fits.leaves.lost k l);
        apart = fits.leaves.apart;
        drafts = λ k d. subst (λ (n : Node). DraftFits n (st.sent (st.leaves k).bucket) (st.leaves k)) (sym (leaf_kept k (draft_some (st.leaves k).role d))) (fits.leaves.drafts k d);
      };
      tree = record {
        inner = λ x l. elim (decide x q) [ inl e ↦ subst (λ (n : ℕ). InnerFits st.leaves st.inner_nodes Lost (put st.records.nodes (st.inner_nodes q).bucket failed_inner (st.inner_nodes n).bucket) n (st.inner_nodes n)) (sym e) here | inr ne ↦ there x l ne ];
        inner_used = fits.tree.inner_used;
      };
      roots = (let h = fits.roots in record {
        newest = h.newest;
        entry = h.entry;
        newest_stays = λ c. absurd c;
        entry_stays = λ c. absurd c;
        order = tt;
        waiting = h.waiting;
        sealed = h.sealed;
        index = h.index;
      });
      buckets = record {
        one_leaf = fits.buckets.one_leaf;
        one_inner = fits.buckets.one_inner;
        one_kind = fits.buckets.one_kind;
        named = λ k a. ap (λ (n : Node). n.owner) (leaf_kept k a) ∙ fits.buckets.named k a;
        inner_named = λ x a. put_owner_same st.records.nodes (st.inner_nodes q).bucket failed_inner (st.inner_nodes x).bucket refl ∙ fits.buckets.inner_named x a;
      };
      quiet = record {
        calm = λ e. absurd (no_idle e);
        calm_inner = λ e. absurd (no_idle e);
      };
    }
      where
        no_idle : Lost ≡ NoChange → ⊥
        no_idle e = cc

        here : InnerFits st.leaves st.inner_nodes Lost (put st.records.nodes (st.inner_nodes q).bucket failed_inner (st.inner_nodes q).bucket) q (st.inner_nodes q)
        here =
            subst (λ (n : Node). InnerFits st.leaves st.inner_nodes Lost n q (st.inner_nodes q)) (sym (put_there st.records.nodes (st.inner_nodes q).bucket failed_inner))
            (let f = fits.tree.inner q live_q in record { firm = refl; some = f.some; now = f.now; still = λ c. absurd c; next = λ e. absurd (no_true e); lost = λ _. (refl, fill_roles st.leaves st.inner_nodes Stays IsLive (st.inner_nodes q) (children_of (set ∷ (st.records.nodes (st.inner_nodes q).bucket).sets)) stays_live on.3) })

        there : (x : ℕ) → IsLive (st.inner_nodes x).role → x ≢ q → InnerFits st.leaves st.inner_nodes Lost (put st.records.nodes (st.inner_nodes q).bucket failed_inner (st.inner_nodes x).bucket) x (st.inner_nodes x)
        there x l ne =
            subst (λ (n : Node). InnerFits st.leaves st.inner_nodes Lost n x (st.inner_nodes x))
            (sym (put_else st.records.nodes (st.inner_nodes q).bucket failed_inner (st.inner_nodes x).bucket (λ e. ne (fits.buckets.one_inner x q (live_some (st.inner_nodes x).role l) (live_some (st.inner_nodes q).role live_q) e))))
            (let f = fits.tree.inner x l in record { firm = f.firm; some = f.some; now = f.now; still = λ c. absurd c; next = λ e. absurd (differ (st.records.nodes (st.inner_nodes x).bucket).sent e (no_set_sent x l)); lost = λ e. absurd (differ (st.records.nodes (st.inner_nodes x).bucket).failed e (no_set_failed x l)) })

  -- a further set of leaf i whose write failed
  module _ (i : ℕ) (set : NodeSet) (values : List Value) (on : IsEnabled st (FailSet i set values)) where
    abbrev pub leaf_failed : Node
    leaf_failed = failed_node set (st.records.nodes (st.leaves i).bucket)

    live_f : IsLive (st.leaves i).role
    live_f = free_live (st.leaves i).role on.0

    fault_cases : (P : Node → Leaf → List Pending → Type 0) → P leaf_failed (st.leaves i) (st.sent (st.leaves i).bucket) → (k : ℕ) → (st.leaves k).role ≢ NoNode → P (st.records.nodes (st.leaves k).bucket) (st.leaves k) (st.sent (st.leaves k).bucket)
        → P (put st.records.nodes (st.leaves i).bucket leaf_failed (st.leaves k).bucket) (st.leaves k) (st.sent (st.leaves k).bucket)
    fault_cases P here k some else_ = at_slot (decide k i)
      where
        at_slot : (k ≡ i) ⊎ (k ≢ i) → P (put st.records.nodes (st.leaves i).bucket leaf_failed (st.leaves k).bucket) (st.leaves k) (st.sent (st.leaves k).bucket)
        at_slot (inl e) =
            subst (λ (n : ℕ). P (put st.records.nodes (st.leaves i).bucket leaf_failed (st.leaves n).bucket) (st.leaves n) (st.sent (st.leaves n).bucket)) (sym e)
            (subst (λ (n : Node). P n (st.leaves i) (st.sent (st.leaves i).bucket)) (sym (put_there st.records.nodes (st.leaves i).bucket leaf_failed)) here)
        at_slot (inr ne) =
            let far : (st.leaves k).bucket ≢ (st.leaves i).bucket = λ e. ne (fits.buckets.one_leaf k i some (live_some (st.leaves i).role live_f) e) in
            subst (λ (n : Node). P n (st.leaves k) (st.sent (st.leaves k).bucket)) (sym (put_else st.records.nodes (st.leaves i).bucket leaf_failed (st.leaves k).bucket far)) else_

    pub keep_fail_set : Fits (after st (FailSet i set values))
    keep_fail_set = record {
      leaves = record {
        node = λ k l. fault_cases (λ n x ss. LeafNode n ss x)
            (let h = fits.leaves.node i live_f in record { last = λ s. sym (none_sent i set values on s); sets_inside = h.sets_inside; sent_inside = h.sent_inside; pending_inside = h.pending_inside }) k (live_some (st.leaves k).role l) (fits.leaves.node k l);
        firm = λ k l. fault_cases (λ n x ss. (n.loose ≡ false) × (n.sets ≢ [])) (refl, (fits.leaves.firm i live_f).1) k (live_some (st.leaves k).role l) (fits.leaves.firm k l);
        keys = λ k l. fault_cases (λ n x ss. LeafKeys (journal_of st.records) n.sets ss x) (fits.leaves.keys i live_f) k (live_some (st.leaves k).role l) (fits.leaves.keys k l);
        used = fits.leaves.used;
        below = fits.leaves.below;
        fresh = λ k l. fault_cases (λ n x ss. n.sent ≡ true → AllFrom (suc (ready_number st.records.stage st.records.newest.number)) x.pending) (λ e. absurd (no_true e)) k (live_some (st.leaves k).role l) (fits.leaves.fresh k l);
        lost = λ k l. fault_cases (λ n x ss. n.failed ≡ true → LostFits st.records.newest.number n.last.keys x)
            (λ _. record {
              inside = λ s out. on.4 s ∙ (fits.leaves.node i live_f).pending_inside s out;
              held = λ s none_. on.4 s ∙ none_of (st.leaves i).pending s (λ y m. none_ y (subst (λ (p : List Pending). In y p) (sym (upto_head st.records.newest.number (st.leaves i).pending on.3)) m));
            }) k (live_some (st.leaves k).role l) (fits.leaves.lost k l);
        apart = fits.leaves.apart;
        drafts = λ k d. fault_cases (λ n x ss. x.role ≡ Draft → DraftFits n ss x) (λ e. absurd (draft_free (st.leaves i).role on.0 e)) k (draft_some (st.leaves k).role d) (λ _. fits.leaves.drafts k d) d;
      };
      tree = record {
        inner = λ x l.
            subst (λ (n : Node). InnerFits st.leaves st.inner_nodes st.change n x (st.inner_nodes x))
            (sym (put_else st.records.nodes (st.leaves i).bucket leaf_failed (st.inner_nodes x).bucket (λ e. fits.buckets.one_kind i x (live_some (st.leaves i).role live_f) (live_some (st.inner_nodes x).role l) (sym e)))) (fits.tree.inner x l);
        inner_used = fits.tree.inner_used;
      };
      roots = fits.roots;
      buckets = record {
        one_leaf = fits.buckets.one_leaf;
        one_inner = fits.buckets.one_inner;
        one_kind = fits.buckets.one_kind;
        named = λ k a. put_owner_same st.records.nodes (st.leaves i).bucket leaf_failed (st.leaves k).bucket refl ∙ fits.buckets.named k a;
        inner_named = λ x a. put_owner_same st.records.nodes (st.leaves i).bucket leaf_failed (st.inner_nodes x).bucket refl ∙ fits.buckets.inner_named x a;
      };
      quiet = record {
        calm = fits.quiet.calm;
        calm_inner = fits.quiet.calm_inner;
      };
    }

  -- a bucket that no node has is written to
  module _ (p : ℕ) (on : IsVacant st p) where
    off_leaf : (k : ℕ) → (st.leaves k).role ≢ NoNode → st.records.nodes (st.leaves k).bucket ≡ put st.records.nodes p loose_node (st.leaves k).bucket
    off_leaf k some = sym (put_else st.records.nodes p loose_node (st.leaves k).bucket (on.1 k some))

    pub keep_reuse : Fits (after st (Reuse p))
    keep_reuse = record {
      leaves = record {
        node = λ k l. subst (λ (n : Node). LeafNode n (st.sent (st.leaves k).bucket) (st.leaves k)) (off_leaf k (live_some (st.leaves k).role l)) (fits.leaves.node k l);
        firm = λ k l. subst (λ (n : Node). (n.loose ≡ false) × (n.sets ≢ [])) (off_leaf k (live_some (st.leaves k).role l)) (fits.leaves.firm k l);
        keys = λ k l. subst (λ (n : Node). LeafKeys (journal_of st.records) n.sets (st.sent (st.leaves k).bucket) (st.leaves k)) (off_leaf k (live_some (st.leaves k).role l)) (fits.leaves.keys k l);
        used = fits.leaves.used;
        below = fits.leaves.below;
        fresh = λ k l. subst (λ (n : Node). n.sent ≡ true → AllFrom (suc (ready_number st.records.stage st.records.newest.number)) (st.leaves k).pending) (off_leaf k (live_some (st.leaves k).role l)) (fits.leaves.fresh k l);
        lost = λ k l. subst (λ (n : Node). n.failed ≡ true → LostFits st.records.newest.number n.last.keys (st.leaves k)) (off_leaf k (live_some (st.leaves k).role l)) (fits.leaves.lost k l);
        apart = fits.leaves.apart;
        drafts = λ k d. subst (λ (n : Node). DraftFits n (st.sent (st.leaves k).bucket) (st.leaves k)) (off_leaf k (draft_some (st.leaves k).role d)) (fits.leaves.drafts k d);
      };
      tree = record {
        inner = λ x l. subst (λ (n : Node). InnerFits st.leaves st.inner_nodes st.change n x (st.inner_nodes x)) (sym (put_else st.records.nodes p loose_node (st.inner_nodes x).bucket (on.2 x (live_some (st.inner_nodes x).role l)))) (fits.tree.inner x l);
        inner_used = fits.tree.inner_used;
      };
      roots = fits.roots;
      buckets = record {
        one_leaf = fits.buckets.one_leaf;
        one_inner = fits.buckets.one_inner;
        one_kind = fits.buckets.one_kind;
        named = λ k a. sym (ap (λ (n : Node). n.owner) (off_leaf k a)) ∙ fits.buckets.named k a;
        inner_named = λ x a. ap (λ (n : Node). n.owner) (put_else st.records.nodes p loose_node (st.inner_nodes x).bucket (on.2 x a)) ∙ fits.buckets.inner_named x a;
      };
      quiet = record {
        calm = fits.quiet.calm;
        calm_inner = fits.quiet.calm_inner;
      };
    }
