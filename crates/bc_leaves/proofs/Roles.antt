-- The parts fit after the events that change what slots are for: drafts are given up, a change begins, gets a root, is installed.
use Rattle.std.proofs.Common.{◌≡◌, ◌≢◌, ◌⊎◌, inl, inr, ℕ, suc, Bool, true, false, List, ◌++◌, None, refl, sym, ap, ◌∙◌, subst, arith, if◌then◌else◌}
use Rattle.bc_key.specs.declared.key.Key.{Key}
use Rattle.bc_meta.specs.Tree.{Child, NodeSet, children_of, set_keys}
use Rattle.bc_meta.specs.Records.{Fixed, Node, Nothing}
use Rattle.bc_meta.specs.Facts.{In}
use Rattle.bc_leaves.specs.Events.{BeginChange, ForgetDrafts, Install, SealRoot}
use Rattle.bc_leaves.specs.Parts.{Begun, ByRoot, BySet, Change, Coming, Draft, Free, InRange, InnerNode, IsLive, Leaf, Leaving, Lost, NoChange, NoNode, Pending, Role, State, Stays, beyond, keys_of, sealed_number, up_to}
use Rattle.bc_leaves.specs.Enabled.{CanBegin, IsEnabled, IsMade}
use Rattle.bc_leaves.specs.Fits.{DraftFits, Fits, HasRoot, IsCalm, Journal, LeafKeys, LeafNode, LostFits, NewestStays, Ordered, Partners, journal_of}
use Rattle.bc_leaves.specs.Rows.{Fills}
use Rattle.bc_leaves.specs.After.{after, changed, forgotten, has, inner_nodes_changed, installed, leaves_changed}
use Rattle.bc_leaves.specs.Keys.{last_said, ref_said}
use Rattle.bc_leaves.proofs.Pend.{append_none, beyond_head, top_le, upto_head}
use Rattle.bc_leaves.proofs.Contents.{below_map, fill_roles, free_live, last_false, live_some, stays_live}
use Rattle.bc_leaves.proofs.Chains.{chain_map, has_in, in_has, row_find, row_in, row_one}
use Rattle.bc_leaves.proofs.Keep.{differ, inner_kept, roots_kept, sealed_fresh, sealed_keys}
use Rattle.bc_leaves.proofs.Nodes.{draft_free, draft_some}

-- a role is no fact of the node or of its keys
node_role : (n : Node) (sent : List Pending) (x : Leaf) (r : Role) → LeafNode n sent x → LeafNode n sent (record x { role = r })
node_role n sent x r k = record { last = k.last; sets_inside = k.sets_inside; sent_inside = k.sent_inside; pending_inside = k.pending_inside }

keys_role : (j : Journal) (sets : List NodeSet) (sent : List Pending) (x : Leaf) (r : Role) → LeafKeys j sets sent x → LeafKeys j sets sent (record x { role = r })
keys_role j sets sent x r k = record { waiting = k.waiting; sealed = k.sealed; index = k.index; ordered = k.ordered; kept = k.kept; low = k.low; sent_low = k.sent_low }

draft_role : (n : Node) (sent : List Pending) (x : Leaf) (r : Role) → DraftFits n sent x → DraftFits n sent (record x { role = r })
draft_role n sent x r k = record { sets_inside = k.sets_inside; last_inside = k.last_inside; none = k.none; not_sent = k.not_sent }

lost_role : (n : ℕ) (keys : List Key) (x : Leaf) (r : Role) → LostFits n keys x → LostFits n keys (record x { role = r })
lost_role n keys x r k = record { inside = k.inside; held = k.held }

free_some : (r : Role) → r ≡ Free → r ≢ NoNode
free_some r a b = no (sym a ∙ b)
  where
    no : Free ≡ NoNode → ⊥
    no e = cc

bool_no : (t : Bool) → (t ≡ true → ⊥) → t ≡ false
bool_no true f = absurd (f refl)
bool_no false f = refl

bool_with : (t : Bool) (P : Bool → Type 0) → (t ≡ true → P true) → (t ≡ false → P false) → P t
bool_with true P f g = f refl
bool_with false P f g = g refl

-- what slots become when some leave and some come
module _ (roles : ℕ → Role) (gone come : List ℕ) (free : (k : ℕ) → In k gone → roles k ≡ Free) (draft : (k : ℕ) → In k come → roles k ≡ Draft) where
  abbrev pub role : ℕ → Role
  role k = changed gone come k (roles k)

  cases : (k : ℕ) → (In k gone × (role k ≡ Leaving)) ⊎ (In k come × (role k ≡ Coming)) ⊎ (role k ≡ roles k)
  cases k =
      bool_with (has gone k) (λ g. (In k gone × ((if g then Leaving else (if has come k then Coming else roles k)) ≡ Leaving)) ⊎ (In k come × ((if g then Leaving else (if has come k then Coming else roles k)) ≡ Coming)) ⊎ ((if g then Leaving else (if has come k then Coming else roles k)) ≡ roles k))
      (λ e. inl (in_has gone k e, refl))
      (λ e. bool_with (has come k) (λ g. (In k gone × ((if g then Coming else roles k) ≡ Leaving)) ⊎ (In k come × ((if g then Coming else roles k) ≡ Coming)) ⊎ ((if g then Coming else roles k) ≡ roles k))
      (λ f. inr (inl (in_has come k f, refl))) (λ f. inr (inr refl)))

  came : (k : ℕ) → In k come → role k ≡ Coming
  came k m =
      bool_with (has gone k) (λ g. (if g then Leaving else (if has come k then Coming else roles k)) ≡ Coming)
      (λ e. absurd (draft_free (roles k) (free k (in_has gone k e)) (draft k m))) (λ e. ap (λ (t : Bool). if t then Coming else roles k) (has_in come k m))

  went : (k : ℕ) → In k gone → role k ≡ Leaving
  went k m = ap (λ (t : Bool). if t then Leaving else (if has come k then Coming else roles k)) (has_in gone k m)

  from : (k : ℕ) → IsLive (role k) → IsLive (roles k) ⊎ In k come
  from k l = elim (cases k) [ inl g ↦ inl (free_live (roles k) (free k g.0)) | inr (inl c) ↦ inr c.0 | inr (inr n) ↦ inl (subst (λ (r : Role). IsLive r) n l) ]

  into : (k : ℕ) → IsLive (roles k) → IsLive (role k)
  into k l = elim (cases k) [ inl g ↦ subst (λ (r : Role). IsLive r) (sym g.1) tt | inr (inl c) ↦ subst (λ (r : Role). IsLive r) (sym c.1) tt | inr (inr n) ↦ subst (λ (r : Role). IsLive r) (sym n) l ]

  some_was : (k : ℕ) → role k ≢ NoNode → roles k ≢ NoNode
  some_was k ne = elim (cases k) [ inl g ↦ free_some (roles k) (free k g.0) | inr (inl c) ↦ draft_some (roles k) (draft k c.0) | inr (inr n) ↦ subst (λ (r : Role). r ≢ NoNode) n ne ]

  draft_was : (k : ℕ) → role k ≡ Draft → roles k ≡ Draft
  draft_was k d = elim (cases k) [ inl g ↦ absurd (no (sym g.1 ∙ d)) | inr (inl c) ↦ draft k c.0 | inr (inr n) ↦ sym n ∙ d ]
    where
      no : Leaving ≡ Draft → ⊥
      no e = cc

module _ (st : State) (fits : Fits st) where
  forget_live : (r : Role) → IsLive (forgotten r) → IsLive r
  forget_live NoNode l = l
  forget_live Draft l = l
  forget_live Free l = l
  forget_live Leaving l = l
  forget_live Coming l = l

  forget_same : (r : Role) → IsLive r → forgotten r ≡ r
  forget_same NoNode l = absurd l
  forget_same Draft l = absurd l
  forget_same Free l = refl
  forget_same Leaving l = refl
  forget_same Coming l = refl

  forget_stays : (r : Role) → Stays (forgotten r) → Stays r
  forget_stays NoNode l = l
  forget_stays Draft l = l
  forget_stays Free l = l
  forget_stays Leaving l = l
  forget_stays Coming l = l

  forget_some : (r : Role) → forgotten r ≢ NoNode → r ≢ NoNode
  forget_some NoNode ne = ne
  forget_some Draft ne = λ e. absurd (cc)
  forget_some Free ne = ne
  forget_some Leaving ne = ne
  forget_some Coming ne = ne

  forget_draft : (r : Role) → forgotten r ≡ Draft → ⊥
  forget_draft NoNode e = absurd (cc)
  forget_draft Draft e = absurd (cc)
  forget_draft Free e = absurd (cc)
  forget_draft Leaving e = absurd (cc)
  forget_draft Coming e = absurd (cc)

  pub keep_forget : Fits (after st ForgetDrafts)
  keep_forget = record {
    leaves = record {
      node = λ k l. node_role _ _ (st.leaves k) _ (fits.leaves.node k (forget_live (st.leaves k).role l));
      firm = λ k l. fits.leaves.firm k (forget_live (st.leaves k).role l);
      keys = λ k l. keys_role _ _ _ (st.leaves k) _ (fits.leaves.keys k (forget_live (st.leaves k).role l));
      used = λ k l. fits.leaves.used k (forget_live (st.leaves k).role l);
      below = λ k l. fits.leaves.below k (forget_live (st.leaves k).role l);
      fresh = λ k l. fits.leaves.fresh k (forget_live (st.leaves k).role l);
      lost = λ k l e. lost_role _ _ (st.leaves k) _ (fits.leaves.lost k (forget_live (st.leaves k).role l) e);
      apart = λ i k s li lk ri rk.
          let wi = forget_live (st.leaves i).role li in
          let wk = forget_live (st.leaves k).role lk in
          subst (λ (r : Role). (i ≡ k) ⊎ Partners r (forgotten (st.leaves k).role)) (sym (forget_same (st.leaves i).role wi))
          (subst (λ (r : Role). (i ≡ k) ⊎ Partners (st.leaves i).role r) (sym (forget_same (st.leaves k).role wk)) (fits.leaves.apart i k s wi wk ri rk));
      drafts = λ k d. absurd (forget_draft (st.leaves k).role d);
    };
    tree = record {
      inner = λ x l. inner_kept st.leaves (after st ForgetDrafts).leaves st.inner_nodes (after st ForgetDrafts).inner_nodes (λ i l. (forget_same (st.leaves i).role l, refl, refl, refl, refl)) (λ x l. (forget_same (st.inner_nodes x).role l, refl, refl, refl, refl, refl)) st.change _ x (st.inner_nodes x) (forgotten (st.inner_nodes x).role) (forget_stays (st.inner_nodes x).role) (fits.tree.inner x (forget_live (st.inner_nodes x).role l));
      inner_used = λ x l. fits.tree.inner_used x (forget_live (st.inner_nodes x).role l);
    };
    roots = roots_kept (journal_of st.records) st.inner_nodes (after st ForgetDrafts).inner_nodes st.end st.change (λ x l. (forget_same (st.inner_nodes x).role l, refl, refl, refl, refl, refl)) fits.roots;
    buckets = record {
      one_leaf = λ i k a b. fits.buckets.one_leaf i k (forget_some (st.leaves i).role a) (forget_some (st.leaves k).role b);
      one_inner = λ x y a b. fits.buckets.one_inner x y (forget_some (st.inner_nodes x).role a) (forget_some (st.inner_nodes y).role b);
      one_kind = λ i x a b. fits.buckets.one_kind i x (forget_some (st.leaves i).role a) (forget_some (st.inner_nodes x).role b);
      named = λ k a. fits.buckets.named k (forget_some (st.leaves k).role a);
      inner_named = λ x a. fits.buckets.inner_named x (forget_some (st.inner_nodes x).role a);
    };
    quiet = record {
      calm = λ e k l. let w = forget_live (st.leaves k).role l in forget_same (st.leaves k).role w ∙ fits.quiet.calm e k w;
      calm_inner = λ e x l. let w = forget_live (st.inner_nodes x).role l in forget_same (st.inner_nodes x).role w ∙ fits.quiet.calm_inner e x w;
    };
  }

  -- a change begins
  module _ (low high : ℕ) (gone come old new : List ℕ) (unused : ℕ → Bool) (can : CanBegin st low high gone come old new unused) where
    leaf_roles : ℕ → Role
    leaf_roles k = (st.leaves k).role

    free_leaf : (k : ℕ) → In k gone → (st.leaves k).role ≡ Free
    free_leaf k m = (can.gone_leaf k m).0

    draft_leaf : (k : ℕ) → In k come → (st.leaves k).role ≡ Draft
    draft_leaf k m = (can.come_leaf k m).0

    draft_inner : (x : ℕ) → In x new → (st.inner_nodes x).role ≡ Draft
    draft_inner x m = (can.new_inner x m).0

    leaf_from : (k : ℕ) → IsLive (leaves_changed st gone come k).role → IsLive (st.leaves k).role ⊎ In k come
    leaf_from k l = from (λ k. (st.leaves k).role) gone come free_leaf draft_leaf k l

    leaf_into : (k : ℕ) → IsLive (st.leaves k).role → IsLive (leaves_changed st gone come k).role
    leaf_into k l = into (λ k. (st.leaves k).role) gone come free_leaf draft_leaf k l

    inner_from : (x : ℕ) → IsLive (inner_nodes_changed st old new x).role → IsLive (st.inner_nodes x).role ⊎ In x new
    inner_from x l = from (λ k. (st.inner_nodes k).role) old new can.old_inner draft_inner x l

    inner_into : (x : ℕ) → IsLive (st.inner_nodes x).role → IsLive (inner_nodes_changed st old new x).role
    inner_into x l = into (λ k. (st.inner_nodes k).role) old new can.old_inner draft_inner x l

    none_sent : (k : ℕ) → In k come → (s : ℕ) → last_said (keys_of (st.sent (st.leaves k).bucket)) s ≡ None
    none_sent k m s = ap (λ (l : List Pending). last_said (keys_of l) s) (fits.leaves.drafts k (draft_leaf k m)).not_sent

    come_node : (k : ℕ) → In k come → LeafNode (st.records.nodes (st.leaves k).bucket) (st.sent (st.leaves k).bucket) (st.leaves k)
    come_node k m =
        let d = fits.leaves.drafts k (draft_leaf k m) in
        record {
          last = λ s. last_false (st.records.nodes (st.leaves k).bucket) (can.come_leaf k m).1.1 s ∙ sym (none_sent k m s);
          sets_inside = d.sets_inside;
          sent_inside = λ s _. none_sent k m s;
          pending_inside = λ s _. ap (λ (l : List Pending). last_said (keys_of l) s) d.none;
        }

    -- a new leaf's sector is in a replaced leaf
    old_of : (j s : ℕ) → In j come → InRange (st.leaves j) s → (i : ℕ) × In i gone × InRange (st.leaves i) s
    old_of j s m r =
        let k = row_in st.leaves low come high j can.new_row m in
        let k0 = k.0 in
        let k1 = k.1 in
        let r0 = r.0 in
        let r1 = r.1 in
        row_find st.leaves low gone high s can.old_row (omega arith) (omega arith)

    -- and what the replaced leaf has is what is durable
    new_index : (j s : ℕ) → In j come → InRange (st.leaves j) s → ref_said (last_said st.records.index s) ≡ ref_said (last_said (set_keys (st.records.nodes (st.leaves j).bucket).sets) s)
    new_index j s m r =
        let o = old_of j s m r in
        let f = can.gone_leaf o.0 o.1 in
        (fits.leaves.keys o.0 (free_live (st.leaves o.0).role f.0)).index s o.2
        ∙ ap (λ (l : List Pending). ref_said (last_said (keys_of l ++ (keys_of (st.sent (st.leaves o.0).bucket) ++ set_keys (st.records.nodes (st.leaves o.0).bucket).sets)) s)) (upto_head st.records.newest.number (st.leaves o.0).pending f.1)
        ∙ sym (can.same o.0 j s o.1 m o.2 r)

    come_keys : (k : ℕ) → In k come → LeafKeys (journal_of st.records) (st.records.nodes (st.leaves k).bucket).sets (st.sent (st.leaves k).bucket) (st.leaves k)
    come_keys k m =
        let d = fits.leaves.drafts k (draft_leaf k m) in
        let n : ℕ = st.records.newest.number in
        let t : ℕ = sealed_number st.records.stage st.records.newest.number in
        let le = top_le st.records.stage st.records.newest.number in
        record {
          waiting = λ s r.
              let o = old_of k s m r in
              let f = can.gone_leaf o.0 o.1 in
              (fits.leaves.keys o.0 (free_live (st.leaves o.0).role f.0)).waiting s o.2
              ∙ ap (λ (l : List Pending). last_said (keys_of l) s) (beyond_head t (st.leaves o.0).pending (λ y i. let h = f.1 y i in omega arith))
              ∙ sym (ap (λ (l : List Pending). last_said (keys_of (beyond t l)) s) d.none);
          sealed = λ ne s r.
              let o = old_of k s m r in
              let f = can.gone_leaf o.0 o.1 in
              (fits.leaves.keys o.0 (free_live (st.leaves o.0).role f.0)).sealed ne s o.2
              ∙ ap (λ (l : List Pending). last_said (keys_of (beyond n l)) s) (upto_head (suc n) (st.leaves o.0).pending (λ y i. let h = f.1 y i in omega arith))
              ∙ ap (λ (l : List Pending). last_said (keys_of l) s) (beyond_head n (st.leaves o.0).pending f.1)
              ∙ sym (ap (λ (l : List Pending). last_said (keys_of (beyond n (up_to (suc n) l))) s) d.none);
          index = λ s r.
              new_index k s m r
              ∙ sym (ap ref_said (append_none (keys_of (up_to n (st.leaves k).pending)) (keys_of (st.sent (st.leaves k).bucket) ++ set_keys (st.records.nodes (st.leaves k).bucket).sets) s (ap (λ (l : List Pending). last_said (keys_of (up_to n l)) s) d.none)
              ∙ append_none (keys_of (st.sent (st.leaves k).bucket)) (set_keys (st.records.nodes (st.leaves k).bucket).sets) s (none_sent k m s)));
          ordered = subst (λ (l : List Pending). Ordered (suc t) l) (sym d.none) tt;
          kept = λ y i. elim i [ inl a ↦ absurd (subst (λ (l : List Pending). In y (up_to n l)) d.none a) | inr c ↦ absurd (subst (λ (l : List Pending). In y l) d.not_sent c) ];
          low = λ ne y i. absurd (subst (λ (l : List Pending). In y l) d.none i);
          sent_low = λ r y i. absurd (subst (λ (l : List Pending). In y l) d.not_sent i);
        }

    used_less : (p : ℕ) → st.records.unused p ≡ false → unused p ≡ false
    used_less p u = bool_no (unused p) (λ e. differ (st.records.unused p) (can.fewer p e) u)

    -- two leaves that were live do not overlap
    single : (i k s : ℕ) → IsLive (st.leaves i).role → IsLive (st.leaves k).role → InRange (st.leaves i) s → InRange (st.leaves k) s → i ≡ k
    single i k s li lk ri rk = elim (fits.leaves.apart i k s li lk ri rk) [ inl e ↦ e | inr p ↦ absurd (no (st.leaves i).role (st.leaves k).role (fits.quiet.calm can.no_change i li) p) ]
      where
        no : (r t : Role) → r ≡ Free → Partners r t → ⊥
        no r t e p = subst (λ (x : Role). Partners x t) e p

    -- a leaf that overlaps a new one leaves
    overlaps : (i k s : ℕ) → IsLive (st.leaves i).role → In k come → InRange (st.leaves i) s → InRange (st.leaves k) s → (leaves_changed st gone come i).role ≡ Leaving
    overlaps i k s li m ri rk =
        let o = old_of k s m rk in
        went (λ k. (st.leaves k).role) gone come free_leaf draft_leaf i (subst (λ (n : ℕ). In n gone) (single o.0 i s (free_live (st.leaves o.0).role (free_leaf o.0 o.1)) li o.2 ri) o.1)

    comes : (k : ℕ) → In k come → (leaves_changed st gone come k).role ≡ Coming
    comes k m = came (λ k. (st.leaves k).role) gone come free_leaf draft_leaf k m

    partners : (a b : Role) → a ≡ Leaving → b ≡ Coming → Partners a b
    partners a b e f = subst (λ (r : Role). Partners r b) (sym e) (subst (λ (r : Role). Partners Leaving r) (sym f) tt)

    partners2 : (a b : Role) → a ≡ Coming → b ≡ Leaving → Partners a b
    partners2 a b e f = subst (λ (r : Role). Partners r b) (sym e) (subst (λ (r : Role). Partners Coming r) (sym f) tt)

    live_fill : (x : InnerNode) (ks : List Child) → Fills st.leaves st.inner_nodes IsLive x ks → Fills (leaves_changed st gone come) (inner_nodes_changed st old new) IsLive x ks
    live_fill x ks h =
        chain_map _ _ x.first ks x.end
        (λ q w a b _ k. below_map st.leaves (leaves_changed st gone come) st.inner_nodes (inner_nodes_changed st old new) IsLive IsLive (λ i l. (leaf_into i l, refl, refl, refl, refl)) (λ y l. (inner_into y l, refl, refl, refl, refl, refl)) x.height q w a b k) h

    no_sent : (x : ℕ) → IsLive (st.inner_nodes x).role → (st.records.nodes (st.inner_nodes x).bucket).sent ≡ true → ⊥
    no_sent x l e = no x (sym can.no_change ∙ ((fits.tree.inner x l).next e).0)
      where
        no : (x : ℕ) → NoChange ≡ BySet x → ⊥
        no x e = cc

    no_lost : NoChange ≡ Lost → ⊥
    no_lost e = cc

    pub keep_change : Fits (after st (BeginChange low high gone come old new unused))
    keep_change = record {
      leaves = record {
        node = λ k l. elim (leaf_from k l) [ inl w ↦ node_role _ _ (st.leaves k) _ (fits.leaves.node k w) | inr m ↦ node_role _ _ (st.leaves k) _ (come_node k m) ];
        firm = λ k l. elim (leaf_from k l) [ inl w ↦ fits.leaves.firm k w | inr m ↦ (let s = (can.come_leaf k m).1 in (s.0, s.2)) ];
        keys = λ k l. elim (leaf_from k l) [ inl w ↦ keys_role _ _ _ (st.leaves k) _ (fits.leaves.keys k w) | inr m ↦ keys_role _ _ _ (st.leaves k) _ (come_keys k m) ];
        used = λ k l. elim (leaf_from k l) [ inl w ↦ used_less (st.leaves k).bucket (fits.leaves.used k w) | inr m ↦ can.leaf_taken k m ];
        below = λ k l. elim (leaf_from k l) [ inl w ↦ fits.leaves.below k w | inr m ↦ (let r = (row_in st.leaves low come high k can.new_row m).1 in let h = can.within in omega arith) ];
        fresh = λ k l e. elim (leaf_from k l) [ inl w ↦ fits.leaves.fresh k w e | inr m ↦ absurd (differ (st.records.nodes (st.leaves k).bucket).sent e (can.come_leaf k m).1.1) ];
        lost = λ k l e. elim (leaf_from k l) [ inl w ↦ lost_role _ _ (st.leaves k) _ (fits.leaves.lost k w e) | inr m ↦ absurd (differ (st.records.nodes (st.leaves k).bucket).failed e (can.come_leaf k m).1.3) ];
        apart = λ i k s li lk ri rk.
            elim (leaf_from i li) [
              | inl wi ↦ elim (leaf_from k lk) [
                | inl wk ↦ inl (single i k s wi wk ri rk)
                | inr mk ↦ inr (partners _ _ (overlaps i k s wi mk ri rk) (comes k mk))
              ]
              | inr mi ↦ elim (leaf_from k lk) [
                | inl wk ↦ inr (partners2 _ _ (comes i mi) (overlaps k i s wk mi rk ri))
                | inr mk ↦ inl (row_one st.leaves low come high i k s can.new_row mi mk ri rk)
              ]
            ];
        drafts = λ k d. draft_role _ _ (st.leaves k) _ (fits.leaves.drafts k (draft_was (λ k. (st.leaves k).role) gone come free_leaf draft_leaf k d));
      };
      tree = record {
        inner = λ x l. elim (inner_from x l) [
          | inl w ↦ (let f = fits.tree.inner x w in record {
            firm = f.firm;
            some = f.some;
            now = live_fill (st.inner_nodes x) (children_of (st.records.nodes (st.inner_nodes x).bucket).sets) f.now;
            still = λ c. absurd c;
            next = λ e. absurd (no_sent x w e);
            lost = λ e. absurd (no_lost (sym can.no_change ∙ (f.lost e).0));
          })
          | inr m ↦ (let f = (can.new_inner x m).1 in record {
            firm = f.0;
            some = f.2;
            now = fill_roles (leaves_changed st gone come) (inner_nodes_changed st old new) Stays IsLive (st.inner_nodes x) (children_of (st.records.nodes (st.inner_nodes x).bucket).sets) stays_live (can.filled x m);
            still = λ c. absurd c;
            next = λ e. absurd (differ (st.records.nodes (st.inner_nodes x).bucket).sent e f.1);
            lost = λ e. absurd (differ (st.records.nodes (st.inner_nodes x).bucket).failed e f.3);
          })
        ];
        inner_used = λ x l. elim (inner_from x l) [ inl w ↦ used_less (st.inner_nodes x).bucket (fits.tree.inner_used x w) | inr m ↦ can.inner_taken x m ];
      };
      roots = (let h = fits.roots in record {
        newest = (let r = h.newest in (r.0, inner_into r.0 r.1, r.2, r.3, r.4, r.5, r.6));
        entry = λ ne. (let r = h.entry ne in (r.0, inner_into r.0 r.1, r.2, r.3, r.4, r.5, r.6));
        newest_stays = λ s. absurd s;
        entry_stays = λ c. absurd c;
        order = tt;
        waiting = h.waiting;
        sealed = h.sealed;
        index = h.index;
      });
      buckets = record {
        one_leaf = λ i k a b. fits.buckets.one_leaf i k (some_was (λ k. (st.leaves k).role) gone come free_leaf draft_leaf i a) (some_was (λ k. (st.leaves k).role) gone come free_leaf draft_leaf k b);
        one_inner = λ x y a b. fits.buckets.one_inner x y (some_was (λ k. (st.inner_nodes k).role) old new can.old_inner draft_inner x a) (some_was (λ k. (st.inner_nodes k).role) old new can.old_inner draft_inner y b);
        one_kind = λ i x a b. fits.buckets.one_kind i x (some_was (λ k. (st.leaves k).role) gone come free_leaf draft_leaf i a) (some_was (λ k. (st.inner_nodes k).role) old new can.old_inner draft_inner x b);
        named = λ k a. fits.buckets.named k (some_was (λ k. (st.leaves k).role) gone come free_leaf draft_leaf k a);
        inner_named = λ x a. fits.buckets.inner_named x (some_was (λ k. (st.inner_nodes k).role) old new can.old_inner draft_inner x a);
      };
      quiet = record {
        calm = λ e. absurd (no_idle e);
        calm_inner = λ e. absurd (no_idle e);
      };
    }
      where
        no_idle : Begun ≡ NoChange → ⊥
        no_idle e = cc

  -- an entry with a new root
  module _ (needed prio : ℕ) (rest : List ℕ) (r : ℕ) (on : IsEnabled st (SealRoot needed prio rest r)) where
    no_sent2 : (x : ℕ) → IsLive (st.inner_nodes x).role → (st.records.nodes (st.inner_nodes x).bucket).sent ≡ true → ⊥
    no_sent2 x l e = no x (sym on.1 ∙ ((fits.tree.inner x l).next e).0)
      where
        no : (x : ℕ) → Begun ≡ BySet x → ⊥
        no x e = cc

    no_lost2 : Begun ≡ Lost → ⊥
    no_lost2 e = cc

    pub keep_root : Fits (after st (SealRoot needed prio rest r))
    keep_root = record {
      leaves = record {
        node = fits.leaves.node;
        firm = fits.leaves.firm;
        keys = sealed_keys st fits needed prio rest (st.inner_nodes r).bucket (st.inner_nodes r).word (suc (st.inner_nodes r).height) on.0;
        used = fits.leaves.used;
        below = fits.leaves.below;
        fresh = sealed_fresh st fits on.0.0;
        lost = fits.leaves.lost;
        apart = fits.leaves.apart;
        drafts = fits.leaves.drafts;
      };
      tree = record {
        inner = λ x l. let f = fits.tree.inner x l in record { firm = f.firm; some = f.some; now = f.now; still = λ c s e. on.5 x s tt; next = λ e. absurd (no_sent2 x l e); lost = λ e. absurd (no_lost2 (sym on.1 ∙ (f.lost e).0)) };
        inner_used = fits.tree.inner_used;
      };
      roots = (let h = fits.roots in record {
        newest = h.newest;
        entry = λ _. (r, stays_live (st.inner_nodes r).role on.2, refl, refl, on.3, on.4, refl);
        newest_stays = λ s. absurd (omega arith);
        entry_stays = λ _ _. (r, on.2, refl, refl, on.3, on.4, refl);
        order = ((omega arith), λ e. absurd (no_fixed e));
        waiting = λ s _. refl;
        sealed = λ _. h.waiting;
        index = h.index;
      });
      buckets = record {
        one_leaf = fits.buckets.one_leaf;
        one_inner = fits.buckets.one_inner;
        one_kind = fits.buckets.one_kind;
        named = fits.buckets.named;
        inner_named = fits.buckets.inner_named;
      };
      quiet = record {
        calm = λ e. absurd (no_idle _ e);
        calm_inner = λ e. absurd (no_idle _ e);
      };
    }
      where
        no_idle : (n : ℕ) → ByRoot n ≡ NoChange → ⊥
        no_idle n e = cc

        no_fixed : Fixed ≡ Nothing → ⊥
        no_fixed e = cc

  -- the change is installed
  module _ (unused : ℕ → Bool) (on : IsEnabled st (Install unused)) where
    done_calm : (p : Change) → IsMade st p → IsCalm p
    done_calm NoChange h = tt
    done_calm Begun h = h
    done_calm Lost h = h
    done_calm (BySet q) h = tt
    done_calm (ByRoot n) h = tt

    done_newest : (p : Change) → IsMade st p → NewestStays p st.records.newest.number
    done_newest NoChange h = tt
    done_newest Begun h = h
    done_newest Lost h = h
    done_newest (BySet q) h = tt
    done_newest (ByRoot n) h = h

    done_still : (p : Change) → st.change ≡ p → IsMade st p → (x : ℕ) → IsLive (st.inner_nodes x).role → (st.records.nodes (st.inner_nodes x).bucket).sent ≡ true → ⊥
    done_still NoChange e h x l t = h
    done_still Begun e h x l t = h
    done_still Lost e h x l t = h
    done_still (BySet q) e h x l t = differ (st.records.nodes (st.inner_nodes x).bucket).sent t (subst (λ (n : ℕ). (st.records.nodes (st.inner_nodes n).bucket).sent ≡ false) (slot q x (sym e ∙ ((fits.tree.inner x l).next t).0)) h)
      where
        slot : (a b : ℕ) → BySet a ≡ BySet b → a ≡ b
        slot a b e = cc
    done_still (ByRoot n) e h x l t = no n x (sym e ∙ ((fits.tree.inner x l).next t).0)
      where
        no : (n x : ℕ) → ByRoot n ≡ BySet x → ⊥
        no n x e = cc

    now_still : (x : ℕ) → IsLive (st.inner_nodes x).role → (st.records.nodes (st.inner_nodes x).bucket).sent ≡ false
    now_still x l = bool_no (st.records.nodes (st.inner_nodes x).bucket).sent (done_still st.change refl on.0 x l)

    installed_live : (r : Role) → IsLive (installed r) → Stays r
    installed_live NoNode l = l
    installed_live Draft l = l
    installed_live Free l = tt
    installed_live Leaving l = l
    installed_live Coming l = tt

    stays_installed : (r : Role) → Stays r → installed r ≡ Free
    stays_installed NoNode s = absurd s
    stays_installed Draft s = absurd s
    stays_installed Free s = refl
    stays_installed Leaving s = absurd s
    stays_installed Coming s = refl

    installed_draft : (r : Role) → installed r ≡ Draft → r ≡ Draft
    installed_draft NoNode e = e
    installed_draft Draft e = e
    installed_draft Free e = e
    installed_draft Leaving e = absurd (cc)
    installed_draft Coming e = absurd (cc)

    installed_some : (r : Role) → installed r ≢ NoNode → r ≢ NoNode
    installed_some NoNode ne = ne
    installed_some Draft ne = λ e. absurd (cc)
    installed_some Free ne = ne
    installed_some Leaving ne = λ e. absurd (cc)
    installed_some Coming ne = λ e. absurd (cc)

    no_partner : (a b : Role) → Stays a → Stays b → Partners a b → ⊥
    no_partner NoNode b p q r = p
    no_partner Draft b p q r = p
    no_partner Free b p q r = r
    no_partner Leaving b p q r = p
    no_partner Coming NoNode p q r = q
    no_partner Coming Draft p q r = q
    no_partner Coming Free p q r = r
    no_partner Coming Leaving p q r = q
    no_partner Coming Coming p q r = r

    stays_leaving : (r : Role) → Stays r → r ≡ Leaving → ⊥
    stays_leaving r s e = subst (λ (x : Role). Stays x) e s

    leaving_some : (r : Role) → r ≡ Leaving → r ≢ NoNode
    leaving_some r e f = no (sym e ∙ f)
      where
        no : Leaving ≡ NoNode → ⊥
        no e = cc

    -- what is given up is the bucket of nothing that stays
    leaf_kept : (i : ℕ) → Stays (st.leaves i).role → unused (st.leaves i).bucket ≡ false
    leaf_kept i s = bool_no (unused (st.leaves i).bucket) (λ u.
        let alive = live_some (st.leaves i).role (stays_live (st.leaves i).role s) in
        elim (on.1 (st.leaves i).bucket u) [
          | inl e ↦ differ (st.records.unused (st.leaves i).bucket) e (fits.leaves.used i (stays_live (st.leaves i).role s))
          | inr (inl k) ↦ stays_leaving (st.leaves i).role s (ap (λ (n : ℕ). (st.leaves n).role) (fits.buckets.one_leaf i k.0 alive (leaving_some (st.leaves k.0).role k.1) (sym k.2)) ∙ k.1)
          | inr (inr k) ↦ fits.buckets.one_kind i k.0 alive (leaving_some (st.inner_nodes k.0).role k.1) (sym k.2)
        ])

    node_kept : (x : ℕ) → Stays (st.inner_nodes x).role → unused (st.inner_nodes x).bucket ≡ false
    node_kept x s = bool_no (unused (st.inner_nodes x).bucket) (λ u.
        let alive = live_some (st.inner_nodes x).role (stays_live (st.inner_nodes x).role s) in
        elim (on.1 (st.inner_nodes x).bucket u) [
          | inl e ↦ differ (st.records.unused (st.inner_nodes x).bucket) e (fits.tree.inner_used x (stays_live (st.inner_nodes x).role s))
          | inr (inl k) ↦ fits.buckets.one_kind k.0 x (leaving_some (st.leaves k.0).role k.1) alive k.2
          | inr (inr k) ↦ stays_leaving (st.inner_nodes x).role s (ap (λ (n : ℕ). (st.inner_nodes n).role) (fits.buckets.one_inner x k.0 alive (leaving_some (st.inner_nodes k.0).role k.1) (sym k.2)) ∙ k.1)
        ])

    leaf_stay : (k : ℕ) → IsLive (installed (st.leaves k).role) → Stays (st.leaves k).role
    leaf_stay k l = installed_live (st.leaves k).role l

    leaf_then : (k : ℕ) → IsLive (installed (st.leaves k).role) → IsLive (st.leaves k).role
    leaf_then k l = stays_live (st.leaves k).role (leaf_stay k l)

    inner_then : (x : ℕ) → IsLive (installed (st.inner_nodes x).role) → IsLive (st.inner_nodes x).role
    inner_then x l = stays_live (st.inner_nodes x).role (installed_live (st.inner_nodes x).role l)

    now_fill : (P : Role → Type 0) → P Free → (x : ℕ) → Stays (st.inner_nodes x).role → Fills (after st (Install unused)).leaves (after st (Install unused)).inner_nodes P (st.inner_nodes x) (children_of (st.records.nodes (st.inner_nodes x).bucket).sets)
    now_fill P free x s =
        chain_map _ _ (st.inner_nodes x).first (children_of (st.records.nodes (st.inner_nodes x).bucket).sets) (st.inner_nodes x).end
        (λ q w a b _ k. below_map st.leaves (after st (Install unused)).leaves st.inner_nodes (after st (Install unused)).inner_nodes Stays P
        (λ i t. (subst P (sym (stays_installed (st.leaves i).role t)) free, refl, refl, refl, refl)) (λ y t. (subst P (sym (stays_installed (st.inner_nodes y).role t)) free, refl, refl, refl, refl, refl)) (st.inner_nodes x).height q w a b k)
        ((fits.tree.inner x (stays_live (st.inner_nodes x).role s)).still (done_calm st.change on.0) s (now_still x (stays_live (st.inner_nodes x).role s)))

    now_root : (P : Role → Type 0) → P Free → (root level word : ℕ) → HasRoot st.inner_nodes st.end Stays root level word → HasRoot (after st (Install unused)).inner_nodes st.end P root level word
    now_root P free root level word r = (r.0, subst P (sym (stays_installed (st.inner_nodes r.0).role r.1)) free, r.2, r.3, r.4, r.5, r.6)

    pub keep_install : Fits (after st (Install unused))
    keep_install = record {
      leaves = record {
        node = λ k l. node_role _ _ (st.leaves k) _ (fits.leaves.node k (leaf_then k l));
        firm = λ k l. fits.leaves.firm k (leaf_then k l);
        keys = λ k l. keys_role _ _ _ (st.leaves k) _ (fits.leaves.keys k (leaf_then k l));
        used = λ k l. leaf_kept k (leaf_stay k l);
        below = λ k l. fits.leaves.below k (leaf_then k l);
        fresh = λ k l. fits.leaves.fresh k (leaf_then k l);
        lost = λ k l e. lost_role _ _ (st.leaves k) _ (fits.leaves.lost k (leaf_then k l) e);
        apart = λ i k s li lk ri rk. elim (fits.leaves.apart i k s (leaf_then i li) (leaf_then k lk) ri rk) [ inl e ↦ inl e | inr p ↦ absurd (no_partner (st.leaves i).role (st.leaves k).role (leaf_stay i li) (leaf_stay k lk) p) ];
        drafts = λ k d. draft_role _ _ (st.leaves k) _ (fits.leaves.drafts k (installed_draft (st.leaves k).role d));
      };
      tree = record {
        inner = λ x l.
            let s = installed_live (st.inner_nodes x).role l in
            let f = fits.tree.inner x (inner_then x l) in record {
              firm = f.firm;
              some = f.some;
              now = now_fill IsLive tt x s;
              still = λ c t e. now_fill Stays tt x s;
              next = λ e. absurd (differ (st.records.nodes (st.inner_nodes x).bucket).sent e (now_still x (inner_then x l)));
              lost = λ e. absurd (subst (λ (p : Change). IsMade st p) ((fits.tree.inner x (inner_then x l)).lost e).0 on.0);
            };
        inner_used = λ x l. node_kept x (installed_live (st.inner_nodes x).role l);
      };
      roots = (let h = fits.roots in record {
        newest = now_root IsLive tt _ _ _ (h.newest_stays (done_newest st.change on.0));
        entry = λ ne. now_root IsLive tt _ _ _ (h.entry_stays (done_calm st.change on.0) ne);
        newest_stays = λ _. now_root Stays tt _ _ _ (h.newest_stays (done_newest st.change on.0));
        entry_stays = λ _ ne. now_root Stays tt _ _ _ (h.entry_stays (done_calm st.change on.0) ne);
        order = tt;
        waiting = h.waiting;
        sealed = h.sealed;
        index = h.index;
      });
      buckets = record {
        one_leaf = λ i k a b. fits.buckets.one_leaf i k (installed_some (st.leaves i).role a) (installed_some (st.leaves k).role b);
        one_inner = λ x y a b. fits.buckets.one_inner x y (installed_some (st.inner_nodes x).role a) (installed_some (st.inner_nodes y).role b);
        one_kind = λ i x a b. fits.buckets.one_kind i x (installed_some (st.leaves i).role a) (installed_some (st.inner_nodes x).role b);
        named = λ k a. fits.buckets.named k (installed_some (st.leaves k).role a);
        inner_named = λ x a. fits.buckets.inner_named x (installed_some (st.inner_nodes x).role a);
      };
      quiet = record {
        calm = λ e k l. stays_installed (st.leaves k).role (leaf_stay k l);
        calm_inner = λ e x l. stays_installed (st.inner_nodes x).role (installed_live (st.inner_nodes x).role l);
      };
    }
