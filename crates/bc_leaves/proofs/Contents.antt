-- What a crash may leave of nodes that fit: which leaf a sector's keys come from, what a walk meets, and how it is read.
use Rattle.std.proofs.Common.{◌≡◌, ◌≢◌, ◌⊎◌, inl, inr, ℕ, zero, suc, ◌≤◌, Bool, true, false, List, [], ◌∷◌, ◌++◌, Option, Some, None, refl, sym, ap, ◌∙◌, subst, arith, if◌then◌else◌}
use Rattle.bc_key.specs.declared.key.Key.{Key}
use Rattle.bc_meta.specs.Tree.{Child, IsNamed, Keeps, NodeSet, NodeSets, Other, Owner, Walk, Whole, children_of, set_keys, tree_list}
use Rattle.bc_meta.specs.Entries.{Entry, all_keys, live}
use Rattle.bc_meta.specs.Records.{Fixed, IsReady, MayHold, MayRead, MayStand, Node, Nothing, Reads, Ready, Safe, Sent, Stage, owners, settled_node, stable_node}
use Rattle.bc_meta.specs.Facts.{In}
use Rattle.bc_meta.specs.Keys.{Ref, last_ref}
use Rattle.bc_meta.proofs.Good.{barrier_fewer, named_same, settled_owner}
use Rattle.bc_meta.proofs.Lists.{by_le}
use Rattle.bc_meta.proofs.Ring.{in_live}
use Rattle.bc_leaves.specs.Parts.{AllFrom, Coming, Draft, Free, InRange, InnerNode, IsLive, Leaf, Leaving, NoNode, Pending, Role, State, Stays, keys_of, up_to}
use Rattle.bc_leaves.specs.Rows.{Below, ChildRow, Fills}
use Rattle.bc_leaves.specs.Fits.{Fits, HasRoot, IsKept, journal_of, last_keys}
use Rattle.bc_leaves.specs.Keys.{Speaks, last_said, ref_said}
use Rattle.bc_leaves.proofs.Covered.{Covered}
use Rattle.bc_leaves.proofs.Chains.{Local, chain_child, chain_each, chain_local, chain_map}
use Rattle.bc_leaves.proofs.Pend.{append_both, append_none, entry_hit, in_upto, none_left, none_of, none_right, not_both, some_or_none}
use Rattle.bc_leaves.proofs.Said.{last_append, or_else, said_ref}

pub two : (n : Node) (ss : List NodeSet) → n.loose ≡ false → MayHold n ss → (ss ≡ n.sets) ⊎ (MayStand n × (ss ≡ n.last ∷ n.sets))
two n ss firm m = elim m [ inl e ↦ absurd (no (sym e ∙ firm)) | inr (inl e) ↦ inl e | inr (inr e) ↦ inr (e.0, e.1) ]
  where
    no : true ≡ false → ⊥
    no e = cc

pub stays_live : (r : Role) → Stays r → IsLive r
stays_live NoNode h = h
stays_live Draft h = absurd h
stays_live Free h = tt
stays_live Leaving h = tt
stays_live Coming h = tt

pub live_some : (r : Role) → IsLive r → r ≢ NoNode
live_some NoNode h = absurd h
live_some Draft h = absurd h
live_some Free h = λ e. absurd (cc)
live_some Leaving h = λ e. absurd (cc)
live_some Coming h = λ e. absurd (cc)

pub free_live : (r : Role) → r ≡ Free → IsLive r
free_live r e = subst (λ (x : Role). IsLive x) (sym e) tt

pub free_stays : (r : Role) → r ≡ Free → Stays r
free_stays r e = subst (λ (x : Role). Stays x) (sym e) tt

pub by_bool : (b : Bool) (P : Bool → Type 0) → (b ≡ true → P true) → (b ≡ false → P false) → P b
by_bool true P f g = f refl
by_bool false P f g = g refl

-- nodes below in other roles, at the same places
pub below_map : (leaves later : ℕ → Leaf) (inner_nodes then_ : ℕ → InnerNode) (P Q : Role → Type 0)
    → ((i : ℕ) → P (leaves i).role → Q (later i).role × ((later i).bucket ≡ (leaves i).bucket) × ((later i).first ≡ (leaves i).first) × ((later i).end ≡ (leaves i).end) × ((later i).word ≡ (leaves i).word))
    → ((x : ℕ) → P (inner_nodes x).role → Q (then_ x).role × ((then_ x).height ≡ (inner_nodes x).height) × ((then_ x).bucket ≡ (inner_nodes x).bucket) × ((then_ x).first ≡ (inner_nodes x).first) × ((then_ x).end ≡ (inner_nodes x).end) × ((then_ x).word ≡ (inner_nodes x).word))
    → (h q w a b : ℕ) → Below leaves inner_nodes P h q w a b → Below later then_ Q h q w a b
below_map leaves later inner_nodes then_ P Q f g zero q w a b k = let r = f k.0 k.1 in (k.0, r.0, r.1 ∙ k.2, r.2 ∙ k.3, r.3 ∙ k.4, r.4 ∙ k.5)
below_map leaves later inner_nodes then_ P Q f g (suc h) q w a b k = let r = g k.0 k.1 in (k.0, r.0, r.1 ∙ k.2, r.2 ∙ k.3, r.3 ∙ k.4, r.4 ∙ k.5, r.5 ∙ k.6)

-- the same where roles alone differ
pub fill_roles : (leaves : ℕ → Leaf) (inner_nodes : ℕ → InnerNode) (P Q : Role → Type 0) (x : InnerNode) (ks : List Child) → ((r : Role) → P r → Q r) → Fills leaves inner_nodes P x ks → Fills leaves inner_nodes Q x ks
fill_roles leaves inner_nodes P Q x ks f h =
    chain_map _ _ x.first ks x.end (λ q w a b _ k. below_map leaves leaves inner_nodes inner_nodes P Q (λ i p. (f (leaves i).role p, refl, refl, refl, refl)) (λ y p. (f (inner_nodes y).role p, refl, refl, refl, refl, refl)) x.height q w a b k) h

-- a set that is sent is stable after a barrier
module _ (n : Node) where
  pub last_true : n.sent ≡ true → (s : ℕ) → last_said n.last.keys s ≡ last_said (last_keys n) s
  last_true e s = sym (ap (λ (b : Bool). last_said (if b then n.last.keys else []) s) e)

  pub last_false : n.sent ≡ false → (s : ℕ) → last_said (last_keys n) s ≡ None
  last_false e s = ap (λ (b : Bool). last_said (if b then n.last.keys else []) s) e

  pub stable_in : (s : ℕ) → last_said (set_keys n.sets) s ≡ None → last_said (last_keys n) s ≡ None → last_said (set_keys (stable_node n).sets) s ≡ None
  stable_in s p l = by_bool n.sent (λ t. last_said (set_keys (if t then n.last ∷ n.sets else n.sets)) s ≡ None) (λ e. append_none n.last.keys (set_keys n.sets) s (last_true e s ∙ l) ∙ p) (λ _. p)

  pub stable_keys : (sent : List Pending) (s : ℕ) → last_said (last_keys n) s ≡ last_said (keys_of sent) s → last_said (keys_of sent ++ set_keys n.sets) s ≡ last_said (set_keys (stable_node n).sets) s
  stable_keys sent s l =
      by_bool n.sent (λ t. last_said (keys_of sent ++ set_keys n.sets) s ≡ last_said (set_keys (if t then n.last ∷ n.sets else n.sets)) s)
      (λ e. append_both (keys_of sent) (set_keys n.sets) n.last.keys (set_keys n.sets) s (sym (last_true e s ∙ l)) refl)
      (λ e. append_none (keys_of sent) (set_keys n.sets) s (sym l ∙ last_false e s))

  pub stable_some : n.sets ≢ [] → (stable_node n).sets ≢ []
  stable_some ne = by_bool n.sent (λ t. (if t then n.last ∷ n.sets else n.sets) ≢ []) (λ _ e. absurd (cc)) (λ _. ne)

  pub stable_firm : n.loose ≡ false → (stable_node n).loose ≡ false
  stable_firm f = by_bool n.sent (λ t. (if t then false else n.loose) ≡ false) (λ _. refl) (λ _. f)

module _ (st : State) (fits : Fits st) (c : NodeSets) (choice : MayRead st.records.nodes c) where
  abbrev pub at : ℕ → List Key
  at i = set_keys (c (st.leaves i).bucket)

  abbrev pub good : ℕ → ℕ → Type 0
  good i s = IsLive (st.leaves i).role × InRange (st.leaves i) s

  leaf_is : (i : ℕ) → IsLive (st.leaves i).role → (c (st.leaves i).bucket ≡ (st.records.nodes (st.leaves i).bucket).sets) ⊎ (MayStand (st.records.nodes (st.leaves i).bucket) × (c (st.leaves i).bucket ≡ (st.records.nodes (st.leaves i).bucket).last ∷ (st.records.nodes (st.leaves i).bucket).sets))
  leaf_is i l = two (st.records.nodes (st.leaves i).bucket) (c (st.leaves i).bucket) (fits.leaves.firm i l).0 (choice (st.leaves i).bucket)

  not_empty : (x : NodeSet) (xs : List NodeSet) → x ∷ xs ≡ [] → ⊥
  not_empty x xs e = cc

  pub leaf_some : (i : ℕ) → IsLive (st.leaves i).role → c (st.leaves i).bucket ≢ []
  leaf_some i l = elim (leaf_is i l) [ inl e ↦ subst (λ (ss : List NodeSet). ss ≢ []) (sym e) (fits.leaves.firm i l).1 | inr e ↦ (λ h. not_empty _ _ (sym e.1 ∙ h)) ]

  -- the sent set comes in, or not, or one whose write failed
  leaf_keys : (i : ℕ) → IsLive (st.leaves i).role → (s : ℕ)
      → (last_said (at i) s ≡ last_said (set_keys (st.records.nodes (st.leaves i).bucket).sets) s)
      ⊎ (last_said (at i) s ≡ last_said (keys_of (st.sent (st.leaves i).bucket) ++ set_keys (st.records.nodes (st.leaves i).bucket).sets) s)
      ⊎ (((st.records.nodes (st.leaves i).bucket).failed ≡ true) × (last_said (at i) s ≡ last_said ((st.records.nodes (st.leaves i).bucket).last.keys ++ set_keys (st.records.nodes (st.leaves i).bucket).sets) s))
  leaf_keys i l s =
      let n = st.records.nodes (st.leaves i).bucket in
      elim (leaf_is i l) [
        | inl e ↦ inl (ap (λ (ss : List NodeSet). last_said (set_keys ss) s) e)
        | inr e ↦ elim e.0 [
          | inl sent ↦ inr (inl (ap (λ (ss : List NodeSet). last_said (set_keys ss) s) e.1 ∙ append_both n.last.keys (set_keys n.sets) (keys_of (st.sent (st.leaves i).bucket)) (set_keys n.sets) s (last_true n sent s ∙ (fits.leaves.node i l).last s) refl))
          | inr failed ↦ inr (inr (failed, ap (λ (ss : List NodeSet). last_said (set_keys ss) s) e.1))
        ]
      ]

  pub leaf_out : (i : ℕ) → IsLive (st.leaves i).role → (s : ℕ) → (InRange (st.leaves i) s → ⊥) → last_said (at i) s ≡ None
  leaf_out i l s out =
      let k = fits.leaves.node i l in
      elim (leaf_keys i l s) [
        | inl e ↦ e ∙ k.sets_inside s out
        | inr (inl e) ↦ e ∙ append_none (keys_of (st.sent (st.leaves i).bucket)) (set_keys (st.records.nodes (st.leaves i).bucket).sets) s (k.sent_inside s out) ∙ k.sets_inside s out
        | inr (inr e) ↦ e.1 ∙ append_none (st.records.nodes (st.leaves i).bucket).last.keys (set_keys (st.records.nodes (st.leaves i).bucket).sets) s ((fits.leaves.lost i l e.0).inside s out) ∙ k.sets_inside s out
      ]

  pub leaf_local : (i : ℕ) → IsLive (st.leaves i).role → Local at good (set_keys (c (st.leaves i).bucket)) (st.leaves i).first (st.leaves i).end
  leaf_local i l s = ((λ r. (i, (l, r), refl)), λ out. leaf_out i l s out)

  pub inner_fill : (x : ℕ) → IsLive (st.inner_nodes x).role → Fills st.leaves st.inner_nodes IsLive (st.inner_nodes x) (children_of (c (st.inner_nodes x).bucket))
  inner_fill x l =
      let k = fits.tree.inner x l in
      elim (two (st.records.nodes (st.inner_nodes x).bucket) (c (st.inner_nodes x).bucket) k.firm (choice (st.inner_nodes x).bucket)) [
        | inl e ↦ subst (λ (ss : List NodeSet). Fills st.leaves st.inner_nodes IsLive (st.inner_nodes x) (children_of ss)) (sym e) k.now
        | inr e ↦ subst (λ (ss : List NodeSet). Fills st.leaves st.inner_nodes IsLive (st.inner_nodes x) (children_of ss)) (sym e.1)
            (elim e.0 [
              | inl sent ↦ fill_roles st.leaves st.inner_nodes Stays IsLive (st.inner_nodes x) (children_of ((st.records.nodes (st.inner_nodes x).bucket).last ∷ (st.records.nodes (st.inner_nodes x).bucket).sets)) stays_live (k.next sent).1
              | inr failed ↦ (k.lost failed).1
            ])
      ]

  pub inner_some : (x : ℕ) → IsLive (st.inner_nodes x).role → c (st.inner_nodes x).bucket ≢ []
  inner_some x l =
      let k = fits.tree.inner x l in
      elim (two (st.records.nodes (st.inner_nodes x).bucket) (c (st.inner_nodes x).bucket) k.firm (choice (st.inner_nodes x).bucket)) [
        | inl e ↦ subst (λ (ss : List NodeSet). ss ≢ []) (sym e) k.some
        | inr e ↦ (λ h. not_empty _ _ (sym e.1 ∙ h))
      ]

  -- a fact of lists or walks from a to b, for a node that lies at q
  moved : (F : ℕ → ℕ → ℕ → Type 0) (p q m a n b : ℕ) → p ≡ q → m ≡ a → n ≡ b → F p m n → F q a b
  moved F p q m a n b e f g h = subst (λ (x : ℕ). F q a x) g (subst (λ (x : ℕ). F q x n) f (subst (λ (x : ℕ). F x m n) e h))

  pub tree_local : (h x : ℕ) → IsLive (st.inner_nodes x).role → (st.inner_nodes x).height ≡ h → Local at good (tree_list c (suc h) (st.inner_nodes x).bucket) (st.inner_nodes x).first (st.inner_nodes x).end
  tree_local zero x l e =
      chain_local (tree_list c 0) at good (st.inner_nodes x).first (children_of (c (st.inner_nodes x).bucket)) (st.inner_nodes x).end
      (chain_map (Below st.leaves st.inner_nodes IsLive 0) (λ q w a b. Local at good (set_keys (c q)) a b) (st.inner_nodes x).first (children_of (c (st.inner_nodes x).bucket)) (st.inner_nodes x).end
      (λ q w a b _ k. moved (λ q a b. Local at good (set_keys (c q)) a b) (st.leaves k.0).bucket q (st.leaves k.0).first a (st.leaves k.0).end b k.2 k.3 k.4 (leaf_local k.0 k.1))
      (subst (λ (n : ℕ). ChildRow (Below st.leaves st.inner_nodes IsLive n) (st.inner_nodes x).first (children_of (c (st.inner_nodes x).bucket)) (st.inner_nodes x).end) e (inner_fill x l)))
  tree_local (suc h) x l e =
      chain_local (tree_list c (suc h)) at good (st.inner_nodes x).first (children_of (c (st.inner_nodes x).bucket)) (st.inner_nodes x).end
      (chain_map (Below st.leaves st.inner_nodes IsLive (suc h)) (λ q w a b. Local at good (tree_list c (suc h) q) a b) (st.inner_nodes x).first (children_of (c (st.inner_nodes x).bucket)) (st.inner_nodes x).end
      (λ q w a b _ k. moved (λ q a b. Local at good (tree_list c (suc h) q) a b) (st.inner_nodes k.0).bucket q (st.inner_nodes k.0).first a (st.inner_nodes k.0).end b k.3 k.4 k.5 (tree_local h k.0 k.1 k.2))
      (subst (λ (n : ℕ). ChildRow (Below st.leaves st.inner_nodes IsLive n) (st.inner_nodes x).first (children_of (c (st.inner_nodes x).bucket)) (st.inner_nodes x).end) e (inner_fill x l)))

  tree_walk : (ok : ℕ → List NodeSet → Type 0)
      → ((i : ℕ) → IsLive (st.leaves i).role → ok (st.leaves i).bucket (c (st.leaves i).bucket)) → ((x : ℕ) → IsLive (st.inner_nodes x).role → ok (st.inner_nodes x).bucket (c (st.inner_nodes x).bucket))
      → (h x : ℕ) → IsLive (st.inner_nodes x).role → (st.inner_nodes x).height ≡ h → Walk ok c (suc h) (st.inner_nodes x).bucket
  tree_walk ok leaf inner zero x l e = (
    inner x l,
    chain_each (Below st.leaves st.inner_nodes IsLive 0) (Walk ok c 0) (st.inner_nodes x).first (children_of (c (st.inner_nodes x).bucket)) (st.inner_nodes x).end
        (λ q w a b k. subst (λ (n : ℕ). ok n (c n)) k.2 (leaf k.0 k.1))
        (subst (λ (n : ℕ). ChildRow (Below st.leaves st.inner_nodes IsLive n) (st.inner_nodes x).first (children_of (c (st.inner_nodes x).bucket)) (st.inner_nodes x).end) e (inner_fill x l)),
  )
  tree_walk ok leaf inner (suc h) x l e = (
    inner x l,
    chain_each (Below st.leaves st.inner_nodes IsLive (suc h)) (Walk ok c (suc h)) (st.inner_nodes x).first (children_of (c (st.inner_nodes x).bucket)) (st.inner_nodes x).end
        (λ q w a b k. subst (λ (n : ℕ). Walk ok c (suc h) n) k.3 (tree_walk ok leaf inner h k.0 k.1 k.2))
        (subst (λ (n : ℕ). ChildRow (Below st.leaves st.inner_nodes IsLive n) (st.inner_nodes x).first (children_of (c (st.inner_nodes x).bucket)) (st.inner_nodes x).end) e (inner_fill x l)),
  )

  leaf_named : (q w a b : ℕ) → Below st.leaves st.inner_nodes IsLive 0 q w a b → IsNamed (owners st.records.nodes) c 0 q w
  leaf_named q w a b k =
      subst (λ (n : ℕ). (st.records.nodes n).owner ≡ record { word = w; leaf = true }) k.2
      (fits.buckets.named k.0 (live_some (st.leaves k.0).role k.1) ∙ ap (λ (v : ℕ). owner_of v true) k.5)
    where
      owner_of : ℕ → Bool → Owner
      owner_of v t = record { word = v; leaf = t }

  tree_named : (h x : ℕ) → IsLive (st.inner_nodes x).role → (st.inner_nodes x).height ≡ h → IsNamed (owners st.records.nodes) c (suc h) (st.inner_nodes x).bucket (st.inner_nodes x).word
  tree_named zero x l e = (
    fits.buckets.inner_named x (live_some (st.inner_nodes x).role l),
    chain_child (Below st.leaves st.inner_nodes IsLive 0) (λ q w. IsNamed (owners st.records.nodes) c 0 q w) (st.inner_nodes x).first (children_of (c (st.inner_nodes x).bucket)) (st.inner_nodes x).end
        leaf_named
        (subst (λ (n : ℕ). ChildRow (Below st.leaves st.inner_nodes IsLive n) (st.inner_nodes x).first (children_of (c (st.inner_nodes x).bucket)) (st.inner_nodes x).end) e (inner_fill x l)),
  )
  tree_named (suc h) x l e = (
    fits.buckets.inner_named x (live_some (st.inner_nodes x).role l),
    chain_child (Below st.leaves st.inner_nodes IsLive (suc h)) (λ q w. IsNamed (owners st.records.nodes) c (suc h) q w) (st.inner_nodes x).first (children_of (c (st.inner_nodes x).bucket)) (st.inner_nodes x).end
        (λ q w a b k. subst (λ (v : ℕ). IsNamed (owners st.records.nodes) c (suc h) q v) k.6 (subst (λ (n : ℕ). IsNamed (owners st.records.nodes) c (suc h) n (st.inner_nodes k.0).word) k.3 (tree_named h k.0 k.1 k.2)))
        (subst (λ (n : ℕ). ChildRow (Below st.leaves st.inner_nodes IsLive n) (st.inner_nodes x).first (children_of (c (st.inner_nodes x).bucket)) (st.inner_nodes x).end) e (inner_fill x l)),
  )

  -- the same at a root that an entry names
  module _ (root level word : ℕ) (r : HasRoot st.inner_nodes st.end IsLive root level word) where
    root_local : Local at good (tree_list c level root) 0 st.end
    root_local =
        subst (λ (l : ℕ). Local at good (tree_list c l root) 0 st.end) r.3
        (moved (λ q a b. Local at good (tree_list c (suc (st.inner_nodes r.0).height) q) a b) (st.inner_nodes r.0).bucket root (st.inner_nodes r.0).first 0 (st.inner_nodes r.0).end st.end r.2 r.4 r.5 (tree_local (st.inner_nodes r.0).height r.0 r.1 refl))

    root_walk : (ok : ℕ → List NodeSet → Type 0)
        → ((i : ℕ) → IsLive (st.leaves i).role → ok (st.leaves i).bucket (c (st.leaves i).bucket)) → ((x : ℕ) → IsLive (st.inner_nodes x).role → ok (st.inner_nodes x).bucket (c (st.inner_nodes x).bucket))
        → Walk ok c level root
    root_walk ok leaf inner = subst (λ (l : ℕ). Walk ok c l root) r.3 (subst (λ (q : ℕ). Walk ok c (suc (st.inner_nodes r.0).height) q) r.2 (tree_walk ok leaf inner (st.inner_nodes r.0).height r.0 r.1 refl))

    root_named : IsNamed (owners st.records.nodes) c level root word
    root_named =
        subst (λ (v : ℕ). IsNamed (owners st.records.nodes) c level root v) r.6
        (subst (λ (l : ℕ). IsNamed (owners st.records.nodes) c l root (st.inner_nodes r.0).word) r.3
        (subst (λ (q : ℕ). IsNamed (owners st.records.nodes) c (suc (st.inner_nodes r.0).height) q (st.inner_nodes r.0).word) r.2 (tree_named (st.inner_nodes r.0).height r.0 r.1 refl)))

    whole : Walk Whole c level root
    whole = root_walk Whole leaf_some inner_some

    used_not : (p q : ℕ) → st.records.unused p ≡ true → st.records.unused q ≡ false → q ≢ p
    used_not p q a b e = no (st.records.unused p) a (ap st.records.unused (sym e) ∙ b)
      where
        no : (t : Bool) → t ≡ true → t ≡ false → ⊥
        no t a b = cc

    keeps : Keeps st.records.unused c level root
    keeps p is = root_walk (Other p) (λ i l. used_not p (st.leaves i).bucket is (fits.leaves.used i l)) (λ x l. used_not p (st.inner_nodes x).bucket is (fits.tree.inner_used x l))

    -- where no pending key that is durable has the sector, and the sent set is there or has nothing of it, the tree has what is durable
    tree_index : (s : ℕ)
        → ((i : ℕ) → IsLive (st.leaves i).role → (y : Pending) → In y (up_to st.records.newest.number (st.leaves i).pending) → Speaks y.key s → ⊥)
        → ((i : ℕ) → IsLive (st.leaves i).role → ((y : Pending) → In y (up_to st.records.newest.number (st.leaves i).pending) → Speaks y.key s → ⊥) → last_said (at i) s ≡ last_said (keys_of (st.sent (st.leaves i).bucket) ++ set_keys (st.records.nodes (st.leaves i).bucket).sets) s)
        → ref_said (last_said (tree_list c level root) s) ≡ ref_said (last_said st.records.index s)
    tree_index s pending sent =
        by_le st.end s (λ t. ref_said (last_said (tree_list c level root) s) ≡ ref_said (last_said st.records.index s))
        (λ ge. ap ref_said ((root_local s).1 (λ r. let r1 = r.1 in omega arith)) ∙ sym (fits.roots.index s ge))
        (λ lt.
        let k = (root_local s).0 (omega arith, lt) in
        let i = k.0 in
        let l = k.1.0 in
        ap ref_said (k.2 ∙ sent i l (pending i l) ∙ sym (append_none (keys_of (up_to st.records.newest.number (st.leaves i).pending)) (keys_of (st.sent (st.leaves i).bucket) ++ set_keys (st.records.nodes (st.leaves i).bucket).sets) s
        (none_of (up_to st.records.newest.number (st.leaves i).pending) s (λ y m. pending i l y m))))
        ∙ sym ((fits.leaves.keys i l).index s k.1.1))

  -- where neither the sent set nor a pending key that is durable has the sector
  sent_none : (i : ℕ) → IsLive (st.leaves i).role → (s : ℕ) → ((y : Pending) → In y (st.sent (st.leaves i).bucket) → Speaks y.key s → ⊥) → ((y : Pending) → In y (up_to st.records.newest.number (st.leaves i).pending) → Speaks y.key s → ⊥)
      → last_said (at i) s ≡ last_said (keys_of (st.sent (st.leaves i).bucket) ++ set_keys (st.records.nodes (st.leaves i).bucket).sets) s
  sent_none i l s none_ pend =
      let n = none_of (st.sent (st.leaves i).bucket) s none_ in
      let same = append_none (keys_of (st.sent (st.leaves i).bucket)) (set_keys (st.records.nodes (st.leaves i).bucket).sets) s n in
      elim (leaf_keys i l s) [
        | inl e ↦ e ∙ sym same
        | inr (inl e) ↦ e
        | inr (inr e) ↦ e.1 ∙ append_none (st.records.nodes (st.leaves i).bucket).last.keys (set_keys (st.records.nodes (st.leaves i).bucket).sets) s ((fits.leaves.lost i l e.0).held s pend) ∙ sym same
      ]

-- after a barrier the sent set is there
stable_at : (st : State) → Fits st → (c : NodeSets) → MayRead (λ p. stable_node (st.records.nodes p)) c → (i : ℕ) → IsLive (st.leaves i).role → (s : ℕ) → ((y : Pending) → In y (up_to st.records.newest.number (st.leaves i).pending) → Speaks y.key s → ⊥)
    → last_said (set_keys (c (st.leaves i).bucket)) s ≡ last_said (keys_of (st.sent (st.leaves i).bucket) ++ set_keys (st.records.nodes (st.leaves i).bucket).sets) s
stable_at st fits c choice i l s pend = go (two (stable_node (st.records.nodes (st.leaves i).bucket)) (c (st.leaves i).bucket) (stable_firm (st.records.nodes (st.leaves i).bucket) (fits.leaves.firm i l).0) (choice (st.leaves i).bucket))
  where
    no_true : false ≡ true → ⊥
    no_true e = cc

    was : MayStand (stable_node (st.records.nodes (st.leaves i).bucket)) → (st.records.nodes (st.leaves i).bucket).failed ≡ true
    was (inl e) = absurd (no_true e)
    was (inr e) = by_bool (st.records.nodes (st.leaves i).bucket).sent (λ t. (if t then false else (st.records.nodes (st.leaves i).bucket).failed) ≡ true → (st.records.nodes (st.leaves i).bucket).failed ≡ true) (λ _ x. absurd (no_true x)) (λ _ x. x) e

    go : (c (st.leaves i).bucket ≡ (stable_node (st.records.nodes (st.leaves i).bucket)).sets) ⊎ (MayStand (stable_node (st.records.nodes (st.leaves i).bucket)) × (c (st.leaves i).bucket ≡ (st.records.nodes (st.leaves i).bucket).last ∷ (stable_node (st.records.nodes (st.leaves i).bucket)).sets))
        → last_said (set_keys (c (st.leaves i).bucket)) s ≡ last_said (keys_of (st.sent (st.leaves i).bucket) ++ set_keys (st.records.nodes (st.leaves i).bucket).sets) s
    go (inl e) =
        let n = st.records.nodes (st.leaves i).bucket in
        ap (λ (ss : List NodeSet). last_said (set_keys ss) s) e ∙ sym (stable_keys n (st.sent (st.leaves i).bucket) s ((fits.leaves.node i l).last s))
    go (inr e) =
        let n = st.records.nodes (st.leaves i).bucket in
        ap (λ (ss : List NodeSet). last_said (set_keys ss) s) e.1
        ∙ append_none n.last.keys (set_keys (stable_node n).sets) s ((fits.leaves.lost i l (was e.0)).held s pend)
        ∙ sym (stable_keys n (st.sent (st.leaves i).bucket) s ((fits.leaves.node i l).last s))

-- a list of entries in front: what it has is right, and where it has nothing the tree is
behind : (es : List Entry) (tree index : List Key) (s : ℕ) → ((r : Option Ref) → last_said (all_keys es) s ≡ Some r → ref_said (Some r) ≡ ref_said (last_said index s)) → (last_said (all_keys es) s ≡ None → ref_said (last_said tree s) ≡ ref_said (last_said index s))
    → last_ref (all_keys es ++ tree) s ≡ last_ref index s
behind es tree index s hit none_ =
    sym (said_ref (all_keys es ++ tree) s) ∙ elim (some_or_none (last_said (all_keys es) s)) [
      | inl k ↦ ap ref_said (last_append (all_keys es) tree s ∙ ap (λ (o : Option (Option Ref)). or_else o (last_said tree s)) k.1) ∙ hit k.0 k.1
      | inr n ↦ ap ref_said (append_none (all_keys es) tree s n) ∙ none_ n
    ] ∙ said_ref index s

module _ (st : State) (fits : Fits st) (cov : Covered st.records) where
  -- a key that is kept, with a number from `later` on, is in the entries from there on
  kept_live : (later : ℕ) (y : Pending) (s : ℕ) → later ≤ y.number → IsKept (journal_of st.records) y → last_said (all_keys (live later (st.records.newest ∷ st.records.older))) s ≡ None → Speaks y.key s → ⊥
  kept_live later y s le k clear c =
      let k2 = k.2 in
      elim (in_live st.records.newest.last_seq later (st.records.newest ∷ st.records.older) (suc st.records.newest.number) k.0 cov.count k.1) [
        | inl lt ↦ absurd (omega arith)
        | inr m ↦ (let h = entry_hit (live later (st.records.newest ∷ st.records.older)) k.0 s m (k.3 s c) in not_both _ h.0 h.1 clear)
      ]

  kept_all : (y : Pending) (s : ℕ) → IsKept (journal_of st.records) y → last_said (all_keys (st.records.newest ∷ st.records.older)) s ≡ None → Speaks y.key s → ⊥
  kept_all y s k clear c = let h = entry_hit (st.records.newest ∷ st.records.older) k.0 s k.1 (k.3 s c) in not_both _ h.0 h.1 clear

  pub reads_durable : Reads st.records.nodes st.records.unused (st.records.newest ∷ st.records.older) st.records.index st.records.newest.level st.records.newest.root st.records.newest.word
  reads_durable c choice = (
    (λ s. behind (st.records.newest ∷ st.records.older) (tree_list c st.records.newest.level st.records.newest.root) st.records.index s (cov.durable s)
        (λ clear. tree_index st fits c choice st.records.newest.root st.records.newest.level st.records.newest.word fits.roots.newest s
        (λ i l y m. kept_all y s ((fits.leaves.keys i l).kept y (inl m)) clear)
        (λ i l pend. sent_none st fits c choice i l s (λ y m. kept_all y s ((fits.leaves.keys i l).kept y (inr m)) clear) pend))),
    whole st fits c choice st.records.newest.root st.records.newest.level st.records.newest.word fits.roots.newest,
    keeps st fits c choice st.records.newest.root st.records.newest.level st.records.newest.word fits.roots.newest,
    root_named st fits c choice st.records.newest.root st.records.newest.level st.records.newest.word fits.roots.newest,
  )

  any_choice : (g : Stage) (c : NodeSets) → MayRead (λ p. settled_node g (st.records.nodes p)) c → MayRead st.records.nodes c
  any_choice Nothing c h = h
  any_choice Fixed c h = barrier_fewer st.records.nodes c h
  any_choice Ready c h = h
  any_choice Sent c h = h
  any_choice Safe c h = h

  -- the sent set is there, or the entries from the sealed one's last_seq on have its keys
  settled_at : (g : Stage) → g ≢ Nothing → st.records.stage ≡ g → (c : NodeSets) → MayRead (λ p. settled_node g (st.records.nodes p)) c → (s : ℕ) → last_said (all_keys (live st.records.entry.last_seq (st.records.newest ∷ st.records.older))) s ≡ None
      → (i : ℕ) → IsLive (st.leaves i).role → ((y : Pending) → In y (up_to st.records.newest.number (st.leaves i).pending) → Speaks y.key s → ⊥) → last_said (set_keys (c (st.leaves i).bucket)) s ≡ last_said (keys_of (st.sent (st.leaves i).bucket) ++ set_keys (st.records.nodes (st.leaves i).bucket).sets) s
  settled_at Nothing ne e c h s clear i l pend = absurd (ne refl)
  settled_at Fixed ne e c h s clear i l pend = stable_at st fits c h i l s pend
  settled_at Ready ne e c h s clear i l pend = sent_none st fits c h i l s (λ y m. kept_live st.records.entry.last_seq y s ((fits.leaves.keys i l).sent_low (subst IsReady (sym e) tt) y m) ((fits.leaves.keys i l).kept y (inr m)) clear) pend
  settled_at Sent ne e c h s clear i l pend = sent_none st fits c h i l s (λ y m. kept_live st.records.entry.last_seq y s ((fits.leaves.keys i l).sent_low (subst IsReady (sym e) tt) y m) ((fits.leaves.keys i l).kept y (inr m)) clear) pend
  settled_at Safe ne e c h s clear i l pend = sent_none st fits c h i l s (λ y m. kept_live st.records.entry.last_seq y s ((fits.leaves.keys i l).sent_low (subst IsReady (sym e) tt) y m) ((fits.leaves.keys i l).kept y (inr m)) clear) pend

  pub reads_sealed : st.records.stage ≢ Nothing → Reads (λ p. settled_node st.records.stage (st.records.nodes p)) st.records.unused (st.records.entry ∷ live st.records.entry.last_seq (st.records.newest ∷ st.records.older)) (st.records.entry.keys ++ st.records.index) st.records.entry.level st.records.entry.root st.records.entry.word
  reads_sealed ne c choice =
      let any = any_choice st.records.stage c choice in
      let r = fits.roots.entry ne in
      let rest = all_keys (live st.records.entry.last_seq (st.records.newest ∷ st.records.older)) in (
        (λ s. behind (st.records.entry ∷ live st.records.entry.last_seq (st.records.newest ∷ st.records.older)) (tree_list c st.records.entry.level st.records.entry.root) (st.records.entry.keys ++ st.records.index) s (cov.sealed ne s)
            (λ clear.
            let old = none_right st.records.entry.keys rest s clear in
            tree_index st fits c any st.records.entry.root st.records.entry.level st.records.entry.word r s
            (λ i l y m. kept_live st.records.entry.last_seq y s ((fits.leaves.keys i l).low ne y (in_upto st.records.newest.number (st.leaves i).pending y m)) ((fits.leaves.keys i l).kept y (inl m)) old)
            (λ i l pend. settled_at st.records.stage ne refl c choice s old i l pend)
            ∙ sym (ap ref_said (append_none st.records.entry.keys st.records.index s (none_left st.records.entry.keys rest s clear))))),
        whole st fits c any st.records.entry.root st.records.entry.level st.records.entry.word r,
        keeps st fits c any st.records.entry.root st.records.entry.level st.records.entry.word r,
        named_same (owners st.records.nodes) (owners (λ p. settled_node st.records.stage (st.records.nodes p))) c (λ p. settled_owner st.records.stage (st.records.nodes p)) st.records.entry.level st.records.entry.root st.records.entry.word
            (root_named st fits c any st.records.entry.root st.records.entry.level st.records.entry.word r),
      )

  -- what an entry asks that is sealed with this root
  pub reads_seal : (needed root level word : ℕ) → ((i : ℕ) → (st.leaves i).role ≢ NoNode → AllFrom needed (st.leaves i).pending) → HasRoot st.inner_nodes st.end IsLive root level word
      → Reads (λ p. stable_node (st.records.nodes p)) st.records.unused (live needed (st.records.newest ∷ st.records.older)) st.records.index level root word
  reads_seal needed root level word from r c choice =
      let any = barrier_fewer st.records.nodes c choice in (
        (λ s. behind (live needed (st.records.newest ∷ st.records.older)) (tree_list c level root) st.records.index s (cov.live needed s)
            (λ clear. tree_index st fits c any root level word r s
            (λ i l y m. kept_live needed y s (from i (live_some (st.leaves i).role l) y (in_upto st.records.newest.number (st.leaves i).pending y m)) ((fits.leaves.keys i l).kept y (inl m)) clear)
            (λ i l pend. stable_at st fits c choice i l s pend))),
        whole st fits c any root level word r,
        keeps st fits c any root level word r,
        named_same (owners st.records.nodes) (owners (λ p. stable_node (st.records.nodes p))) c (λ p. refl) level root word (root_named st fits c any root level word r),
      )
