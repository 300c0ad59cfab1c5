-- A crash content opened: the parts that its tree and its entries make fit.
use Rattle.std.proofs.Common.{◌≡◌, ◌≢◌, ◌⊎◌, inl, inr, ℕ, zero, suc, ◌≤◌, Bool, true, false, List, [], ◌∷◌, ◌++◌, None, refl, sym, ap, ◌∙◌, subst, arith}
use Rattle.bc_model.specs.Sector.{Image}
use Rattle.bc_key.specs.declared.key.Key.{Key}
use Rattle.bc_meta.specs.Tree.{Child, NodeSets, Owner, children_of, forest, set_keys, tree_list}
use Rattle.bc_meta.specs.Entries.{Entry, all_keys, live}
use Rattle.bc_meta.specs.Laws.{Finds, IsSound, Opening, Survives, opened, reached}
use Rattle.bc_meta.specs.Facts.{In}
use Rattle.bc_meta.specs.Records.{IsReady, MayRead, Records, opened_records, owners}
use Rattle.bc_meta.specs.Layout.{Layout, node_sets}
use Rattle.bc_meta.specs.Keys.{last_ref}
use Rattle.bc_meta.proofs.Keep.{Inv, ready_some}
use Rattle.bc_meta.proofs.Left.{inv_opened}
use Rattle.bc_meta.proofs.Acts.{law_crash}
use Rattle.bc_meta.proofs.Good.{ready_choice}
use Rattle.bc_leaves_runs.specs.Reopen.{AllReplay, LawNextParts, LawReopen, OpensAs, Reopens, Replays, each, found, inner_nodes_at, leaves_at, reopened}
use Rattle.bc_leaves.specs.Rows.{Below, ChildRow, Fills}
use Rattle.bc_leaves.specs.Parts.{Coming, Draft, Free, InRange, IsLive, Leaving, NoNode, Pending, Role, State, Stays, keys_of}
use Rattle.bc_leaves.specs.Fits.{Fits, HasRoot, LeafKeys, journal_of}
use Rattle.bc_leaves.specs.Laws.{acts_of, parts_of}
use Rattle.bc_leaves.specs.After.{fold, has}
use Rattle.bc_leaves.specs.Keys.{last_said, ref_said}
use Rattle.bc_leaves.proofs.Law.{JoinsFrom, goes, inv_after, joins, sound_inv}
use Rattle.bc_leaves.proofs.Chains.{Local, append_clear, chain_local, chain_map, chain_up, has_in, in_has}
use Rattle.bc_leaves.proofs.Pend.{append_both, append_none, beyond_head, in_upto, ordered_in, ordered_more, upto_head}
use Rattle.bc_leaves.proofs.Contents.{at, good, inner_fill, inner_some, leaf_local, leaf_out, leaf_some, live_some, tree_local}
use Rattle.bc_leaves.proofs.Said.{said_ref}

chain_mem : (P Q : ℕ → ℕ → ℕ → ℕ → Type 0) (a : ℕ) (ks : List Child) (b : ℕ) → ((k : Child) → In k ks → (m : ℕ) → P k.bucket k.word m k.end → Q k.bucket k.word m k.end) → ChildRow P a ks b → ChildRow Q a ks b
chain_mem P Q a [] b f h = h
chain_mem P Q a (k ∷ ks) b f h = (h.0, f k (inl refl) a h.1, chain_mem P Q k.end ks b (λ x m. f x (inr m)) h.2)

chain_member : (P : ℕ → ℕ → ℕ → ℕ → Type 0) (a : ℕ) (ks : List Child) (b : ℕ) (k : Child) → ChildRow P a ks b → In k ks → (m : ℕ) × P k.bucket k.word m k.end
chain_member P a [] b k h i = absurd i
chain_member P a (x ∷ xs) b k h i = elim i [ inl e ↦ (a, subst (λ (y : Child). P y.bucket y.word a y.end) (sym e) h.1) | inr r ↦ chain_member P x.end xs b k h.2 r ]

pub in_join : {A : Type 0} → (xs ys : List A) (x : A) → In x (xs ++ ys) → In x xs ⊎ In x ys
in_join [] ys x i = inr i
in_join (y ∷ xs) ys x i = elim i [ inl e ↦ inl (inl e) | inr r ↦ elim (in_join xs ys x r) [ inl a ↦ inl (inr a) | inr b ↦ inr b ] ]

join_left : {A : Type 0} → (xs ys : List A) (x : A) → In x xs → In x (xs ++ ys)
join_left [] ys x i = absurd i
join_left (y ∷ xs) ys x i = elim i [ inl e ↦ inl e | inr r ↦ inr (join_left xs ys x r) ]

join_right : {A : Type 0} → (xs ys : List A) (x : A) → In x ys → In x (xs ++ ys)
join_right [] ys x i = i
join_right (y ∷ xs) ys x i = inr (join_right xs ys x i)

in_each : (f : ℕ → List ℕ) (ks : List Child) (k : Child) (p : ℕ) → In k ks → In p (f k.bucket) → In p (each f ks)
in_each f [] k p i m = absurd i
in_each f (x ∷ xs) k p i m = elim i [ inl e ↦ join_left (f x.bucket) (each f xs) p (subst (λ (y : Child). In p (f y.bucket)) e m) | inr r ↦ join_right (f x.bucket) (each f xs) p (in_each f xs k p r m) ]

each_in : (f : ℕ → List ℕ) (ks : List Child) (p : ℕ) → In p (each f ks) → (k : Child) × In k ks × In p (f k.bucket)
each_in f [] p i = absurd i
each_in f (x ∷ xs) p i = elim (in_join (f x.bucket) (each f xs) p i) [ inl m ↦ (x, inl refl, m) | inr r ↦ (let k = each_in f xs p r in (k.0, inr k.1, k.2)) ]

found_live : (r : Role) (t : Bool) → IsLive (found r t) → IsLive r × (t ≡ true)
found_live NoNode t l = absurd l
found_live Draft t l = absurd l
found_live Free true l = (tt, refl)
found_live Free false l = absurd l
found_live Leaving true l = (tt, refl)
found_live Leaving false l = absurd l
found_live Coming true l = (tt, refl)
found_live Coming false l = absurd l

live_found : (r : Role) → IsLive r → found r true ≡ Free
live_found NoNode l = absurd l
live_found Draft l = absurd l
live_found Free l = refl
live_found Leaving l = refl
live_found Coming l = refl

found_some : (r : Role) (t : Bool) → found r t ≢ NoNode → IsLive r
found_some NoNode t ne = absurd (ne refl)
found_some Draft t ne = absurd (ne refl)
found_some Free t ne = tt
found_some Leaving t ne = tt
found_some Coming t ne = tt

found_draft : (r : Role) (t : Bool) → found r t ≡ Draft → ⊥
found_draft NoNode t e = cc
found_draft Draft t e = cc
found_draft Free true e = cc
found_draft Free false e = cc
found_draft Leaving true e = cc
found_draft Leaving false e = cc
found_draft Coming true e = cc
found_draft Coming false e = cc

module _ (st : State) (fits : Fits st) (c : NodeSets) (choice : MayRead st.records.nodes c) where
  -- what a walk that meets these leaves has at their sectors, and that no two of them overlap
  abbrev pub Reached : List ℕ → List Key → ℕ → ℕ → Type 0
  Reached ls ks a b =
      ((j : ℕ) → IsLive (st.leaves j).role → In (st.leaves j).bucket ls → (a ≤ (st.leaves j).first) × ((st.leaves j).end ≤ b) × ((s : ℕ) → InRange (st.leaves j) s → last_said ks s ≡ last_said (at st fits c choice j) s))
      × ((i j s : ℕ) → IsLive (st.leaves i).role → IsLive (st.leaves j).role → In (st.leaves i).bucket ls → In (st.leaves j).bucket ls → InRange (st.leaves i) s → InRange (st.leaves j) s → i ≡ j)

  abbrev pub Both : (ℕ → List ℕ) → (ℕ → List Key) → ℕ → ℕ → ℕ → Type 0
  Both ls f q a b = Reached (ls q) (f q) a b × Local (at st fits c choice) (good st fits c choice) (f q) a b

  chain_reached : (ls : ℕ → List ℕ) (f : ℕ → List Key) (a : ℕ) (ks : List Child) (b : ℕ) → ChildRow (λ q w a b. Both ls f q a b) a ks b → Reached (each ls ks) (forest f ks) a b
  chain_reached ls f a [] b h = ((λ j l m. absurd m), λ i j s li lj mi. absurd mi)
  chain_reached ls f a (k ∷ ks) b h = front (chain_reached ls f k.end ks b h.2)
    where
      tail : Local (at st fits c choice) (good st fits c choice) (forest f ks) k.end b
      tail = chain_local f (at st fits c choice) (good st fits c choice) k.end ks b (chain_map (λ q w a b. Both ls f q a b) (λ q w m n. Local (at st fits c choice) (good st fits c choice) (f q) m n) k.end ks b (λ q w m n _ x. x.1) h.2)

      up : k.end ≤ b
      up = chain_up f (at st fits c choice) (good st fits c choice) k.end ks b (chain_map (λ q w a b. Both ls f q a b) (λ q w m n. Local (at st fits c choice) (good st fits c choice) (f q) m n) k.end ks b (λ q w m n _ x. x.1) h.2)

      front : Reached (each ls ks) (forest f ks) k.end b → Reached (ls k.bucket ++ each ls ks) (forest f ks ++ f k.bucket) a b
      front ih = (
        λ j l m.
            let h0 = h.0 in
            let u = up in
            elim (in_join (ls k.bucket) (each ls ks) (st.leaves j).bucket m) [
              | inl x ↦ (let r = h.1.0.0 j l x in let r1 = r.1 in (r.0, omega arith, λ s g. let g1 = g.1 in append_none (forest f ks) (f k.bucket) s ((tail s).1 (λ z. let z0 = z.0 in omega arith)) ∙ r.2 s g))
              | inr x ↦ (let r = ih.0 j l x in let r0 = r.0 in (omega arith, r.1, λ s g. let g0 = g.0 in append_clear (forest f ks) (f k.bucket) s ((h.1.1 s).1 (λ z. let z1 = z.1 in omega arith)) ∙ r.2 s g))
            ],
        λ i j s li lj mi mj gi gj.
            let gi0 = gi.0 in
            let gi1 = gi.1 in
            let gj0 = gj.0 in
            let gj1 = gj.1 in
            elim (in_join (ls k.bucket) (each ls ks) (st.leaves i).bucket mi) [
              | inl x ↦ elim (in_join (ls k.bucket) (each ls ks) (st.leaves j).bucket mj) [
                | inl y ↦ h.1.0.1 i j s li lj x y gi gj
                | inr y ↦ (let r = (h.1.0.0 i li x).1 in let t = (ih.0 j lj y).0 in absurd (omega arith))
              ]
              | inr x ↦ elim (in_join (ls k.bucket) (each ls ks) (st.leaves j).bucket mj) [
                | inl y ↦ (let r = (h.1.0.0 j lj y).1 in let t = (ih.0 i li x).0 in absurd (omega arith))
                | inr y ↦ ih.1 i j s li lj x y gi gj
              ]
            ],
      )

  leaf_reached : (q w a b : ℕ) → Below st.leaves st.inner_nodes IsLive 0 q w a b → Both (leaves_at c 0) (tree_list c 0) q a b
  leaf_reached q w a b k = (
    (
      λ j l m. elim m [
        | inl e ↦ (let same = one j l e in
            (subst (λ (n : ℕ). a ≤ (st.leaves n).first) (sym same) (let k3 = k.3 in omega arith), subst (λ (n : ℕ). (st.leaves n).end ≤ b) (sym same) (let k4 = k.4 in omega arith), λ s g. ap (λ (n : ℕ). last_said (set_keys (c n)) s) (sym e)))
        | inr n ↦ absurd n
      ],
      λ i j s li lj mi mj gi gj. elim mi [ inl e ↦ elim mj [ inl f ↦ fits.buckets.one_leaf i j (live_some (st.leaves i).role li) (live_some (st.leaves j).role lj) (e ∙ sym f) | inr n ↦ absurd n ] | inr n ↦ absurd n ],
    ),
    subst (λ (n : ℕ). Local (at st fits c choice) (good st fits c choice) (set_keys (c q)) a n) k.4
        (subst (λ (n : ℕ). Local (at st fits c choice) (good st fits c choice) (set_keys (c q)) n (st.leaves k.0).end) k.3
        (subst (λ (n : ℕ). Local (at st fits c choice) (good st fits c choice) (set_keys (c n)) (st.leaves k.0).first (st.leaves k.0).end) k.2 (leaf_local st fits c choice k.0 k.1))),
  )
    where
      one : (j : ℕ) → IsLive (st.leaves j).role → (st.leaves j).bucket ≡ q → j ≡ k.0
      one j l e = fits.buckets.one_leaf j k.0 (live_some (st.leaves j).role l) (live_some (st.leaves k.0).role k.1) (e ∙ sym k.2)

  moved : (F : ℕ → ℕ → ℕ → Type 0) (p q m a n b : ℕ) → p ≡ q → m ≡ a → n ≡ b → F p m n → F q a b
  moved F p q m a n b e f g h = subst (λ (x : ℕ). F q a x) g (subst (λ (x : ℕ). F q x n) f (subst (λ (x : ℕ). F x m n) e h))

  inner_reached : (h x : ℕ) → IsLive (st.inner_nodes x).role → (st.inner_nodes x).height ≡ h → Both (leaves_at c (suc h)) (tree_list c (suc h)) (st.inner_nodes x).bucket (st.inner_nodes x).first (st.inner_nodes x).end
  inner_reached zero x l e = (
    chain_reached (leaves_at c 0) (tree_list c 0) (st.inner_nodes x).first (children_of (c (st.inner_nodes x).bucket)) (st.inner_nodes x).end
        (chain_map (Below st.leaves st.inner_nodes IsLive 0) (λ q w a b. Both (leaves_at c 0) (tree_list c 0) q a b) (st.inner_nodes x).first (children_of (c (st.inner_nodes x).bucket)) (st.inner_nodes x).end (λ q w a b _ k. leaf_reached q w a b k)
        (subst (λ (n : ℕ). ChildRow (Below st.leaves st.inner_nodes IsLive n) (st.inner_nodes x).first (children_of (c (st.inner_nodes x).bucket)) (st.inner_nodes x).end) e (inner_fill st fits c choice x l))),
    tree_local st fits c choice zero x l e,
  )
  inner_reached (suc h) x l e = (
    chain_reached (leaves_at c (suc h)) (tree_list c (suc h)) (st.inner_nodes x).first (children_of (c (st.inner_nodes x).bucket)) (st.inner_nodes x).end
        (chain_map (Below st.leaves st.inner_nodes IsLive (suc h)) (λ q w a b. Both (leaves_at c (suc h)) (tree_list c (suc h)) q a b) (st.inner_nodes x).first (children_of (c (st.inner_nodes x).bucket)) (st.inner_nodes x).end
        (λ q w a b _ k. moved (Both (leaves_at c (suc h)) (tree_list c (suc h))) (st.inner_nodes k.0).bucket q (st.inner_nodes k.0).first a (st.inner_nodes k.0).end b k.3 k.4 k.5 (inner_reached h k.0 k.1 k.2))
        (subst (λ (n : ℕ). ChildRow (Below st.leaves st.inner_nodes IsLive n) (st.inner_nodes x).first (children_of (c (st.inner_nodes x).bucket)) (st.inner_nodes x).end) e (inner_fill st fits c choice x l))),
    tree_local st fits c choice (suc h) x l e,
  )

  -- the children of an inner node that is met are met
  abbrev pub Closed : ℕ → ℕ → Type 0
  Closed l q = (x : ℕ) → IsLive (st.inner_nodes x).role → In (st.inner_nodes x).bucket (inner_nodes_at c l q) → (k : Child) → In k (children_of (c (st.inner_nodes x).bucket))
      → ((st.inner_nodes x).height ≡ 0 → In k.bucket (leaves_at c l q)) × ((m : ℕ) → (st.inner_nodes x).height ≡ suc m → In k.bucket (inner_nodes_at c l q))

  closed : (h y : ℕ) → IsLive (st.inner_nodes y).role → (st.inner_nodes y).height ≡ h → Closed (suc h) (st.inner_nodes y).bucket
  closed zero y ly e x lx m k i = elim m [
    | inl same ↦ (
        let is : x ≡ y = fits.buckets.one_inner x y (live_some (st.inner_nodes x).role lx) (live_some (st.inner_nodes y).role ly) same in
        let j = subst (λ (n : ℕ). In k (children_of (c n))) same i in
        let hx = ap (λ (n : ℕ). (st.inner_nodes n).height) is ∙ e in
        ((λ z. in_each (leaves_at c 0) (children_of (c (st.inner_nodes y).bucket)) k k.bucket j (inl refl)), λ n z. absurd (omega arith)))
    | inr r ↦ (let w = each_in (inner_nodes_at c 0) (children_of (c (st.inner_nodes y).bucket)) (st.inner_nodes x).bucket r in absurd w.2)
  ]
  closed (suc h) y ly e x lx m k i = elim m [
    | inl same ↦ (
        let is : x ≡ y = fits.buckets.one_inner x y (live_some (st.inner_nodes x).role lx) (live_some (st.inner_nodes y).role ly) same in
        let j = subst (λ (n : ℕ). In k (children_of (c n))) same i in
        let hx = ap (λ (n : ℕ). (st.inner_nodes n).height) is ∙ e in
        ((λ z. absurd (omega arith)), λ n z. inr (in_each (inner_nodes_at c (suc h)) (children_of (c (st.inner_nodes y).bucket)) k k.bucket j (inl refl))))
    | inr r ↦ (
        let w = each_in (inner_nodes_at c (suc h)) (children_of (c (st.inner_nodes y).bucket)) (st.inner_nodes x).bucket r in
        let b = (chain_member (Below st.leaves st.inner_nodes IsLive (suc h)) (st.inner_nodes y).first (children_of (c (st.inner_nodes y).bucket)) (st.inner_nodes y).end w.0
        (subst (λ (n : ℕ). ChildRow (Below st.leaves st.inner_nodes IsLive n) (st.inner_nodes y).first (children_of (c (st.inner_nodes y).bucket)) (st.inner_nodes y).end) e (inner_fill st fits c choice y ly)) w.1).1 in
        let ih = closed h b.0 b.1 b.2 x lx (subst (λ (n : ℕ). In (st.inner_nodes x).bucket (inner_nodes_at c (suc h) n)) (sym b.3) w.2) k i in (
          (λ z. in_each (leaves_at c (suc h)) (children_of (c (st.inner_nodes y).bucket)) w.0 k.bucket w.1 (subst (λ (n : ℕ). In k.bucket (leaves_at c (suc h) n)) b.3 (ih.0 z))),
          λ n z. inr (in_each (inner_nodes_at c (suc h)) (children_of (c (st.inner_nodes y).bucket)) w.0 k.bucket w.1 (subst (λ (n : ℕ). In k.bucket (inner_nodes_at c (suc h) n)) b.3 (ih.1 n z))),
        ))
  ]

  -- read from this root, behind these entries
  module _ (newest : Entry) (older : List Entry) (ring : ℕ → List Entry) (bucket : ℕ) (pending : ℕ → List Pending) (root : HasRoot st.inner_nodes st.end IsLive newest.root newest.level newest.word)
      (replays : (k : ℕ) → Replays (st.leaves k).first (st.leaves k).end newest older (pending k)) (beyond_end : (s : ℕ) → st.end ≤ s → ref_said (last_said (all_keys (newest ∷ older) ++ tree_list c newest.level newest.root) s) ≡ None) where
    both : Both (leaves_at c newest.level) (tree_list c newest.level) newest.root 0 st.end
    both =
        subst (λ (l : ℕ). Both (leaves_at c l) (tree_list c l) newest.root 0 st.end) root.3
        (moved (Both (leaves_at c (suc (st.inner_nodes root.0).height)) (tree_list c (suc (st.inner_nodes root.0).height))) (st.inner_nodes root.0).bucket newest.root (st.inner_nodes root.0).first 0 (st.inner_nodes root.0).end st.end root.2 root.4 root.5 (inner_reached (st.inner_nodes root.0).height root.0 root.1 refl))

    close : Closed newest.level newest.root
    close = subst (λ (l : ℕ). Closed l newest.root) root.3 (subst (λ (q : ℕ). Closed (suc (st.inner_nodes root.0).height) q) root.2 (closed (st.inner_nodes root.0).height root.0 root.1 refl))

    root_met : In newest.root (inner_nodes_at c newest.level newest.root)
    root_met = subst (λ (l : ℕ). In newest.root (inner_nodes_at c l newest.root)) root.3 (inl refl)

    leaf_was : (k : ℕ) → IsLive (found (st.leaves k).role (has (leaves_at c newest.level newest.root) (st.leaves k).bucket)) → IsLive (st.leaves k).role × In (st.leaves k).bucket (leaves_at c newest.level newest.root)
    leaf_was k l = let r = found_live (st.leaves k).role (has (leaves_at c newest.level newest.root) (st.leaves k).bucket) l in (r.0, in_has (leaves_at c newest.level newest.root) (st.leaves k).bucket r.1)

    inner_was : (x : ℕ) → IsLive (found (st.inner_nodes x).role (has (inner_nodes_at c newest.level newest.root) (st.inner_nodes x).bucket)) → IsLive (st.inner_nodes x).role × In (st.inner_nodes x).bucket (inner_nodes_at c newest.level newest.root)
    inner_was x l = let r = found_live (st.inner_nodes x).role (has (inner_nodes_at c newest.level newest.root) (st.inner_nodes x).bucket) l in (r.0, in_has (inner_nodes_at c newest.level newest.root) (st.inner_nodes x).bucket r.1)

    leaf_free : (k : ℕ) → IsLive (st.leaves k).role → In (st.leaves k).bucket (leaves_at c newest.level newest.root) → found (st.leaves k).role (has (leaves_at c newest.level newest.root) (st.leaves k).bucket) ≡ Free
    leaf_free k l m = ap (λ (t : Bool). found (st.leaves k).role t) (has_in (leaves_at c newest.level newest.root) (st.leaves k).bucket m) ∙ live_found (st.leaves k).role l

    inner_free : (x : ℕ) → IsLive (st.inner_nodes x).role → In (st.inner_nodes x).bucket (inner_nodes_at c newest.level newest.root) → found (st.inner_nodes x).role (has (inner_nodes_at c newest.level newest.root) (st.inner_nodes x).bucket) ≡ Free
    inner_free x l m = ap (λ (t : Bool). found (st.inner_nodes x).role t) (has_in (inner_nodes_at c newest.level newest.root) (st.inner_nodes x).bucket m) ∙ live_found (st.inner_nodes x).role l

    now_fill : (P : Role → Type 0) → P Free → (x : ℕ) → IsLive (st.inner_nodes x).role → In (st.inner_nodes x).bucket (inner_nodes_at c newest.level newest.root)
        → Fills (reopened st c newest older ring bucket pending).leaves (reopened st c newest older ring bucket pending).inner_nodes P (st.inner_nodes x) (children_of (c (st.inner_nodes x).bucket))
    now_fill P free x l m =
        chain_mem (Below st.leaves st.inner_nodes IsLive (st.inner_nodes x).height) (Below (reopened st c newest older ring bucket pending).leaves (reopened st c newest older ring bucket pending).inner_nodes P (st.inner_nodes x).height)
        (st.inner_nodes x).first (children_of (c (st.inner_nodes x).bucket)) (st.inner_nodes x).end (λ k i a b. one (st.inner_nodes x).height refl k i a b) (inner_fill st fits c choice x l)
      where
        one : (h : ℕ) → (st.inner_nodes x).height ≡ h → (k : Child) → In k (children_of (c (st.inner_nodes x).bucket)) → (a : ℕ) → Below st.leaves st.inner_nodes IsLive h k.bucket k.word a k.end → Below (reopened st c newest older ring bucket pending).leaves (reopened st c newest older ring bucket pending).inner_nodes P h k.bucket k.word a k.end
        one zero e k i a b = (b.0, subst P (sym (leaf_free b.0 b.1 (subst (λ (n : ℕ). In n (leaves_at c newest.level newest.root)) (sym b.2) ((close x l m k i).0 e)))) free, b.2, b.3, b.4, b.5)
        one (suc h) e k i a b = (b.0, subst P (sym (inner_free b.0 b.1 (subst (λ (n : ℕ). In n (inner_nodes_at c newest.level newest.root)) (sym b.3) ((close x l m k i).1 h e)))) free, b.2, b.3, b.4, b.5, b.6)

    numbers : (k : ℕ) (y : Pending) → In y (pending k) → y.number ≤ newest.number
    numbers k y i = ordered_in newest.number (pending k) y (replays k).ordered i

    now_keys : (k : ℕ) → IsLive (st.leaves k).role → In (st.leaves k).bucket (leaves_at c newest.level newest.root) → LeafKeys (journal_of (reopened st c newest older ring bucket pending).records) (c (st.leaves k).bucket) [] ((reopened st c newest older ring bucket pending).leaves k)
    now_keys k l m =
        let p : List Pending = pending k in
        let T : List Key = tree_list c newest.level newest.root in
        record {
          waiting = λ s r. sym (ap (λ (x : List Pending). last_said (keys_of x) s) (beyond_head newest.number (pending k) (numbers k)));
          sealed = λ ne. absurd (ne refl);
          index = λ s r.
              ap ref_said (append_both (all_keys (newest ∷ older)) T (keys_of p) (set_keys (c (st.leaves k).bucket)) s (sym ((replays k).same s r.0 r.1)) ((both.0.0 k l m).2 s r)
              ∙ ap (λ (x : List Pending). last_said (keys_of x ++ set_keys (c (st.leaves k).bucket)) s) (sym (upto_head newest.number p (numbers k))));
          ordered = ordered_more newest.number (suc newest.number) (pending k) (omega arith) (replays k).ordered;
          kept = λ y i. elim i [
            | inl a ↦ (let r = (replays k).of_entry y (in_upto newest.number p y a) in let e = r.2 in (r.0, r.1, omega arith, r.3))
            | inr n ↦ absurd n
          ];
          low = λ ne. absurd (ne refl);
          sent_low = λ r. absurd r;
        }

    now_root : (P : Role → Type 0) → P Free → HasRoot (reopened st c newest older ring bucket pending).inner_nodes st.end P newest.root newest.level newest.word
    now_root P free = (root.0, subst P (sym (inner_free root.0 root.1 (subst (λ (q : ℕ). In q (inner_nodes_at c newest.level newest.root)) (sym root.2) root_met))) free, root.2, root.3, root.4, root.5, root.6)

    pub reopened_fits : Fits (reopened st c newest older ring bucket pending)
    reopened_fits = record {
      leaves = record {
        node = λ k l. let w = leaf_was k l in record {
          last = λ s. refl;
          sets_inside = λ s out. leaf_out st fits c choice k w.0 s out;
          sent_inside = λ s out. refl;
          pending_inside = λ s out. (replays k).inside s out;
        };
        firm = λ k l. let w = leaf_was k l in (fits.leaves.used k w.0, leaf_some st fits c choice k w.0);
        keys = λ k l. let w = leaf_was k l in now_keys k w.0 w.1;
        used = λ k l. fits.leaves.used k (leaf_was k l).0;
        below = λ k l. fits.leaves.below k (leaf_was k l).0;
        fresh = λ k l e. absurd (no_true e);
        lost = λ k l e. absurd (no_true e);
        apart = λ i k s li lk ri rk. let a = leaf_was i li in let b = leaf_was k lk in inl (both.0.1 i k s a.0 b.0 a.1 b.1 ri rk);
        drafts = λ k d. absurd (found_draft (st.leaves k).role (has (leaves_at c newest.level newest.root) (st.leaves k).bucket) d);
      };
      tree = record {
        inner = λ x l. let w = inner_was x l in record {
          firm = fits.tree.inner_used x w.0;
          some = inner_some st fits c choice x w.0;
          now = now_fill IsLive tt x w.0 w.1;
          still = λ _ _ _. now_fill Stays tt x w.0 w.1;
          next = λ e. absurd (no_true e);
          lost = λ e. absurd (no_true e);
        };
        inner_used = λ x l. fits.tree.inner_used x (inner_was x l).0;
      };
      roots = record {
        newest = now_root IsLive tt;
        entry = λ ne. absurd (ne refl);
        newest_stays = λ _. now_root Stays tt;
        entry_stays = λ _ ne. absurd (ne refl);
        order = tt;
        waiting = λ s _. refl;
        sealed = λ ne. absurd (ne refl);
        index = beyond_end;
      };
      buckets = record {
        one_leaf = λ i k a b. fits.buckets.one_leaf i k (leaf_some2 i a) (leaf_some2 k b);
        one_inner = λ x y a b. fits.buckets.one_inner x y (inner_some2 x a) (inner_some2 y b);
        one_kind = λ i x a b. fits.buckets.one_kind i x (leaf_some2 i a) (inner_some2 x b);
        named = λ k a. fits.buckets.named k (leaf_some2 k a);
        inner_named = λ x a. fits.buckets.inner_named x (inner_some2 x a);
      };
      quiet = record {
        calm = λ _ k l. let w = leaf_was k l in leaf_free k w.0 w.1;
        calm_inner = λ _ x l. let w = inner_was x l in inner_free x w.0 w.1;
      };
    }
      where
        no_true : false ≡ true → ⊥
        no_true e = cc

        leaf_some2 : (k : ℕ) → found (st.leaves k).role (has (leaves_at c newest.level newest.root) (st.leaves k).bucket) ≢ NoNode → (st.leaves k).role ≢ NoNode
        leaf_some2 k ne = live_some (st.leaves k).role (found_some (st.leaves k).role (has (leaves_at c newest.level newest.root) (st.leaves k).bucket) ne)

        inner_some2 : (x : ℕ) → found (st.inner_nodes x).role (has (inner_nodes_at c newest.level newest.root) (st.inner_nodes x).bucket) ≢ NoNode → (st.inner_nodes x).role ≢ NoNode
        inner_some2 x ne = live_some (st.inner_nodes x).role (found_some (st.inner_nodes x).role (has (inner_nodes_at c newest.level newest.root) (st.inner_nodes x).bucket) ne)

-- no key lies beyond the root's end
beyond_of : (es : List Key) (tree index : List Key) (s : ℕ) → last_ref (es ++ tree) s ≡ last_ref index s → ref_said (last_said index s) ≡ None → ref_said (last_said (es ++ tree) s) ≡ None
beyond_of es tree index s same none_ = said_ref (es ++ tree) s ∙ same ∙ sym (said_ref index s) ∙ none_

module _ (st : State) (fits : Fits st) (inv : Inv st.records) (c : NodeSets) (choice : MayRead st.records.nodes c) where
  pub opens_durable : Reopens st c st.records.newest st.records.older
  opens_durable ring bucket pending replays =
      reopened_fits st fits c choice st.records.newest st.records.older ring bucket pending fits.roots.newest replays
      (λ s ge. beyond_of (all_keys (st.records.newest ∷ st.records.older)) (tree_list c st.records.newest.level st.records.newest.root) st.records.index s (inv.durable.same c choice s) (fits.roots.index s ge))

  pub opens_sealed : IsReady st.records.stage → Reopens st c st.records.entry (live st.records.entry.last_seq (st.records.newest ∷ st.records.older))
  opens_sealed ready ring bucket pending replays =
      let ne = ready_some st.records.stage ready in
      reopened_fits st fits c choice st.records.entry (live st.records.entry.last_seq (st.records.newest ∷ st.records.older)) ring bucket pending (fits.roots.entry ne) replays
      (λ s ge. beyond_of (all_keys (st.records.entry ∷ live st.records.entry.last_seq (st.records.newest ∷ st.records.older))) (tree_list c st.records.entry.level st.records.entry.root) (st.records.entry.keys ++ st.records.index) s
      ((inv.sealed ne).same c (ready_choice st.records.stage st.records.nodes c ready choice) s)
      (ap ref_said (append_none st.records.entry.keys st.records.index s (fits.roots.sealed ne s ge)) ∙ fits.roots.index s ge))

pub law_reopen : LawReopen
law_reopen owners all c newest older ring bucket unused sound room keeps named st is fits es run left choice =
    let inv : Inv st.records = subst (λ (r : Records). Inv r) (sym is) (inv_opened owners all c newest older ring bucket unused sound room keeps named) in
    let k = goes st es run inv fits in
    let end = inv_after st es inv k in
    (opens_durable (fold st es) k.fits end left choice, λ ready. opens_sealed (fold st es) k.fits end left choice ready)

-- ---- the whole machine

opens_as : (w : Layout) (image : Image) (st : State) (r : Records) (newest : Entry) (older : List Entry) (next : Opening) → st.records ≡ r
    → next.image ≡ image → next.owners ≡ owners r.nodes → next.newest ≡ newest → next.older ≡ older → next.unused ≡ r.unused → IsSound w next
    → Reopens st (node_sets w (owners st.records.nodes) image) newest older → OpensAs w image st
opens_as w image st r newest older next is e_image e_owners e_newest e_older e_unused sound opens = record {
  next = next;
  image_is = e_image;
  sound = sound;
  parts = λ pending replays.
      let c : NodeSets = node_sets w (owners st.records.nodes) image in
      let mine : AllReplay st newest older pending = subst (λ (e : Entry). AllReplay st e older pending) e_newest (subst (λ (es : List Entry). AllReplay st next.newest es pending) e_older replays) in (
        reopened st (node_sets w (owners st.records.nodes) image) newest older next.ring next.bucket pending,
        ap (λ (ow : ℕ → Owner). opened_records ow (node_sets w ow image) newest older next.ring next.bucket st.records.unused) (ap (λ (x : Records). owners x.nodes) is ∙ sym e_owners)
            ∙ ap (λ (im : Image). opened_records next.owners (node_sets w next.owners im) newest older next.ring next.bucket st.records.unused) (sym e_image)
            ∙ ap (λ (e : Entry). opened_records next.owners (node_sets w next.owners next.image) e older next.ring next.bucket st.records.unused) (sym e_newest)
            ∙ ap (λ (es : List Entry). opened_records next.owners (node_sets w next.owners next.image) next.newest es next.ring next.bucket st.records.unused) (sym e_older)
            ∙ ap (λ (un : ℕ → Bool). opened_records next.owners (node_sets w next.owners next.image) next.newest next.older next.ring next.bucket un) (ap (λ (x : Records). x.unused) is ∙ sym e_unused),
        opens next.ring next.bucket pending mine,
        λ k. refl,
      );
}

pub law_next_parts : LawNextParts
law_next_parts w o st steps sound is fits run chance image left =
    let k = joins w (opened w o) st steps is (subst (λ (r : Records). Inv r) (sym is) (sound_inv w o sound)) fits run in
    let v = law_crash w o (acts_of steps) sound k.run chance image left in
    go k v
  where
    go : JoinsFrom w (opened w o) st steps → Survives w (reached w o (acts_of steps)) image → OpensAs w image (parts_of st steps)
    go k v = pick v.finds
      where
        P : State
        P = parts_of st steps

        r : Records
        r = (reached w o (acts_of steps)).places.records

        may : MayRead (parts_of st steps).records.nodes (node_sets w (owners (parts_of st steps).records.nodes) image)
        may = subst (λ (x : Records). MayRead x.nodes (node_sets w (owners x.nodes) image)) (sym k.ends) v.nodes

        pick : Finds w (reached w o (acts_of steps)) image (reached w o (acts_of steps)).places.records.newest (reached w o (acts_of steps)).places.records.older (reached w o (acts_of steps)).places.records.index (reached w o (acts_of steps)).durable_chain
            ⊎ (IsReady (reached w o (acts_of steps)).places.records.stage
            × Finds w (reached w o (acts_of steps)) image (reached w o (acts_of steps)).places.records.entry (live (reached w o (acts_of steps)).places.records.entry.last_seq ((reached w o (acts_of steps)).places.records.newest ∷ (reached w o (acts_of steps)).places.records.older)) ((reached w o (acts_of steps)).places.records.entry.keys ++ (reached w o (acts_of steps)).places.records.index) (reached w o (acts_of steps)).sealed_chain)
            → OpensAs w image (parts_of st steps)
        pick (inl f) =
            opens_as w image (parts_of st steps) (reached w o (acts_of steps)).places.records (reached w o (acts_of steps)).places.records.newest (reached w o (acts_of steps)).places.records.older f.opening k.ends f.image_is f.owners_are f.entries_are.0 f.entries_are.1 f.unused_is f.sound
            (subst (λ (x : Records). Reopens (parts_of st steps) (node_sets w (owners (parts_of st steps).records.nodes) image) x.newest x.older) k.ends (opens_durable (parts_of st steps) k.fits k.inv _ may))
        pick (inr f) =
            opens_as w image (parts_of st steps) (reached w o (acts_of steps)).places.records (reached w o (acts_of steps)).places.records.entry (live (reached w o (acts_of steps)).places.records.entry.last_seq ((reached w o (acts_of steps)).places.records.newest ∷ (reached w o (acts_of steps)).places.records.older)) f.1.opening k.ends f.1.image_is f.1.owners_are f.1.entries_are.0 f.1.entries_are.1 f.1.unused_is f.1.sound
            (subst (λ (x : Records). Reopens (parts_of st steps) (node_sets w (owners (parts_of st steps).records.nodes) image) x.entry (live x.entry.last_seq (x.newest ∷ x.older))) k.ends
            (opens_sealed (parts_of st steps) k.fits k.inv _ may (subst (λ (x : Records). IsReady x.stage) (sym k.ends) f.0)))
