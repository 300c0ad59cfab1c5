-- The keys of a tree that is read.
use Rattle.std.proofs.Common.{◌≡◌, ◌≢◌, ◌⊎◌, inl, inr, ℕ, zero, suc, Bool, true, false, List, [], ◌∷◌, refl, sym, ap, subst, if◌then◌else◌}
use Rattle.bc_key.specs.declared.key.Key.{Key}
use Rattle.bc_meta.specs.Tree.{Child, Each, EachChild, IsNamed, NodeSet, NodeSets, Other, Owner, Walk, Whole, children_of, forest, set_keys, tree_list}
use Rattle.bc_meta.specs.Records.{MayHold, MayRead, Node, Records, owners, put}
use Rattle.bc_meta.proofs.Lists.{by_test}
use Rattle.bc_meta.proofs.Tree.{Used, each_map, used_of}
use Rattle.bc_origin.proofs.Lists.{AllHave, all_join}
use Rattle.bc_origin.proofs.Held.{Has, Held}

-- what is whole without a node doesn't meet it
away : (c : NodeSets) (p l q : ℕ) → Walk Whole (put c p []) l q → Walk (Other p) c l q
away c p zero q = by_test q p (λ b. ((if b then [] else c q) ≢ []) → q ≢ p) (λ e h. absurd (h refl)) (λ ne h. ne)
away c p (suc l) q =
    by_test q p (λ b. ((if b then [] else c q) ≢ []) × Each (Walk Whole (put c p []) l) (children_of (if b then [] else c q)) → (q ≢ p) × Each (Walk (Other p) c l) (children_of (c q)))
    (λ e h. absurd (h.0 refl)) (λ ne h. (ne, each_map _ _ (children_of (c q)) (λ x k. away c p l x k) h.1))

walk_map : (A B : ℕ → List NodeSet → Type 0) (c : NodeSets) → ((q : ℕ) → A q (c q) → B q (c q)) → (l q : ℕ) → Walk A c l q → Walk B c l q
walk_map A B c f zero q h = f q h
walk_map A B c f (suc l) q h = (f q h.0, each_map _ _ (children_of (c q)) (λ x k. walk_map A B c f l x k) h.1)

module _ (P : Key → Type 0) where
  -- a leaf's keys
  abbrev IsFine : (ℕ → Owner) → ℕ → List NodeSet → Type 0
  IsFine own q ss = (own q).leaf ≡ true → AllHave P (set_keys ss)

  forest_has : (own : ℕ → Owner) (c : NodeSets) (l : ℕ)
      → ((q word : ℕ) → IsNamed own c l q word → Walk (IsFine own) c l q → AllHave P (tree_list c l q))
      → (ks : List Child) → EachChild (λ k. IsNamed own c l k.bucket k.word) ks → Each (Walk (IsFine own) c l) ks
      → AllHave P (forest (tree_list c l) ks)
  forest_has own c l ih [] n h = λ key i. absurd i
  forest_has own c l ih (k ∷ ks) n h =
      all_join P (forest (tree_list c l) ks) (tree_list c l k.bucket) (forest_has own c l ih ks n.1 h.1) (ih k.bucket k.word n.0 h.0)

  tree_has : (own : ℕ → Owner) (c : NodeSets) (l q word : ℕ) → IsNamed own c l q word → Walk (IsFine own) c l q → AllHave P (tree_list c l q)
  tree_has own c zero q word n h = h (ap (λ (o : Owner). o.leaf) n)
  tree_has own c (suc l) q word n h = forest_has own c l (tree_has own c l) (children_of (c q)) n.1 h.1

  known : (b : Bool) → (b ≡ true → ⊥) → b ≡ false
  known true h = absurd (h refl)
  known false h = refl

  -- what a node reads as
  read_has : (n : Node) (own : Bool) (ss : List NodeSet) → ((n.owner.leaf ≡ true) × ((n.loose ≡ false) ⊎ (own ≡ true) ⊎ (n.sent ≡ true)) → Has P n)
      → (n.loose ≡ true → ⊥) → MayHold n ss → n.owner.leaf ≡ true → AllHave P (set_keys ss)
  read_has n own ss h tight (inl e) leaf = absurd (tight e)
  read_has n own ss h tight (inr (inl e)) leaf =
      subst (λ (l : List NodeSet). AllHave P (set_keys l)) (sym e) (h (leaf, inl (known n.loose tight))).sets
  read_has n own ss h tight (inr (inr e)) leaf =
      let k = h (leaf, inl (known n.loose tight)) in
      subst (λ (l : List NodeSet). AllHave P (set_keys l)) (sym e.1) (all_join P n.last.keys (set_keys n.sets) k.last k.sets)

  -- nothing may be read where a node is loose
  empty_there : (nodes : ℕ → Node) (c : NodeSets) (p : ℕ) → (nodes p).loose ≡ true → MayRead nodes c → MayRead nodes (put c p [])
  empty_there nodes c p loose may q =
      by_test q p (λ b. MayHold (nodes q) (if b then [] else c q)) (λ e. inl (subst (λ (k : ℕ). (nodes k).loose ≡ true) (sym e) loose)) (λ ne. may q)

  pub keys_have : (r : Records) (own : ℕ → Bool) → Held P r own → (c : NodeSets) → MayRead r.nodes c
      → (level root word : ℕ) → ((d : NodeSets) → MayRead r.nodes d → Walk Whole d level root) → IsNamed (owners r.nodes) c level root word
      → AllHave P (tree_list c level root)
  keys_have r own h c may level root word whole named =
      tree_has (owners r.nodes) c level root word named
      (walk_map (Used (λ q. (r.nodes q).loose)) (IsFine (owners r.nodes)) c
      (λ q tight. read_has (r.nodes q) (own q) (c q) (h.nodes q) tight (may q)) level root
      (used_of (λ q. (r.nodes q).loose) c level root
      (λ p loose. away c p level root (whole (put c p []) (empty_there r.nodes c p loose may)))))
