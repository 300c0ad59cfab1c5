-- A root under which each crash content has the right keys, and how each write of nodes keeps that.
use Rattle.std.proofs.Common.{◌≡◌, ◌≢◌, ◌⊎◌, inl, inr, ℕ, Bool, true, false, List, ◌∷◌, ◌++◌, refl, sym, ap, subst, if◌then◌else◌, [], ◌∙◌, zero, suc}
use Rattle.bc_key.specs.declared.key.Key.{Key}
use Rattle.bc_meta.specs.Keys.{Alike, last_ref}
use Rattle.bc_meta.specs.Entries.{Entry, all_keys}
use Rattle.bc_meta.specs.Tree.{Child, Each, EachChild, IsNamed, Keeps, NodeSet, NodeSets, Other, Owner, Walk, Whole, children_of, tree_list}
use Rattle.bc_meta.specs.Records.{Fixed, IsReady, MayHold, MayRead, Node, Nothing, Ready, Safe, Sent, Stage, after_barrier, owners, put, settled_node, stable_node}
use Rattle.bc_meta.proofs.Lists.{by_test}
use Rattle.bc_meta.proofs.Tree.{away_tree, away_walk}

pub record Good (nodes : ℕ → Node) (unused : ℕ → Bool) (es : List Entry) (index : List Key) (level root word : ℕ) : Type 0 where
  pub same : (c : NodeSets) → MayRead nodes c → Alike (all_keys es ++ tree_list c level root) index
  pub whole : (c : NodeSets) → MayRead nodes c → Walk Whole c level root
  pub keeps : (c : NodeSets) → MayRead nodes c → Keeps unused c level root
  pub named : (c : NodeSets) → MayRead nodes c → IsNamed (owners nodes) c level root word

child_map : (P Q : Child → Type 0) (ks : List Child) → ((k : Child) → P k → Q k) → EachChild P ks → EachChild Q ks
child_map P Q [] f h = tt
child_map P Q (k ∷ ks) f h = (f k h.0, child_map P Q ks f h.1)

child_both : (P : ℕ → Type 0) (Q R : Child → Type 0) (ks : List Child) → ((k : Child) → P k.bucket → Q k → R k) → Each P ks → EachChild Q ks → EachChild R ks
child_both P Q R [] f h k = tt
child_both P Q R (x ∷ xs) f h k = (f x h.0 k.0, child_both P Q R xs f h.1 k.1)

-- along a walk on which sets and owners are the same
pub named_along : (o v : ℕ → Owner) (c d : NodeSets) (P : ℕ → List NodeSet → Type 0) → ((q : ℕ) → P q (c q) → (c q ≡ d q) × (o q ≡ v q)) → (l q word : ℕ) → Walk P c l q → IsNamed o c l q word → IsNamed v d l q word
named_along o v c d P same zero q word walk n = sym (same q walk).1 ∙ n
named_along o v c d P same (suc l) q word walk n = (
  sym (same q walk.0).1 ∙ n.0,
  subst (λ (ss : List NodeSet). EachChild (λ k. IsNamed v d l k.bucket k.word) (children_of ss)) (same q walk.0).0 (child_both _ _ _ (children_of (c q)) (λ k a b. named_along o v c d P same l k.bucket k.word a b) walk.1 n.1),
)

pub named_same : (o v : ℕ → Owner) (c : NodeSets) → ((q : ℕ) → o q ≡ v q) → (l q word : ℕ) → IsNamed o c l q word → IsNamed v c l q word
named_same o v c same zero q word n = sym (same q) ∙ n
named_same o v c same (suc l) q word n = (sym (same q) ∙ n.0, child_map _ _ (children_of (c q)) (λ k m. named_same o v c same l k.bucket k.word m) n.1)

pub put_here : (c : NodeSets) (p : ℕ) (ss : List NodeSet) → put c p ss p ≡ ss
put_here c p ss = by_test p p (λ b. (if b then ss else c p) ≡ ss) (λ _. refl) (λ ne. absurd (ne refl))

pub put_away : (c : NodeSets) (p : ℕ) (ss : List NodeSet) (q : ℕ) → q ≢ p → put c p ss q ≡ c q
put_away c p ss q ne = by_test q p (λ b. (if b then ss else c q) ≡ c q) (λ e. absurd (ne e)) (λ _. refl)

choice_here : (nodes : ℕ → Node) (p : ℕ) (x : Node) (c : NodeSets) → MayRead (put nodes p x) c → MayHold x (c p)
choice_here nodes p x c h = by_test p p (λ b. MayHold (if b then x else nodes p) (c p) → MayHold x (c p)) (λ _ k. k) (λ ne. absurd (ne refl)) (h p)

-- a content after the change is one before it, but for p
choice_back : (nodes : ℕ → Node) (p : ℕ) (x : Node) (c : NodeSets) → MayRead (put nodes p x) c → MayRead nodes (put c p (nodes p).sets)
choice_back nodes p x c h q =
    by_test q p (λ b. MayHold (if b then x else nodes q) (c q) → MayHold (nodes q) (if b then (nodes p).sets else c q))
    (λ e k. inr (inl (ap (λ (n : ℕ). (nodes n).sets) (sym e)))) (λ ne k. k) (h q)

owner_away : (nodes : ℕ → Node) (p : ℕ) (x : Node) (q : ℕ) → q ≢ p → (nodes q).owner ≡ (put nodes p x q).owner
owner_away nodes p x q ne = by_test q p (λ b. (nodes q).owner ≡ (if b then x else nodes q).owner) (λ e. absurd (ne e)) (λ _. refl)

-- a place that no walk meets
pub good_away : (nodes : ℕ → Node) (unused : ℕ → Bool) (es : List Entry) (index : List Key) (level root word p : ℕ) (x : Node) → unused p ≡ true → Good nodes unused es index level root word → Good (put nodes p x) unused es index level root word
good_away nodes unused es index level root word p x free g =
    let was : (c : NodeSets) → NodeSets = λ c. put c p (nodes p).sets in
    let old : (c : NodeSets) → MayRead (put nodes p x) c → MayRead nodes (put c p (nodes p).sets) = λ c h. choice_back nodes p x c h in
    let off : (c : NodeSets) → MayRead (put nodes p x) c → Walk (Other p) (put c p (nodes p).sets) level root = λ c h. g.keeps (put c p (nodes p).sets) (choice_back nodes p x c h) p free in
    record {
      same = λ c h s. subst (λ (l : List Key). (last_ref (all_keys es ++ l) s) ≡ (last_ref index s)) (away_tree (put c p (nodes p).sets) c p level root (put_away c p (nodes p).sets) (off c h)) (g.same _ (old c h) s);
      whole = λ c h. away_walk Whole (put c p (nodes p).sets) c p level root (put_away c p (nodes p).sets) (off c h) (g.whole _ (old c h));
      keeps = λ c h t is. away_walk (Other t) (put c p (nodes p).sets) c p level root (put_away c p (nodes p).sets) (off c h) (g.keeps _ (old c h) t is);
      named = λ c h. named_along (owners nodes) (owners (put nodes p x)) (put c p (nodes p).sets) c (Other p) (λ q ne. (put_away c p (nodes p).sets q ne, owner_away nodes p x q ne)) level root word (off c h) (g.named _ (old c h));
    }

-- a barrier leaves fewer contents
pub good_fewer : (nodes later : ℕ → Node) (unused : ℕ → Bool) (es : List Entry) (index : List Key) (level root word : ℕ) → ((c : NodeSets) → MayRead later c → MayRead nodes c) → ((q : ℕ) → (nodes q).owner ≡ (later q).owner) → Good nodes unused es index level root word → Good later unused es index level root word
good_fewer nodes later unused es index level root word f own g = record { same = λ c h. g.same c (f c h); whole = λ c h. g.whole c (f c h); keeps = λ c h. g.keeps c (f c h); named = λ c h. named_same (owners nodes) (owners later) c own level root word (g.named c (f c h)) }

pub barrier_fewer : (nodes : ℕ → Node) (c : NodeSets) → MayRead (λ p. stable_node (nodes p)) c → MayRead nodes c
barrier_fewer nodes c h p = go (nodes p).sent refl (h p)
  where
    no_true : false ≡ true → ⊥
    no_true e = cc

    go : (b : Bool) → (nodes p).sent ≡ b
        → ((if b then false else (nodes p).loose) ≡ true) ⊎ (c p ≡ (if b then (nodes p).last ∷ (nodes p).sets else (nodes p).sets)) ⊎ (((false ≡ true) ⊎ ((if b then false else (nodes p).failed) ≡ true)) × (c p ≡ (nodes p).last ∷ (if b then (nodes p).last ∷ (nodes p).sets else (nodes p).sets)))
        → MayHold (nodes p) (c p)
    go true is (inl e) = absurd (cc)
    go true is (inr (inl e)) = inr (inr (inl is, e))
    go true is (inr (inr e)) = absurd (elim e.0 [ inl x ↦ no_true x | inr x ↦ no_true x ])
    go false is (inl e) = inl e
    go false is (inr (inl e)) = inr (inl e)
    go false is (inr (inr e)) = inr (inr (elim e.0 [ inl x ↦ absurd (no_true x) | inr x ↦ inr x ], e.1))

-- once the entry may be written, all contents are meant
pub ready_choice : (g : Stage) (nodes : ℕ → Node) (c : NodeSets) → IsReady g → MayRead nodes c → MayRead (λ p. settled_node g (nodes p)) c
ready_choice Nothing nodes c r h = absurd r
ready_choice Fixed nodes c r h = absurd r
ready_choice Ready nodes c r h = h
ready_choice Sent nodes c r h = h
ready_choice Safe nodes c r h = h

pub settled_barrier : (g : Stage) (nodes : ℕ → Node) (c : NodeSets) → MayRead (λ p. settled_node (after_barrier g) (stable_node (nodes p))) c → MayRead (λ p. settled_node g (nodes p)) c
settled_barrier Nothing nodes c h = barrier_fewer nodes c h
settled_barrier Fixed nodes c h = h
settled_barrier Ready nodes c h = barrier_fewer nodes c h
settled_barrier Sent nodes c h = barrier_fewer nodes c h
settled_barrier Safe nodes c h = barrier_fewer nodes c h

pub settled_put : (g : Stage) (nodes : ℕ → Node) (p : ℕ) (x : Node) (c : NodeSets) → MayRead (λ q. settled_node g (put nodes p x q)) c → MayRead (put (λ q. settled_node g (nodes q)) p (settled_node g x)) c
settled_put g nodes p x c h q = by_test q p (λ b. MayHold (settled_node g (if b then x else nodes q)) (c q) → MayHold (if b then settled_node g x else settled_node g (nodes q)) (c q)) (λ _ k. k) (λ _ k. k) (h q)

-- what a node is read with stays
pub settled_owner : (g : Stage) (n : Node) → n.owner ≡ (settled_node g n).owner
settled_owner Nothing n = refl
settled_owner Fixed n = refl
settled_owner Ready n = refl
settled_owner Sent n = refl
settled_owner Safe n = refl

pub barrier_owner : (g : Stage) (n : Node) → (settled_node g n).owner ≡ (settled_node (after_barrier g) (stable_node n)).owner
barrier_owner g n = sym (settled_owner g n) ∙ settled_owner (after_barrier g) (stable_node n)

pub put_owner : (g : Stage) (nodes : ℕ → Node) (p : ℕ) (x : Node) (q : ℕ) → (put (λ k. settled_node g (nodes k)) p (settled_node g x) q).owner ≡ (settled_node g (put nodes p x q)).owner
put_owner g nodes p x q = by_test q p (λ b. (if b then settled_node g x else settled_node g (nodes q)).owner ≡ (settled_node g (if b then x else nodes q)).owner) (λ _. refl) (λ _. refl)
