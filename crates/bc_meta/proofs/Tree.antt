-- Two contents, and what walks of them have in common.
use Rattle.std.proofs.Common.{◌≡◌, ◌≢◌, ℕ, zero, suc, Bool, true, List, [], ◌∷◌, ◌++◌, refl, ap, ◌∙◌, subst}
use Rattle.bc_key.specs.declared.key.Key.{Key}
use Rattle.bc_meta.specs.Tree.{Child, Each, NodeSet, NodeSets, Other, Walk, children_of, forest, set_keys, tree_list}

forest_same : (f g : ℕ → List Key) (ks : List Child) → Each (λ x. f x ≡ g x) ks → forest f ks ≡ forest g ks
forest_same f g [] h = refl
forest_same f g (k ∷ ks) h = ap (λ (l : List Key). l ++ f k.bucket) (forest_same f g ks h.1) ∙ ap (λ (l : List Key). forest g ks ++ l) h.0

pub each_map : (P Q : ℕ → Type 0) (ks : List Child) → ((x : ℕ) → P x → Q x) → Each P ks → Each Q ks
each_map P Q [] f h = tt
each_map P Q (k ∷ ks) f h = (f k.bucket h.0, each_map P Q ks f h.1)

each_both : (P Q R : ℕ → Type 0) (ks : List Child) → ((x : ℕ) → P x → Q x → R x) → Each P ks → Each Q ks → Each R ks
each_both P Q R [] f h k = tt
each_both P Q R (x ∷ xs) f h k = (f x.bucket h.0 k.0, each_both P Q R xs f h.1 k.1)

-- a walk that stays away from p sees nothing of it
pub away_tree : (c d : NodeSets) (p l q : ℕ) → ((x : ℕ) → x ≢ p → c x ≡ d x) → Walk (Other p) c l q → tree_list c l q ≡ tree_list d l q
away_tree c d p zero q same h = ap set_keys (same q h)
away_tree c d p (suc l) q same h =
    forest_same (tree_list c l) (tree_list d l) (children_of (c q)) (each_map _ _ (children_of (c q)) (λ x k. away_tree c d p l x same k) h.1)
    ∙ ap (λ (ss : List NodeSet). forest (tree_list d l) (children_of ss)) (same q h.0)

pub away_walk : (ok : ℕ → List NodeSet → Type 0) (c d : NodeSets) (p l q : ℕ) → ((x : ℕ) → x ≢ p → c x ≡ d x) → Walk (Other p) c l q → Walk ok c l q → Walk ok d l q
away_walk ok c d p zero q same h k = subst (λ (ss : List NodeSet). ok q ss) (same q h) k
away_walk ok c d p (suc l) q same h k = (
  subst (λ (ss : List NodeSet). ok q ss) (same q h.0) k.0,
  subst (λ (ss : List NodeSet). Each (Walk ok d l) (children_of ss)) (same q h.0) (each_both _ _ _ (children_of (c q)) (λ x a b. away_walk ok c d p l x same a b) h.1 k.1),
)

-- the walk meets nothing unused
abbrev pub Used : (ℕ → Bool) → ℕ → List NodeSet → Type 0
Used unused q ss = unused q ≡ true → ⊥

each_used : (unused : ℕ → Bool) (P : ℕ → ℕ → Type 0) (Q : ℕ → Type 0) (ks : List Child) → ((x : ℕ) → ((p : ℕ) → unused p ≡ true → P p x) → Q x) → ((p : ℕ) → unused p ≡ true → Each (P p) ks) → Each Q ks
each_used unused P Q [] f h = tt
each_used unused P Q (k ∷ ks) f h = (f k.bucket (λ p is. (h p is).0), each_used unused P Q ks f (λ p is. (h p is).1))

pub used_of : (unused : ℕ → Bool) (c : NodeSets) (l q : ℕ) → ((p : ℕ) → unused p ≡ true → Walk (Other p) c l q) → Walk (Used unused) c l q
used_of unused c zero q h = λ is. h q is refl
used_of unused c (suc l) q h = ((λ is. (h q is).0 refl), each_used unused (λ p x. Walk (Other p) c l x) _ (children_of (c q)) (λ x k. used_of unused c l x k) (λ p is. (h p is).1))

-- contents that are the same wherever something is used
pub used_tree : (unused : ℕ → Bool) (c d : NodeSets) → ((x : ℕ) → (unused x ≡ true → ⊥) → c x ≡ d x) → (l q : ℕ) → Walk (Used unused) c l q → tree_list c l q ≡ tree_list d l q
used_tree unused c d same zero q h = ap set_keys (same q h)
used_tree unused c d same (suc l) q h =
    forest_same (tree_list c l) (tree_list d l) (children_of (c q)) (each_map _ _ (children_of (c q)) (λ x k. used_tree unused c d same l x k) h.1)
    ∙ ap (λ (ss : List NodeSet). forest (tree_list d l) (children_of ss)) (same q h.0)

pub used_walk : (unused : ℕ → Bool) (ok : ℕ → List NodeSet → Type 0) (c d : NodeSets) → ((x : ℕ) → (unused x ≡ true → ⊥) → c x ≡ d x) → (l q : ℕ) → Walk (Used unused) c l q → Walk ok c l q → Walk ok d l q
used_walk unused ok c d same zero q h k = subst (λ (ss : List NodeSet). ok q ss) (same q h) k
used_walk unused ok c d same (suc l) q h k = (
  subst (λ (ss : List NodeSet). ok q ss) (same q h.0) k.0,
  subst (λ (ss : List NodeSet). Each (Walk ok d l) (children_of ss)) (same q h.0) (each_both _ _ _ (children_of (c q)) (λ x a b. used_walk unused ok c d same l x a b) h.1 k.1),
)
