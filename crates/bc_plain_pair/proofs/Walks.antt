-- Nodes that a walk meets, listed so far.
use Rattle.std.proofs.Common.{◌≡◌, ℕ, zero, suc, ◌+◌, ◌<◌, ◌≤◌, length, drop, get_or, List, [], ◌∷◌, ◌++◌, refl, sym, subst, ap, ◌∙◌, append_assoc}
use Rattle.std.specs.Prelude.{Bool, true, false, Result, Ok, Err, IfOk}
use Rattle.std.specs.Bool.{MatchBool}
use Rattle.std.proofs.Math.ListN.{drop_of_length-le}
use Rattle.std.proofs.lemmas.List.{append-nil, drop_more}
use Rattle.bc_model.specs.Sector.{Image}
use Rattle.bc_disk.specs.declared.geometry.Geometry.{Geometry}
use Rattle.bc_key.specs.declared.key.Key.{Key}
use Rattle.bc_set.specs.declared.set.Set.{Set}
use Rattle.bc_image.specs.Children.{children_of}
use Rattle.bc_image.specs.Tree.{Node, node_of, set_keys, AreSetsAt, AreWalks, IsWalk}
use Rattle.bc_image.proofs.Unique.{one_sets}

-- what is said once it was walked from a key, or from keys
abbrev pub Met : (List Node → Type 0) → List Node → List Node → Bool → Type 0
Met walks old new met = MatchBool met ((here : List Node) × walks here × (new ≡ old ++ here)) ((here : List Node) → walks here → ⊥)

-- ---- one node

pub no_sets : (g : Geometry) (image : Image) (level from : ℕ) (key : Key) → ((sets : List Set) → AreSetsAt g image level key sets → ⊥) → (here : List Node) → IsWalk g image level from key here → ⊥
no_sets g image zero from key none here p = none p.0 p.1
no_sets g image (suc level) from key none here p = none p.0 p.2

pub leaf_met : (g : Geometry) (image : Image) (level from : ℕ) (key : Key) (sets : List Set) (old new : List Node) → level ≡ 0 → AreSetsAt g image level key sets → new ≡ old ++ node_of level from key sets ∷ []
    → (here : List Node) × IsWalk g image level from key here × (new ≡ old ++ here)
leaf_met g image zero from key sets old new is at grown = (node_of 0 from key sets ∷ [], (sets, at, refl), grown)
leaf_met g image (suc level) from key sets old new is at grown = absurd (cc)

inner : (g : Geometry) (image : Image) (level from : ℕ) (key : Key) (sets : List Set) (children : List Key) (old mid new : List Node) (met : Bool) → AreSetsAt g image (suc level) key sets → children ≡ children_of (set_keys sets)
    → mid ≡ old ++ node_of (suc level) from key sets ∷ [] → Met (AreWalks (IsWalk g image level) from children) mid new met → Met (IsWalk g image (suc level) from key) old new met
inner g image level from key sets children old mid new true at are grown p =
    let node = node_of (suc level) from key sets in
    let below : AreWalks (IsWalk g image level) from (children_of (set_keys sets)) p.0 = subst (λ (cs : List Key). AreWalks (IsWalk g image level) from cs p.0) are p.1 in
    (node ∷ p.0, (sets, p.0, at, below, refl), p.2 ∙ ap (λ (ns : List Node). ns ++ p.0) grown ∙ append_assoc old (node ∷ []) p.0)
inner g image level from key sets children old mid new false at are grown p = λ here walk.
    let same : walk.0 ≡ sets = one_sets g image (suc level) key walk.0 sets walk.2 at in
    p walk.1 (subst (λ (cs : List Key). AreWalks (IsWalk g image level) from cs walk.1) (sym are) (subst (λ (ss : List Set). AreWalks (IsWalk g image level) from (children_of (set_keys ss)) walk.1) same walk.3))

pub inner_met : {E : Type 0} (g : Geometry) (image : Image) (level below from : ℕ) (key : Key) (sets : List Set) (children : List Key) (old mid new : List Node) (answer : Result Bool E) → level ≡ suc below → AreSetsAt g image level key sets
    → children ≡ children_of (set_keys sets) → mid ≡ old ++ node_of level from key sets ∷ []
    → IfOk answer (λ met. Met (AreWalks (IsWalk g image below) from children) mid new met) → IfOk answer (λ met. Met (IsWalk g image level from key) old new met)
inner_met g image level below from key sets children old mid new (Err e) is at are grown p = tt
inner_met g image level below from key sets children old mid new (Ok met) is at are grown p =
    subst (λ l. Met (IsWalk g image l from key) old new met) (sym is)
    (inner g image below from key sets children old mid new met (subst (λ l. AreSetsAt g image l key sets) is at) are (grown ∙ ap (λ l. old ++ node_of l from key sets ∷ []) is) p)

-- ---- nodes below each child

abbrev pub ListsOn : (ℕ → Key → List Node → Type 0) → ℕ → List Key → List Node → List Node → ℕ → List Key → Type 0
ListsOn walk from children old nodes low left = (rest : List Node) → AreWalks walk low left rest → (here : List Node) × AreWalks walk from children here × (nodes ++ rest ≡ old ++ here)

abbrev pub NeedsOn : (ℕ → Key → List Node → Type 0) → ℕ → List Key → ℕ → List Key → Type 0
NeedsOn walk from children low left = (here : List Node) → AreWalks walk from children here → (rest : List Node) × AreWalks walk low left rest

module _ (walk : ℕ → Key → List Node → Type 0) (from : ℕ) (children : List Key) (low : ℕ) (left after : List Key) (child : Key) (split : left ≡ child ∷ after) where
  pub lists_more : (old nodes new here : List Node) → ListsOn walk from children old nodes low left → walk low child here → new ≡ nodes ++ here → ListsOn walk from children old new child.end after
  lists_more old nodes new here so met grown rest more =
      let all : AreWalks walk low left (here ++ rest) = subst (λ (cs : List Key). AreWalks walk low cs (here ++ rest)) (sym split) (here, rest, met, more, refl) in
      let k = so (here ++ rest) all in
      (k.0, k.1, ap (λ (ns : List Node). ns ++ rest) grown ∙ append_assoc nodes here rest ∙ k.2)

  pub needs_more : NeedsOn walk from children low left → NeedsOn walk from children child.end after
  needs_more so here p =
      let k = so here p in
      let parts : AreWalks walk low (child ∷ after) k.0 = subst (λ (cs : List Key). AreWalks walk low cs k.0) split k.1 in
      (parts.1, parts.3)

  pub none_met : NeedsOn walk from children low left → ((here : List Node) → walk low child here → ⊥) → (here : List Node) → AreWalks walk from children here → ⊥
  none_met so none here p =
      let k = so here p in
      let parts : AreWalks walk low (child ∷ after) k.0 = subst (λ (cs : List Key). AreWalks walk low cs k.0) split k.1 in
      none parts.0 parts.2

pub one_left : (children : List Key) (i : ℕ) (child : Key) → i < length children → child ≡ get_or children i child → drop i children ≡ child ∷ drop (i + 1) children
one_left children i child low is = drop_more children i child low ∙ ap (λ (k : Key). k ∷ drop (i + 1) children) (sym is)

pub all_met : (walk : ℕ → Key → List Node → Type 0) (from low i : ℕ) (children : List Key) (old nodes : List Node) → length children ≤ i → ListsOn walk from children old nodes low (drop i children)
    → (here : List Node) × AreWalks walk from children here × (nodes ≡ old ++ here)
all_met walk from low i children old nodes end so =
    let none : AreWalks walk low (drop i children) [] = subst (λ (cs : List Key). AreWalks walk low cs []) (sym (drop_of_length-le children end)) refl in
    let k = so [] none in
    (k.0, k.1, sym (append-nil nodes) ∙ k.2)
