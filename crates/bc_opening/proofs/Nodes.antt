-- The nodes of a walk, as the machine has them.
use Rattle.std.proofs.Common.{subst, ◌≡◌, ◌≢◌, ◌⊎◌, inl, inr, ℕ, zero, suc, ◌+◌, ◌<◌, ◌≤◌, Bool, true, false, List, [], ◌∷◌, Some, None, refl, sym, ap, ◌∙◌, arith, if◌then◌else◌, nat_lt}
use Rattle.std.specs.Prelude.{All, AllPairs, map, reverse}
use Rattle.std.proofs.lemmas.List.{reverse-append}
use Rattle.bc_model.specs.Sector.{Image}
use Rattle.bc_disk.specs.declared.geometry.Geometry.{Geometry}
use Rattle.bc_key.specs.declared.key.Key.{Key}
use Rattle.bc_key.specs.declared.ptr.Ptr.{Ptr}
use Rattle.bc_key.specs.Key.{pointer_of, ptr_at}
use Rattle.bc_set.specs.declared.set.Set.{Set}
use Rattle.bc_set.specs.declared.set.SetKind.{SetKind}
use Rattle.bc_set.specs.Records.{AreNodeSets}
use Rattle.bc_key.specs.Words.{ptr_word}
use Rattle.bc_meta.specs.Facts.{In}
use Rattle.bc_meta.specs.Tree as tree
use Rattle.bc_meta.specs.Tree.{Child, Each, EachChild, IsNamed, NodeSet, NodeSets, Owner, Walk, Whole, forest, tree_list}
use Rattle.bc_meta.specs.Layout.{Layout, node_sets}
use Rattle.bc_leaves.specs.Keys.{Speaks, last_said}
use Rattle.bc_leaves.specs.Rows.{ChildRow}
use Rattle.bc_leaves.proofs.Chains.{Local, chain_local}
use Rattle.bc_leaves.proofs.Pend.{front_miss}
use Rattle.bc_leaves.proofs.Said.{spoken_range}
use Rattle.bc_image.specs.Children.{child_before, children_of, is_bare, with_child, with_children}
use Rattle.bc_image.specs.Sound.{KeepsRange, LiesWithin}
use Rattle.bc_image.specs.Tree.{AreSetsAt, AreWalks, IsWalk, Node, kind_at, node_of, set_keys}
use Rattle.bc_image.proofs.Children.{Rise, Way, above, below, children_rise, pairs_rise, same, way}
use Rattle.bc_facts.specs.Layout.{IsLayoutOf}
use Rattle.bc_image.proofs.Unique.{one_sets}
use Rattle.bc_facts.specs.Seen.{bucket_of, kind_of, seen_child, seen_sets, word_of}
use Rattle.bc_facts.proofs.Stood.{all_in, any_in, in_all, in_behind, in_either, in_front}
use Rattle.bc_remains.proofs.Children.{children_are}
use Rattle.bc_remains.proofs.Keys.{leaf_keys}
use Rattle.bc_remains.proofs.Tree.{node_at}
use Rattle.bc_opening.specs.Read.{is_leaf}

-- ---- lists

pub in_turned : {A : Type 0} (x : A) (xs : List A) → In x (reverse xs) → In x xs
in_turned x [] i = absurd i
in_turned x (y ∷ ys) i = elim (in_either x (reverse ys) (y ∷ []) (subst (λ l. In x l) (reverse-append (y ∷ []) ys) i)) [ inl j ↦ inr (in_turned x ys j) | inr j ↦ elim j [ inl e ↦ inl e | inr n ↦ absurd n ] ]

-- two elements of a list that no pair of different places has are one
pub one_of : {A : Type 0} (R : A → A → Type 0) (xs : List A) → AllPairs R xs → (x y : A) → In x xs → In y xs → (R x y → ⊥) → (R y x → ⊥) → x ≡ y
one_of R [] pairs x y i j here back = absurd i
one_of R (z ∷ zs) pairs x y (inl e) (inl f) here back = e ∙ sym f
one_of R (z ∷ zs) pairs x y (inl e) (inr j) here back = absurd (here (subst (λ t. R t y) (sym e) (all_in (λ t. R z t) zs y (λ k d lt. pairs 0 (suc k) d (omega arith) (omega (arith, lt))) j)))
one_of R (z ∷ zs) pairs x y (inr i) (inl f) here back = absurd (back (subst (λ t. R t x) (sym f) (all_in (λ t. R z t) zs x (λ k d lt. pairs 0 (suc k) d (omega arith) (omega (arith, lt))) i)))
one_of R (z ∷ zs) pairs x y (inr i) (inr j) here back = one_of R zs (λ k m d lt inside. pairs (suc k) (suc m) d (omega (arith, lt)) (omega (arith, inside))) x y i j here back

pub none_said : (ks : List Key) (s : ℕ) → ((k : Key) → In k ks → Speaks k s → ⊥) → last_said ks s ≡ None
none_said [] s silent = refl
none_said (k ∷ ks) s silent = front_miss k ks s (silent k (inl refl)) ∙ none_said ks s (λ x i. silent x (inr i))

-- ---- children

before_in : (key : Key) (cs : List Key) (c : Key) → In c (child_before key cs) → (c ≡ key) ⊎ In c cs
before_in key cs c = go (is_bare key)
  where
    go : (b : Bool) → In c (if b then cs else key ∷ cs) → (c ≡ key) ⊎ In c cs
    go true i = inr i
    go false i = i

with_in : (key : Key) (cs : List Key) (c : Key) → In c (with_child key cs) → (c ≡ key) ⊎ In c cs
with_in key [] c i = before_in key [] c i
with_in key (x ∷ xs) c i = go (way key x xs) (with_in key xs c)
  where
    go : Way key x xs → (In c (with_child key xs) → (c ≡ key) ⊎ In c xs) → (c ≡ key) ⊎ In c (x ∷ xs)
    go (below lt at) ih = before_in key (x ∷ xs) c (subst (λ l. In c l) at i)
    go (same is at) ih = elim (before_in key xs c (subst (λ l. In c l) at i)) [ inl e ↦ inl e | inr j ↦ inr (inr j) ]
    go (above gt at) ih = elim (subst (λ l. In c l) at i) [ inl e ↦ inr (inl e) | inr j ↦ elim (ih j) [ inl e ↦ inl e | inr k ↦ inr (inr k) ] ]

withs_in : (keys cs : List Key) (c : Key) → In c (with_children keys cs) → In c keys ⊎ In c cs
withs_in [] cs c i = inr i
withs_in (key ∷ keys) cs c i = elim (withs_in keys (with_child key cs) c i) [ inl j ↦ inl (inr j) | inr j ↦ elim (with_in key cs c j) [ inl e ↦ inl (inl e) | inr k ↦ inr k ] ]

pub children_in : (keys : List Key) (c : Key) → In c (children_of keys) → In c keys
children_in keys c i = elim (withs_in keys [] c i) [ inl j ↦ j | inr n ↦ absurd n ]

-- where the last one ends
abbrev pub last_end : ℕ → List Key → ℕ
last_end a [] = a
last_end a (c ∷ cs) = last_end c.end cs

ends_at : (low : ℕ) (cs : List Key) (end : ℕ) → Rise low cs → ((c : Key) → In c cs → c.end ≤ end) → (c : Key) → In c cs → c.end ≡ end → (a : ℕ) → last_end a cs ≡ end
ends_at low [] end rise most c i e a = absurd i
ends_at low (x ∷ []) end rise most c (inl is) e a = ap (λ (k : Key). k.end) (sym is) ∙ e
ends_at low (x ∷ []) end rise most c (inr n) e a = absurd n
ends_at low (x ∷ y ∷ ys) end rise most c (inl is) e a = let here = ap (λ (k : Key). k.end) is in let up = rise.1.0 in let le = most y (inr (inl refl)) in absurd (omega (arith, here, e, up, le))
ends_at low (x ∷ y ∷ ys) end rise most c (inr i) e a = ends_at (suc x.end) (y ∷ ys) end rise.1 (λ k j. most k (inr j)) c i e x.end

-- the children of a node from a sector up to another
pub record Kids (from end : ℕ) (children : List Key) : Type 0 where
  pub rise : Rise (suc from) children
  pub last : last_end from children ≡ end
  pub most : (c : Key) → In c children → c.end ≤ end

pub kids : (level from : ℕ) (key : Key) (sets : List Set) → KeepsRange (node_of (suc level) from key sets) → Kids from key.end (children_of (set_keys sets))
kids level from key sets keeps =
    let within : (c : Key) → In c (children_of (set_keys sets)) → (from < c.end) × (c.end ≤ key.end) = λ c i. all_in (LiesWithin (suc level) from key.end) (set_keys sets) c keeps.within (children_in (set_keys sets) c i) in
    let rise = pairs_rise (suc from) (children_of (set_keys sets)) (in_all (λ (c : Key). suc from ≤ c.end) (children_of (set_keys sets)) (λ c i. let lt = (within c i).0 in omega (arith, lt))) (children_rise (set_keys sets)) in
    let final = any_in (λ (c : Key). c.end ≡ key.end) (children_of (set_keys sets)) keeps.cover.1 in
    record {
      rise = rise;
      last = ends_at (suc from) (children_of (set_keys sets)) key.end rise (λ c i. (within c i).1) final.0 final.1 final.2 from;
      most = λ c i. (within c i).1;
    }

-- ---- nodes

pub first_points : (key : Key) (ptr : Ptr) → pointer_of key ≡ Some ptr → pointer_of key ≡ Some (ptr_at key 0)
first_points key ptr = go (nat_lt 0 key.count)
  where
    go : (b : Bool) → (if b then Some (ptr_at key 0) else None) ≡ Some ptr → (if b then Some (ptr_at key 0) else None) ≡ Some (ptr_at key 0)
    go true e = refl
    go false e = absurd (cc)

kind_is : (level : ℕ) → kind_of (is_leaf level) ≡ kind_at level
kind_is zero = refl
kind_is (suc level) = refl

module _ (g : Geometry) (w : Layout) (layout : IsLayoutOf g w) (owners : ℕ → Owner) (image : Image) where
  abbrev pub c : NodeSets
  c = node_sets w owners image

  -- a node that the machine reads as it was read
  pub record Sits (n : Node) : Type 0 where
    pub owner_is : owners (bucket_of g n.key) ≡ record { word = word_of n.key; leaf = is_leaf n.level }
    pub points : pointer_of n.key ≡ Some (ptr_at n.key 0)
    pub at : AreSetsAt g image n.level n.key n.sets
    pub seen : node_sets w owners image (bucket_of g n.key) ≡ seen_sets g (is_leaf n.level) n.sets
    pub some : node_sets w owners image (bucket_of g n.key) ≢ []

  sits_here : (level from : ℕ) (key : Key) (sets : List Set) → AreSetsAt g image level key sets → owners (bucket_of g key) ≡ record { word = word_of key; leaf = is_leaf level }
      → node_sets w owners image (bucket_of g key) ≢ [] → Sits (node_of level from key sets)
  sits_here level from key sets at named some =
      let n = node_at g w layout owners image (is_leaf level) key named some in
      let points = first_points key at.ptr at.points in
      let same = one_sets g image level key n.sets sets (record {
        ptr = ptr_at key 0;
        points = points;
        stand = subst (λ (kind : SetKind). AreNodeSets g (ptr_word (ptr_at key 0)) kind image ((ptr_at key 0).offset + g.node_sectors) (ptr_at key 0).offset n.sets) (kind_is level) n.stand;
        some = n.some;
      }) at in
      record { owner_is = named; points = points; at = at; seen = n.seen ∙ ap (λ (ss : List Set). seen_sets g (is_leaf level) ss) same; some = some }

  sit_below : (level : ℕ) → ((from : ℕ) (key : Key) (nodes : List Node) → IsWalk g image level from key nodes → IsNamed owners (node_sets w owners image) level (bucket_of g key) (word_of key)
      → Walk Whole (node_sets w owners image) level (bucket_of g key) → (n : Node) → In n nodes → Sits n)
      → (from : ℕ) (keys : List Key) (nodes : List Node) → AreWalks (IsWalk g image level) from keys nodes
      → EachChild (λ k. IsNamed owners (node_sets w owners image) level k.bucket k.word) (map (seen_child g) keys) → Each (Walk Whole (node_sets w owners image) level) (map (seen_child g) keys)
      → (n : Node) → In n nodes → Sits n
  sit_below level ih from [] nodes walks named whole n i = absurd (subst (λ (l : List Node). In n l) walks i)
  sit_below level ih from (k ∷ ks) nodes walks named whole n i =
      elim (in_either n walks.0 walks.1 (subst (λ (l : List Node). In n l) walks.4 i)) [
        | inl j ↦ ih from k walks.0 walks.2 named.0 whole.0 n j
        | inr j ↦ sit_below level ih k.end ks walks.1 walks.3 named.1 whole.1 n j
      ]

  pub sits : (level from : ℕ) (key : Key) (nodes : List Node) → IsWalk g image level from key nodes → IsNamed owners (node_sets w owners image) level (bucket_of g key) (word_of key)
      → Walk Whole (node_sets w owners image) level (bucket_of g key) → (n : Node) → In n nodes → Sits n
  sits zero from key nodes walk named whole n i =
      elim (subst (λ (l : List Node). In n l) walk.2 i) [ inl e ↦ subst Sits (sym e) (sits_here zero from key walk.0 walk.1 named whole) | inr j ↦ absurd j ]
  sits (suc level) from key nodes walk named whole n i =
      let here = sits_here (suc level) from key walk.0 walk.2 named.0 whole.0 in
      let below : tree.children_of (node_sets w owners image (bucket_of g key)) ≡ map (seen_child g) (children_of (set_keys walk.0)) = ap tree.children_of here.seen ∙ children_are g walk.0 in
      elim (subst (λ (l : List Node). In n l) walk.4 i) [
        | inl e ↦ subst Sits (sym e) here
        | inr j ↦ sit_below level (sits level) from (children_of (set_keys walk.0)) walk.1 walk.3
            (subst (λ (cs : List Child). EachChild (λ k. IsNamed owners (node_sets w owners image) level k.bucket k.word) cs) below named.1)
            (subst (λ (cs : List Child). Each (Walk Whole (node_sets w owners image) level) cs) below whole.1) n j
      ]

  -- children that lie one behind the other, with what is known of the nodes below each
  pub rows : (P : ℕ → ℕ → ℕ → ℕ → Type 0) (walk : ℕ → Key → List Node → Type 0) (Q : Node → Type 0)
      → ((a : ℕ) (k : Key) (here : List Node) → walk a k here → ((n : Node) → In n here → Q n) → P (bucket_of g k) (word_of k) a k.end)
      → (from : ℕ) (children : List Key) (nodes : List Node) (end : ℕ) → AreWalks walk from children nodes → Rise (suc from) children → last_end from children ≡ end
      → ((n : Node) → In n nodes → Q n) → ChildRow P from (map (seen_child g) children) end
  rows P walk Q f from [] nodes end walks rise last q = last
  rows P walk Q f from (k ∷ ks) nodes end walks rise last q = (
    (let up = rise.0 in omega (arith, up)),
    f from k walks.0 walks.2 (λ n i. q n (subst (λ (l : List Node). In n l) (sym walks.4) (in_front n walks.0 walks.1 i))),
    rows P walk Q f k.end ks walks.1 end walks.3 rise.1 last (λ n i. q n (subst (λ (l : List Node). In n l) (sym walks.4) (in_behind n walks.0 walks.1 i))),
  )

  -- ---- the ranges of a walk's nodes

  within_rows : (level : ℕ) → ((from : ℕ) (key : Key) (nodes : List Node) → IsWalk g image level from key nodes → ((n : Node) → In n nodes → KeepsRange n) → (n : Node) → In n nodes → (from ≤ n.from) × (n.key.end ≤ key.end))
      → (from : ℕ) (children : List Key) (nodes : List Node) (end : ℕ) → AreWalks (IsWalk g image level) from children nodes → Rise (suc from) children → ((k : Key) → In k children → k.end ≤ end)
      → ((n : Node) → In n nodes → KeepsRange n) → (n : Node) → In n nodes → (from ≤ n.from) × (n.key.end ≤ end)
  within_rows level ih from [] nodes end walks rise most keep n i = absurd (subst (λ (l : List Node). In n l) walks i)
  within_rows level ih from (k ∷ ks) nodes end walks rise most keep n i =
      elim (in_either n walks.0 walks.1 (subst (λ (l : List Node). In n l) walks.4 i)) [
        | inl j ↦
            (let h = ih from k walks.0 walks.2 (λ m t. keep m (subst (λ (l : List Node). In m l) (sym walks.4) (in_front m walks.0 walks.1 t))) n j in
            let low = h.0 in
            let high = h.1 in
            let le = most k (inl refl) in
            (low, omega (arith, high, le)))
        | inr j ↦
            (let h = within_rows level ih k.end ks walks.1 end walks.3 rise.1 (λ m t. most m (inr t)) (λ m t. keep m (subst (λ (l : List Node). In m l) (sym walks.4) (in_behind m walks.0 walks.1 t))) n j in
            let low = h.0 in
            let up = rise.0 in
            (omega (arith, low, up), h.1))
      ]

  pub within : (level from : ℕ) (key : Key) (nodes : List Node) → IsWalk g image level from key nodes → ((n : Node) → In n nodes → KeepsRange n) → (n : Node) → In n nodes → (from ≤ n.from) × (n.key.end ≤ key.end)
  within zero from key nodes walk keep n i =
      elim (subst (λ (l : List Node). In n l) walk.2 i) [ inl e ↦ subst (λ (m : Node). (from ≤ m.from) × (m.key.end ≤ key.end)) (sym e) (omega arith, omega arith) | inr j ↦ absurd j ]
  within (suc level) from key nodes walk keep n i =
      let k = kids level from key walk.0 (keep (node_of (suc level) from key walk.0) (subst (λ (l : List Node). In (node_of (suc level) from key walk.0) l) (sym walk.4) (inl refl))) in
      elim (subst (λ (l : List Node). In n l) walk.4 i) [
        | inl e ↦ subst (λ (m : Node). (from ≤ m.from) × (m.key.end ≤ key.end)) (sym e) (omega arith, omega arith)
        | inr j ↦ within_rows level (within level) from (children_of (set_keys walk.0)) walk.1 key.end walk.3 k.rise k.most (λ m t. keep m (subst (λ (l : List Node). In m l) (sym walk.4) (inr t))) n j
      ]

  abbrev pub HasSector : Node → ℕ → Type 0
  HasSector n s = (n.from ≤ s) × (s < n.key.end)

  apart_rows : (level : ℕ) → ((from : ℕ) (key : Key) (nodes : List Node) → IsWalk g image level from key nodes → ((n : Node) → In n nodes → KeepsRange n) → (m n : Node) (s : ℕ) → In m nodes → In n nodes → m.level ≡ 0 → n.level ≡ 0 → HasSector m s → HasSector n s → m ≡ n)
      → (from : ℕ) (children : List Key) (nodes : List Node) (end : ℕ) → AreWalks (IsWalk g image level) from children nodes → Rise (suc from) children → ((k : Key) → In k children → k.end ≤ end)
      → ((n : Node) → In n nodes → KeepsRange n) → (m n : Node) (s : ℕ) → In m nodes → In n nodes → m.level ≡ 0 → n.level ≡ 0 → HasSector m s → HasSector n s → m ≡ n
  apart_rows level ih from [] nodes end walks rise most keep m n s i j lm ln hm hn = absurd (subst (λ (l : List Node). In m l) walks i)
  apart_rows level ih from (k ∷ ks) nodes end walks rise most keep m n s i j lm ln hm hn =
      go (λ a b. apart_rows level ih k.end ks walks.1 end walks.3 rise.1 (λ t u. most t (inr u)) rest m n s a b lm ln hm hn)
      (in_either m walks.0 walks.1 (subst (λ (l : List Node). In m l) walks.4 i)) (in_either n walks.0 walks.1 (subst (λ (l : List Node). In n l) walks.4 j))
    where
      front : (x : Node) → In x walks.0 → KeepsRange x
      front x t = keep x (subst (λ (l : List Node). In x l) (sym walks.4) (in_front x walks.0 walks.1 t))

      rest : (x : Node) → In x walks.1 → KeepsRange x
      rest x t = keep x (subst (λ (l : List Node). In x l) (sym walks.4) (in_behind x walks.0 walks.1 t))

      far : (x y : Node) → In x walks.0 → In y walks.1 → HasSector x s → HasSector y s → ⊥
      far x y ix iy hx hy =
          let low = (within level from k walks.0 walks.2 front x ix).1 in
          let high = (within_rows level (within level) k.end ks walks.1 end walks.3 rise.1 (λ t u. most t (inr u)) rest y iy).0 in
          let sx = hx.1 in
          let sy = hy.0 in
          omega (arith, low, high, sx, sy)

      go : (In m walks.1 → In n walks.1 → m ≡ n) → In m walks.0 ⊎ In m walks.1 → In n walks.0 ⊎ In n walks.1 → m ≡ n
      go on (inl a) (inl b) = ih from k walks.0 walks.2 front m n s a b lm ln hm hn
      go on (inl a) (inr b) = absurd (far m n a b hm hn)
      go on (inr a) (inl b) = absurd (far n m b a hn hm)
      go on (inr a) (inr b) = on a b

  -- no two leaves have a sector
  pub apart : (level from : ℕ) (key : Key) (nodes : List Node) → IsWalk g image level from key nodes → ((n : Node) → In n nodes → KeepsRange n) → (m n : Node) (s : ℕ) → In m nodes → In n nodes → m.level ≡ 0 → n.level ≡ 0 → HasSector m s → HasSector n s → m ≡ n
  apart zero from key nodes walk keep m n s i j lm ln hm hn =
      elim (subst (λ (l : List Node). In m l) walk.2 i) [ inl e ↦ elim (subst (λ (l : List Node). In n l) walk.2 j) [ inl f ↦ e ∙ sym f | inr k ↦ absurd k ] | inr k ↦ absurd k ]
  apart (suc level) from key nodes walk keep m n s i j lm ln hm hn =
      let k = kids level from key walk.0 (keep (node_of (suc level) from key walk.0) (subst (λ (l : List Node). In (node_of (suc level) from key walk.0) l) (sym walk.4) (inl refl))) in
      go (λ a b. apart_rows level (apart level) from (children_of (set_keys walk.0)) walk.1 key.end walk.3 k.rise k.most (λ x t. keep x (subst (λ (l : List Node). In x l) (sym walk.4) (inr t))) m n s a b lm ln hm hn)
      (subst (λ (l : List Node). In m l) walk.4 i) (subst (λ (l : List Node). In n l) walk.4 j)
    where
      high : (x : Node) → x ≡ node_of (suc level) from key walk.0 → x.level ≡ 0 → ⊥
      high x e z = let up = ap (λ (y : Node). y.level) e in omega (arith, up, z)

      go : (In m walk.1 → In n walk.1 → m ≡ n) → In m (node_of (suc level) from key walk.0 ∷ walk.1) → In n (node_of (suc level) from key walk.0 ∷ walk.1) → m ≡ n
      go on (inl e) b = absurd (high m e lm)
      go on (inr a) (inl e) = absurd (high n e ln)
      go on (inr a) (inr b) = on a b

  -- ---- what a walk finds at a sector

  -- a leaf says nothing outside its range
  pub leaf_out : (n : Node) → Sits n → KeepsRange n → n.level ≡ 0 → (s : ℕ) → (HasSector n s → ⊥) → last_said (tree.set_keys (node_sets w owners image (bucket_of g n.key))) s ≡ None
  leaf_out n sit keep zero_ s out =
      let seen : tree.set_keys (node_sets w owners image (bucket_of g n.key)) ≡ reverse (set_keys n.sets) = ap tree.set_keys sit.seen ∙ ap (λ l. tree.set_keys (seen_sets g (is_leaf l) n.sets)) zero_ ∙ sym (leaf_keys g n.sets) in
      let lies : All (LiesWithin 0 n.from n.key.end) (set_keys n.sets) = subst (λ l. All (LiesWithin l n.from n.key.end) (set_keys n.sets)) zero_ keep.within in
      ap (λ (l : List Key). last_said l s) seen ∙ none_said (reverse (set_keys n.sets)) s (λ k i says.
      (let at = spoken_range k s says in
      let in_ = all_in (LiesWithin 0 n.from n.key.end) (set_keys n.sets) k lies (in_turned k (set_keys n.sets) i) in
      let a = at.0 in
      let b = at.1 in
      let d = in_.0 in
      let e = in_.1 in
      out (omega (arith, a, d), omega (arith, b, e))))

  module _ (top : List Node) where
    pub record Stands (n : Node) : Type 0 where
      pub sits : Sits n
      pub keeps : KeepsRange n
      pub in_top : In n top

    -- a leaf lies in this bucket, and has the sector
    abbrev pub good : ℕ → ℕ → Type 0
    good q s = (n : Node) × In n top × (n.level ≡ 0) × (bucket_of g n.key ≡ q) × HasSector n s

    abbrev pub at_bucket : ℕ → List Key
    at_bucket q = tree.set_keys (node_sets w owners image q)

    pub tree_local : (level from : ℕ) (key : Key) (nodes : List Node) → IsWalk g image level from key nodes → ((n : Node) → In n nodes → Stands n)
        → Local at_bucket good (tree_list (node_sets w owners image) level (bucket_of g key)) from key.end
    tree_local zero from key nodes walk stands =
        let k = stands (node_of zero from key walk.0) (subst (λ (l : List Node). In (node_of zero from key walk.0) l) (sym walk.2) (inl refl)) in
        λ s. ((λ in_. (bucket_of g key, (node_of zero from key walk.0, k.in_top, refl, refl, in_), refl)), λ out. leaf_out (node_of zero from key walk.0) k.sits k.keeps refl s out)
    tree_local (suc level) from key nodes walk stands =
        let here = stands (node_of (suc level) from key walk.0) (subst (λ (l : List Node). In (node_of (suc level) from key walk.0) l) (sym walk.4) (inl refl)) in
        let below : tree.children_of (node_sets w owners image (bucket_of g key)) ≡ map (seen_child g) (children_of (set_keys walk.0)) = ap tree.children_of here.sits.seen ∙ children_are g walk.0 in
        let k = kids level from key walk.0 here.keeps in
        chain_local (tree_list (node_sets w owners image) level) at_bucket good from (tree.children_of (node_sets w owners image (bucket_of g key))) key.end
        (subst (λ (cs : List Child). ChildRow (λ x w_ m n. Local at_bucket good (tree_list (node_sets w owners image) level x) m n) from cs key.end) (sym below)
        (rows (λ x w_ m n. Local at_bucket good (tree_list (node_sets w owners image) level x) m n) (IsWalk g image level) Stands
        (λ a child nodes_ walk_ st. tree_local level a child nodes_ walk_ st)
        from (children_of (set_keys walk.0)) walk.1 key.end walk.3 k.rise k.last (λ n i. stands n (subst (λ (l : List Node). In n l) (sym walk.4) (inr i)))))
