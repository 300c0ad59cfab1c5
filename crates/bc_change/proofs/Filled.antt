-- The inner nodes of a tree have their children below them.
use Rattle.std.proofs.Common.{◌≡◌, inl, inr, ℕ, suc, ◌<◌, List, [], ◌∷◌, ◌++◌, refl, sym, subst, ap, ◌∙◌, arith}
use Rattle.std.specs.Prelude.{map}
use Rattle.bc_disk.specs.declared.geometry.Geometry.{Geometry}
use Rattle.bc_facts.proofs.Stood.{all_in}
use Rattle.bc_inner.specs.Inner.{Inner}
use Rattle.bc_key.specs.Key.{ptr_at}
use Rattle.bc_key.specs.Words.{ptr_word}
use Rattle.bc_key.specs.declared.key.Key.{Key}
use Rattle.bc_key.specs.declared.ptr.Ptr.{Ptr}
use Rattle.bc_leaves.specs.Parts.{Stays}
use Rattle.bc_leaves.specs.Parts as parts
use Rattle.bc_leaves.specs.Rows.{Below, ChildRow, Fills}
use Rattle.bc_nodes_known.specs.bc_machine.Containers.{child_of}
use Rattle.bc_meta.specs.Facts.{In}
use Rattle.bc_spine.specs.Leaves.{IsRow}
use Rattle.bc_spine.specs.declared.leaf.LeafRange.{LeafRange}
use Rattle.bc_tree.specs.Spine.{AreInRow, Covers, IsSpine, NameLeaves, NameNodes, children_in, last_end}
use Rattle.bc_tree.proofs.Places.{spans_some}
use Rattle.bc_tree.proofs.Spines.{cover_ends, in_row}
use Rattle.bc_whole.specs.State.{Opening}

module _ (w : Opening) (leaves : ℕ → parts.Leaf) (inner_nodes : ℕ → parts.InnerNode) where
  -- a slot has this leaf, in a role that stays
  pub record HasLeaf (l : LeafRange) : Type 0 where
    pub slot : ℕ
    pub stays : Stays (leaves slot).role
    pub bucket : (leaves slot).bucket ≡ w.flow.books.bucket l.ptr.offset
    pub first : (leaves slot).first ≡ l.from
    pub end : (leaves slot).end ≡ l.end
    pub word : (leaves slot).word ≡ ptr_word l.ptr

  -- and so this inner node
  pub record HasInner (n : Inner) : Type 0 where
    pub slot : ℕ
    pub stays : Stays (inner_nodes slot).role
    pub level : suc (inner_nodes slot).height ≡ n.level
    pub bucket : (inner_nodes slot).bucket ≡ w.flow.books.bucket n.ptr.offset
    pub first : (inner_nodes slot).first ≡ n.from
    pub end : (inner_nodes slot).end ≡ n.end
    pub word : (inner_nodes slot).word ≡ ptr_word n.ptr

  abbrev LeafBelow : ℕ → ℕ → ℕ → ℕ → Type 0
  LeafBelow = Below leaves inner_nodes Stays 0

  abbrev InnerBelow : ℕ → ℕ → ℕ → ℕ → Type 0
  InnerBelow = Below leaves inner_nodes Stays 1

  leaf_below : (l : LeafRange) (k : Key) (a : ℕ) → HasLeaf l → l.from ≡ a → l.end ≡ k.end
      → l.ptr ≡ ptr_at k 0
      → LeafBelow (w.flow.books.bucket (ptr_at k 0).offset) (ptr_word (ptr_at k 0)) a k.end
  leaf_below l k a h from end ptr = (
    h.slot,
    h.stays,
    h.bucket ∙ ap (λ (p : Ptr). w.flow.books.bucket p.offset) ptr,
    h.first ∙ from,
    h.end ∙ end,
    h.word ∙ ap ptr_word ptr,
  )

  inner_below : (n : Inner) (k : Key) (a : ℕ) → HasInner n → n.level ≡ 1 → n.from ≡ a
      → n.end ≡ k.end → n.ptr ≡ ptr_at k 0
      → InnerBelow (w.flow.books.bucket (ptr_at k 0).offset) (ptr_word (ptr_at k 0)) a k.end
  inner_below n k a h level from end ptr = (
    h.slot,
    h.stays,
    (let high = h.level in omega (arith, high, level)),
    h.bucket ∙ ap (λ (p : Ptr). w.flow.books.bucket p.offset) ptr,
    h.first ∙ from,
    h.end ∙ end,
    h.word ∙ ap ptr_word ptr,
  )

  -- the leaves that some keys name, and those behind them
  record AreTaken (a : ℕ) (xs ys : List Key) (ls : List LeafRange) (b : ℕ) : Type 0 where
    rest : List LeafRange
    filled : ChildRow LeafBelow a (map (child_of w) xs) (last_end a xs)
    names : NameLeaves ys rest
    row : IsRow (last_end a xs) rest b
    among : (l : LeafRange) → In l rest → In l ls

  taken : (a : ℕ) (xs ys : List Key) (ls : List LeafRange) (b : ℕ) → NameLeaves (xs ++ ys) ls
      → IsRow a ls b → ((l : LeafRange) → In l ls → HasLeaf l) → AreTaken a xs ys ls b
  taken a [] ys ls b names row there = record {
    rest = ls;
    filled = refl;
    names = names;
    row = row;
    among = λ l m. m;
  }
  taken a (k ∷ xs) ys [] b names row there = absurd names
  taken a (k ∷ xs) ys (l ∷ ls) b names row there =
      let more = taken k.end xs ys ls b names.2 (subst (λ e. IsRow e ls b) names.0 row.2)
      (λ m at. there m (inr at)) in record {
        rest = more.rest;
        filled = (
          subst (λ e. a < e) names.0 row.1,
          leaf_below l k a (there l (inl refl)) row.0 names.0 names.1,
          more.filled,
        );
        names = more.names;
        row = more.row;
        among = λ m at. inr (more.among m at);
      }

  -- nodes above leaves
  above_leaves : (a : ℕ) (nodes : List Inner) (ls : List LeafRange) (b : ℕ)
      → NameLeaves (children_in nodes) ls → IsRow a ls b → AreInRow a nodes
      → ((n : Inner) → In n nodes → Covers n) → ((l : LeafRange) → In l ls → HasLeaf l)
      → (n : Inner) → In n nodes → ChildRow LeafBelow n.from (map (child_of w) n.children) n.end
  above_leaves a [] ls b names row nodes_row covers there n m = absurd m
  above_leaves a (k ∷ ks) ls b names row nodes_row covers there n m =
      let part = taken a k.children (children_in ks) ls b names row there in
      let ends = subst (λ f. last_end f k.children ≡ k.end) nodes_row.0
      (cover_ends k.from k.end k.children (covers k (inl refl))) in
      elim m [
        | inl here ↦ subst (λ (x : Inner). ChildRow LeafBelow x.from (map (child_of w) x.children) x.end)
            (sym here) (subst (λ f. ChildRow LeafBelow f (map (child_of w) k.children) k.end)
            (sym nodes_row.0) (subst (λ e. ChildRow LeafBelow a (map (child_of w) k.children) e) ends
            part.filled))
        | inr later ↦ above_leaves k.end ks part.rest b part.names
            (subst (λ e. IsRow e part.rest b) ends part.row) nodes_row.1
            (λ x at. covers x (inr at)) (λ l at. there l (part.among l at)) n later
      ]

  -- the root above such nodes
  above_nodes : (a : ℕ) (keys : List Key) (nodes : List Inner) → NameNodes a keys nodes
      → ((n : Inner) → In n nodes → Covers n) → ((n : Inner) → In n nodes → HasInner n)
      → ChildRow InnerBelow a (map (child_of w) keys) (last_end a keys)
  above_nodes a [] [] names covers there = refl
  above_nodes a [] (n ∷ ns) names covers there = absurd names
  above_nodes a (k ∷ ks) [] names covers there = absurd names
  above_nodes a (k ∷ ks) (n ∷ ns) names covers there =
      let from = names.1 in
      let end = names.2 in
      let some = spans_some n (covers n (inl refl)) in (
        omega (arith, from, end, some),
        inner_below n k a (there n (inl refl)) names.0 names.1 names.2 names.3,
        above_nodes k.end ks ns names.4 (λ x at. covers x (inr at)) (λ x at. there x (inr at)),
      )

  -- the shape of a node
  pub record HasShape (x : parts.InnerNode) (n : Inner) : Type 0 where
    pub first : x.first ≡ n.from
    pub end : x.end ≡ n.end
    pub level : suc x.height ≡ n.level

  low_fills : (x : parts.InnerNode) (n : Inner) → HasShape x n → n.level ≡ 1
      → ChildRow LeafBelow n.from (map (child_of w) n.children) n.end
      → Fills leaves inner_nodes Stays x (map (child_of w) n.children)
  low_fills x n shape level row =
      let high = shape.level in
      subst (λ h. ChildRow (Below leaves inner_nodes Stays h) x.first (map (child_of w) n.children) x.end)
      (height 0 (omega (arith, high, level)))
      (subst (λ f. ChildRow LeafBelow f (map (child_of w) n.children) x.end) (sym shape.first)
      (subst (λ e. ChildRow LeafBelow n.from (map (child_of w) n.children) e) (sym shape.end) row))
    where
      height : (h : ℕ) → x.height ≡ h → h ≡ x.height
      height h is = sym is

  high_fills : (x : parts.InnerNode) (n : Inner) → HasShape x n → n.level ≡ 2
      → ChildRow InnerBelow n.from (map (child_of w) n.children) n.end
      → Fills leaves inner_nodes Stays x (map (child_of w) n.children)
  high_fills x n shape level row =
      let high = shape.level in
      subst (λ h. ChildRow (Below leaves inner_nodes Stays h) x.first (map (child_of w) n.children) x.end)
      (height 1 (omega (arith, high, level)))
      (subst (λ f. ChildRow InnerBelow f (map (child_of w) n.children) x.end) (sym shape.first)
      (subst (λ e. ChildRow InnerBelow n.from (map (child_of w) n.children) e) (sym shape.end) row))
    where
      height : (h : ℕ) → x.height ≡ h → h ≡ x.height
      height h is = sym is

  level_one : (a : ℕ) (keys : List Key) (nodes : List Inner) (n : Inner) → NameNodes a keys nodes
      → In n nodes → n.level ≡ 1
  level_one a [] [] n names m = absurd m
  level_one a [] (k ∷ ks) n names m = absurd names
  level_one a (key ∷ keys) [] n names m = absurd names
  level_one a (key ∷ keys) (k ∷ ks) n names (inl here) = ap (λ (x : Inner). x.level) here ∙ names.0
  level_one a (key ∷ keys) (k ∷ ks) n names (inr later) = level_one key.end keys ks n names.4 later

  -- Each inner node of the tree has its children below it.
  pub tree_filled : (g : Geometry) (root : Inner) (below : List Inner) (ls : List LeafRange) (b : ℕ)
      → IsSpine g root below ls → IsRow 0 ls b → ((l : LeafRange) → In l ls → HasLeaf l)
      → ((n : Inner) → In n below → HasInner n) → (n : Inner) → In n (root ∷ below)
      → (x : parts.InnerNode) → HasShape x n
      → Fills leaves inner_nodes Stays x (map (child_of w) n.children)
  tree_filled g root [] ls b tree row there inner n m x shape = low_fills x n shape
      (elim m [
        | inl here ↦ ap (λ (y : Inner). y.level) here ∙ tree.inner.root_of
        | inr later ↦ absurd later
      ])
      (above_leaves 0 (root ∷ []) ls b tree.names row (tree.inner.begins, tt)
      (λ y at. elim at [
        | inl here ↦ subst Covers (sym here) tree.cover.0
        | inr later ↦ absurd later
      ]) there n m)
  tree_filled g root (k ∷ ks) ls b tree row there inner n m x shape =
      let named = tree.inner.root_of.1 in
      let covers = λ (y : Inner) (at : In y (k ∷ ks)). all_in Covers (k ∷ ks) y tree.cover.1 at in
      elim m [
        | inl here ↦ subst (λ (y : Inner). HasShape x y
            → Fills leaves inner_nodes Stays x (map (child_of w) y.children)) (sym here)
            (λ at_root. high_fills x root at_root tree.inner.root_of.0
            (subst (λ e. ChildRow InnerBelow root.from (map (child_of w) root.children) e)
            (cover_ends root.from root.end root.children tree.cover.0)
            (above_nodes root.from root.children (k ∷ ks) named covers inner))) shape
        | inr later ↦ low_fills x n shape (level_one root.from root.children (k ∷ ks) n named later)
            (above_leaves 0 (k ∷ ks) ls b tree.names row
            (subst (λ f. AreInRow f (k ∷ ks)) tree.inner.begins
            (in_row root.from root.children (k ∷ ks) named).0) covers there n later)
      ]
