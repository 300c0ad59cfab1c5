-- The nodes of a tree in memory, in the machine's slots.
use Rattle.std.proofs.Common.{◌≡◌, inl, inr, ℕ, zero, suc, ◌+◌, ◌<◌, Bool, List, [], ◌∷◌, Option, Some, None, refl, sym, ap, ◌∙◌, subst, arith}
use Rattle.std.specs.Prelude.{Contains, map}
use Rattle.bc_chosen.specs.Parts.{Parts}
use Rattle.bc_chosen.specs.Slots.{node_at, node_by}
use Rattle.bc_chosen.specs.Waiting.{waiting_at}
use Rattle.bc_chosen.proofs.Parts.{law_chosen}
use Rattle.bc_chosen.proofs.Slots.{by_in, inner_back}
use Rattle.bc_disk.specs.declared.geometry.Geometry.{Geometry}
use Rattle.bc_facts.specs.Seen.{bucket_of, counted, is_gone, seen_child, seen_sets, word_of}
use Rattle.bc_facts.proofs.Stood.{contains_in, in_contains}
use Rattle.bc_image.specs.Pair.{Pair}
use Rattle.bc_image.specs.Reading.{Reading, View}
use Rattle.bc_image.specs.Tree.{IsWalk, Node}
use Rattle.bc_inner.specs.Inner.{Inner}
use Rattle.bc_key.specs.Key.{ptr_at}
use Rattle.bc_key.specs.Words.{ptr_word}
use Rattle.bc_key.specs.declared.key.Key.{Key}
use Rattle.bc_key.specs.declared.ptr.Ptr.{Ptr}
use Rattle.bc_leaves.specs.Parts as parts
use Rattle.bc_machine.specs.Containers.{IsAtRest, IsInTree, IsSpineOf, IsTreeInner, IsTreeLeaf, Rests, child_of, inner_slot}
use Rattle.bc_meta.specs.Entries.{Entry}
use Rattle.bc_meta.specs.Facts.{In}
use Rattle.bc_meta.specs.Layout.{Layout}
use Rattle.bc_meta.specs.Records as records
use Rattle.bc_meta.specs.Tree as tree
use Rattle.bc_meta.specs.Tree.{Child}
use Rattle.bc_model.specs.Sector.{Image}
use Rattle.bc_opening.specs.Nodes.{opened_node}
use Rattle.bc_opening.specs.Read.{height_of, inner_of, is_leaf, leaf_of}
use Rattle.bc_record.specs.Places.{bucket_at}
use Rattle.bc_remains.proofs.Children.{children_are}
use Rattle.bc_slots.specs.bc_regrow.Parts.{AreOfNodes, AreRangesOf, IsOfNode, IsRangeOf, inner_nodes, leaf_nodes}
use Rattle.bc_shares.specs.Shares.{InnerShare, inner_share, node_share, shape_of}
use Rattle.bc_spine.specs.Leaves.{AreCounted}
use Rattle.bc_spine.specs.Numbers.{HasNumber}
use Rattle.bc_spine.specs.declared.leaf.LeafRange.{LeafRange}
use Rattle.bc_whole.specs.State.{Opening}
use Rattle.bc_begun.specs.Laws.{LawSpine}
use Rattle.bc_begun.specs.Opened.{IsOpenedWith}
use Rattle.bc_begun.proofs.Opened.{node_is}

-- ---- lists by places

-- a leaf stands at the place of its number
record Placed (ns : List Node) (first : ℕ) (l : LeafRange) : Type 0 where
  at : ℕ
  node : Node
  number : l.number ≡ first + at
  here : node_at ns at ≡ Some node
  range : IsRangeOf node l

placed : (ns : List Node) (leaves : List LeafRange) (first : ℕ) (l : LeafRange) → AreRangesOf ns leaves
    → AreCounted first leaves → In l leaves → Placed ns first l
placed [] [] first l ranges counted i = absurd i
placed [] (m ∷ leaves) first l ranges counted i = absurd ranges
placed (n ∷ ns) [] first l ranges counted i = absurd i
placed (n ∷ ns) (m ∷ leaves) first l ranges counted (inl e) =
    let number : l.number ≡ first = ap (λ (x : LeafRange). x.number) e ∙ counted.0 in record {
      at = 0;
      node = n;
      number = omega (arith, number);
      here = refl;
      range = subst (λ (x : LeafRange). IsRangeOf n x) (sym e) ranges.0;
    }
placed (n ∷ ns) (m ∷ leaves) first l ranges counted (inr i) =
    let k = placed ns leaves (suc first) l ranges.1 counted.1 i in
    let number = k.number in record {
      at = suc k.at;
      node = k.node;
      number = omega (arith, number);
      here = k.here;
      range = k.range;
    }

numbered : (ns : List Node) (leaves : List LeafRange) (first i : ℕ) (n : Node) → AreRangesOf ns leaves
    → AreCounted first leaves → node_at ns i ≡ Some n
    → (l : LeafRange) × In l leaves × (l.number ≡ first + i)
numbered [] [] first i n ranges counted e = absurd (cc)
numbered [] (m ∷ leaves) first i n ranges counted e = absurd ranges
numbered (k ∷ ns) [] first i n ranges counted e = absurd ranges
numbered (k ∷ ns) (m ∷ leaves) first zero n ranges counted e =
    let number = counted.0 in (m, inl refl, omega (arith, number))
numbered (k ∷ ns) (m ∷ leaves) first (suc i) n ranges counted e =
    let l = numbered ns leaves (suc first) i n ranges.1 counted.1 e in
    let number = l.2 in (l.0, inr l.1, omega (arith, number))

-- an inner node is one of these
inner_among : (g : Geometry) (ns : List Node) (inners : List Inner) (y : Inner) → AreOfNodes g ns inners
    → In y inners → (n : Node) × In n ns × IsOfNode g n y
inner_among g [] [] y are i = absurd i
inner_among g [] (m ∷ inners) y are i = absurd are
inner_among g (n ∷ ns) [] y are i = absurd i
inner_among g (n ∷ ns) (m ∷ inners) y are (inl e) =
    (n, inl refl, subst (λ (x : Inner). IsOfNode g n x) (sym e) are.0)
inner_among g (n ∷ ns) (m ∷ inners) y are (inr i) =
    let k = inner_among g ns inners y are.1 i in (k.0, inr k.1, k.2)

among_inner : (g : Geometry) (ns : List Node) (inners : List Inner) (n : Node) → AreOfNodes g ns inners
    → In n ns → (y : Inner) × In y inners × IsOfNode g n y
among_inner g [] [] n are i = absurd i
among_inner g [] (m ∷ inners) n are i = absurd are
among_inner g (k ∷ ns) [] n are i = absurd are
among_inner g (k ∷ ns) (m ∷ inners) n are (inl e) =
    (m, inl refl, subst (λ (x : Node). IsOfNode g x m) (sym e) are.0)
among_inner g (k ∷ ns) (m ∷ inners) n are (inr i) =
    let y = among_inner g ns inners n are.1 i in (y.0, inr y.1, y.2)

above_zero : (l : ℕ) → 0 < l → (k : ℕ) × (l ≡ suc k)
above_zero zero low = absurd (omega (arith, low))
above_zero (suc k) low = (k, refl)

-- the first inner node that a walk meets is the one from which it begins
first_inner : (g : Geometry) (image : Image) (level from : ℕ) (key : Key)
    (ns : List Node) (y : Inner) (below : List Inner) → IsWalk g image level from key ns
    → AreOfNodes g (inner_nodes ns) (y ∷ below) → (y.end ≡ key.end) × (y.ptr ≡ ptr_at key 0)
first_inner g image zero from key ns y below walk are =
    absurd (subst (λ (l : List Node). AreOfNodes g (inner_nodes l) (y ∷ below)) walk.2 are)
first_inner g image (suc level) from key ns y below walk are =
    let one = (subst (λ (l : List Node). AreOfNodes g (inner_nodes l) (y ∷ below)) walk.4 are).0 in
    (one.ends, one.ptr)

-- ---- slots

leaf_rests : (g : Geometry) (o : Option Node) (pending : List parts.Pending)
    → Rests (leaf_of g o pending).role
leaf_rests g None pending = inl refl
leaf_rests g (Some n) pending = inr refl

inner_rests : (g : Geometry) (o : Option Node) → Rests (inner_of g o).role
inner_rests g None = inl refl
inner_rests g (Some n) = inr refl

abbrev child : ℕ → ℕ → ℕ → Bool → Child
child end bucket word gone = record { end = end; bucket = bucket; word = word; gone = gone }

abbrev inner_shared : parts.InnerNode → records.Node → InnerShare
inner_shared y node = record { inner = y; node = node_share node }

-- ---- a machine that is opened

module _ (p : Pair) (v : View) (layout : Layout) (x : Parts) (w : Opening) (st : parts.State)
    (h : IsOpenedWith p v layout x w st) where
  abbrev g : Geometry
  g = v.geometry

  abbrev r : Reading
  r = v.reading

  in_bucket : (at ptr : Ptr) → ptr ≡ at → counted g (bucket_at g at.offset) ≡ w.flow.books.bucket ptr.offset
  in_bucket at ptr is = sym (h.opening.books.bucket ptr.offset
      ∙ ap (λ (q : Ptr). counted g (bucket_at g q.offset)) is)

  pub tree_leaf : (l : LeafRange) (k : ℕ) (n : Node) → node_at (leaf_nodes r.nodes) k ≡ Some n → IsRangeOf n l
      → IsTreeLeaf w l.from l.end l.ptr (shape_of (st.leaves k))
  tree_leaf l k n here range = subst (λ (y : parts.Leaf). IsTreeLeaf w l.from l.end l.ptr (shape_of y))
      (sym (h.opening.parts.leaves k ∙ ap (λ o. leaf_of g o (waiting_at x.pending k)) here)) (record {
        role = tt;
        first = sym range.begins;
        end_is = sym range.ends;
        bucket = in_bucket (ptr_at n.key 0) l.ptr range.stands;
        word = ap ptr_word (sym range.stands);
      })

  all_leaves : (k : ℕ) → IsInTree (st.leaves k).role → HasNumber x.tree.leaves k
  all_leaves k live = go (node_at (leaf_nodes r.nodes) k) refl
    where
      go : (o : Option Node) → node_at (leaf_nodes r.nodes) k ≡ o → HasNumber x.tree.leaves k
      go None e = absurd (subst (λ (y : parts.Leaf). IsInTree y.role)
          (h.opening.parts.leaves k ∙ ap (λ o. leaf_of g o (waiting_at x.pending k)) e) live)
      go (Some n) e =
          let l = numbered (leaf_nodes r.nodes) x.tree.leaves 0 k n h.read.tree.leaves h.read.tree.counted e in
          let number = l.2 in (l.0, in_contains x.tree.leaves l.0 l.1, omega (arith, number))

  -- an inner node is in the slot of its bucket
  pub record InSlot (i : ℕ) (n : Node) : Type 0 where
    pub held : In n r.nodes
    pub level : (l : ℕ) × (n.level ≡ suc l)
    pub there : node_by g (inner_nodes r.nodes) i ≡ Some n

  in_slot : (n : Node) → In n (inner_nodes r.nodes)
      → (i : ℕ) × InSlot i n × (bucket_of g n.key ≡ i)
  in_slot n i =
      let chosen = law_chosen p v x h.view h.sound h.read in
      let back = inner_back r.nodes n i in
      let at = chosen.inner_nodes.all n back.0 back.1 in (
        at.0,
        record { held = back.0; level = above_zero n.level back.1; there = at.1 },
        (by_in g (inner_nodes r.nodes) at.0 n at.1).1,
      )

  share_is : (i : ℕ) (n : Node) → InSlot i n
      → inner_share st i ≡ inner_shared (inner_of g (Some n)) (opened_node g n)
  share_is i n here = ap (λ (y : parts.InnerNode). inner_shared y (st.records.nodes y.bucket))
      (h.opening.parts.inner_nodes i ∙ ap (λ o. inner_of g o) here.there)
      ∙ ap (inner_shared (inner_of g (Some n))) (node_is p v layout x w st h n here.held)

  child_is : (key : Key) → seen_child g key ≡ child_of w key
  child_is key = ap (λ b. child key.end b (word_of key) (is_gone key))
      (sym (h.opening.books.bucket (ptr_at key 0).offset))

  children_as : (keys : List Key) → map (seen_child g) keys ≡ map (child_of w) keys
  children_as [] = refl
  children_as (key ∷ keys) = ap (λ c. c ∷ map (seen_child g) keys) (child_is key)
      ∙ ap (λ cs. child_of w key ∷ cs) (children_as keys)

  -- the children that a node's sets name are those that it has in memory
  named : (y : Inner) (i : ℕ) (n : Node) → InSlot i n → IsOfNode g n y
      → tree.children_of (seen_sets g (is_leaf n.level) n.sets) ≡ map (child_of w) y.children
  named y i n here of =
      ap (λ b. tree.children_of (seen_sets g b n.sets)) (ap is_leaf here.level.1)
      ∙ children_are g n.sets ∙ ap (map (seen_child g)) (sym of.children) ∙ children_as y.children

  tree_inner : (y : Inner) (i : ℕ) (n : Node) → InSlot i n → IsOfNode g n y
      → IsTreeInner w st.change i y (inner_share st i)
  tree_inner y i n here of = let level = here.level in
      subst (λ (z : InnerShare). IsTreeInner w st.change i y z) (sym (share_is i n here)) (record {
        role = tt;
        first = sym of.begins;
        end = sym of.ends;
        bucket = in_bucket (ptr_at n.key 0) y.ptr of.ptr;
        word = ap ptr_word (sym of.ptr);
        level = ap (λ l. suc (height_of l)) level.1 ∙ sym level.1 ∙ sym of.level_is;
        loaded = λ on. of.loaded;
        own = λ off. absurd (let read = of.loaded in cc);
        children = λ calm. named y i n here of;
      })

  nodes : (y : Inner) → Contains (x.tree.root ∷ x.tree.below) y
      → IsTreeInner w st.change (inner_slot w y) y (inner_share st (inner_slot w y))
  nodes y i =
      let n = inner_among g (inner_nodes r.nodes) (x.tree.root ∷ x.tree.below) y h.read.tree.inner
      (contains_in (x.tree.root ∷ x.tree.below) y i) in
      let at = in_slot n.0 n.1 in
      subst (λ k. IsTreeInner w st.change k y (inner_share st k))
      (sym at.2 ∙ in_bucket (ptr_at n.0.key 0) y.ptr n.2.ptr) (tree_inner y at.0 n.0 at.1 n.2)

  all_nodes : (i : ℕ) → IsInTree (st.inner_nodes i).role
      → (y : Inner) × Contains (x.tree.root ∷ x.tree.below) y × (inner_slot w y ≡ i)
  all_nodes i live = go (node_by g (inner_nodes r.nodes) i) refl
    where
      go : (o : Option Node) → node_by g (inner_nodes r.nodes) i ≡ o
          → (y : Inner) × Contains (x.tree.root ∷ x.tree.below) y × (inner_slot w y ≡ i)
      go None e = absurd (subst (λ (z : parts.InnerNode). IsInTree z.role)
          (h.opening.parts.inner_nodes i ∙ ap (λ o. inner_of g o) e) live)
      go (Some n) e =
          let lies = by_in g (inner_nodes r.nodes) i n e in
          let y = among_inner g (inner_nodes r.nodes) (x.tree.root ∷ x.tree.below) n h.read.tree.inner
          lies.0 in (
            y.0,
            in_contains (x.tree.root ∷ x.tree.below) y.0 y.1,
            sym (in_bucket (ptr_at n.key 0) y.0.ptr y.2.ptr) ∙ lies.1,
          )

  first : (x.tree.root.end ≡ r.newest.item.root.end)
      × (x.tree.root.ptr ≡ ptr_at r.newest.item.root 0)
  first = first_inner g p.cache r.newest.item.level 0 r.newest.item.root r.nodes x.tree.root
      x.tree.below h.view.reading.nodes h.read.tree.inner

  spine : IsSpineOf w st x.tree
  spine = record {
    leaves = λ l i.
        let k = placed (leaf_nodes r.nodes) x.tree.leaves 0 l h.read.tree.leaves h.read.tree.counted
        (contains_in x.tree.leaves l i) in
        let number = k.number in
        let at : k.at ≡ l.number = omega (arith, number) in
        subst (λ n. IsTreeLeaf w l.from l.end l.ptr (shape_of (st.leaves n))) at
        (tree_leaf l k.at k.node k.here k.range);
    all_leaves = all_leaves;
    nodes = nodes;
    all_nodes = all_nodes;
    end = h.opening.parts.end ∙ sym (first.0 ∙ h.sound.pointers.root);
  }

  rest : IsAtRest w st x.tree
  rest = record {
    change = h.opening.parts.change;
    leaves = λ k. subst (λ (y : parts.Leaf). Rests y.role) (sym (h.opening.parts.leaves k))
        (leaf_rests g (node_at (leaf_nodes r.nodes) k) (waiting_at x.pending k));
    inner_nodes = λ i. subst (λ (y : parts.InnerNode). Rests y.role)
        (sym (h.opening.parts.inner_nodes i)) (inner_rests g (node_by g (inner_nodes r.nodes) i));
    root = record {
      newest = ap (λ (y : records.Records). y.newest.root) h.opening.records
          ∙ ap (λ (e : Entry). e.root) (sym h.opening.store.opens.means.newest_is)
          ∙ in_bucket (ptr_at r.newest.item.root 0) x.tree.root.ptr first.1;
      sealed = λ some. absurd (some (ap (λ (y : records.Records). y.stage) h.opening.records));
    };
  }

pub law_spine : LawSpine
law_spine p v layout x w st next_seq h = record {
  spine = spine p v layout x w st h;
  next_seq = refl;
  rest = λ off. rest p v layout x w st h;
}
