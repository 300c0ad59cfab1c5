-- The nodes of a reading by slots, and the leaf of a sector.
use Rattle.std.proofs.Common.{subst, ◌≡◌, ◌⊎◌, inl, inr, ℕ, zero, suc, ◌+◌, ◌<◌, ◌≤◌, ◌&&◌, Bool, true, false, List, [], ◌∷◌, length, Option, Some, None, refl, sym, ap, ◌∙◌, arith, if◌then◌else◌, nat_le, nat_lt}
use Rattle.std.specs.Prelude.{All, AllPairs, slice_index_or}
use Rattle.bc_disk.specs.declared.geometry.Geometry.{Geometry}
use Rattle.bc_facts.specs.Reads.{back}
use Rattle.bc_facts.specs.Seen.{bucket_of}
use Rattle.bc_facts.proofs.Made.{law_layout}
use Rattle.bc_facts.proofs.Stood.{all_in}
use Rattle.bc_image.specs.Pointers.{PointsInto}
use Rattle.bc_image.specs.Reading.{IsReading, Reading}
use Rattle.bc_image.specs.Sound.{HasOneUse, HasPointers, HasRanges, IsNodeKey, KeepsRange}
use Rattle.bc_image.specs.Tree.{Node}
use Rattle.bc_image.proofs.Unique.{some_same}
use Rattle.bc_meta.specs.Facts.{In}
use Rattle.bc_meta.specs.Tree.{Owner}
use Rattle.bc_model.specs.Sector.{Image}
use Rattle.bc_model.proofs.Cases.{by_test}
use Rattle.bc_opening.specs.Choices.{AreInSlots, IsInner, IsLeaf}
use Rattle.bc_opening.proofs.Nodes as nodes
use Rattle.bc_opening.proofs.Uses.{le_tells, lt_tells, points_into}
use Rattle.bc_regrow.specs.Parts.{AreRangesOf, if_inner, if_leaf, inner_nodes, leaf_nodes}
use Rattle.bc_regrow.specs.Tree.{IsTreeOf}
use Rattle.bc_spine.specs.Leaves.{AreCounted}
use Rattle.bc_spine.specs.declared.leaf.LeafRange.{LeafRange}
use Rattle.bc_tree.specs.Spine.{Spine}
use Rattle.bc_chosen.specs.Slots.{HaveSlots, LawSlots, node_at, node_by, slot_at, spans}

-- ---- a list by places

node_in : (ns : List Node) (i : ℕ) (n : Node) → node_at ns i ≡ Some n → In n ns
node_in [] i n e = absurd (cc)
node_in (m ∷ ns) zero n e = inl (sym (some_same m n e))
node_in (m ∷ ns) (suc i) n e = inr (node_in ns i n e)

in_node : (ns : List Node) (n : Node) → In n ns → (i : ℕ) × (node_at ns i ≡ Some n)
in_node [] n i = absurd i
in_node (m ∷ ns) n (inl e) = (0, ap Some (sym e))
in_node (m ∷ ns) n (inr i) = let k = in_node ns n i in (suc k.0, k.1)

-- the one that is in a bucket lies there
pub by_in : (g : Geometry) (ns : List Node) (q : ℕ) (n : Node) → node_by g ns q ≡ Some n
    → In n ns × (bucket_of g n.key ≡ q)
by_in g [] q n e = absurd (cc)
by_in g (m ∷ ns) q n e = by_test (bucket_of g m.key) q
    (λ t. (if t then Some m else node_by g ns q) ≡ Some n → In n (m ∷ ns) × (bucket_of g n.key ≡ q))
    (λ here is. let same = some_same m n is in
    (inl (sym same), subst (λ (x : Node). bucket_of g x.key ≡ q) same here))
    (λ other is. let rest = by_in g ns q n is in (inr rest.0, rest.1)) e

-- each has this to each that comes later
abbrev Apart : (Node → Node → Type 0) → List Node → Type 0
Apart R [] = Unit {0}
Apart R (n ∷ ns) = ((m : Node) → In m ns → R n m) × Apart R ns

apart_all : (R : Node → Node → Type 0) (ns : List Node) → AllPairs R ns → Apart R ns
apart_all R [] pairs = tt
apart_all R (n ∷ ns) pairs = (
  (λ m i. all_in (λ x. R n x) ns m (λ j d lt. pairs 0 (suc j) d (omega arith) (omega (arith, lt))) i),
  apart_all R ns (λ j k d lt inside. pairs (suc j) (suc k) d (omega (arith, lt)) (omega (arith, inside))),
)

-- where no two lie in one bucket, each is the one that is in its bucket
in_by : (g : Geometry) (R : Node → Node → Type 0) (ns : List Node) → Apart R ns → (n : Node)
    → ((m : Node) → In m ns → R m n → bucket_of g m.key ≡ bucket_of g n.key → ⊥) → In n ns
    → node_by g ns (bucket_of g n.key) ≡ Some n
in_by g R [] apart n never i = absurd i
in_by g R (m ∷ ns) apart n never (inl e) = by_test (bucket_of g m.key) (bucket_of g n.key)
    (λ t. (if t then Some m else node_by g ns (bucket_of g n.key)) ≡ Some n)
    (λ here. ap Some (sym e)) (λ other. absurd (other (ap (λ (x : Node). bucket_of g x.key) (sym e))))
in_by g R (m ∷ ns) apart n never (inr i) = by_test (bucket_of g m.key) (bucket_of g n.key)
    (λ t. (if t then Some m else node_by g ns (bucket_of g n.key)) ≡ Some n)
    (λ here. absurd (never m (inl refl) (apart.0 n i) here))
    (λ other. in_by g R ns apart.1 n (λ k j. never k (inr j)) i)

node_once : (R : Node → Node → Type 0) (ns : List Node) → Apart R ns → (n : Node) → (R n n → ⊥) → (i k : ℕ) → node_at ns i ≡ Some n → node_at ns k ≡ Some n → i ≡ k
node_once R [] apart n never i k a b = absurd (cc)
node_once R (m ∷ ns) apart n never zero zero a b = refl
node_once R (m ∷ ns) apart n never zero (suc k) a b = absurd (never (subst (λ x. R x n) (some_same m n a) (apart.0 n (node_in ns k n b))))
node_once R (m ∷ ns) apart n never (suc i) zero a b = absurd (never (subst (λ x. R x n) (some_same m n b) (apart.0 n (node_in ns i n a))))
node_once R (m ∷ ns) apart n never (suc i) (suc k) a b = ap suc (node_once R ns apart.1 n never i k a b)

-- ---- the leaves among nodes, and the others

one_leaf : (l : ℕ) (m n : Node) (ns : List Node) → m.level ≡ l → In n (if_leaf l m ns) → ((n ≡ m) × IsLeaf n.level) ⊎ In n ns
one_leaf zero m n ns level (inl e) = inl (e, subst (λ (x : Node). x.level ≡ 0) (sym e) level)
one_leaf zero m n ns level (inr i) = inr i
one_leaf (suc l) m n ns level i = inr i

leaf_back : (ns : List Node) (n : Node) → In n (leaf_nodes ns) → In n ns × IsLeaf n.level
leaf_back [] n i = absurd i
leaf_back (m ∷ ns) n i = elim (one_leaf m.level m n (leaf_nodes ns) refl i) [
  | inl k ↦ (inl k.0, k.1)
  | inr j ↦ (let k = leaf_back ns n j in (inr k.0, k.1))
]

this_leaf : (l : ℕ) (m : Node) (ns : List Node) → l ≡ 0 → In m (if_leaf l m ns)
this_leaf zero m ns level = inl refl
this_leaf (suc l) m ns level = absurd (omega (arith, level))

more_leaf : (l : ℕ) (m n : Node) (ns : List Node) → In n ns → In n (if_leaf l m ns)
more_leaf zero m n ns i = inr i
more_leaf (suc l) m n ns i = i

to_leaf : (ns : List Node) (n : Node) → In n ns → IsLeaf n.level → In n (leaf_nodes ns)
to_leaf [] n i level = absurd i
to_leaf (m ∷ ns) n (inl e) level = subst (λ (x : Node). In x (leaf_nodes (m ∷ ns))) (sym e) (this_leaf m.level m (leaf_nodes ns) (subst (λ (x : Node). x.level ≡ 0) e level))
to_leaf (m ∷ ns) n (inr i) level = more_leaf m.level m n (leaf_nodes ns) (to_leaf ns n i level)

leaf_apart : (R : Node → Node → Type 0) (ns : List Node) → Apart R ns → Apart R (leaf_nodes ns)
leaf_apart R [] apart = tt
leaf_apart R (m ∷ ns) apart = go m.level (leaf_apart R ns apart.1)
  where
    go : (l : ℕ) → Apart R (leaf_nodes ns) → Apart R (if_leaf l m (leaf_nodes ns))
    go zero rest = ((λ n i. apart.0 n (leaf_back ns n i).0), rest)
    go (suc l) rest = rest

one_inner : (l : ℕ) (m n : Node) (ns : List Node) → m.level ≡ l → In n (if_inner l m ns) → ((n ≡ m) × IsInner n.level) ⊎ In n ns
one_inner zero m n ns level i = inr i
one_inner (suc l) m n ns level (inl e) = inl (e, subst (λ (x : Node). 0 < x.level) (sym e) (omega (arith, level)))
one_inner (suc l) m n ns level (inr i) = inr i

pub inner_back : (ns : List Node) (n : Node) → In n (inner_nodes ns) → In n ns × IsInner n.level
inner_back [] n i = absurd i
inner_back (m ∷ ns) n i = elim (one_inner m.level m n (inner_nodes ns) refl i) [
  | inl k ↦ (inl k.0, k.1)
  | inr j ↦ (let k = inner_back ns n j in (inr k.0, k.1))
]

this_inner : (l : ℕ) (m : Node) (ns : List Node) → 0 < l → In m (if_inner l m ns)
this_inner zero m ns level = absurd (omega (arith, level))
this_inner (suc l) m ns level = inl refl

more_inner : (l : ℕ) (m n : Node) (ns : List Node) → In n ns → In n (if_inner l m ns)
more_inner zero m n ns i = i
more_inner (suc l) m n ns i = inr i

to_inner : (ns : List Node) (n : Node) → In n ns → IsInner n.level → In n (inner_nodes ns)
to_inner [] n i level = absurd i
to_inner (m ∷ ns) n (inl e) level = subst (λ (x : Node). In x (inner_nodes (m ∷ ns))) (sym e) (this_inner m.level m (inner_nodes ns) (subst (λ (x : Node). 0 < x.level) e level))
to_inner (m ∷ ns) n (inr i) level = more_inner m.level m n (inner_nodes ns) (to_inner ns n i level)

inner_apart : (R : Node → Node → Type 0) (ns : List Node) → Apart R ns → Apart R (inner_nodes ns)
inner_apart R [] apart = tt
inner_apart R (m ∷ ns) apart = go m.level (inner_apart R ns apart.1)
  where
    go : (l : ℕ) → Apart R (inner_nodes ns) → Apart R (if_inner l m (inner_nodes ns))
    go zero rest = rest
    go (suc l) rest = ((λ n i. apart.0 n (inner_back ns n i).0), rest)

-- ---- ranges of leaves

and_both : (a b : Bool) → (a && b) ≡ true → (a ≡ true) × (b ≡ true)
and_both true b e = (refl, e)
and_both false b e = absurd (cc)

both_and : (a b : Bool) → a ≡ true → b ≡ true → (a && b) ≡ true
both_and true b e f = f
both_and false b e f = absurd (cc)

abbrev HasSector : Node → ℕ → Type 0
HasSector n s = (n.from ≤ s) × (s < n.key.end)

spans_tells : (leaf : LeafRange) (s : ℕ) → spans leaf s ≡ true → (leaf.from ≤ s) × (s < leaf.end)
spans_tells leaf s e = let k = and_both (nat_le leaf.from s) (nat_lt s leaf.end) e in ((le_tells leaf.from s).0 k.0, (lt_tells s leaf.end).0 k.1)

tells_spans : (leaf : LeafRange) (s : ℕ) → leaf.from ≤ s → s < leaf.end → spans leaf s ≡ true
tells_spans leaf s low high = both_and (nat_le leaf.from s) (nat_lt s leaf.end) ((le_tells leaf.from s).1 low) ((lt_tells s leaf.end).1 high)

-- the first leaf that has a sector
record FoundAt (ns : List Node) (leaves : List LeafRange) (first s : ℕ) : Type 0 where
  at : ℕ
  node : Node
  is : slot_at leaves s ≡ first + at
  here : node_at ns at ≡ Some node
  has : HasSector node s

find : (ns : List Node) (leaves : List LeafRange) (first s k : ℕ) (n : Node) → AreRangesOf ns leaves → AreCounted first leaves → node_at ns k ≡ Some n → HasSector n s → FoundAt ns leaves first s
find [] [] first s k n ranges counted e has = absurd (cc)
find [] (leaf ∷ leaves) first s k n ranges counted e has = absurd ranges
find (m ∷ ns) [] first s k n ranges counted e has = absurd ranges
find (m ∷ ns) (leaf ∷ leaves) first s k n ranges counted e has = go (spans leaf s) refl k e (λ j h. find ns leaves (suc first) s j n ranges.1 counted.1 h has)
  where
    two : (b : Bool) → b ≡ true → b ≡ false → ⊥
    two b x y = cc

    begins : leaf.from ≡ m.from
    begins = ranges.0.begins

    ends : leaf.end ≡ m.key.end
    ends = ranges.0.ends

    go : (b : Bool) → spans leaf s ≡ b → (k : ℕ) → node_at (m ∷ ns) k ≡ Some n → ((j : ℕ) → node_at ns j ≡ Some n → FoundAt ns leaves (suc first) s) → FoundAt (m ∷ ns) (leaf ∷ leaves) first s
    go true t k e later =
        let range = spans_tells leaf s t in
        let number = counted.0 in
        let low_is = begins in
        let high_is = ends in
        record {
          at = 0;
          node = m;
          is = ap (λ (b : Bool). if b then leaf.number else slot_at leaves s) t ∙ (let z : leaf.number ≡ first + 0 = omega (arith, number) in z);
          here = refl;
          has = (omega (arith, low_is, range.0), omega (arith, high_is, range.1));
        }
    go false t zero e later =
        let own : HasSector m s = subst (λ (x : Node). HasSector x s) (sym (some_same m n e)) has in
        let low_is = begins in
        let high_is = ends in
        absurd (two (spans leaf s) (tells_spans leaf s (omega (arith, low_is, own.0)) (omega (arith, high_is, own.1))) t)
    go false t (suc k) e later =
        let f = later k e in
        let is = f.is in
        record {
          at = suc f.at;
          node = f.node;
          is = ap (λ (b : Bool). if b then leaf.number else slot_at leaves s) t ∙ (let z : slot_at leaves s ≡ first + suc f.at = omega (arith, is) in z);
          here = f.here;
          has = f.has;
        }

-- the leaf's range, by its number
pub range_at : (ns : List Node) (leaves : List LeafRange) (i : ℕ) (n : Node) (d : LeafRange) → AreRangesOf ns leaves → node_at ns i ≡ Some n
    → (i < length leaves) × ((slice_index_or leaves i d).from ≡ n.from) × ((slice_index_or leaves i d).end ≡ n.key.end)
range_at [] [] i n d ranges e = absurd (cc)
range_at [] (leaf ∷ leaves) i n d ranges e = absurd ranges
range_at (m ∷ ns) [] i n d ranges e = absurd ranges
range_at (m ∷ ns) (leaf ∷ leaves) zero n d ranges e =
    let same = some_same m n e in
    (omega arith, ranges.0.begins ∙ ap (λ (x : Node). x.from) same, ranges.0.ends ∙ ap (λ (x : Node). x.key.end) same)
range_at (m ∷ ns) (leaf ∷ leaves) (suc i) n d ranges e =
    let k = range_at ns leaves i n d ranges.1 e in
    let low = k.0 in
    (omega (arith, low), k.1, k.2)

-- ---- of a sound reading

module _ (g : Geometry) (image : Image) (size : ℕ) (r : Reading) (tree : Spine) (reading : IsReading g image r) (ranges : HasRanges r) (pointers : HasPointers g size r) (uses : HasOneUse g r) (is : IsTreeOf g r.nodes tree) where
  abbrev NoBucket : Node → Node → Type 0
  NoBucket m n = (bucket : ℕ) → PointsInto g m.key bucket → PointsInto g n.key bucket → ⊥

  apart : Apart NoBucket r.nodes
  apart = apart_all NoBucket r.nodes uses.nodes

  -- the bucket that a node lies in
  lies : (n : Node) → In n r.nodes → PointsInto g n.key (back g (bucket_of g n.key))
  lies n i = let key = all_in (λ (x : Node). IsNodeKey g x.key) r.nodes n pointers.nodes i in
      (points_into g n.key key.some key.ptrs (bucket_of g n.key)).0 refl

  -- a node lies in some bucket
  never : (n : Node) → In n r.nodes → NoBucket n n → ⊥
  never n i none =
      let here = lies n i in none (back g (bucket_of g n.key)) here here

  leaf_once : (i k : ℕ) (n : Node) → node_at (leaf_nodes r.nodes) i ≡ Some n → node_at (leaf_nodes r.nodes) k ≡ Some n → i ≡ k
  leaf_once i k n a b = node_once NoBucket (leaf_nodes r.nodes) (leaf_apart NoBucket r.nodes apart) n (never n (leaf_back r.nodes n (node_in (leaf_nodes r.nodes) i n a)).0) i k a b

  leaves : AreInSlots r.nodes IsLeaf (node_at (leaf_nodes r.nodes))
  leaves = record {
    is_node = λ i n e. leaf_back r.nodes n (node_in (leaf_nodes r.nodes) i n e);
    all = λ n i level. in_node (leaf_nodes r.nodes) n (to_leaf r.nodes n i level);
    once = leaf_once;
  }

  inner_here : (n : Node) → In n (inner_nodes r.nodes)
      → node_by g (inner_nodes r.nodes) (bucket_of g n.key) ≡ Some n
  inner_here n i = in_by g NoBucket (inner_nodes r.nodes) (inner_apart NoBucket r.nodes apart) n
      (λ m j none same. none (back g (bucket_of g m.key)) (lies m (inner_back r.nodes m j).0)
      (subst (λ q. PointsInto g n.key (back g q)) (sym same) (lies n (inner_back r.nodes n i).0))) i

  inners : AreInSlots r.nodes IsInner (node_by g (inner_nodes r.nodes))
  inners = record {
    is_node = λ i n e. inner_back r.nodes n (by_in g (inner_nodes r.nodes) i n e).0;
    all = λ n i level. (bucket_of g n.key, inner_here n (to_inner r.nodes n i level));
    once = λ i k n a b. sym (by_in g (inner_nodes r.nodes) i n a).1
        ∙ (by_in g (inner_nodes r.nodes) k n b).1;
  }

  owners : ℕ → Owner
  owners q = record { word = 0; leaf = true }

  slots : (i : ℕ) (n : Node) (s : ℕ) → node_at (leaf_nodes r.nodes) i ≡ Some n → n.from ≤ s → s < n.key.end → slot_at tree.leaves s ≡ i
  slots i n s e low high =
      let f = find (leaf_nodes r.nodes) tree.leaves 0 s i n is.leaves is.counted e (low, high) in
      let there = leaf_back r.nodes f.node (node_in (leaf_nodes r.nodes) f.at f.node f.here) in
      let here = leaf_back r.nodes n (node_in (leaf_nodes r.nodes) i n e) in
      let one = nodes.apart g (law_layout g).0 (law_layout g).1 owners image r.newest.item.level 0 r.newest.item.root r.nodes reading.nodes
      (λ m j. all_in KeepsRange r.nodes m ranges j) f.node n s there.0 here.0 there.1 here.1 f.has (low, high) in
      let same = leaf_once f.at i n (f.here ∙ ap Some one) e in
      let at = f.is in
      omega (arith, at, same)

  pub law : HaveSlots r.nodes (node_at (leaf_nodes r.nodes)) (node_by g (inner_nodes r.nodes)) (slot_at tree.leaves)
  law = record { leaves = leaves; inner_nodes = inners; slots = slots }

pub law_slots : LawSlots
law_slots g image size r tree reading ranges pointers uses is = law g image size r tree reading ranges pointers uses is
