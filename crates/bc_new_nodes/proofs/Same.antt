-- What the write of one new node leaves of the others of a plan.
use Rattle.std.proofs.Common.{◌≡◌, ◌≢◌, inl, inr, ℕ, zero, suc, Bool, true, false, List, [], ◌∷◌, Option, Some, refl, sym, ap, ◌∙◌, subst, arith}
use Rattle.std.specs.Prelude.{Contains, is_some, option_to_list}
use Rattle.bc_disk.specs.declared.geometry.Geometry.{Geometry}
use Rattle.bc_inner.specs.Inner.{HasTaken, Inner, children_set}
use Rattle.bc_new_node.proofs.Brought.{same_inner, same_leaf}
use Rattle.bc_new_node.specs.Kind.{IsInnerOf, IsLeafOf}
use Rattle.bc_new_node.specs.bc_held.declared.held.HeldBucket.{HeldBucket}
use Rattle.bc_new_nodes.specs.Asked.{ComesIn, IsNodeFor}
use Rattle.bc_new_nodes.specs.Course.{Brings}
use Rattle.bc_planned.specs.Nodes.{are_under, comes_behind, is_leaf, is_moved, nodes_by, nodes_of, number_in, range_of, slot_of, top_is_moved}
use Rattle.bc_node.specs.Leaf.{IsAppended, Leaf}
use Rattle.bc_plan.specs.Write.{CanWrite, FirstSet, HasFirstSet, HasNodeWritten, IsUnwritten, behind_of, leaf_set, lowest_of, with_behind, with_lowest}
use Rattle.bc_plan.specs.declared.write.NewNode.{NewNode}
use Rattle.bc_plan.specs.declared.write.NewNode.TheVariants.{Behind, First, Lowest, Parent, Root, Second}
use Rattle.bc_set.specs.Records.{set_sectors}
use Rattle.bc_spine.specs.Exchange.{coming}
use Rattle.bc_spine.specs.Numbers.{HasNumber}
use Rattle.bc_spine.specs.declared.exchange.Exchange.{Exchange}
use Rattle.bc_spine.specs.declared.leaf.LeafRange.{LeafRange}
use Rattle.bc_tree.specs.declared.beside.Beside.{Beside}
use Rattle.bc_tree.specs.declared.beside.Beside.TheVariants.{Comes, Goes, Moves, Stays, Under}
use Rattle.bc_tree.specs.declared.plan.Plan.{Plan}

-- ---- two nodes that come beside another

lowest_with : (x : Beside) (b : Inner) → lowest_of (with_behind x b) ≡ lowest_of x
lowest_with Stays b = refl
lowest_with (Comes node) b = refl
lowest_with (Moves node) b = refl
lowest_with Goes b = refl
lowest_with (Under low high) b = refl

behind_with : (x : Beside) (b : Inner) → behind_of (with_lowest x b) ≡ behind_of x
behind_with Stays b = refl
behind_with (Comes node) b = refl
behind_with (Moves node) b = refl
behind_with Goes b = refl
behind_with (Under low high) b = refl

under_behind : (x : Beside) (b : Inner) → are_under (with_behind x b) ≡ are_under x
under_behind Stays b = refl
under_behind (Comes node) b = refl
under_behind (Moves node) b = refl
under_behind Goes b = refl
under_behind (Under low high) b = refl

under_lowest : (x : Beside) (b : Inner) → are_under (with_lowest x b) ≡ are_under x
under_lowest Stays b = refl
under_lowest (Comes node) b = refl
under_lowest (Moves node) b = refl
under_lowest Goes b = refl
under_lowest (Under low high) b = refl

comes_with_behind : (x : Beside) (b : Inner) → comes_behind (with_behind x b) ≡ comes_behind x
comes_with_behind Stays b = refl
comes_with_behind (Comes node) b = refl
comes_with_behind (Moves node) b = refl
comes_with_behind Goes b = refl
comes_with_behind (Under low high) b = refl

comes_with_lowest : (x : Beside) (b : Inner) → comes_behind (with_lowest x b) ≡ comes_behind x
comes_with_lowest Stays b = refl
comes_with_lowest (Comes node) b = refl
comes_with_lowest (Moves node) b = refl
comes_with_lowest Goes b = refl
comes_with_lowest (Under low high) b = refl

-- where there was one, it is the one that came in its place
behind_put : (x : Beside) (a b : Inner) → behind_of x ≡ Some a → behind_of (with_behind x b) ≡ Some b
behind_put Stays a b is = absurd (cc)
behind_put (Comes node) a b is = refl
behind_put (Moves node) a b is = refl
behind_put Goes a b is = absurd (cc)
behind_put (Under low high) a b is = refl

lowest_put : (x : Beside) (a b : Inner) → lowest_of x ≡ Some a → lowest_of (with_lowest x b) ≡ Some b
lowest_put Stays a b is = absurd (cc)
lowest_put (Comes node) a b is = absurd (cc)
lowest_put (Moves node) a b is = absurd (cc)
lowest_put Goes a b is = absurd (cc)
lowest_put (Under low high) a b is = refl

-- ---- the same node

abbrev pub SameAt : NewNode → Plan → Plan → Type 0
SameAt First p q = q.first ≡ p.first
SameAt Second p q = q.second ≡ p.second
SameAt Parent p q = q.bottom ≡ p.bottom
SameAt Root p q = q.top ≡ p.top
SameAt Behind p q = behind_of q.beside ≡ behind_of p.beside
SameAt Lowest p q = lowest_of q.beside ≡ lowest_of p.beside

-- the others are as they were
pub same_at : (g : Geometry) (n m : NewNode) (p q : Plan) → n ≢ m → HasNodeWritten g n p q
    → SameAt m p q
same_at g First First p q ne h = absurd (ne refl)
same_at g First Second p q ne h = ap (λ (x : Plan). x.second) h.0
same_at g First Parent p q ne h = ap (λ (x : Plan). x.bottom) h.0
same_at g First Root p q ne h = ap (λ (x : Plan). x.top) h.0
same_at g First Behind p q ne h = ap (λ (x : Plan). behind_of x.beside) h.0
same_at g First Lowest p q ne h = ap (λ (x : Plan). lowest_of x.beside) h.0
same_at g Second First p q ne h = ap (λ (x : Plan). x.first) h.3
same_at g Second Second p q ne h = absurd (ne refl)
same_at g Second Parent p q ne h = ap (λ (x : Plan). x.bottom) h.3
same_at g Second Root p q ne h = ap (λ (x : Plan). x.top) h.3
same_at g Second Behind p q ne h = ap (λ (x : Plan). behind_of x.beside) h.3
same_at g Second Lowest p q ne h = ap (λ (x : Plan). lowest_of x.beside) h.3
same_at g Parent First p q ne h = ap (λ (x : Plan). x.first) h.0
same_at g Parent Second p q ne h = ap (λ (x : Plan). x.second) h.0
same_at g Parent Parent p q ne h = absurd (ne refl)
same_at g Parent Root p q ne h = ap (λ (x : Plan). x.top) h.0
same_at g Parent Behind p q ne h = ap (λ (x : Plan). behind_of x.beside) h.0
same_at g Parent Lowest p q ne h = ap (λ (x : Plan). lowest_of x.beside) h.0
same_at g Root First p q ne h = ap (λ (x : Plan). x.first) h.3
same_at g Root Second p q ne h = ap (λ (x : Plan). x.second) h.3
same_at g Root Parent p q ne h = ap (λ (x : Plan). x.bottom) h.3
same_at g Root Root p q ne h = absurd (ne refl)
same_at g Root Behind p q ne h = ap (λ (x : Plan). behind_of x.beside) h.3
same_at g Root Lowest p q ne h = ap (λ (x : Plan). lowest_of x.beside) h.3
same_at g Behind First p q ne h = ap (λ (x : Plan). x.first) h.3
same_at g Behind Second p q ne h = ap (λ (x : Plan). x.second) h.3
same_at g Behind Parent p q ne h = ap (λ (x : Plan). x.bottom) h.3
same_at g Behind Root p q ne h = ap (λ (x : Plan). x.top) h.3
same_at g Behind Behind p q ne h = absurd (ne refl)
same_at g Behind Lowest p q ne h = ap (λ (x : Plan). lowest_of x.beside) h.3 ∙ lowest_with p.beside h.1
same_at g Lowest First p q ne h = ap (λ (x : Plan). x.first) h.3
same_at g Lowest Second p q ne h = ap (λ (x : Plan). x.second) h.3
same_at g Lowest Parent p q ne h = ap (λ (x : Plan). x.bottom) h.3
same_at g Lowest Root p q ne h = ap (λ (x : Plan). x.top) h.3
same_at g Lowest Behind p q ne h = ap (λ (x : Plan). behind_of x.beside) h.3 ∙ behind_with p.beside h.1
same_at g Lowest Lowest p q ne h = absurd (ne refl)

pub same_leaves : (g : Geometry) (n : NewNode) (p q : Plan) → HasNodeWritten g n p q
    → q.leaves ≡ p.leaves
same_leaves g First p q h = ap (λ (x : Plan). x.leaves) h.0
same_leaves g Second p q h = ap (λ (x : Plan). x.leaves) h.3
same_leaves g Parent p q h = ap (λ (x : Plan). x.leaves) h.0
same_leaves g Root p q h = ap (λ (x : Plan). x.leaves) h.3
same_leaves g Behind p q h = ap (λ (x : Plan). x.leaves) h.3
same_leaves g Lowest p q h = ap (λ (x : Plan). x.leaves) h.3

-- the plan brings the same nodes
pub same_nodes : (g : Geometry) (n : NewNode) (p q : Plan) → HasNodeWritten g n p q
    → nodes_of q ≡ nodes_of p
same_nodes g First p q h = ap nodes_of h.0
same_nodes g Second p q h = ap nodes_of h.3
    ∙ sym (ap (λ (t : Bool). nodes_by t (are_under p.beside) (is_moved p.bottom)
    (comes_behind p.beside) (top_is_moved p.top)) (ap is_some h.2))
same_nodes g Parent p q h = ap nodes_of h.0
    ∙ ap (λ (t : Bool). nodes_by (is_some p.second) (are_under p.beside) t
    (comes_behind p.beside) (top_is_moved p.top))
    (ap is_moved h.1.3 ∙ sym (ap is_moved h.1.2))
same_nodes g Root p q h = ap nodes_of h.3
    ∙ ap (λ (t : Bool). nodes_by (is_some p.second) (are_under p.beside) (is_moved p.bottom)
    (comes_behind p.beside) t)
    (ap is_moved h.4.3 ∙ sym (ap top_is_moved h.2 ∙ ap is_moved h.4.2))
same_nodes g Behind p q h = ap nodes_of h.3
    ∙ ap (λ (t : Bool). nodes_by (is_some p.second) t (is_moved p.bottom)
    (comes_behind (with_behind p.beside h.1)) (top_is_moved p.top)) (under_behind p.beside h.1)
    ∙ ap (λ (t : Bool). nodes_by (is_some p.second) (are_under p.beside) (is_moved p.bottom) t
    (top_is_moved p.top)) (comes_with_behind p.beside h.1)
same_nodes g Lowest p q h = ap nodes_of h.3
    ∙ ap (λ (t : Bool). nodes_by (is_some p.second) t (is_moved p.bottom)
    (comes_behind (with_lowest p.beside h.1)) (top_is_moved p.top)) (under_lowest p.beside h.1)
    ∙ ap (λ (t : Bool). nodes_by (is_some p.second) (are_under p.beside) (is_moved p.bottom) t
    (top_is_moved p.top)) (comes_with_lowest p.beside h.1)

-- ---- what goes on with it

pub leaf_back : (m : NewNode) (p q : Plan) (leaf : Leaf) → SameAt m p q → IsLeafOf q m leaf
    → IsLeafOf p m leaf
leaf_back First p q leaf s is = sym s ∙ is
leaf_back Second p q leaf s is = sym s ∙ is
leaf_back Parent p q leaf s is = is
leaf_back Root p q leaf s is = is
leaf_back Behind p q leaf s is = is
leaf_back Lowest p q leaf s is = is

pub leaf_on : (m : NewNode) (p q : Plan) (leaf : Leaf) → SameAt m p q → IsLeafOf p m leaf
    → IsLeafOf q m leaf
leaf_on First p q leaf s is = s ∙ is
leaf_on Second p q leaf s is = s ∙ is
leaf_on Parent p q leaf s is = is
leaf_on Root p q leaf s is = is
leaf_on Behind p q leaf s is = is
leaf_on Lowest p q leaf s is = is

pub inner_back : (m : NewNode) (p q : Plan) (n : Inner) → SameAt m p q → IsInnerOf q m n
    → IsInnerOf p m n
inner_back First p q n s is = is
inner_back Second p q n s is = is
inner_back Parent p q n s is = sym s ∙ is
inner_back Root p q n s is = sym s ∙ is
inner_back Behind p q n s is = sym s ∙ is
inner_back Lowest p q n s is = sym s ∙ is

pub inner_on : (m : NewNode) (p q : Plan) (n : Inner) → SameAt m p q → IsInnerOf p m n
    → IsInnerOf q m n
inner_on First p q n s is = is
inner_on Second p q n s is = is
inner_on Parent p q n s is = s ∙ is
inner_on Root p q n s is = s ∙ is
inner_on Behind p q n s is = s ∙ is
inner_on Lowest p q n s is = s ∙ is

can_on : (g : Geometry) (sectors : ℕ) (m : NewNode) (p q : Plan) → SameAt m p q
    → CanWrite g sectors p m → CanWrite g sectors q m
can_on g sectors First p q s can = subst (IsUnwritten g sectors) (sym s) can
can_on g sectors Second p q s can = (can.0, s ∙ can.1, can.2)
can_on g sectors Parent p q s can = (can.0, s ∙ can.1, can.2)
can_on g sectors Root p q s can = (can.0, s ∙ can.1, can.2)
can_on g sectors Behind p q s can = (can.0, s ∙ can.1, can.2)
can_on g sectors Lowest p q s can = (can.0, s ∙ can.1, can.2)

first_on : (m : NewNode) (p q : Plan) (f : FirstSet) → SameAt m p q → HasFirstSet p m f
    → HasFirstSet q m f
first_on First p q f s h = h ∙ ap leaf_set (sym s)
first_on Second p q f s h = (h.0, s ∙ h.1, h.2)
first_on Parent p q f s h = (h.0, s ∙ h.1, h.2)
first_on Root p q f s h = (h.0, s ∙ h.1, h.2)
first_on Behind p q f s h = (h.0, s ∙ h.1, h.2)
first_on Lowest p q f s h = (h.0, s ∙ h.1, h.2)

pub range_same : (m : NewNode) (p q : Plan) → q.leaves ≡ p.leaves → range_of q m ≡ range_of p m
range_same First p q l = ap (λ (e : Exchange). Some e.first) l
range_same Second p q l = ap (λ (e : Exchange). e.second) l
range_same Parent p q l = refl
range_same Root p q l = refl
range_same Behind p q l = refl
range_same Lowest p q l = refl

pub slot_same : (m : NewNode) (p q : Plan) → q.leaves ≡ p.leaves → slot_of q m ≡ slot_of p m
slot_same m p q l = ap number_in (range_same m p q l)

pub comes_on : (m : NewNode) (p q : Plan) (leaf : Leaf) → q.leaves ≡ p.leaves → ComesIn p m leaf
    → ComesIn q m leaf
comes_on m p q leaf l h = record {
  range = h.range;
  its_range = range_same m p q l ∙ h.its_range;
  range_is = h.range_is;
  pending = h.pending;
}

pub node_for_on : (g : Geometry) (sectors : ℕ) (m : NewNode) (p q : Plan) (seq : ℕ)
    (b : HeldBucket) → SameAt m p q → q.leaves ≡ p.leaves → IsNodeFor g sectors p seq m b
    → IsNodeFor g sectors q seq m b
node_for_on g sectors m p q seq b s l h = record {
  can = can_on g sectors m p q s h.can;
  first = h.first;
  first_is = first_on m p q h.first s h.first_is;
  place = h.place;
  number = h.number;
  proper = λ leaf is. h.proper leaf (leaf_back m p q leaf s is);
  purpose = h.purpose;
  leaf = λ leaf is. comes_on m p q leaf l (h.leaf leaf (leaf_back m p q leaf s is));
}

-- ---- the one that was written

pub leaf_before : (g : Geometry) (n : NewNode) (p q : Plan) (leaf : Leaf) → HasNodeWritten g n p q
    → IsLeafOf q n leaf → (old : Leaf) × IsLeafOf p n old × IsAppended g old leaf
leaf_before g First p q leaf h is = (p.first, refl, subst (IsAppended g p.first) is h.1)
leaf_before g Second p q leaf h is = (
  h.0,
  h.2,
  subst (IsAppended g h.0)
      (same_leaf q Second h.1 leaf (ap (λ (x : Plan). x.second) h.3) is) h.4,
)
leaf_before g Parent p q leaf h is = absurd is
leaf_before g Root p q leaf h is = absurd is
leaf_before g Behind p q leaf h is = absurd is
leaf_before g Lowest p q leaf h is = absurd is

abbrev Took : Geometry → Inner → Inner → Type 0
Took g a b = HasTaken (set_sectors g (children_set a)) a b

pub inner_before : (g : Geometry) (n : NewNode) (p q : Plan) (node : Inner) → HasNodeWritten g n p q
    → IsInnerOf q n node → (old : Inner) × IsInnerOf p n old × Took g old node
inner_before g First p q node h is = absurd is
inner_before g Second p q node h is = absurd is
inner_before g Parent p q node h is = (
  h.1.0,
  h.1.2,
  subst (Took g h.1.0)
      (same_inner q Parent h.1.1 node h.1.3 is) h.1.4,
)
inner_before g Root p q node h is = (
  h.4.0,
  h.2 ∙ ap Some h.4.2,
  subst (Took g h.4.0)
      (same_inner q Root h.4.1 node (ap (λ (x : Plan). x.top) h.3 ∙ ap Some h.4.3) is) h.4.4,
)
inner_before g Behind p q node h is = (
  h.0,
  h.2,
  subst (Took g h.0)
      (same_inner q Behind h.1 node (ap (λ (x : Plan). behind_of x.beside) h.3
      ∙ behind_put p.beside h.0 h.1 h.2) is) h.4,
)
inner_before g Lowest p q node h is = (
  h.0,
  h.2,
  subst (Took g h.0)
      (same_inner q Lowest h.1 node (ap (λ (x : Plan). lowest_of x.beside) h.3
      ∙ lowest_put p.beside h.0 h.1 h.2) is) h.4,
)

-- the plan brings it still
pub brings_written : (g : Geometry) (n : NewNode) (p q : Plan) → HasNodeWritten g n p q
    → Brings q n
brings_written g First p q h = inl (q.first, refl)
brings_written g Second p q h = inl (h.1, ap (λ (x : Plan). x.second) h.3)
brings_written g Parent p q h = inr (h.1.1, h.1.3)
brings_written g Root p q h = inr (h.4.1, ap (λ (x : Plan). x.top) h.3 ∙ ap Some h.4.3)
brings_written g Behind p q h = inr (
  h.1,
  ap (λ (x : Plan). behind_of x.beside) h.3
      ∙ behind_put p.beside h.0 h.1 h.2,
)
brings_written g Lowest p q h = inr (
  h.1,
  ap (λ (x : Plan). lowest_of x.beside) h.3
      ∙ lowest_put p.beside h.0 h.1 h.2,
)

pub brings_on : (m : NewNode) (p q : Plan) → SameAt m p q → Brings p m → Brings q m
brings_on m p q s (inl leaf) = inl (leaf.0, leaf_on m p q leaf.0 s leaf.1)
brings_on m p q s (inr n) = inr (n.0, inner_on m p q n.0 s n.1)

-- nothing was written of it before
pub none_taken : (g : Geometry) (sectors : ℕ) (n : NewNode) (p : Plan) (leaf : Leaf)
    → CanWrite g sectors p n → IsLeafOf p n leaf → leaf.taken ≡ 0
none_taken g sectors First p leaf can is = sym (ap (λ (l : Leaf). l.taken) is) ∙ can.none
none_taken g sectors Second p leaf can is =
    sym (ap (λ (l : Leaf). l.taken) (same_leaf p Second can.0 leaf can.1 is)) ∙ can.2.none
none_taken g sectors Parent p leaf can is = absurd is
none_taken g sectors Root p leaf can is = absurd is
none_taken g sectors Behind p leaf can is = absurd is
none_taken g sectors Lowest p leaf can is = absurd is

-- ---- leaves and inner nodes

pub leaf_kind : (p : Plan) (m : NewNode) (leaf : Leaf) → IsLeafOf p m leaf → is_leaf m ≡ true
leaf_kind p First leaf is = refl
leaf_kind p Second leaf is = refl
leaf_kind p Parent leaf is = absurd is
leaf_kind p Root leaf is = absurd is
leaf_kind p Behind leaf is = absurd is
leaf_kind p Lowest leaf is = absurd is

pub inner_kind : (p : Plan) (m : NewNode) (n : Inner) → IsInnerOf p m n → is_leaf m ≡ false
inner_kind p First n is = absurd is
inner_kind p Second n is = absurd is
inner_kind p Parent n is = refl
inner_kind p Root n is = refl
inner_kind p Behind n is = refl
inner_kind p Lowest n is = refl

-- the range in which a leaf comes has its slot as number
in_first : {X : Type 0} (x : X) (xs : List X) → Contains (x ∷ xs) x
in_first x xs = (zero, omega arith, refl)

in_rest : {X : Type 0} (x : X) (xs : List X) (y : X) → Contains xs y → Contains (x ∷ xs) y
in_rest x xs y there = (suc there.0, (let less = there.1 in omega (arith, less)), there.2)

pub slot_comes : (p : Plan) (m : NewNode) (range : LeafRange) → range_of p m ≡ Some range
    → HasNumber (coming p.leaves) (slot_of p m)
slot_comes p First range is = (p.leaves.first, in_first p.leaves.first _, refl)
slot_comes p Second range is = (
  range,
  in_rest p.leaves.first (option_to_list p.leaves.second) range
      (subst (λ (o : Option LeafRange). Contains (option_to_list o) range) (sym is)
      (in_first range [])),
  sym (ap number_in is),
)
slot_comes p Parent range is = absurd (cc)
slot_comes p Root range is = absurd (cc)
slot_comes p Behind range is = absurd (cc)
slot_comes p Lowest range is = absurd (cc)
