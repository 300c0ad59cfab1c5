-- A new node of a plan is a leaf or an inner node, and one alone; and it has a first set that fits in
-- a node.
use Rattle.std.proofs.Common.{◌≡◌, ◌⊎◌, inl, inr, ℕ, ◌*◌, ◌≤◌, refl, sym, ap, ◌∙◌, subst, arith}
use Rattle.std.proofs.lemmas.Bool.{cases_lt}
use Rattle.bc_disk.specs.declared.geometry.Geometry.{Geometry}
use Rattle.bc_inner.specs.Inner.{Inner, children_set}
use Rattle.bc_new_node.specs.Kind.{IsInnerOf, IsLeafOf, IsSmall}
use Rattle.bc_node.specs.Leaf.{Leaf, pending_set}
use Rattle.bc_plan.proofs.Writes.{behind_fits, lowest_fits, parent_fits, root_fits}
use Rattle.bc_plan.specs.Write.{CanWrite, FirstSet, HasFirstSet, IsUnwritten, inner_set, leaf_set}
use Rattle.bc_plan.specs.declared.write.NewNode.{NewNode}
use Rattle.bc_plan.specs.declared.write.NewNode.TheVariants.{Behind, First, Lowest, Parent, Root, Second}
use Rattle.bc_record.proofs.Blocks.{block_some, blocks_within, node_blocks}
use Rattle.bc_set.specs.Records.{set_sectors}
use Rattle.bc_set.specs.SetBytes.{bytes_of}
use Rattle.bc_tree.specs.Plan.{Fits}
use Rattle.bc_tree.specs.Spine.{Spine}
use Rattle.bc_tree.specs.declared.plan.Plan.{Plan}

pub apart : (p : Plan) (node : NewNode) (leaf : Leaf) (n : Inner) → IsLeafOf p node leaf
    → IsInnerOf p node n → ⊥
apart p First leaf n l i = i
apart p Second leaf n l i = i
apart p Parent leaf n l i = l
apart p Root leaf n l i = l
apart p Behind leaf n l i = l
apart p Lowest leaf n l i = l

pub same_leaf : (p : Plan) (node : NewNode) (a b : Leaf) → IsLeafOf p node a → IsLeafOf p node b
    → a ≡ b
same_leaf p First a b is other = cc
same_leaf p Second a b is other = cc
same_leaf p Parent a b is other = absurd is
same_leaf p Root a b is other = absurd is
same_leaf p Behind a b is other = absurd is
same_leaf p Lowest a b is other = absurd is

pub same_inner : (p : Plan) (node : NewNode) (a b : Inner) → IsInnerOf p node a
    → IsInnerOf p node b → a ≡ b
same_inner p First a b is other = absurd is
same_inner p Second a b is other = absurd is
same_inner p Parent a b is other = cc
same_inner p Root a b is other = cc
same_inner p Behind a b is other = cc
same_inner p Lowest a b is other = cc

-- ---- which it is

abbrev pub Brings : Plan → NewNode → Type 0
Brings p node = ((leaf : Leaf) × IsLeafOf p node leaf) ⊎ ((n : Inner) × IsInnerOf p node n)

pub brings : (g : Geometry) (sectors : ℕ) (p : Plan) (node : NewNode) → CanWrite g sectors p node
    → Brings p node
brings g sectors p First can = inl (p.first, refl)
brings g sectors p Second can = inl (can.0, can.1)
brings g sectors p Parent can = inr (can.0, can.1)
brings g sectors p Root can = inr (can.0, can.1)
brings g sectors p Behind can = inr (can.0, can.1)
brings g sectors p Lowest can = inr (can.0, can.1)

-- ---- its first set

pub first_leaf : (p : Plan) (node : NewNode) (f : FirstSet) (leaf : Leaf) → HasFirstSet p node f
    → IsLeafOf p node leaf → f ≡ leaf_set leaf
first_leaf p First f leaf h is = h ∙ ap leaf_set is
first_leaf p Second f leaf h is = h.2 ∙ ap leaf_set (same_leaf p Second h.0 leaf h.1 is)
first_leaf p Parent f leaf h is = absurd is
first_leaf p Root f leaf h is = absurd is
first_leaf p Behind f leaf h is = absurd is
first_leaf p Lowest f leaf h is = absurd is

pub first_inner : (p : Plan) (node : NewNode) (f : FirstSet) (n : Inner) → HasFirstSet p node f
    → IsInnerOf p node n → f ≡ inner_set n
first_inner p First f n h is = absurd is
first_inner p Second f n h is = absurd is
first_inner p Parent f n h is = h.2 ∙ ap inner_set (same_inner p Parent h.0 n h.1 is)
first_inner p Root f n h is = h.2 ∙ ap inner_set (same_inner p Root h.0 n h.1 is)
first_inner p Behind f n h is = h.2 ∙ ap inner_set (same_inner p Behind h.0 n h.1 is)
first_inner p Lowest f n h is = h.2 ∙ ap inner_set (same_inner p Lowest h.0 n h.1 is)

-- ---- it fits in a node

unwritten : (g : Geometry) (sectors : ℕ) (p : Plan) (node : NewNode) (leaf : Leaf)
    → CanWrite g sectors p node → IsLeafOf p node leaf → IsUnwritten g sectors leaf
unwritten g sectors p First leaf can is = subst (IsUnwritten g sectors) is can
unwritten g sectors p Second leaf can is =
    subst (IsUnwritten g sectors) (same_leaf p Second can.0 leaf can.1 is) can.2
unwritten g sectors p Parent leaf can is = absurd is
unwritten g sectors p Root leaf can is = absurd is
unwritten g sectors p Behind leaf can is = absurd is
unwritten g sectors p Lowest leaf can is = absurd is

pub leaf_fits : (g : Geometry) (sectors : ℕ) (p : Plan) (node : NewNode) (leaf : Leaf)
    → CanWrite g sectors p node → IsLeafOf p node leaf
    → set_sectors g (pending_set leaf) ≤ g.node_sectors
leaf_fits g sectors p node leaf can is =
    let free = unwritten g sectors p node leaf can is in
    elim (cases_lt g.node_sectors (set_sectors g (pending_set leaf))) [
      | inl more ↦ absurd (free.free (let none = free.none in omega (arith, more, none)))
      | inr few ↦ few
    ]

inner_bytes : (spine : Spine) (p : Plan) (node : NewNode) (n : Inner) → Fits spine p
    → IsInnerOf p node n → bytes_of (children_set n) ≤ 512 * spine.geometry.node_sectors
inner_bytes spine p First n fits is = absurd is
inner_bytes spine p Second n fits is = absurd is
inner_bytes spine p Parent n fits is = parent_fits spine p n fits is
inner_bytes spine p Root n fits is = root_fits spine p n fits is
inner_bytes spine p Behind n fits is = behind_fits spine p n fits is
inner_bytes spine p Lowest n fits is = lowest_fits spine p n fits is

-- what a node holds, a set of so many bytes takes no more sectors than it
whole_blocks : (g : Geometry) (bytes : ℕ) → bytes ≤ 512 * g.node_sectors
    → (n : Inner) → bytes ≡ bytes_of (children_set n)
    → set_sectors g (children_set n) ≤ g.node_sectors
whole_blocks g bytes few n is =
    let blocks = node_blocks g in
    subst (λ m. set_sectors g (children_set n) ≤ m) (sym blocks.1)
    (blocks_within g.block (bytes_of (children_set n)) blocks.0 (block_some g)
    (let all = blocks.1 in omega (arith, few, is, all)))

pub inner_fits : (spine : Spine) (p : Plan) (node : NewNode) (n : Inner) → Fits spine p
    → IsInnerOf p node n → set_sectors spine.geometry (children_set n) ≤ spine.geometry.node_sectors
inner_fits spine p node n fits is = whole_blocks spine.geometry (bytes_of (children_set n))
    (inner_bytes spine p node n fits is) n refl

node_small : (g : Geometry) → g.node_sectors ≤ 512
node_small g = let one = g.node_is_one in omega (arith, one)

pub is_small : (spine : Spine) (sectors : ℕ) (p : Plan) (node : NewNode) → Fits spine p
    → CanWrite spine.geometry sectors p node → IsSmall spine.geometry p node
is_small spine sectors p node fits can = record {
  brings = brings spine.geometry sectors p node can;
  leaf = λ leaf is.
      let few = leaf_fits spine.geometry sectors p node leaf can is in
      let most = node_small spine.geometry in omega (arith, few, most);
  inner = λ n is. (
    let few = inner_bytes spine p node n fits is in
        let most = node_small spine.geometry in omega (arith, few, most),
    let few = inner_fits spine p node n fits is in
        let most = node_small spine.geometry in omega (arith, few, most),
  );
}
