-- Leaves and inner nodes among nodes in a row.
use Rattle.std.proofs.Common.{◌≡◌, ℕ, zero, suc, ◌<◌, List, [], ◌∷◌, ◌++◌, map, refl, sym, ap, ◌∙◌, subst}
use Rattle.bc_disk.specs.declared.geometry.Geometry.{Geometry}
use Rattle.bc_image.specs.Tree.{Node}
use Rattle.bc_inner.specs.Inner.{Inner}
use Rattle.bc_key.specs.Key.{ptr_at}
use Rattle.bc_key.specs.declared.key.Key.{Key}
use Rattle.bc_spine.specs.Leaves.{IsRow}
use Rattle.bc_spine.specs.declared.leaf.LeafRange.{LeafRange}
use Rattle.bc_tree.specs.Spine.{NameLeaves, last_end}
use Rattle.bc_regrow.specs.Parts.{AreOfNodes, AreRangesOf, if_inner, if_leaf, inner_nodes, leaf_nodes}

abbrev pub keys_of : List Node → List Key
keys_of nodes = map (λ (n : Node). n.key) nodes

-- the first node's range begins at a sector, and each other one's where the one before ends
abbrev pub RowFrom : ℕ → List Node → Type 0
RowFrom from [] = Unit {0}
RowFrom from (n ∷ nodes) = (n.from ≡ from) × RowFrom n.key.end nodes

-- ---- one list behind the other

if_leaf_append : (level : ℕ) (n : Node) (xs ys : List Node) → if_leaf level n (xs ++ ys) ≡ if_leaf level n xs ++ ys
if_leaf_append zero n xs ys = refl
if_leaf_append (suc level) n xs ys = refl

if_inner_append : (level : ℕ) (n : Node) (xs ys : List Node) → if_inner level n (xs ++ ys) ≡ if_inner level n xs ++ ys
if_inner_append zero n xs ys = refl
if_inner_append (suc level) n xs ys = refl

pub leaves_append : (xs ys : List Node) → leaf_nodes (xs ++ ys) ≡ leaf_nodes xs ++ leaf_nodes ys
leaves_append [] ys = refl
leaves_append (n ∷ xs) ys = ap (if_leaf n.level n) (leaves_append xs ys) ∙ if_leaf_append n.level n (leaf_nodes xs) (leaf_nodes ys)

pub inner_append : (xs ys : List Node) → inner_nodes (xs ++ ys) ≡ inner_nodes xs ++ inner_nodes ys
inner_append [] ys = refl
inner_append (n ∷ xs) ys = ap (if_inner n.level n) (inner_append xs ys) ∙ if_inner_append n.level n (inner_nodes xs) (inner_nodes ys)

pub keys_append : (xs ys : List Node) → keys_of (xs ++ ys) ≡ keys_of xs ++ keys_of ys
keys_append [] ys = refl
keys_append (n ∷ xs) ys = ap (λ (ks : List Key). n.key ∷ ks) (keys_append xs ys)

pub row_append : (from : ℕ) (xs ys : List Node) → RowFrom from xs → RowFrom (last_end from (keys_of xs)) ys → RowFrom from (xs ++ ys)
row_append from [] ys row more = more
row_append from (n ∷ xs) ys row more = (row.0, row_append n.key.end xs ys row.1 more)

-- ---- ranges in memory

pub ranges_of : (from end : ℕ) (nodes : List Node) (leaves : List LeafRange) → NameLeaves (keys_of nodes) leaves → IsRow from leaves end → RowFrom from nodes → AreRangesOf nodes leaves
ranges_of from end [] [] names row nodes_row = tt
ranges_of from end [] (leaf ∷ leaves) names row nodes_row = names
ranges_of from end (n ∷ nodes) [] names row nodes_row = names
ranges_of from end (n ∷ nodes) (leaf ∷ leaves) names row nodes_row = (
  record { begins = row.0 ∙ sym nodes_row.0; ends = names.0; stands = names.1 },
  ranges_of n.key.end end nodes leaves names.2 (subst (λ m. IsRow m leaves end) names.0 row.2) nodes_row.1,
)
