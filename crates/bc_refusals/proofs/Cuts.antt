-- The leaves of a tree end at multiples of 256 sectors.
use Rattle.std.proofs.Common.{◌≡◌, ℕ, ◌+◌, ◌%◌, ◌<◌, ◌≤◌, List, [], ◌∷◌, ap, ◌∙◌, arith}
use Rattle.std.specs.Prelude.{All}
use Rattle.std.proofs.lemmas.List.Elements.{All-append, All-cons, All-head, All-nil, All-tail}
use Rattle.bc_disk.specs.declared.geometry.Geometry.{Geometry}
use Rattle.bc_inner.specs.Inner.{Inner}
use Rattle.bc_key.specs.declared.key.Key.{Key}
use Rattle.bc_spine.specs.Leaves.{EndsAtCut}
use Rattle.bc_spine.specs.declared.leaf.LeafRange.{LeafRange}
use Rattle.bc_tree.specs.Spine.{Covers, IsSpine as IsTree, NameLeaves, bottom, children_in}

abbrev EndsSo : Key → Type 0
EndsSo key = key.end % 256 ≡ 0

-- each leaf ends where the key that names it does
named_cuts : (keys : List Key) (leaves : List LeafRange) → NameLeaves keys leaves
    → All EndsSo keys → All EndsAtCut leaves
named_cuts [] [] names cuts = All-nil EndsAtCut
named_cuts [] (leaf ∷ leaves) names cuts = absurd names
named_cuts (key ∷ keys) [] names cuts = absurd names
named_cuts (key ∷ keys) (leaf ∷ leaves) names cuts = All-cons EndsAtCut leaf leaves
    (ap (λ n. n % 256) names.0 ∙ All-head EndsSo key keys cuts)
    (named_cuts keys leaves names.2 (All-tail EndsSo key keys cuts))

children_cuts : (nodes : List Inner) → All Covers nodes → All EndsSo (children_in nodes)
children_cuts [] all = All-nil EndsSo
children_cuts (node ∷ nodes) all = All-append EndsSo node.children (children_in nodes)
    (All-head Covers node nodes all).multiples
    (children_cuts nodes (All-tail Covers node nodes all))

bottom_covers : (root : Inner) (below : List Inner) → Covers root → All Covers below
    → All Covers (bottom root below)
bottom_covers root [] covers all = All-cons Covers root [] covers (All-nil Covers)
bottom_covers root (node ∷ nodes) covers all = all

pub leaf_cuts : (g : Geometry) (root : Inner) (below : List Inner) (leaves : List LeafRange)
    → IsTree g root below leaves → All EndsAtCut leaves
leaf_cuts g root below leaves tree = named_cuts (children_in (bottom root below)) leaves tree.names
    (children_cuts (bottom root below)
    (bottom_covers root below tree.cover.0 tree.cover.1))

-- no multiple of 256 lies within a piece
pub none_within : (first count end : ℕ) → first % 256 + count ≤ 256 → end % 256 ≡ 0 → first < end
    → end < first + count → ⊥
none_within first count end together cut low high = omega arith
