-- Leaves and children that lie one behind the other.
use Rattle.std.specs.Prelude.{◌≡◌, ℕ, zero, suc, ◌<◌, List, [], ◌∷◌}
use Rattle.bc_meta.specs.Tree.{Child}
use Rattle.bc_leaves.specs.Parts.{Role, Leaf, InnerNode}

-- these leaves, from sector a to b
abbrev pub Row : (ℕ → Leaf) → ℕ → List ℕ → ℕ → Type 0
Row leaves a [] b = a ≡ b
Row leaves a (i ∷ is) b = ((leaves i).first ≡ a) × (a < (leaves i).end)
    × Row leaves (leaves i).end is b

-- these children, from a to b; P takes a child's bucket, the word of the pointer to it, and the
-- range
abbrev pub ChildRow : (ℕ → ℕ → ℕ → ℕ → Type 0) → ℕ → List Child → ℕ → Type 0
ChildRow P a [] b = a ≡ b
ChildRow P a (k ∷ ks) b = (a < k.end) × P k.bucket k.word a k.end × ChildRow P k.end ks b

-- a node lies there, below an inner node of this height, in a role for which P holds
abbrev pub Below : (ℕ → Leaf) → (ℕ → InnerNode) → (Role → Type 0) → ℕ → ℕ → ℕ → ℕ → ℕ → Type 0
Below leaves inner_nodes P zero q word a b = (i : ℕ) × P (leaves i).role × ((leaves i).bucket ≡ q)
    × ((leaves i).first ≡ a)
    × ((leaves i).end ≡ b) × ((leaves i).word ≡ word)
Below leaves inner_nodes P (suc h) q word a b =
    (x : ℕ) × P (inner_nodes x).role × ((inner_nodes x).height ≡ h) × ((inner_nodes x).bucket ≡ q)
    × ((inner_nodes x).first ≡ a) × ((inner_nodes x).end ≡ b) × ((inner_nodes x).word ≡ word)

-- these children are nodes, and all of the inner node's range
abbrev pub Fills : (ℕ → Leaf) → (ℕ → InnerNode) → (Role → Type 0) → InnerNode → List Child → Type 0
Fills leaves inner_nodes P x ks = ChildRow (Below leaves inner_nodes P x.height) x.first ks x.end
