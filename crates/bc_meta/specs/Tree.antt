-- The sets of nodes, and the tree that they are. A node is named by its bucket.
use Rattle.std.specs.Prelude.{◌≡◌, ◌≢◌, ℕ, zero, suc, Bool, true, false, List, [], ◌∷◌, ◌++◌, if◌then◌else◌, ◌==◌, nat_le}
use Rattle.bc_key.specs.declared.key.Key.{Key}

-- a child of a parent; one that is gone takes away the child with its end
pub record Child : Type 0 where
  pub end : ℕ
  pub bucket : ℕ
  -- the word of the pointer to it
  pub word : ℕ
  pub gone : Bool

-- a set of a node: of a leaf with keys alone, of a parent with children alone
pub record NodeSet : Type 0 where
  pub seq : ℕ
  pub keys : List Key
  pub children : List Child
  -- what else its record says
  pub rest : List ℕ

-- what a node's sets are read with: the word of the pointer to it, with which their checksums
-- begin, and whether it is a leaf
pub record Owner : Type 0 where
  pub word : ℕ
  pub leaf : Bool

-- the sets of each node by its bucket, newest first
abbrev pub NodeSets : Type 0
NodeSets = ℕ → List NodeSet

abbrev pub set_keys : List NodeSet → List Key
set_keys [] = []
set_keys (x ∷ xs) = x.keys ++ set_keys xs

abbrev pub put_child : Child → List Child → List Child
put_child c [] = if c.gone then [] else c ∷ []
put_child c (k ∷ ks) =
    if k.end == c.end
    then (if c.gone then ks else c ∷ ks)
    else (if nat_le c.end k.end then (if c.gone then k ∷ ks else c ∷ k ∷ ks) else k ∷ put_child c ks)

abbrev pub put_children : List Child → List Child → List Child
put_children [] ks = ks
put_children (c ∷ cs) ks = put_children cs (put_child c ks)

-- the children of a parent by end
abbrev pub children_of : List NodeSet → List Child
children_of [] = []
children_of (x ∷ xs) = put_children x.children (children_of xs)

abbrev pub forest : (ℕ → List Key) → List Child → List Key
forest f [] = []
forest f (k ∷ ks) = forest f ks ++ f k.bucket

-- the keys of the leaves below a node, leaf after leaf
abbrev pub tree_list : NodeSets → ℕ → ℕ → List Key
tree_list c zero q = set_keys (c q)
tree_list c (suc l) q = forest (tree_list c l) (children_of (c q))

abbrev pub Each : (ℕ → Type 0) → List Child → Type 0
Each P [] = Unit {0}
Each P (k ∷ ks) = P k.bucket × Each P ks

-- something holds of each node of the tree
abbrev pub Walk : (ℕ → List NodeSet → Type 0) → NodeSets → ℕ → ℕ → Type 0
Walk P c zero q = P q (c q)
Walk P c (suc l) q = P q (c q) × Each (Walk P c l) (children_of (c q))

abbrev pub EachChild : (Child → Type 0) → List Child → Type 0
EachChild P [] = Unit {0}
EachChild P (k ∷ ks) = P k × EachChild P ks

-- each pointer of the tree has the word with which its node is read
abbrev pub IsNamed : (ℕ → Owner) → NodeSets → ℕ → ℕ → ℕ → Type 0
IsNamed owners c zero q word = owners q ≡ record { word = word; leaf = true }
IsNamed owners c (suc l) q word = (owners q ≡ record { word = word; leaf = false })
    × EachChild (λ k. IsNamed owners c l k.bucket k.word) (children_of (c q))

-- its first set stands
abbrev pub Whole : ℕ → List NodeSet → Type 0
Whole q ss = ss ≢ []

abbrev pub Other : ℕ → ℕ → List NodeSet → Type 0
Other p q ss = q ≢ p

-- no node of the tree lies in a bucket that is unused
abbrev pub Keeps : (ℕ → Bool) → NodeSets → ℕ → ℕ → Type 0
Keeps unused c level root = (p : ℕ) → unused p ≡ true → Walk (Other p) c level root
