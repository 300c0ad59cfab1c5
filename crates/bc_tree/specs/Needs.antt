-- How many buckets the new nodes of a change take.
--
-- A new leaf, or one that moves, needs its parent to name it. A node that was written in this run
-- and has room takes a further set for that. One that was read from the device, or has no room,
-- moves, so that its own parent has to name it anew; and where the root moves, the journal names
-- it. A node that moves takes a bucket for what is moved, and each of two that come in the place of
-- one takes a bucket for the tree, as does a root that comes above the one before.
use Rattle.std.specs.Prelude.{◌≡◌, ℕ, ◌+◌, ◌*◌, ◌==◌, ◌&&◌, ◌||◌, not, nat_le, nat_lt, Bool, List, ◌++◌, Option, Some, None, length, if◌then◌else◌}
use Rattle.bc_disk.specs.declared.geometry.Geometry.{Geometry}
use Rattle.bc_inner.specs.Inner.{Inner}
use Rattle.bc_key.specs.declared.key.Key.{Key}
use Rattle.bc_keys.specs.Spelling.{words_of_all}
use Rattle.bc_node.specs.Leaf.{Leaf}
use Rattle.bc_record.specs.Sectors.{in_blocks}
use Rattle.bc_tree.specs.Spine.{IsParentAt, Spine}
use Rattle.bc_tree.specs.declared.needs.Needs.{Needs}

-- how many words keys take in a set: a key with one pointer takes 3, and one without pointers 2
abbrev pub words : List Key → ℕ
words keys = length (words_of_all keys)

-- how many bytes a set of so many words takes
abbrev pub set_bytes : ℕ → ℕ
set_bytes n = 32 + 8 * n

-- such a set fits in a node
abbrev pub fits_node : Geometry → ℕ → Bool
fits_node g n = nat_le (set_bytes n) (512 * g.node_sectors)

-- a set of so many words has room behind the others of a node, which was written in this run
abbrev pub has_room : Geometry → Inner → ℕ → Bool
has_room g node set =
    not node.loaded && nat_lt 0 node.taken
    && nat_le (node.taken + in_blocks g.block (set_bytes set)) g.node_sectors

-- a further set of so many words can change the children of a node, which then take `more` words
-- more
abbrev pub takes_set : Geometry → Inner → ℕ → ℕ → Bool
takes_set g node set more = has_room g node set && fits_node g (words node.children + more)

-- the leaves are the root's children
abbrev pub is_low : Spine → Bool
is_low spine = spine.root.level == 1

abbrev pub needs : ℕ → ℕ → Needs
needs tree moving = record { tree = tree; moving = moving }

-- what a change of the root's children needs, beside these: the root moves where it doesn't take
-- a set of so many words
abbrev pub with_root : Spine → ℕ → ℕ → ℕ → Needs
with_root spine set tree moving =
    if takes_set spine.geometry spine.root set 0 then needs tree moving
    else needs tree (moving + 1)

-- what is needed where the parent of a leaf moves, beside these
abbrev pub with_parent : Spine → ℕ → ℕ → Needs
with_parent spine tree moving =
    if is_low spine then needs tree (moving + 1)
    else with_root spine 3 tree (moving + 1)

-- a leaf moves
abbrev pub rewrite_needs : Spine → Inner → Needs
rewrite_needs spine parent =
    if takes_set spine.geometry parent 3 0 then needs 0 1 else with_parent spine 0 1

-- the parent of a leaf gives way to two nodes: none where the root has no room for them
abbrev pub halved_needs : Spine → Option Needs
halved_needs spine =
    if is_low spine then Some (needs 5 0)
    else if takes_set spine.geometry spine.root 6 3 then Some (needs 4 0)
    else if fits_node spine.geometry (words spine.root.children + 3) then Some (needs 4 1)
    else None

-- a leaf gives way to two
abbrev pub split_needs : Spine → Inner → Option Needs
split_needs spine parent =
    if takes_set spine.geometry parent 6 3 then Some (needs 2 0)
    else if fits_node spine.geometry (words parent.children + 3) then Some (with_parent spine 2 0)
    else halved_needs spine

-- so many words take at most half a node
abbrev pub fits_half : Geometry → ℕ → Bool
fits_half g n = nat_le (set_bytes n) (256 * g.node_sectors)

-- two neighbouring nodes become one: they take at most half a node together, or the right one has
-- no child but the leaf that goes
abbrev pub become_one : Geometry → Inner → Inner → Bool
become_one g left right =
    length right.children == 1 || fits_half g (words left.children + words right.children)

-- two leaves of one parent become one
abbrev pub inside_needs : Spine → Inner → Needs
inside_needs spine parent =
    if takes_set spine.geometry parent 5 0 then needs 0 1 else with_parent spine 0 1

-- the last leaf of a node and the first one of the next become one: both nodes move, or one comes
-- in their place
abbrev pub across_needs : Spine → Inner → Inner → Needs
across_needs spine left right =
    if become_one spine.geometry left right then with_root spine 5 0 2
    else with_root spine 8 0 3

-- the keys of two leaves together take at most half a node
abbrev pub can_merge : Geometry → Leaf → Leaf → Bool
can_merge g left right = fits_half g (words (left.keys ++ right.keys))

-- two neighbouring leaves become one, which have these parents: none where they can't
abbrev pub merge_needs : Spine → Leaf → Leaf → Inner → Inner → Option Needs
merge_needs spine left right parent other =
    if not (can_merge spine.geometry left right) then None
    else if nat_lt right.from parent.end then Some (inside_needs spine parent)
    else Some (across_needs spine parent other)

-- what a change that begins in the leaf of a sector needs, by that leaf's parent
abbrev pub IsNeeded : {A : Type 0} → (Inner → A) → Spine → ℕ → A → Type 0
IsNeeded by spine sector result =
    (parent : Inner) × IsParentAt spine sector parent × (result ≡ by parent)

-- what a merge of two leaves needs, by their parents
abbrev pub IsNeededForBoth : Spine → Leaf → Leaf → Option Needs → Type 0
IsNeededForBoth spine left right result =
    (other : Inner) × IsParentAt spine right.from other
    × IsNeeded (λ parent. merge_needs spine left right parent other) spine left.from result
