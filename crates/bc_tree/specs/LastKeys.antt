-- What the leaves of a tree show: each sector the last key of the leaf that it lies in.
use Rattle.std.specs.Prelude.{◌≡◌, ◌==◌, ℕ, List, Option, Some, None, MatchOption, IsSomeAnd, if◌then◌else◌}
use Rattle.bc_extent.specs.Calls.{live}
use Rattle.bc_extent.specs.Extents.{IsPart}
use Rattle.bc_extent.specs.LastKey.{last_key}
use Rattle.bc_key.specs.declared.key.Key.{Key}
use Rattle.bc_node.specs.Leaf.{Leaf}
use Rattle.bc_spine.specs.Exchange.{coming, going}
use Rattle.bc_spine.specs.Leaves.{IsLeafAt}
use Rattle.bc_spine.specs.declared.leaf.LeafRange.{LeafRange}
use Rattle.bc_tree.specs.declared.plan.Plan.{Plan}

-- the last keys of leaves, by the leaves' numbers
abbrev pub LeafKeys : Type 0
LeafKeys = ℕ → List Key

-- other keys for one of them
abbrev pub with_keys : LeafKeys → ℕ → List Key → ℕ → List Key
with_keys keys number other n = if n == number then other else keys n

-- those of a second leaf that comes, where there is one
abbrev pub with_second : LeafKeys → Option LeafRange → Option Leaf → LeafKeys
with_second keys None leaf = keys
with_second keys (Some range) None = keys
with_second keys (Some range) (Some leaf) = with_keys keys range.number leaf.keys

-- those of the leaves that a plan brings, under their numbers
abbrev pub keys_next : LeafKeys → Plan → LeafKeys
keys_next keys plan =
    with_keys (with_second keys plan.leaves.second plan.second) plan.leaves.first.number
    plan.first.keys

-- The new keys give a sector what the old ones gave: a part of the same key, or none. A key without
-- pointers counts as none.
abbrev pub GiveSame : List Key → List Key → ℕ → Type 0
GiveSame old new sector =
    MatchOption (live (last_key old) sector) (live (last_key new) sector ≡ None)
    (λ whole. IsSomeAnd (live (last_key new) sector) (IsPart whole))

-- the leaf that a sector lies in after a change gives it what the one before gave
abbrev pub KeepLastKeys : List LeafRange → List LeafRange → LeafKeys → LeafKeys → Type 0
KeepLastKeys before after keys now =
    (sector : ℕ) (old new : LeafRange) → IsLeafAt before sector old → IsLeafAt after sector new
    → GiveSame (keys old.number) (now new.number) sector

-- so do the leaves that come with a plan, for the sectors of those that go
abbrev pub StandIn : List LeafRange → LeafKeys → Plan → Type 0
StandIn leaves keys plan =
    KeepLastKeys (going leaves plan.leaves) (coming plan.leaves) keys (keys_next keys plan)

-- and then so do all leaves
abbrev pub AreKept : List LeafRange → Plan → List LeafRange → Type 0
AreKept before plan after =
    (keys : LeafKeys) → StandIn before keys plan
    → KeepLastKeys before after keys (keys_next keys plan)

-- the leaf's keys are the ones of its number
abbrev pub HasKeysOf : List LeafRange → LeafKeys → Leaf → Type 0
HasKeysOf leaves keys leaf =
    (range : LeafRange) → IsLeafAt leaves leaf.from range → keys range.number ≡ leaf.keys

-- what comes with a plan gives each sector what a leaf gave
abbrev pub StandsInFor : List LeafRange → Leaf → Plan → Type 0
StandsInFor leaves leaf plan =
    (keys : LeafKeys) → HasKeysOf leaves keys leaf → StandIn leaves keys plan

-- or what two did
abbrev pub StandsInForBoth : List LeafRange → Leaf → Leaf → Plan → Type 0
StandsInForBoth leaves left right plan =
    (keys : LeafKeys) → HasKeysOf leaves keys left → HasKeysOf leaves keys right
    → StandIn leaves keys plan
