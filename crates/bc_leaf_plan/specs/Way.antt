-- How a leaf gives way to others: what that needs, and what it is as a plan.
use Rattle.std.specs.Prelude.{◌&&◌, ℕ, ◌+◌, ◌<◌, Bool, List, [], ◌∷◌, map, Option, None, Some}
use Rattle.bc_inner.specs.Inner.{Inner}
use Rattle.bc_key.specs.declared.ptr.Ptr.{Ptr}
use Rattle.bc_model.specs.Pieces.{piece_sectors}
use Rattle.bc_held.specs.declared.held.HeldBucket.{HeldBucket}
use Rattle.bc_node.specs.Leaf.{Leaf}
use Rattle.bc_planned.specs.Nodes.{is_moved, top_is_moved}
use Rattle.bc_leaf_plan.specs.declared.refused.Refused.{Refused}
use Rattle.bc_leaf_plan.specs.declared.refused.Refused.TheVariants as no
use Rattle.bc_leaf_plan.specs.declared.way.Way.{Way}
use Rattle.bc_leaf_plan.specs.declared.way.Way.TheVariants as way
use Rattle.bc_tree.specs.Needs.{IsNeeded, rewrite_needs, split_needs}
use Rattle.bc_tree.specs.Rewrite.{IsNotRewritten, IsRewrite}
use Rattle.bc_tree.specs.Spine.{Spine}
use Rattle.bc_tree.specs.Split.{IsLeafSplit, IsNotSplit}
use Rattle.bc_tree.specs.declared.change.NodeChange.{NodeChange}
use Rattle.bc_tree.specs.declared.needs.Needs.{Needs}
use Rattle.bc_tree.specs.declared.plan.Plan.{Plan}
use Rattle.bc_tree.specs.declared.plan.PlanError.{PlanError}
use Rattle.bc_tree.specs.declared.plan.PlanError.TheVariants as plan

-- so many buckets are needed
abbrev pub IsNeededBy : Way → Spine → Leaf → Needs → Type 0
IsNeededBy way.Rewrite spine leaf n = IsNeeded (rewrite_needs spine) spine leaf.from n
IsNeededBy way.Split spine leaf n = IsNeeded (split_needs spine) spine leaf.from (Some n)

-- none can be enough
abbrev pub IsFullAbove : Way → Spine → Leaf → Type 0
IsFullAbove way.Rewrite spine leaf = ⊥
IsFullAbove way.Split spine leaf = IsNeeded (split_needs spine) spine leaf.from None

-- the leaf has enough sectors for it
abbrev pub IsLongFor : Way → Leaf → Type 0
IsLongFor way.Rewrite leaf = Unit {0}
IsLongFor way.Split leaf = leaf.from + piece_sectors < leaf.end

-- Of so many parts, in which leaves are kept by their numbers, a leaf that is written anew stays in
-- its own.
abbrev pub IsPlanBy : Way → (count : ℕ) → Spine → Leaf → List Ptr → ℕ → Plan → Type 0
IsPlanBy way.Rewrite count spine leaf to seq p = IsRewrite spine count leaf to seq p
IsPlanBy way.Split count spine leaf to seq p = IsLeafSplit spine leaf to seq p

-- why there is none
abbrev pub IsNotPlannedBy : Way → Spine → Leaf → PlanError → Type 0
IsNotPlannedBy way.Rewrite spine leaf e = IsNotRewritten spine leaf e
IsNotPlannedBy way.Split spine leaf e = IsNotSplit spine leaf e

-- where these buckets begin
abbrev pub places : List HeldBucket → List Ptr
places bs = map (λ (b : HeldBucket). b.to) bs

-- what such a refusal is as one of the whole
abbrev pub refused_by : PlanError → Refused
refused_by plan.Large = no.Large
refused_by plan.Memory = no.Memory

-- Each node that changes moves, up to the root: so none takes a further set, and a new root comes.
abbrev pub moves_up : List Inner → NodeChange → Option NodeChange → Bool
moves_up [] bottom top = is_moved bottom
moves_up (node ∷ nodes) bottom top = is_moved bottom && top_is_moved top
