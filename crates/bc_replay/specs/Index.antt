-- The tree of a cache device, read into an index.
use Rattle.std.specs.Prelude.{ℕ, List, Option}
use Rattle.bc_disk.specs.Disk.{DiskFacts}
use Rattle.bc_disk.specs.declared.disk.Device.TheVariants as device
use Rattle.bc_disk.specs.declared.geometry.Geometry.{Geometry}
use Rattle.bc_key.specs.declared.key.Key.{Key}
use Rattle.bc_node.specs.Leaf.{AreLastOfAll}
use Rattle.bc_walk.specs.Rule.{Rule}
use Rattle.bc_walk.specs.Seen.{WentWhole, EndedWhole}
use Rattle.bc_walk.specs.declared.error.WalkError.{WalkError}
use Rattle.bc_walk.specs.declared.error.WalkError.TheVariants as walks
use Rattle.bc_walk.specs.declared.visit.Visit.{Visit}
use Rattle.bc_replay.specs.Refused.{KeepsWord}
use Rattle.bc_replay.specs.declared.error.OpenError.{OpenError}
use Rattle.bc_replay.specs.declared.error.OpenError.TheVariants as errors

abbrev pub rule_by : Geometry → ℕ → Rule
rule_by g size = record { geometry = g; size = size }

-- an index has for each sector the last of some keys, and the word of the first pointer in them that may not be as it is
pub record IsIndexed (r : Rule) (keys index : List Key) (word : Option ℕ) : Type 0 where
  pub last : AreLastOfAll keys index
  pub first : KeepsWord r keys word

-- the walk went so, and the index is that of the keys that it met
abbrev pub HasTree : DiskFacts → Rule → ℕ → Key → List Visit → List Key → Option ℕ → Type 0
HasTree d r level root visits index word = WentWhole d r.geometry level root (λ keys. IsIndexed r keys index word) visits

-- the end of a walk as a refusal of the pair
abbrev pub open_walk : WalkError → OpenError
open_walk (walks.Node bucket why) = errors.Node bucket why
open_walk walks.Fault = errors.Fault device.Cache
open_walk walks.Memory = errors.Memory

-- why the tree isn't had
abbrev pub IsTreeCause : DiskFacts → Geometry → ℕ → Key → OpenError → Type 0
IsTreeCause d g level root (errors.Node bucket why) = EndedWhole d g level root (walks.Node bucket why)
IsTreeCause d g level root (errors.Fault device.Cache) = Unit {0}
IsTreeCause d g level root errors.Memory = Unit {0}
IsTreeCause d g level root e = ⊥
