-- The index of a cache device: the last keys of its tree and of the entries of its journal.
use Rattle.std.specs.Prelude.{ℕ, List, ◌++◌, All, Option, Ok, Err}
use Rattle.std.specs.List.{flat_map}
use Rattle.bc_disk.specs.Disk.{DiskFacts, IfTold}
use Rattle.bc_disk.specs.declared.disk.Device.TheVariants as device
use Rattle.bc_disk.specs.declared.geometry.Geometry.{Geometry}
use Rattle.bc_entries.specs.Journal.{Journal, HasJournal}
use Rattle.bc_jset.specs.Entries.{FoundEntry}
use Rattle.bc_key.specs.Key.{IsExtent}
use Rattle.bc_key.specs.declared.key.Key.{Key}
use Rattle.bc_model.specs.Sector.{Image}
use Rattle.bc_node.specs.Leaf.{AreAdded}
use Rattle.bc_walk.specs.Rule.{Rule}
use Rattle.bc_walk.specs.Seen.{found_of}
use Rattle.bc_walk.specs.Walk.{IsIndexSearch}
use Rattle.bc_walk.specs.declared.visit.Visit.{Visit}
use Rattle.bc_walk.specs.declared.error.WalkError.TheVariants as walks
use Rattle.bc_replay.specs.Index.{IsIndexed}
use Rattle.bc_replay.specs.declared.error.OpenError.{OpenError}
use Rattle.bc_replay.specs.declared.error.OpenError.TheVariants as errors

-- the keys of entries, the oldest first
abbrev pub entry_keys : List FoundEntry → List Key
entry_keys es = flat_map (λ e. e.item.keys) es

abbrev pub HaveExtents : List FoundEntry → Type 0
HaveExtents es = All (λ e. All IsExtent e.item.keys) es

-- the keys of entries came behind others, if all of them are extents, as those of entries that are read
abbrev pub AddsEntries : List FoundEntry → List Key → List Key → Type 0
AddsEntries es old new = HaveExtents es → AreAdded (entry_keys es) old new

-- the walk from the root that the newest entry names went so, and the index is that of all keys
pub record IsIndex (r : Rule) (image : Image) (j : Journal) (visits : List Visit) (index : List Key) (word : Option ℕ) : Type 0 where
  pub journal : HasJournal r.geometry image j
  pub keys : List Key
  pub search : IsIndexSearch r.geometry image journal.entries.newest.item.level journal.entries.newest.item.root (Ok (found_of visits keys))
  pub last : IsIndexed r (keys ++ entry_keys j.entries) index word

-- so it is where this is the journal of the device
abbrev pub HasIndex : DiskFacts → Rule → Journal → List Visit → List Key → Option ℕ → Type 0
HasIndex d r j visits index word = IfTold d.holds (λ image. HasJournal r.geometry image j → IsIndex r image j visits index word)

-- why the index isn't had
abbrev pub IsIndexCause : DiskFacts → Geometry → Journal → OpenError → Type 0
IsIndexCause d g j (errors.Node bucket why) = IfTold d.holds (λ image. (has : HasJournal g image j)
    → IsIndexSearch g image has.entries.newest.item.level has.entries.newest.item.root (Err (walks.Node bucket why)))
IsIndexCause d g j (errors.Fault device.Cache) = Unit {0}
IsIndexCause d g j errors.Memory = Unit {0}
IsIndexCause d g j errors.NoJournal = IfTold d.holds (λ image. HasJournal g image j → ⊥)
IsIndexCause d g j e = ⊥
