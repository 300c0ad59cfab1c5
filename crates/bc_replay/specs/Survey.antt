-- What a reader finds of a whole pair, and why it refuses it.
use Rattle.std.specs.Prelude.{◌≡◌, ℕ, ◌<◌, List, ◌++◌, map, length, slice_index_or, Ok, Err}
use Rattle.bc_disk.specs.Gens.{Gens}
use Rattle.bc_disk.specs.Disk.{DiskFacts}
use Rattle.bc_disk.specs.declared.disk.Device.TheVariants as device
use Rattle.bc_disk.specs.declared.geometry.Geometry.{Geometry}
use Rattle.bc_entries.specs.Journal.{Journal, HasJournal}
use Rattle.bc_image.specs.Pair.{Pair}
use Rattle.bc_image.specs.Reading.{Reading, View, IsView, keys_of}
use Rattle.bc_image.specs.Sound.{HasSuperblocks, NamesBacking, HasRanges, HasPointers, HasOneUse, HasSpareBuckets, HasRoomForEntry}
use Rattle.bc_image.specs.Uses.{IsUsedFor, Use as ImageUse, Super, Journal as OfJournal, Priority, Uuid, Node, Data}
use Rattle.bc_jset.specs.Entries.{FoundEntry}
use Rattle.bc_key.specs.declared.key.Key.{Key}
use Rattle.bc_node.specs.Leaf.{AreLastOfAll}
use Rattle.bc_super.specs.Super.{data_sectors}
use Rattle.bc_super.specs.declared.backing.BackingSuper.{BackingSuper}
use Rattle.bc_super.specs.declared.cache.CacheSuper.{CacheSuper}
use Rattle.bc_walk.specs.Rule.{Rule}
use Rattle.bc_walk.specs.Tree.{visit_of}
use Rattle.bc_walk.specs.Walk.{Found, Way, IsIndexSearch}
use Rattle.bc_walk.specs.declared.error.WalkError.TheVariants as walks
use Rattle.bc_walk.specs.declared.visit.Visit.{Visit}
use Rattle.bc_replay.specs.declared.error.OpenError.{OpenError}
use Rattle.bc_replay.specs.declared.error.OpenError.TheVariants as errors
use Rattle.bc_replay.specs.declared.uses.Use.{Use}
use Rattle.bc_replay.specs.declared.uses.Use.TheVariants as uses
use Rattle.bc_replay.specs.Causes.{OfHeld}
use Rattle.bc_replay.specs.First.{IsFirstHead}
use Rattle.bc_replay.specs.Heads.{HasHeads}
use Rattle.bc_replay.specs.Judge.{IsFirstOf, held_of}
use Rattle.bc_replay.specs.Replay.{entry_keys}
use Rattle.bc_replay.specs.Used.{Held}

-- ---- which refusal is the first

-- what is found of a pair up to its nodes: of these the way of a walk through them
pub record Indexed : Type 0 where
  pub backing : BackingSuper
  pub geometry : Geometry
  pub entries : List FoundEntry
  pub newest : FoundEntry
  pub gens : Gens
  pub way : Way

pub record HasIndexed (p : Pair) (i : Indexed) : Type 0 where
  pub cache : CacheSuper
  pub journal : Journal
  pub heads : HasHeads p i.backing cache i.geometry journal i.gens
  pub entries : journal.entries ≡ i.entries
  pub newest : heads.journal.entries.newest ≡ i.newest
  pub search : IsIndexSearch i.geometry p.cache i.newest.item.level i.newest.item.root i.way

-- by what its keys are judged
abbrev pub rule_of : Pair → Indexed → Rule
rule_of p i = record { geometry = i.geometry; size = data_sectors p.backing_sectors i.backing }

-- what is known where these nodes and keys were found
abbrev pub held_by : Pair → Indexed → Found → Held
held_by p i found = held_of (rule_of p i) i.gens i.newest.item.uuid_bucket found.visits (found.keys ++ entry_keys i.entries)

-- nodes were found, and of what is known then this holds
abbrev pub OfIndex : Pair → (Rule → Held → Type 0) → Type 0
OfIndex p P = (i : Indexed) × (found : Found) × HasIndexed p i × (i.way ≡ Ok found) × P (rule_of p i) (held_by p i found)

-- The first refusal: of what the index stands on, then of a node, then of a pointer, then of a bucket with two uses, then for want of
-- spare buckets.
abbrev pub IsFirst : Pair → OpenError → Type 0
IsFirst p (errors.Node bucket why) = (i : Indexed) × HasIndexed p i × (i.way ≡ Err (walks.Node bucket why))
IsFirst p (errors.PointerRange word) = OfIndex p (λ r h. IsFirstOf r h (errors.PointerRange word))
IsFirst p (errors.TwoUses bucket) = OfIndex p (λ r h. IsFirstOf r h (errors.TwoUses bucket))
IsFirst p (errors.NoSpare found) = OfIndex p (λ r h. IsFirstOf r h (errors.NoSpare found))
IsFirst p e = IsFirstHead p e

-- why a pair is refused, where both devices tell what they hold
abbrev pub IsSurveyCause : DiskFacts → DiskFacts → OpenError → Type 0
IsSurveyCause cache backing (errors.Fault d) = Unit {0}
IsSurveyCause cache backing errors.Memory = Unit {0}
IsSurveyCause cache backing e = OfHeld (λ p. IsFirst p e) cache backing

-- ---- a pair that isn't refused

-- the parts of soundness that need no look at the data, and room in the journal
pub record IsOpenable (p : Pair) (v : View) : Type 0 where
  pub superblocks : HasSuperblocks v.backing v.cache
  pub backing : NamesBacking v p.cache
  pub ranges : HasRanges v.reading
  pub pointers : HasPointers v.geometry (data_sectors p.backing_sectors v.backing) v.reading
  pub once : HasOneUse v.geometry v.reading
  pub spare : HasSpareBuckets v.geometry v.reading
  pub room : HasRoomForEntry v.geometry p.cache v.reading

-- a pair has a view with these parts
abbrev pub CanBeOpened : Pair → Type 0
CanBeOpened p = (v : View) × IsView p v × IsOpenable p v

-- the bucket is used for this; None is that it is used for nothing
abbrev pub IsUsedAs : Geometry → Reading → ℕ → Use → Type 0
IsUsedAs g r bucket uses.Super = IsUsedFor g r Super bucket
IsUsedAs g r bucket uses.Journal = IsUsedFor g r OfJournal bucket
IsUsedAs g r bucket uses.Priority = IsUsedFor g r Priority bucket
IsUsedAs g r bucket uses.Uuid = IsUsedFor g r Uuid bucket
IsUsedAs g r bucket uses.Node = IsUsedFor g r Node bucket
IsUsedAs g r bucket uses.Data = IsUsedFor g r Data bucket
IsUsedAs g r bucket uses.None = (what : ImageUse) → ¬ (IsUsedFor g r what bucket)

-- each bucket has the use that the table tells
pub record TellsUses (g : Geometry) (r : Reading) (table : List Use) : Type 0 where
  pub each : length table ≡ g.nbuckets
  pub told : (bucket : ℕ) → bucket < g.nbuckets → IsUsedAs g r bucket (slice_index_or table bucket uses.None)

-- what was read of a pair is what its one view has
pub record HasSurvey (p : Pair) (b : BackingSuper) (c : CacheSuper) (g : Geometry) (j : Journal) (gs : Gens) (vs : List Visit) (keys : List Key) (us : List Use) : Type 0 where
  pub view : View
  pub is_view : IsView p view
  pub openable : IsOpenable p view
  pub backing : view.backing ≡ b
  pub cache : view.cache ≡ c
  pub geometry : view.geometry ≡ g
  pub journal : HasJournal g p.cache j
  pub entries : view.reading.entries ≡ j.entries
  pub gens : view.reading.gens ≡ gs
  pub nodes : map visit_of view.reading.nodes ≡ vs
  pub index : AreLastOfAll (keys_of view.reading) keys
  pub uses : TellsUses g view.reading us
