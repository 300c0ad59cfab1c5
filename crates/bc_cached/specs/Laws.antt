-- A run that begins on a sound pair is seen from a sound opening.
use Rattle.std.specs.Prelude.{◌≡◌, ℕ, ◌+◌, List, Some, replicate}
use Rattle.bc_alloc.specs.Buckets.{AreFor}
use Rattle.bc_alloc.specs.Reserves.{IsInOrder, Reserves}
use Rattle.bc_bucket.specs.Buckets.{Buckets}
use Rattle.bc_bucket.specs.Walk.{none_found}
use Rattle.bc_disk.specs.Disk.{DiskFacts}
use Rattle.bc_disk.specs.declared.geometry.Geometry.{Geometry}
use Rattle.bc_entries.specs.Journal.{HasJournal, Journal as Read}
use Rattle.bc_facts.specs.Layout.{IsLayoutOf}
use Rattle.bc_image.specs.Pair.{Pair}
use Rattle.bc_image.specs.Reading.{IsView, Reading, View}
use Rattle.bc_image.specs.Sound.{HasSoundParts}
use Rattle.bc_meta.specs.Layout.{Layout}
use Rattle.bc_model.specs.Sector.{Image}
use Rattle.bc_parts.specs.Seat.{PartsView}
use Rattle.bc_pending.specs.declared.numbered.Numbered.{Numbered}
use Rattle.bc_recover.specs.Known.{AreKnown}
use Rattle.bc_recover.specs.Spare.{HasReserves}
use Rattle.bc_resume.specs.Resume.{IsResumed}
use Rattle.bc_begun.specs.bc_slots.Parts.{AreParts}
use Rattle.bc_super.specs.Super.{data_sectors}
use Rattle.bc_begun.specs.bc_machine.World.{Origin}
use Rattle.bc_begun.specs.bc_machine.declared.part.CorePart.{CorePart}
use Rattle.bc_begun.specs.bc_chosen.Parts.{ArePartsOf, Parts}
use Rattle.bc_deed.specs.bc_hand.Seats as seats
use Rattle.bc_begun.specs.Begin.{IsSeenAs, first_seq}
use Rattle.bc_begun.specs.Opened.{AreBytes}
use Rattle.bc_cached.specs.Begun.{HasBegun}
use Rattle.bc_cached.specs.declared.run.Ready.{Ready}

-- the lists that an opening makes are of its buckets
abbrev pub LawFit : Type 0
LawFit = (g : Geometry) (r : Reading) (reserves : Reserves) (buckets : Buckets)
    → HasReserves g r reserves → AreKnown g r buckets → IsInOrder reserves → AreFor reserves buckets

-- the parts in memory, with the keys that wait for their leaves
abbrev pub parts_in : {C B : Type 0} → Ready C B → List (List Numbered) → Parts
parts_in ready pending = record {
  buckets = ready.buckets;
  reserves = ready.reserves;
  tree = ready.tree;
  pending = pending;
}

-- Both devices hold the pair that the parts were read of, and the journal and the leaves were read
-- of it too. Beside the data the backing device may hold something else by now, as another state of
-- its superblock.
pub record StandsOn {C B : Type 0} (cache_facts : C → DiskFacts) (backing_facts : B → DiskFacts)
    (p : Pair) (v : View) (read : Read) (pending : List (List Numbered)) (count : ℕ) (was : C)
    (ready : Ready C B) : Type 0 where
  -- both devices tell what they hold; `was` is the cache device of which the leaves were read
  pub cache : (cache_facts ready.cache).holds ≡ Some p.cache
  pub cache_was : (cache_facts was).holds ≡ Some p.cache
  pub image : Image
  pub backing : (backing_facts ready.backing.disk).holds ≡ Some image
  pub held : (s : ℕ) → image (ready.backing.offset + s) ≡ p.backing (v.backing.data_offset + s)
  pub size : ready.backing.size ≡ data_sectors p.backing_sectors v.backing
  pub bytes : AreBytes ready.buckets
  pub chain : ready.chain.items ≡ v.reading.gens.chain
  -- for each bucket a walk found nothing yet
  pub walk : ready.walk ≡ replicate v.geometry.nbuckets none_found
  -- the journal goes on behind the entries that were read, which are all that the device has
  pub found : HasJournal v.geometry p.cache read
  pub entries : read.entries ≡ v.reading.entries
  pub resumed : IsResumed v.geometry read ready.journal
  -- so many parts have leaves, and each of those that the journal has keys of
  pub leaves : AreParts v.geometry ready.tree.leaves pending count (cache_facts was)
      ready.leaves.items

-- Of a sound pair that was read there is an opening from which the run is seen.
abbrev pub LawSeen : {C B : Type 0} → (C → DiskFacts) → (B → DiskFacts) → Type 0
LawSeen {C} {B} cache_facts backing_facts =
    (p : Pair) (v : View) (layout : Layout) (read : Read) (pending : List (List Numbered))
    (count : ℕ) (was : C) (ready : Ready C B) (parts : PartsView (CorePart C B))
    (seat : seats.View cache_facts backing_facts)
    → HasBegun cache_facts backing_facts ready parts seat → IsView p v → HasSoundParts p v
    → IsLayoutOf v.geometry layout → ArePartsOf v.geometry v.reading (parts_in ready pending)
    → StandsOn cache_facts backing_facts p v read pending count was ready
    → (o : Origin) × IsSeenAs p v layout (parts_in ready pending) (first_seq ready.journal)
    (seats.world cache_facts backing_facts seat) o
