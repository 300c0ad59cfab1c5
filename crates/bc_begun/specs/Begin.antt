-- The parts with which a run over a pair with a cache begins.
use Rattle.std.specs.Prelude.{◌≡◌, ℕ, ◌+◌, ◌*◌, ◌%◌, ◌^◌, false, List, [], ◌∷◌, Some, map, replicate}
use Rattle.bc_bucket.specs.Walk.{none_found}
use Rattle.bc_cache.specs.Slots.{NodeCache}
use Rattle.bc_chosen.specs.Parts.{Parts, choices_of}
use Rattle.bc_disk.specs.Disk.{DiskFacts}
use Rattle.bc_entries.specs.Journal.{HasJournal, Journal as Read}
use Rattle.bc_flight.specs.Flight.{InFlight}
use Rattle.bc_image.specs.Pair.{Pair}
use Rattle.bc_image.specs.Reading.{View}
use Rattle.bc_journal.specs.Journal.{Journal}
use Rattle.bc_machine.specs.World.{IsOrigin, IsSeenFrom, IsUntorn, Origin, World, replay, seen_from}
use Rattle.bc_machine.specs.declared.part.BackingPart.{BackingPart}
use Rattle.bc_machine.specs.declared.part.BucketsPart.{BucketsPart}
use Rattle.bc_machine.specs.declared.part.SpinePart.{SpinePart}
use Rattle.bc_machine.specs.declared.part.Tracing.{Tracing}
use Rattle.bc_machine.specs.declared.part.CorePart.{CorePart}
use Rattle.bc_machine.specs.declared.part.CorePart.TheVariants as part
use Rattle.bc_meta.specs.Layout.{Layout}
use Rattle.bc_model.specs.Sector.{Image}
use Rattle.bc_opening.specs.Opening.{IsOpeningOf}
use Rattle.bc_resume.specs.Resume.{IsResumed}
use Rattle.bc_slots.specs.Parts.{AreParts}
use Rattle.bc_super.specs.Super.{data_sectors}
use Rattle.bc_tree.specs.Spine.{Spine}
use Rattle.bc_begun.specs.Opened.{AreBytes}

-- what a run begins with beside the tree
pub record Beginning (C B : Type 0) : Type 0 where
  pub flight : InFlight
  pub buckets : BucketsPart
  pub journal : Journal
  pub cache : C
  pub backing : BackingPart B
  pub leaves : List NodeCache

-- The number that the sets of the first new node get: 65,536 for each entry up to the newest one,
-- in 64 bits. So the nodes of an earlier run have lower numbers.
abbrev pub first_seq : Journal → ℕ
first_seq j = j.durable.seq * 65536 % 2 ^ 64

-- the tree, of which no change is under way
abbrev pub resting : Spine → ℕ → SpinePart
resting tree next_seq = record { spine = tree; next_seq = next_seq; changing = false }

-- all parts of the run, in the order of their numbers
abbrev pub parts_of : {C B : Type 0} → Spine → Beginning C B → List (CorePart C B)
parts_of tree k = part.Spine (resting tree (first_seq k.journal))
    ∷ part.Flight k.flight ∷ part.Buckets k.buckets
    ∷ part.Journal k.journal ∷ part.Cache k.cache ∷ part.Backing k.backing
    ∷ map part.Leaves k.leaves

-- no round is open, and none walked a leaf of a device of so many buckets
pub record IsUntraced (count : ℕ) (t : Tracing) : Type 0 where
  pub walk : t.walk ≡ replicate count none_found
  pub going : t.going ≡ false
  pub next : t.next ≡ 0

-- The run begins with what was read of the pair, and nothing was written over that since. Beside
-- the data the backing device may hold something else by now, as another state of its superblock.
pub record BeginsOn {C B : Type 0} (cache_facts : C → DiskFacts) (backing_facts : B → DiskFacts)
    (p : Pair) (v : View) (x : Parts) (read : Read) (count : ℕ) (was : C)
    (k : Beginning C B) : Type 0 where
  -- both devices tell what they hold; `was` is the cache device of which the leaves were read
  pub cache : (cache_facts k.cache).holds ≡ Some p.cache
  pub cache_was : (cache_facts was).holds ≡ Some p.cache
  pub image : Image
  pub backing : (backing_facts k.backing.disk).holds ≡ Some image
  pub held : (s : ℕ) → image (k.backing.offset + s) ≡ p.backing (v.backing.data_offset + s)
  pub size : k.backing.size ≡ data_sectors p.backing_sectors v.backing
  -- no bucket is open yet
  pub bytes : AreBytes x.buckets
  pub buckets : k.buckets.buckets ≡ x.buckets
  pub reserves : k.buckets.reserves ≡ x.reserves
  pub fill : k.buckets.fill ≡ []
  -- no chain is newer than the one that was read, and no round is open
  pub chain : k.buckets.chain.items ≡ v.reading.gens.chain
  pub renewing : k.buckets.renewing ≡ false
  pub round : IsUntraced v.geometry.nbuckets k.buckets.round
  -- the journal goes on behind the entries that were read, which are all that the device has
  pub found : HasJournal v.geometry p.cache read
  pub entries : read.entries ≡ v.reading.entries
  pub resumed : IsResumed v.geometry read k.journal
  -- so many parts have leaves, and each of those that the journal has keys of
  pub leaves : AreParts v.geometry x.tree.leaves x.pending count (cache_facts was) k.leaves

-- An opening from which the run is seen: the machine is opened by what the parts say of the pair,
-- and the seqs of new nodes go on at this one.
pub record IsSeenAs (p : Pair) (v : View) (layout : Layout) (x : Parts) (next_seq : ℕ) (y : World)
    (o : Origin) : Type 0 where
  pub opened : IsOpeningOf p v layout (choices_of v.geometry v.reading x) o.opening.machine o.parts
  pub seq : o.next_seq ≡ next_seq
  pub origin : IsOrigin y o
  pub seen : IsUntorn o (replay o []) → IsSeenFrom o y (seen_from o y)
