-- What the parts of a pair that was read stand for, as a run begins.
use Rattle.std.specs.Prelude.{◌≡◌, ℕ, ◌<◌, false, List, [], Some, slice_index_or}
use Rattle.bc_books.specs.Books.{opened}
use Rattle.bc_cache.specs.Slots.{NodeCache}
use Rattle.bc_chosen.specs.Parts.{ArePartsOf, Parts}
use Rattle.bc_disk.specs.Disk.{DiskFacts}
use Rattle.bc_entries.specs.Journal.{HasJournal, Journal as Read}
use Rattle.bc_events.specs.Run.{Opening, start}
use Rattle.bc_facts.specs.Layout.{IsLayoutOf}
use Rattle.bc_image.specs.Pair.{Pair}
use Rattle.bc_image.specs.Reading.{IsView, View}
use Rattle.bc_image.specs.Sound.{HasSoundParts}
use Rattle.bc_journal.specs.Journal.{Journal}
use Rattle.bc_known.specs.Laws.{IsSound}
use Rattle.bc_known.specs.Run as known
use Rattle.bc_leaves.specs.Parts as parts
use Rattle.bc_machine.specs.Containers.{AreBucketsOf, AreLeavesOf, IsJournalOf, IsSpinePartOf}
use Rattle.bc_machine.specs.World.{Origin, opening}
use Rattle.bc_machine.specs.declared.part.BucketsPart.{BucketsPart}
use Rattle.bc_meta.specs.Layout.{Layout}
use Rattle.bc_resume.specs.Resume.{IsResumed}
use Rattle.bc_shares.specs.Shares.{journal_share}
use Rattle.bc_slots.specs.Parts.{AreParts}
use Rattle.bc_whole.specs.State as whole
use Rattle.bc_begun.specs.Begin.{Beginning, BeginsOn, IsSeenAs, IsUntraced, first_seq, parts_of, resting}
use Rattle.bc_begun.specs.Opened.{AreBytes, IsOpenedWith}

abbrev pub LawSpine : Type 0
LawSpine = (p : Pair) (v : View) (layout : Layout) (x : Parts) (w : whole.Opening)
    (st : parts.State) (next_seq : ℕ) → IsOpenedWith p v layout x w st
    → IsSpinePartOf w (known.start w st next_seq) (resting x.tree next_seq)

-- no bucket is open yet, no chain is newer than the one that was read, and no round is open
abbrev pub LawBuckets : Type 0
LawBuckets = (p : Pair) (v : View) (layout : Layout) (x : Parts) (w : whole.Opening)
    (st : parts.State) (b : BucketsPart) → IsOpenedWith p v layout x w st
    → AreBytes x.buckets → b.buckets ≡ x.buckets → b.reserves ≡ x.reserves → b.fill ≡ []
    → b.chain.items ≡ v.reading.gens.chain → b.renewing ≡ false
    → IsUntraced v.geometry.nbuckets b.round
    → AreBucketsOf w (opened w.flow.books) b

-- behind the entries that were read, which are all that the device has
abbrev pub LawJournal : Type 0
LawJournal = (p : Pair) (v : View) (layout : Layout) (x : Parts) (w : Opening)
    (st : parts.State) (next_seq : ℕ) (read : Read) (j : Journal)
    → IsOpenedWith p v layout x w.machine st → IsSound w.machine st
    → HasJournal v.geometry p.cache read → read.entries ≡ v.reading.entries
    → IsResumed v.geometry read j
    → IsJournalOf w.machine (journal_share (start w st next_seq).machine) j

-- each part has leaves that were read of the device, and the keys of the entries came to them
abbrev pub LawLeaves : DiskFacts → Type 0
LawLeaves d = (p : Pair) (v : View) (layout : Layout) (x : Parts) (w : whole.Opening)
    (st : parts.State) (count : ℕ) (caches : List NodeCache) (i : ℕ) (empty : NodeCache)
    → IsOpenedWith p v layout x w st → d.holds ≡ Some p.cache
    → AreParts v.geometry x.tree.leaves x.pending count d caches → i < count
    → AreLeavesOf w st count i (slice_index_or caches i empty)

-- so a run that begins on a sound pair is seen from some opening
abbrev pub LawOrigin : {C B : Type 0} → (C → DiskFacts) → (B → DiskFacts) → Type 0
LawOrigin {C} {B} cache_facts backing_facts =
    (p : Pair) (v : View) (layout : Layout) (x : Parts) (read : Read) (count : ℕ) (was : C)
    (k : Beginning C B) → IsView p v → HasSoundParts p v
    → IsLayoutOf v.geometry layout → ArePartsOf v.geometry v.reading x
    → BeginsOn cache_facts backing_facts p v x read count was k
    → (o : Origin) × IsSeenAs p v layout x (first_seq k.journal)
    (opening cache_facts backing_facts (parts_of x.tree k)) o
