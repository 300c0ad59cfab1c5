-- An entry is sealed and becomes durable: what that leaves of the journal's share, and of the ring.
use Rattle.std.specs.Prelude.{◌≡◌, ℕ, ◌+◌, ◌<◌, ◌≤◌, Bool, true, false, List, [], ◌∷◌, length, Some, None, slice_index}
use Rattle.bc_disk.specs.declared.geometry.Geometry.{Geometry}
use Rattle.bc_events.specs.Run as core
use Rattle.bc_events.specs.declared.event.Deed.{Deed}
use Rattle.bc_events.specs.declared.event.Deed.TheVariants as deed
use Rattle.bc_events.specs.declared.event.Event.{Event}
use Rattle.bc_events.specs.declared.event.Written.TheVariants as written
use Rattle.bc_journal.specs.Journal.{Journal}
use Rattle.bc_journal.specs.Ring.{IsRing, Ring, is_free, with_entry}
use Rattle.bc_journal.specs.Sealed.{sector_at}
use Rattle.bc_journal.specs.declared.place.Place.{Place}
use Rattle.bc_jset.specs.declared.entry.JEntry.{JEntry}
use Rattle.bc_jset.specs.Entries.{AreEntries, FoundEntry}
use Rattle.bc_jset.specs.Records.{entry_sectors}
use Rattle.bc_facts.specs.Seen.{seen_entries, seen_entry}
use Rattle.bc_known.specs.Acts.{BeginBucket, MakeDurable, Seal, State, after}
use Rattle.bc_machine.specs.Containers.{IsRingOf}
use Rattle.bc_machine.specs.World.{IsOrigin, Origin, World}
use Rattle.bc_meta.specs.Entries.{Entry}
use Rattle.bc_meta.specs.Facts.{In}
use Rattle.bc_meta.specs.Layout.{entry_len}
use Rattle.bc_meta.specs.Records.{Fixed, Nothing, Ready, Safe, Sent, Stage, put}
use Rattle.bc_shares.specs.Shares.{JournalShare, journal_share}
use Rattle.bc_shares.specs.Touched.{touches_journal}
use Rattle.bc_whole.specs.State.{Chain, Opening, Root}
use Rattle.bc_whole.specs.Together.{entry_of}

-- ---- what acts leave

-- the bucket is begun
pub record Begins (w : Opening) (b : ℕ) (x y : JournalShare) : Type 0 where
  pub sealed : y.entries.sealed ≡ x.entries.sealed
  pub newest : y.entries.newest ≡ x.entries.newest
  pub bucket : y.entries.bucket ≡ b
  pub ring : y.entries.ring ≡ put x.entries.ring b []
  pub next : y.next ≡ put x.next b (w.layout.first b)

-- the entry is sealed: it has all that waited, and the insertions that came in are in it or before it
pub record Seals (e : Entry) (x y : JournalShare) : Type 0 where
  pub waiting : y.entries.waiting ≡ []
  pub count : y.counts.count ≤ y.counts.journal.sealed
  pub sealed : y.entries.sealed ≡ Some e
  pub newest : y.entries.newest ≡ x.entries.newest
  pub bucket : y.entries.bucket ≡ x.entries.bucket
  pub ring : y.entries.ring ≡ x.entries.ring
  pub next : y.next ≡ x.next

-- the entry, which was sealed, is durable
pub record Ends (w : Opening) (e : Entry) (x y : JournalShare) : Type 0 where
  pub waiting : y.entries.waiting ≡ x.entries.waiting
  pub count : y.counts.count ≡ x.counts.count
  pub all : y.counts.journal.sealed ≡ x.counts.journal.sealed
  pub sealed : y.entries.sealed ≡ None
  pub newest : y.entries.newest ≡ e
  pub bucket : y.entries.bucket ≡ x.entries.bucket
  pub ring : y.entries.ring
      ≡ put x.entries.ring x.entries.bucket (e ∷ x.entries.ring x.entries.bucket)
  pub next : y.next
      ≡ put x.next x.entries.bucket (x.next x.entries.bucket + entry_len w.layout e)

pub record LawActs : Type 0 where
  pub begins : (w : Opening) (st : State) (i b : ℕ)
      → Begins w b (journal_share st) (journal_share (after w st i (BeginBucket b)))
  pub seals : (w : Opening) (st : State) (i last_seq : ℕ) (rest : List ℕ) (root : Root)
      (chain : Chain) → Seals (entry_of st.whole last_seq rest root chain) (journal_share st)
      (journal_share (after w st i (Seal last_seq rest root chain)))
  -- the parts have the records that the places have, as they do in each state of a run
  pub ends : (w : Opening) (st : State) (i : ℕ) (e : Entry)
      → st.whole.parts.records ≡ st.whole.store.places.records
      → (journal_share st).entries.sealed ≡ Some e
      → Ends w e (journal_share st) (journal_share (after w st i MakeDurable))

-- ---- what the ring says then

-- the entry may go into this bucket of the ring, and takes so many sectors
pub record IsNew (w : Opening) (r : Ring) (bucket : ℕ) (e : Entry) (sectors : ℕ) : Type 0 where
  pub long : sectors ≡ entry_len w.layout e
  pub within : bucket < length r.newest
  pub number : slice_index r.newest bucket ≤ e.number

abbrev pub front_of : ℕ → Place
front_of bucket = record { bucket = bucket; sector = 0 }

pub record LawRing : Type 0 where
  pub behind : (w : Opening) (x y : JournalShare) (r : Ring) (e : Entry) (sectors : ℕ)
      → IsRingOf w x r → x.entries.sealed ≡ None → Seals e x y → IsNew w r r.next.bucket e sectors
      → IsRingOf w y (with_entry r r.next sectors e.number)
  pub front : (w : Opening) (x y z : JournalShare) (r : Ring) (b : ℕ) (e : Entry) (sectors : ℕ)
      → IsRingOf w x r → Begins w b x y → Seals e y z → IsNew w r b e sectors
      → IsRingOf w z (with_entry r (front_of b) sectors e.number)
  pub durable : (w : Opening) (x y : JournalShare) (r : Ring) (e : Entry)
      → IsRingOf w x r → x.entries.sealed ≡ Some e → Ends w e x y → IsRingOf w y r

pub record LawPlaces : Type 0 where
  pub free : (w : Opening) (x : JournalShare) (r : Ring) (b : ℕ) → IsRingOf w x r
      → is_free r x.entries.newest.last_seq b ≡ true
      → (e : Entry) → In e (x.entries.ring b) → e.number < x.entries.newest.last_seq
  pub place : (w : Opening) (x : JournalShare) (r : Ring) (p : Place) (e : Entry) (sectors : ℕ)
      → IsRingOf w x (with_entry r p sectors e.number) → x.entries.sealed ≡ Some e
      → sectors ≡ entry_len w.layout e → x.next x.entries.bucket ≡ sector_at r.geometry p
  pub fits : (w : Opening) (x : JournalShare) (r : Ring) (e : Entry) → IsRingOf w x r → IsRing r
      → x.entries.sealed ≡ Some e → x.next x.entries.bucket + entry_len w.layout e
      ≤ w.layout.first x.entries.bucket + w.layout.bucket_sectors
  pub long : (w : Opening) (x : JournalShare) (r : Ring) (e : JEntry) → IsRingOf w x r
      → entry_len w.layout (seen_entry r.geometry e) ≡ entry_sectors r.geometry e

-- ---- what the opening had

-- Each opening from which a run with a journal is seen has the entries that a reader finds in what
-- the cache device held as the run began.
pub record HasRead (g : Geometry) (es : List FoundEntry) (newest : FoundEntry) (o : Origin) :
    Type 0 where
  pub entries : seen_entries g es
      ≡ o.opening.machine.store.newest ∷ o.opening.machine.store.older
  pub newest_is : seen_entry g newest.item ≡ o.opening.machine.store.newest

abbrev pub LawRead : Type 0
LawRead = (x : World) (o : Origin) (j : Journal) (es : List FoundEntry)
    (a : AreEntries j.ring.geometry x.opening.machine.flow.cache es) → IsOrigin x o
    → x.begun.journal ≡ Some j → HasRead j.ring.geometry es a.newest o

-- ---- how far the write has come

abbrev pub stage_in : core.State → Stage
stage_in st = st.machine.whole.parts.records.stage

-- sealed, and its write may still come
abbrev pub IsUnwritten : Stage → Type 0
IsUnwritten Nothing = ⊥
IsUnwritten Fixed = Unit {0}
IsUnwritten Ready = Unit {0}
IsUnwritten Sent = ⊥
IsUnwritten Safe = ⊥

abbrev pub IsWritten : Stage → Type 0
IsWritten Nothing = ⊥
IsWritten Fixed = ⊥
IsWritten Ready = ⊥
IsWritten Sent = Unit {0}
IsWritten Safe = Unit {0}

abbrev pub writes_entry : Deed → Bool
writes_entry (deed.CacheWrite at written.Entry values) = true
writes_entry d = false

-- What an event that doesn't touch the journal leaves of it. A barrier may come at any time.
pub record LawStage : Type 0 where
  pub written : (w : core.Opening) (st : core.State) (e : Event) → core.IsEnabled w st e
      → touches_journal e.deed ≡ false
      → IsWritten (stage_in st) → IsWritten (stage_in (core.after w st e))
  pub safe : (w : core.Opening) (st : core.State) (e : Event) → core.IsEnabled w st e
      → touches_journal e.deed ≡ false
      → stage_in st ≡ Safe → stage_in (core.after w st e) ≡ Safe
  pub unwritten : (w : core.Opening) (st : core.State) (e : Event) → core.IsEnabled w st e
      → touches_journal e.deed ≡ false → writes_entry e.deed ≡ false
      → IsUnwritten (stage_in st) → IsUnwritten (stage_in (core.after w st e))
  pub ready : (w : core.Opening) (st : core.State) (e : Event) → core.IsEnabled w st e
      → touches_journal e.deed ≡ false → writes_entry e.deed ≡ false
      → stage_in st ≡ Ready → stage_in (core.after w st e) ≡ Ready
