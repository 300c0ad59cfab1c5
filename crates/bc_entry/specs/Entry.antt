-- The journal's entry on its way to the cache device, as a seat knows it that keeps the journal and
-- the device in hand meanwhile. It is said from each opening of the core from which the run so far
-- is one.
use Rattle.std.specs.Prelude.{◌≡◌, ℕ, true, List, Some, is_some}
use Rattle.bc_model.specs.Sector.{Value, values_of}
use Rattle.bc_disk.specs.Disk.{DiskFacts}
use Rattle.bc_events.specs.Run.{State}
use Rattle.bc_facts.specs.Layout.{IsLayoutOf}
use Rattle.bc_facts.specs.Seen.{seen_entry}
use Rattle.bc_deed.specs.bc_hand.Seats.{View, world}
use Rattle.bc_deed.specs.bc_hand.declared.hand.Hand.{Hand}
use Rattle.bc_journal.specs.Sealed.{AreBytesOf, Sealed, sector_at}
use Rattle.bc_jset.specs.declared.entry.JEntry.{JEntry}
use Rattle.bc_disk.specs.declared.geometry.Geometry.{Geometry}
use Rattle.bc_sealing.specs.bc_machine.World.{FromEach, Origin}
use Rattle.bc_meta.specs.Records.{Ready, Safe, Stage}
use Rattle.bc_sealing.specs.Laws.{IsUnwritten, IsWritten, stage_in}
use Rattle.bc_shares.specs.Shares.{JournalShare, journal_share}
use Rattle.bc_whole.specs.State.{Opening}

-- The journal has sealed this entry, which goes to this place.
pub record IsSealedAs (s : Sealed) (w : Opening) (x : JournalShare) : Type 0 where
  pub layout : IsLayoutOf s.geometry w.layout
  pub before : w.before ≡ s.geometry.first_bucket
  pub entry : x.entries.sealed ≡ Some (seen_entry s.geometry s.entry)
  pub bucket : x.entries.bucket ≡ s.place.bucket
  pub next : x.next x.entries.bucket ≡ sector_at s.geometry s.place

-- and so far its write has come
pub record HasCome (far : Stage → Type 0) (s : Sealed) (o : Origin) (st : State) : Type 0 where
  pub sealed : IsSealedAs s o.opening.machine (journal_share st.machine)
  pub stage : far (stage_in st)

-- Sealed, and not written yet; a barrier stands behind the seal, so it may be written; written; and
-- durable by a barrier behind its write.
abbrev pub IsFixedEntry : Sealed → Origin → State → Type 0
IsFixedEntry = HasCome IsUnwritten

abbrev pub IsReadyEntry : Sealed → Origin → State → Type 0
IsReadyEntry = HasCome (λ stage. stage ≡ Ready)

abbrev pub IsWrittenEntry : Sealed → Origin → State → Type 0
IsWrittenEntry = HasCome IsWritten

abbrev pub IsSafeEntry : Sealed → Origin → State → Type 0
IsSafeEntry = HasCome (λ stage. stage ≡ Safe)

-- the newest durable entry is this one
abbrev pub IsNewestEntry : Geometry → JEntry → Origin → State → Type 0
IsNewestEntry g e o st = (journal_share st.machine).entries.newest ≡ seen_entry g e

-- the values of the entry's bytes, zeros behind it up to the end of its last block among them
abbrev pub AreValuesOf : Sealed → List Value → Type 0
AreValuesOf s values =
    (bytes : List ℕ) × AreBytesOf s.geometry s.entry bytes × (values ≡ values_of bytes)

-- the journal and the cache device are in hand, so that no other seat comes to the entry
pub record HasJournalAndCache {C B : Type 0} (h : Hand C B) : Type 0 where
  pub journal : is_some h.journal ≡ true
  pub cache : is_some h.cache ≡ true

module _ {C B : Type 0} (cache_facts : C → DiskFacts) (backing_facts : B → DiskFacts) where
  -- What a barrier of the cache device makes of a sealed entry: one that wasn't written may be
  -- written from then on, and one that was is durable.
  pub record MakesFirm (v w : View cache_facts backing_facts) : Type 0 where
    pub ready : (s : Sealed) → FromEach (world cache_facts backing_facts v) (IsFixedEntry s)
        → FromEach (world cache_facts backing_facts w) (IsReadyEntry s)
    pub safe : (s : Sealed) → FromEach (world cache_facts backing_facts v) (IsWrittenEntry s)
        → FromEach (world cache_facts backing_facts w) (IsSafeEntry s)
