-- What a seat has done that flushed for a line in a run with a cache, and where it came no further.
use Rattle.std.specs.Prelude.{◌≡◌, ◌⊎◌, ℕ, List, [], ◌∷◌, ◌++◌}
use Rattle.bc_entry.specs.bc_deed.Flushed.{HasDone}
use Rattle.bc_disk.specs.Disk.{DiskFacts}
use Rattle.bc_disk.specs.declared.disk.Device.TheVariants.{Backing}
use Rattle.bc_events.specs.declared.event.Deed.{Deed}
use Rattle.bc_events.specs.declared.event.Deed.TheVariants as deed
use Rattle.bc_events.specs.declared.event.Failure.TheVariants as failure
use Rattle.bc_events.specs.declared.event.LineNumber.{LineNumber}
use Rattle.bc_entry.specs.bc_hand.Seats.{View}
use Rattle.bc_flush.specs.Sync.{AreSynced, IsHaltOf, IsSyncCut, OfCut, OfEntry, StoodBehind}
use Rattle.bc_journal.specs.Journal.{Journal}
use Rattle.std.proofs.Common.{inl, inr}
use Rattle.bc_flush.specs.declared.error.FlushError.{FlushError}
use Rattle.bc_flush.specs.declared.error.FlushError.TheVariants as flush

-- It begins; an entry is put where keys wait; a barrier of the backing device; it is acknowledged.
pub record IsFlush (of : LineNumber) (ds : List Deed) : Type 0 where
  pub entry : List Deed
  pub synced : AreSynced entry
  pub is : ds ≡ deed.FlushFrom of ∷ (entry ++ (deed.BackingBarrier ∷ deed.FlushDone of ∷ []))

-- ---- where it came no further

-- before it began
abbrev pub IsCutBefore : FlushError → List Deed → Type 0
IsCutBefore (flush.Halted device) ds = ds ≡ []
IsCutBefore flush.Memory ds = ds ≡ []
IsCutBefore e ds = ⊥

-- behind the entry: the barrier failed, or a halt came before it or behind it, or no memory was
-- there for what was left
abbrev pub IsCutAtEnd : FlushError → List Deed → Type 0
IsCutAtEnd (flush.Fault device) ds =
    (device ≡ Backing) × (ds ≡ deed.DeviceFault (failure.Barrier Backing) ∷ [])
IsCutAtEnd (flush.Halted device) ds = (ds ≡ []) ⊎ (ds ≡ deed.BackingBarrier ∷ [])
IsCutAtEnd flush.Memory ds = ds ≡ []
IsCutAtEnd flush.Outside ds = ⊥

-- with the entry, or behind it
pub record IsCutWith (sectors : ℕ) (e : FlushError) (of : LineNumber) (ds : List Deed) :
    Type 0 where
  pub more : List Deed
  pub cut : IsSyncCut sectors e more
  pub is : ds ≡ deed.FlushFrom of ∷ more

pub record IsCutBehind (e : FlushError) (of : LineNumber) (ds : List Deed) : Type 0 where
  pub entry : List Deed
  pub synced : AreSynced entry
  pub more : List Deed
  pub cut : IsCutAtEnd e more
  pub is : ds ≡ deed.FlushFrom of ∷ (entry ++ more)

abbrev pub IsFlushCut : ℕ → FlushError → LineNumber → List Deed → Type 0
IsFlushCut sectors e of ds =
    IsCutBefore e ds ⊎ (IsCutWith sectors e of ds ⊎ IsCutBehind e of ds)

-- of the journal that gave the entry, or what was cut off of it
abbrev pub OfFlushCut : (sectors : ℕ) (e : FlushError) (of : LineNumber) (ds : List Deed)
    → IsFlushCut sectors e of ds → (Journal → Type 0) → Type 0
OfFlushCut sectors e of ds (inl before) P = Unit {0}
OfFlushCut sectors e of ds (inr (inl with_)) P = OfCut sectors e with_.more with_.cut P
OfFlushCut sectors e of ds (inr (inr behind)) P = OfEntry behind.entry behind.synced P

module _ {C B : Type 0} (cache_facts : C → DiskFacts) (backing_facts : B → DiskFacts) where
  -- the flush was acknowledged
  pub record HasFlushed (of : LineNumber) (v w : View cache_facts backing_facts) : Type 0 where
    pub deeds : List Deed
    pub are : IsFlush of deeds
    pub stood : OfEntry are.entry are.synced (StoodBehind cache_facts backing_facts v)
    pub done : HasDone cache_facts backing_facts deeds v w

  -- it wasn't
  pub record HasNotFlushed (sectors : ℕ) (e : FlushError) (of : LineNumber)
      (v w : View cache_facts backing_facts) : Type 0 where
    pub deeds : List Deed
    pub cut : IsFlushCut sectors e of deeds
    pub stood : OfFlushCut sectors e of deeds cut (StoodBehind cache_facts backing_facts v)
    pub halt : IsHaltOf e w.seen
    pub done : HasDone cache_facts backing_facts deeds v w

  -- the barrier was made and the flush acknowledged, or not
  pub record HasNotEnded (e : FlushError) (v w : View cache_facts backing_facts) : Type 0 where
    pub deeds : List Deed
    pub cut : IsCutAtEnd e deeds
    pub halt : IsHaltOf e w.seen
    pub done : HasDone cache_facts backing_facts deeds v w
