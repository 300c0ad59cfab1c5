-- A pair that is opened.
use Rattle.std.specs.Prelude.{◌≡◌, ◌⊎◌, ◌<◌, ◌≤◌, ◌∷◌, ◌++◌, ℕ, List, []}
use Rattle.bc_alloc.specs.Reserves.{Reserves}
use Rattle.bc_bucket.specs.Buckets.{Buckets}
use Rattle.bc_disk.specs.Device.{next_count}
use Rattle.bc_disk.specs.Disk.{DiskFacts, IsKept}
use Rattle.bc_disk.specs.declared.disk.Device.TheVariants as device
use Rattle.bc_enter.specs.Next.{IsOdd}
use Rattle.bc_entered.specs.Enter.{HasEntered}
use Rattle.bc_entries.specs.Journal.{Journal}
use Rattle.bc_image.specs.Pair.{Pair}
use Rattle.bc_jset.specs.Entries.{FoundEntry}
use Rattle.bc_recover.specs.Known.{AreKnown}
use Rattle.bc_recover.specs.Read.{IsReadOf}
use Rattle.bc_recover.specs.Spare.{HasReserves}
use Rattle.bc_regrow.specs.Tree.{IsTreeOf, OfRead}
use Rattle.bc_replay.specs.declared.error.OpenError.{OpenError}
use Rattle.bc_replay.specs.declared.error.OpenError.TheVariants as errors
use Rattle.bc_replay.specs.declared.held.Survey.{Survey}
use Rattle.bc_state.specs.State.{super_in}
use Rattle.bc_super.specs.Writing.{IsBackingStored, count_after}
use Rattle.bc_super.specs.declared.backing.BackingSuper.{BackingSuper}
use Rattle.bc_super.specs.declared.state.BackingState.TheVariants as states
use Rattle.bc_tree.specs.Spine.{Spine}
use Rattle.bc_open.specs.declared.open.Opened.{Opened}

-- the parts in memory are those of the pair that was read
pub record AreParts (s : Survey) (cache : DiskFacts) (tree : Spine) (buckets : Buckets)
    (reserves : Reserves) : Type 0 where
  pub grown : OfRead s cache (λ p h. IsTreeOf h.view.geometry h.view.reading.nodes tree)
  pub known : (p : Pair) → (h : IsReadOf s p) → AreKnown h.view.geometry h.view.reading buckets
  pub spare : (p : Pair) → (h : IsReadOf s p)
      → HasReserves h.view.geometry h.view.reading reserves

-- The parts are the pair's. The journal has the entry of the opening as its newest durable one, which
-- stands on the cache device; the backing device says that its cache may have what it lacks; a crash
-- leaves just what both hold. No call failed.
pub record HasOpened {C : Type 0} (facts : C → DiskFacts) (s : Survey) (b : BackingSuper)
    (cache cache' : C) (backing backing' : DiskFacts) (o : Opened) : Type 0 where
  pub parts : AreParts s (facts cache) o.tree o.buckets o.reserves
  -- once the inner nodes were read
  pub between : C
  pub kept : IsKept (facts cache) (facts between)
  pub good : (facts between).faults ≡ (facts cache).faults
  pub entered : HasEntered s.supers.geometry s.journal (facts between) (facts cache') o.journal
  pub state : IsBackingStored (super_in states.Dirty b) backing backing'
  pub calls : backing'.calls ≡ count_after 2 backing.calls
  pub faults : backing'.faults ≡ backing.faults

-- ---- why it isn't

-- no sector of the device was written, and no call of it failed
pub record IsUnwritten (old new : DiskFacts) : Type 0 where
  pub kept : IsKept old new
  pub faults : new.faults ≡ old.faults

-- at most so many calls were made, and just one of them failed
pub record HasFailed (n : ℕ) (old new : DiskFacts) : Type 0 where
  pub calls : (k : ℕ) × (0 < k) × (k ≤ n) × (new.calls ≡ count_after k old.calls)
  pub faults : new.faults ≡ next_count old.faults

-- Why the parts weren't read: one call failed, and no other; or memory ran out, and nothing else where
-- the device holds what was read.
abbrev pub IsReadStop : Survey → DiskFacts → DiskFacts → OpenError → Type 0
IsReadStop s old new (errors.Fault device.Cache) = new.faults ≡ next_count old.faults
IsReadStop s old new (errors.Fault device.Backing) = ⊥
IsReadStop s old new errors.Memory = IsUnwritten old new
IsReadStop s old new error = OfRead s old (λ p h. ⊥) × IsUnwritten old new

-- the number of the newest of these entries
abbrev pub IsNewestNumber : Journal → ℕ → Type 0
IsNewestNumber read seq = (older : List FoundEntry) × (newest : FoundEntry)
    × (read.entries ≡ older ++ newest ∷ []) × (seq ≡ newest.item.seq)

-- the newest of them is one behind which none can come, and this is its number
abbrev pub EndsOdd : Journal → ℕ → Type 0
EndsOdd read seq = IsOdd read × IsNewestNumber read seq

-- Why the entry wasn't written: one of three calls failed, or none was made.
abbrev pub IsEntryStop : {C : Type 0} → (C → DiskFacts) → Journal → C → C → OpenError → Type 0
IsEntryStop facts read old new (errors.Fault device.Cache) = HasFailed 3 (facts old) (facts new)
IsEntryStop facts read old new errors.Memory = new ≡ old
IsEntryStop facts read old new (errors.JournalEnd seq) = EndsOdd read seq × (new ≡ old)
IsEntryStop facts read old new error = ⊥

module _ {B : Type 0} (facts : B → DiskFacts) (s : Survey) (n : ℕ) (cache cache' : DiskFacts)
    (backing backing' : B) where
  -- nothing was written, and the backing device wasn't called
  abbrev pub IsAsBefore : Type 0
  IsAsBefore = IsUnwritten cache cache' × (backing' ≡ backing)

  -- the devices don't hold the pair that was read
  abbrev pub IsAnother : Type 0
  IsAnother = OfRead s cache (λ p h. ⊥)

  -- Why a pair that was read isn't opened. One call of a device failed, and no other; of the backing
  -- device it was one of so many, and it wasn't called where the cache device failed. Or memory ran
  -- out before anything was written, or the newest entry, of this number, is one behind which none can
  -- come. Nothing else comes of devices that hold what was read.
  abbrev pub IsOpenStop : OpenError → Type 0
  IsOpenStop (errors.Fault device.Cache) =
      (cache'.faults ≡ next_count cache.faults) × (backing' ≡ backing)
  IsOpenStop (errors.Fault device.Backing) = (cache'.faults ≡ cache.faults)
      × HasFailed n (facts backing) (facts backing')
  IsOpenStop errors.Memory = IsAsBefore
  IsOpenStop (errors.JournalEnd seq) = (EndsOdd s.journal seq ⊎ IsAnother) × IsAsBefore
  IsOpenStop error = IsAnother × IsAsBefore
