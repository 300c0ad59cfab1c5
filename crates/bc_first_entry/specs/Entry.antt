-- The entry that an opening writes: it has no keys, and names what the entry before it names.
use Rattle.std.specs.Prelude.{◌≡◌, ◌≢◌, ℕ, ◌+◌, ◌<◌, ◌≤◌, List, [], ◌∷◌, ◌++◌, Option, Some, None, IfSome, Vec}
use Rattle.std.specs.declared.alloc.Global.{Global}
use Rattle.bc_model.specs.Sector.{Value}
use Rattle.bc_disk.specs.declared.disk.Device.TheVariants.{Cache}
use Rattle.bc_meta.specs.Facts.{In}
use Rattle.bc_meta.specs.Entries.{Entry}
use Rattle.bc_meta.specs.Layout.{entry_len}
use Rattle.bc_leaves.specs.Events.{same_root}
use Rattle.bc_leaves.specs.Parts.{NoNode, AllFrom}
use Rattle.bc_leaves.specs.Parts as parts
use Rattle.bc_whole.specs.State as whole
use Rattle.bc_whole.specs.State.{OfEntry, SameRoot, SameChain}
use Rattle.bc_known.specs.Acts.{Act, BeginBucket, CacheBarrier, Seal, WriteCache}
use Rattle.bc_events.specs.Run.{Opening}
use Rattle.bc_events.specs.declared.event.Deed.{Deed}
use Rattle.bc_events.specs.declared.event.Deed.TheVariants as deed
use Rattle.bc_events.specs.declared.event.Failure.TheVariants as failure
use Rattle.bc_events.specs.declared.event.Written.TheVariants as written
use Rattle.bc_events.specs.declared.event.Event.{Event}

pub record Entering : Type 0 where
  -- the oldest entry that is needed from now on
  pub last_seq : ℕ
  -- the journal bucket that is begun with it, where the one before has no room
  pub begun : Option ℕ
  -- what its record says besides number, root and keys, and the values that spell it
  pub rest : List ℕ
  pub values : List Value

-- where it goes
abbrev pub bucket_for : whole.Opening → Option ℕ → ℕ
bucket_for w None = w.store.bucket
bucket_for w (Some b) = b

abbrev pub place_for : whole.Opening → Option ℕ → ℕ
place_for w None = w.store.ring_next w.store.bucket
place_for w (Some b) = w.layout.first b

abbrev pub entry_for : whole.Opening → parts.State → Entering → Entry
entry_for w x p = same_root x.records p.last_seq x.records.newest.prio p.rest

-- A bucket is begun that has older entries alone, what leaves have pending is of entries that the
-- new one still needs, and the values spell it and fit.
pub record CanFirst (w : whole.Opening) (x : parts.State) (p : Entering) : Type 0 where
  pub from : w.store.newest.last_seq ≤ p.last_seq
  pub to : p.last_seq ≤ w.store.newest.number + 1
  pub begun : IfSome p.begun (λ b. (b < w.layout.journal)
      × ((e : Entry) → In e (w.store.ring b) → e.number < w.store.newest.last_seq))
  pub pending : (i : ℕ) → (x.leaves i).role ≢ NoNode
      → AllFrom p.last_seq (x.leaves i).pending
  pub spelled : w.layout.entries.spelled tt p.values ≡ Some (entry_for w x p)
  pub inside : place_for w p.begun + entry_len w.layout (entry_for w x p)
      ≤ w.layout.first (bucket_for w p.begun) + w.layout.bucket_sectors

-- ---- as acts of the machine

abbrev pub begin_acts : Option ℕ → List Act
begin_acts None = []
begin_acts (Some b) = BeginBucket b ∷ []

-- It is sealed, a barrier, it is written. From then on a crash may find it.
abbrev pub entering_acts : Entering → List Act
entering_acts p = begin_acts p.begun
    ++ (Seal p.last_seq p.rest SameRoot SameChain ∷ CacheBarrier ∷ WriteCache OfEntry p.values ∷ [])

-- ---- as deeds of a seat

-- the same, with the rest as it is handed over
pub record FirstEntry : Type 0 where
  pub last_seq : ℕ
  pub begun : Option ℕ
  pub rest : Vec ℕ Global
  pub values : List Value

abbrev pub entering : FirstEntry → Entering
entering p = record {
  last_seq = p.last_seq;
  begun = p.begun;
  rest = p.rest.items;
  values = p.values;
}

-- it is sealed, a barrier, it is written, a barrier, it is durable
abbrev pub seal_of : Opening → FirstEntry → Deed
seal_of w p = deed.Seal p.last_seq p.begun p.rest None None

abbrev pub write_of : Opening → FirstEntry → Deed
write_of w p = deed.CacheWrite (place_for w.machine p.begun) written.Entry p.values

-- by the run's first seat
abbrev pub by_first : List Deed → List Event
by_first [] = []
by_first (d ∷ ds) = record { seat = 0; deed = d } ∷ by_first ds

abbrev pub first_deeds : Opening → FirstEntry → List Deed
first_deeds w p = seal_of w p ∷ deed.CacheBarrier ∷ write_of w p ∷ deed.CacheBarrier ∷ deed.Sealed ∷ []

-- each of its calls may fail
abbrev pub failed_barrier : Deed
failed_barrier = deed.DeviceFault (failure.Barrier Cache)

abbrev pub failed_write : Opening → FirstEntry → Deed
failed_write w p =
    deed.DeviceFault (failure.CacheWrite (place_for w.machine p.begun) written.Entry p.values)

-- and then no more of it is done: P holds wherever it stops
pub record EachStopped (w : Opening) (p : FirstEntry) (P : List Deed → Type 0) : Type 0 where
  pub at_first_barrier : P (seal_of w p ∷ failed_barrier ∷ [])
  pub at_write : P (seal_of w p ∷ deed.CacheBarrier ∷ failed_write w p ∷ [])
  pub at_second_barrier : P (seal_of w p ∷ deed.CacheBarrier ∷ write_of w p ∷ failed_barrier ∷ [])
