-- What a seat knows of the journal that wrote, or is about to write, past the cache.
use Rattle.std.specs.Prelude.{◌≡◌, ◌≢◌, ◌⊎◌, ℕ, ◌≤◌, [], None, IsSome}
use Rattle.bc_flush.specs.bc_deed.Flushed.{HasDone}
use Rattle.bc_disk.specs.Disk.{DiskFacts}
use Rattle.bc_events.specs.Run.{State}
use Rattle.bc_flush.specs.bc_hand.Seats.{View, world}
use Rattle.bc_journal.specs.Journal.{Journal}
use Rattle.bc_flush.specs.bc_machine.World.{IsJournal, Origin}
use Rattle.bc_shares.specs.Shares.{books_of}

-- the seat's last write rests on no insertion that isn't durable
abbrev pub IsLastDurable : ℕ → Origin → State → Type 0
IsLastDurable i o st =
    (st.machine.whole.flow.seats i).last.keys ≤ (books_of st.machine).journal.durable

-- keys wait for an entry, or one is sealed and not durable yet
abbrev pub Owes : Journal → Type 0
Owes j = IsSome j.sealed ⊎ (j.waiting ≢ [])

-- all keys are in durable entries
pub record OwesNone (j : Journal) : Type 0 where
  pub none : j.sealed ≡ None
  pub empty : j.waiting ≡ []

module _ {C B : Type 0} (cache_facts : C → DiskFacts) (backing_facts : B → DiskFacts) where
  -- so the journal stood that the seat had in hand
  pub record HasOwed (v w : View cache_facts backing_facts) : Type 0 where
    pub journal : Journal
    pub owes : Owes journal
    pub at : View cache_facts backing_facts
    pub way : HasDone cache_facts backing_facts [] v at
    pub stands : IsJournal journal (world cache_facts backing_facts at)
    pub then : HasDone cache_facts backing_facts [] at w
