-- Up to which entry the journal is durable, as a seat knows it. It is said from each opening of the
-- core from which the run so far is one.
use Rattle.std.specs.Prelude.{◌≡◌, ℕ, ◌≤◌}
use Rattle.bc_disk.specs.Disk.{DiskFacts}
use Rattle.bc_events.specs.Run.{State}
use Rattle.bc_events.specs.declared.event.Event.{Event}
use Rattle.bc_place.specs.bc_hand.Seats.{Did, View, core, world}
use Rattle.bc_place.specs.bc_machine.World.{FromEach, IsJournal, Origin, World, after}
use Rattle.bc_events.specs.declared.event.Deed.{Deed}
use Rattle.bc_journal.specs.Journal.{Journal}
use Rattle.bc_seats.specs.Seats.{Waited}
use Rattle.std.specs.Prelude.{Some}

-- the entry of this number is durable, and so is each before it
abbrev pub IsDurableTo : ℕ → Origin → State → Type 0
IsDurableTo n o st = n ≤ st.machine.whole.parts.records.newest.number

-- A journal that stood for the run was durable up to just this entry.
pub record IsToldBy (n : ℕ) (x : World) : Type 0 where
  pub journal : Journal
  pub stood : IsJournal journal x
  pub number_is : n ≡ journal.durable.seq

-- What is durable stays so, whatever happens.
abbrev pub LawLasts : Type 0
LawLasts = (x : World) (e : Event) (n : ℕ) → FromEach x (IsDurableTo n)
    → FromEach (after x e) (IsDurableTo n)

-- A journal in memory tells how far it is.
abbrev pub LawTold : Type 0
LawTold = (x : World) (j : Journal) → IsJournal j x → FromEach x (IsDurableTo j.durable.seq)

-- So a seat goes on to know it, while it waits and behind each of its deeds.
pub record LawKnown {C B : Type 0} (cache_facts : C → DiskFacts) (backing_facts : B → DiskFacts) :
    Type 0 where
  pub waited : (v w : View cache_facts backing_facts) (n : ℕ)
      → Waited (core cache_facts backing_facts) v w
      → FromEach (world cache_facts backing_facts v) (IsDurableTo n)
      → FromEach (world cache_facts backing_facts w) (IsDurableTo n)
  pub did : (v w : View cache_facts backing_facts) (d : Deed) (n : ℕ)
      → Did cache_facts backing_facts (Some d) v w
      → FromEach (world cache_facts backing_facts v) (IsDurableTo n)
      → FromEach (world cache_facts backing_facts w) (IsDurableTo n)
