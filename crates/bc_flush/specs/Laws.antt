-- How far the journal is durable behind an entry.
use Rattle.std.specs.Prelude.{ℕ}
use Rattle.bc_disk.specs.Disk.{DiskFacts}
use Rattle.bc_entry.specs.Put.{HasPut}
use Rattle.bc_events.specs.declared.event.Event.{Event}
use Rattle.bc_entry.specs.bc_hand.Seats.{View, world}
use Rattle.bc_journal.specs.Journal.{Journal}
use Rattle.bc_entry.specs.bc_machine.World.{FromEach, Origin, World, after}
use Rattle.bc_flush.specs.Durable.{AreDurable, HaveComeIn}

-- Behind an entry that a seat put, the insertions are durable that had come in before its first
-- deed.
abbrev pub LawPut : {C B : Type 0} → (C → DiskFacts) → (B → DiskFacts) → Type 0
LawPut {C} {B} cache_facts backing_facts = (j : Journal)
    (v w : View {C = C} {B = B} cache_facts backing_facts) (n : Origin → ℕ)
    → HasPut cache_facts backing_facts j v w
    → FromEach (world cache_facts backing_facts v) (HaveComeIn n)
    → FromEach (world cache_facts backing_facts w) (AreDurable n)

-- What has come in stays, and what is durable stays so, whatever happens.
pub record LawLasts : Type 0 where
  pub come : (x : World) (e : Event) (n : Origin → ℕ)
      → FromEach x (HaveComeIn n) → FromEach (after x e) (HaveComeIn n)
  pub durable : (x : World) (e : Event) (n : Origin → ℕ)
      → FromEach x (AreDurable n) → FromEach (after x e) (AreDurable n)
