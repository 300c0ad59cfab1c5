-- The journal in memory needs no entry below a number any more.
use Rattle.std.specs.Prelude.{◌≡◌, ◌⊎◌, ℕ, ◌<◌, ◌≤◌, Some}
use Rattle.bc_append.specs.bc_hand.Seats.{View, Works, world}
use Rattle.bc_append.specs.bc_hand.declared.hand.Hand.{Hand}
use Rattle.bc_append.specs.bc_machine.World.{FromEach}
use Rattle.bc_append.specs.bc_machine.declared.part.CorePart.{CorePart}
use Rattle.bc_disk.specs.Disk.{DiskFacts}
use Rattle.bc_journal.specs.Journal.{Journal, number_of}
use Rattle.bc_needs.specs.Needs.{NeedsFrom}
use Rattle.bc_parts.specs.Seat.{PartsView}

-- It did need one, and has that entry to come: from now on it needs none below. Or nothing changed.
abbrev pub HasNeedFrom : ℕ → Journal → Journal → Type 0
HasNeedFrom low j k =
    ((j.needed < low) × (low ≤ number_of j) × (k ≡ record j { needed = low }))
    ⊎ (((low ≤ j.needed) ⊎ (number_of j < low)) × (k ≡ j))

-- Where no leaf waits for an entry below, what is in hand goes on to stand.
abbrev pub LawNeeded : {C B : Type 0} → (C → DiskFacts) → (B → DiskFacts) → Type 0
LawNeeded {C} {B} cache_facts backing_facts = (p : PartsView (CorePart C B))
    (v : View {C = C} {B = B} cache_facts backing_facts) (h : Hand C B) (j k : Journal) (low : ℕ)
    → h.journal ≡ Some j → HasNeedFrom low j k
    → FromEach (world cache_facts backing_facts v) (λ o st. NeedsFrom low st)
    → Works cache_facts backing_facts p v h
    → Works cache_facts backing_facts p v (record h { journal = Some k })
