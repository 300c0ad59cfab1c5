-- Killed candidates that are all let go.
use Rattle.std.specs.Prelude.{ℕ, List, map}
use Rattle.bc_candidate.specs.Dead.{IsNoneKilled}
use Rattle.bc_candidate.specs.Noted.{KeepsAll}
use Rattle.bc_candidate.specs.bc_deed.Flushed.{HasDone}
use Rattle.bc_candidate.specs.bc_hand.Seats.{View, world}
use Rattle.bc_disk.specs.Disk.{DiskFacts}
use Rattle.bc_events.specs.declared.event.Deed.{Deed}
use Rattle.bc_events.specs.declared.event.Deed.TheVariants as deed
use Rattle.bc_events.specs.declared.event.UnpinKind.TheVariants as unpin

-- the places of these candidates are let go, one behind the other
abbrev pub drops : List ℕ → List Deed
drops numbers = map (λ n. deed.Unpin (unpin.Dead n)) numbers

module _ {C B : Type 0} (cache_facts : C → DiskFacts) (backing_facts : B → DiskFacts) where
  -- These candidates were let go, and then each that stands is alive. The seat knows of its own
  -- places what it knew.
  pub record HasCleared (v w : View cache_facts backing_facts) : Type 0 where
    pub numbers : List ℕ
    pub done : HasDone cache_facts backing_facts (drops numbers) v w
    pub none : IsNoneKilled (world cache_facts backing_facts w)
    pub keeps : KeepsAll cache_facts backing_facts v w
