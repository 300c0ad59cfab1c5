-- A run that isn't started, and what stands then.
use Rattle.std.specs.Prelude.{◌≡◌, List, fold, map, Option, Some, None}
use Rattle.bc_cached.specs.bc_begun.Begin.{Beginning, parts_of}
use Rattle.bc_book.specs.Pass.{events_in}
use Rattle.bc_book.specs.declared.pass.Pass.{Pass}
use Rattle.bc_cached.specs.Begun.{IsMadeOf}
use Rattle.bc_cached.specs.declared.run.Ready.{Ready}
use Rattle.bc_disk.specs.Disk.{DiskFacts}
use Rattle.bc_disk.specs.declared.geometry.Geometry.{Geometry}
use Rattle.bc_enter.specs.Begun.{IsUnsealed}
use Rattle.bc_enter.specs.Next.{IsOdd}
use Rattle.bc_entries.specs.Journal.{Journal as Read}
use Rattle.bc_entry.specs.Put.{IsCut}
use Rattle.bc_events.specs.declared.event.Deed.{Deed}
use Rattle.bc_entry.specs.bc_hand.Seats.{by}
use Rattle.bc_entry.specs.bc_hand.declared.error.StepError.{StepError}
use Rattle.bc_entry.specs.bc_hand.declared.error.StepError.TheVariants as step
use Rattle.bc_entry.specs.bc_machine.World.{IsBacking, IsCache, World, after, opening}
use Rattle.bc_journal.specs.Journal.{Journal}
use Rattle.bc_started.specs.declared.start.NotStarted.{NotStarted}
use Rattle.bc_started.specs.declared.start.StartError.{StartError}
use Rattle.bc_started.specs.declared.start.StartError.TheVariants as errors

-- why no run began
abbrev pub IsEarly : Read → StartError → Type 0
IsEarly read errors.Odd = IsOdd read
IsEarly read errors.Memory = Unit {0}
IsEarly read errors.Fault = ⊥

-- no other seat had halted it
abbrev pub IsNoHalt : StepError → Type 0
IsNoHalt (step.Halted device) = ⊥
IsNoHalt e = Unit {0}

-- the error of the seat's last step
abbrev pub IsCauseOf : StepError → StartError → Type 0
IsCauseOf (step.Fault device) why = why ≡ errors.Fault
IsCauseOf (step.Halted device) why = ⊥
IsCauseOf step.Memory why = why ≡ errors.Memory

module _ {C B : Type 0} (cache_facts : C → DiskFacts) (backing_facts : B → DiskFacts)
    (g : Geometry) (read : Read) (ready : Ready C B) where
  -- no run began, and both devices are as they were
  pub record IsUnbegun (n : NotStarted C B) : Type 0 where
    pub cause : IsEarly read n.why
    pub cache : n.cache ≡ ready.cache
    pub backing : n.backing ≡ ready.backing

  -- what these deeds of the first seat make of such a beginning
  abbrev pub behind : Beginning C B → List Deed → World
  behind k deeds =
      fold after (opening cache_facts backing_facts (parts_of ready.tree k)) (map (by 0) deeds)

  -- A run began with just what was ready. The entry that comes next got so far, nothing else
  -- happened, and both devices are as the run left them.
  pub record HasEnded (n : NotStarted C B) (pass : Pass) : Type 0 where
    pub beginning : Beginning C B
    pub made : IsMadeOf ready beginning
    pub unsealed : Journal
    pub is_unsealed : IsUnsealed g read unsealed
    pub error : StepError
    pub cause : IsCauseOf error n.why
    pub deeds : List Deed
    pub cut : IsCut error unsealed deeds
    pub events : events_in pass ≡ map (by 0) deeds
    pub cache : IsCache cache_facts backing_facts n.cache (behind beginning deeds)
    pub backing : IsBacking cache_facts backing_facts n.backing (behind beginning deeds)

  abbrev pub StopsWith : NotStarted C B → Option Pass → Type 0
  StopsWith n None = IsUnbegun n
  StopsWith n (Some pass) = HasEnded n pass

  abbrev pub IsNotStarted : NotStarted C B → Type 0
  IsNotStarted n = StopsWith n n.pass
