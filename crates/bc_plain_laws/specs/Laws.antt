-- What holds of every run that began with these parts, none of which is a cache device, and whose
-- backing device told what it held.
use Rattle.std.specs.Prelude.{◌≡◌, ℕ, ◌+◌, true, List, [], ◌∷◌, ◌++◌, reverse, None, is_some}
use Rattle.bc_model.specs.Sector.{Image}
use Rattle.bc_model.specs.History.{IsLegal}
use Rattle.bc_disk.specs.Disk.{DiskFacts, IfTold}
use Rattle.bc_flight.specs.Flight.{InFlight}
use Rattle.bc_parts.specs.Machine.{state_after, IsRun}
use Rattle.bc_events.specs.Run.{history_of}
use Rattle.bc_events.specs.Columns.{entries_of, halt_of}
use Rattle.bc_events.specs.declared.event.Deed.TheVariants.{BackingBarrier}
use Rattle.bc_events.specs.declared.event.Event.{Event}
use Rattle.bc_hand.specs.bc_machine.declared.part.BackingPart.{BackingPart}
use Rattle.bc_hand.specs.bc_machine.declared.part.CorePart.{CorePart}
use Rattle.bc_hand.specs.bc_machine.declared.part.CorePart.TheVariants as part
use Rattle.bc_hand.specs.bc_machine.World.{World, data_of, are_plain, data_among, opening, IsBacking}
use Rattle.bc_hand.specs.Seats.{core}
use Rattle.bc_plain_laws.specs.Promises.{Survives, LeavesLastWrites, IsUntouched}

-- the state has the history of these events, by workers, and their halt
pub record HasHistory (x : World) (es : List Event) : Type 0 where
  pub history : history_of x.opening x.now ≡ reverse (entries_of es)
  pub halted : (data_of x).halted ≡ is_some (halt_of es)

-- the last event is a good barrier, of whatever seat, and no call has halted the run
pub record EndsFirmly (es : List Event) : Type 0 where
  pub before : List Event
  pub seat : ℕ
  pub is : es ≡ before ++ record { seat = seat; deed = BackingBarrier } ∷ []
  pub running : halt_of es ≡ None

module _ {C B : Type 0} (cache_facts : C → DiskFacts) (backing_facts : B → DiskFacts) where
  -- there is no cache device, and each event might follow those before it
  pub record IsPlainRun (ps : List (CorePart C B)) (es : List Event) : Type 0 where
    pub plain : are_plain cache_facts backing_facts ps ≡ true
    pub course : IsRun (core cache_facts backing_facts) (opening cache_facts backing_facts ps) es

  -- the state that the events leave
  abbrev pub last : List (CorePart C B) → List Event → World
  last ps es = state_after (core cache_facts backing_facts) ps es

  -- what holds of the image that the backing device told as the run began, if it told one
  abbrev pub IfOpened : List (CorePart C B) → (Image → Type 0) → Type 0
  IfOpened ps P = IfTold (data_among cache_facts backing_facts ps).device.holds P

  abbrev pub data_offset : List (CorePart C B) → ℕ
  data_offset ps = (data_among cache_facts backing_facts ps).offset

  abbrev pub data_size : List (CorePart C B) → ℕ
  data_size ps = (data_among cache_facts backing_facts ps).size

  -- at the end of every run, and so at every state of one
  abbrev pub Always : (List (CorePart C B) → List Event → Image → Type 0) → Type 0
  Always P = (ps : List (CorePart C B)) (es : List Event) → IsPlainRun ps es
      → IfOpened ps (λ held. P ps es held)

  -- and of each device that stands for the last state
  abbrev pub AlwaysLeft : (List (CorePart C B) → List Event → Image → DiskFacts → Type 0) → Type 0
  AlwaysLeft P = Always (λ ps es held. (backing : BackingPart B)
      → IsBacking {C = C} cache_facts backing_facts backing (last ps es)
      → P ps es held (backing_facts backing.disk))

  abbrev pub LawHistory : Type 0
  LawHistory = Always (λ ps es held. HasHistory (last ps es) es)

  abbrev pub LawLegal : Type 0
  LawLegal = Always (λ ps es held.
      IsLegal (λ s. held (data_offset ps + s)) (reverse (entries_of es)))

  abbrev pub LawSurvives : Type 0
  LawSurvives = AlwaysLeft (λ ps es held after_.
      Survives (data_offset ps) held (entries_of es) after_)

  abbrev pub LawStable : Type 0
  LawStable = AlwaysLeft (λ ps es held after_. EndsFirmly es
      → LeavesLastWrites (data_offset ps) held (entries_of es) after_)

  abbrev pub LawOutside : Type 0
  LawOutside = AlwaysLeft (λ ps es held after_.
      IsUntouched (data_offset ps) (data_size ps) held after_)

  -- ---- all of it, for a run over this device alone

  abbrev pub BeginsOn : BackingPart B → List (CorePart C B) → Type 0
  BeginsOn backing ps = (flight : InFlight) × (ps ≡ part.Absent ∷ part.Flight flight ∷ part.Absent
      ∷ part.Absent ∷ part.Absent ∷ part.Backing backing ∷ [])

  pub record Promises (backing : BackingPart B) (es : List Event) (held : Image)
      (after_ : DiskFacts) : Type 0 where
    pub survives : Survives backing.offset held (entries_of es) after_
    pub stable : EndsFirmly es → LeavesLastWrites backing.offset held (entries_of es) after_
    pub outside : IsUntouched backing.offset backing.size held after_

  -- from what the beginning and the end of the run say, with nothing to be unfolded
  abbrev pub LawPromises : Type 0
  LawPromises = (backing left : BackingPart B) (ps : List (CorePart C B)) (es : List Event)
      → BeginsOn backing ps
      → IsRun (core cache_facts backing_facts) (opening cache_facts backing_facts ps) es
      → IsBacking {C = C} cache_facts backing_facts left (last ps es)
      → IfTold (backing_facts backing.disk).holds
      (λ held. Promises backing es held (backing_facts left.disk))
