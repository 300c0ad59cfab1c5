-- What a run that was started stands for.
use Rattle.std.specs.Prelude.{◌≡◌, ℕ, List, [], ◌∷◌, map}
use Rattle.bc_cached.specs.Laws.{StandsOn, parts_in}
use Rattle.bc_cached.specs.bc_begun.Begin.{first_seq}
use Rattle.bc_cached.specs.declared.run.Ready.{Ready}
use Rattle.bc_cached.specs.bc_chosen.Parts.{ArePartsOf, Parts, choices_of}
use Rattle.bc_entry.specs.bc_deed.Flushed.{HasDone}
use Rattle.bc_disk.specs.Disk.{DiskFacts}
use Rattle.bc_entries.specs.Journal.{Journal as Read}
use Rattle.bc_events.specs.declared.event.Deed.{Deed}
use Rattle.bc_events.specs.declared.event.Event.{Event}
use Rattle.bc_facts.specs.Layout.{IsLayoutOf}
use Rattle.bc_entry.specs.bc_hand.Seats as seats
use Rattle.bc_entry.specs.bc_hand.Seats.{IsCoreSeat, by}
use Rattle.bc_image.specs.Pair.{Pair}
use Rattle.bc_image.specs.Reading.{IsView, View}
use Rattle.bc_image.specs.Sound.{HasSoundParts}
use Rattle.bc_entry.specs.bc_machine.World.{IsOrigin, IsSeenFrom, IsUntorn, Origin, World, replay, seen_from}
use Rattle.bc_entry.specs.bc_machine.declared.part.CorePart.{CorePart}
use Rattle.bc_meta.specs.Layout.{Layout}
use Rattle.bc_opening.specs.Opening.{IsOpeningOf}
use Rattle.bc_parts.specs.Seat.{PartsView}
use Rattle.bc_pending.specs.declared.numbered.Numbered.{Numbered}
use Rattle.bc_started.specs.First.{IsNew}
use Rattle.bc_started.specs.Start.{HasStarted}

-- A seat that has all numbers since nothing had happened has seen its own deeds alone.
abbrev pub LawOwn : {C B : Type 0} → (C → DiskFacts) → (B → DiskFacts) → Type 0
LawOwn {C} {B} cache_facts backing_facts =
    (v w : seats.View {C = C} {B = B} cache_facts backing_facts) (deeds : List Deed)
    → IsNew cache_facts backing_facts v → HasDone cache_facts backing_facts deeds v w
    → IsCoreSeat cache_facts backing_facts w → w.seen ≡ map (by 0) deeds

-- the premise on torn records, of each state on the way; the last event comes first
abbrev pub AreUntorn : Origin → List Event → Type 0
AreUntorn o [] = IsUntorn o (replay o [])
AreUntorn o (e ∷ es) = IsUntorn o (replay o (e ∷ es)) × AreUntorn o es

-- The machine is opened by what the parts say of the pair, the seqs of new nodes go on at this one,
-- and the run is seen from there.
pub record IsStartedFrom (p : Pair) (v : View) (layout : Layout) (x : Parts) (next_seq : ℕ)
    (y : World) (o : Origin) : Type 0 where
  pub opened : IsOpeningOf p v layout (choices_of v.geometry v.reading x) o.opening.machine o.parts
  pub seq : o.next_seq ≡ next_seq
  pub origin : IsOrigin y o
  pub seen : AreUntorn o y.log → IsSeenFrom o y (seen_from o y)

-- Of a sound pair that was read there is such an opening.
abbrev pub LawStarted : {C B : Type 0} → (C → DiskFacts) → (B → DiskFacts) → Type 0
LawStarted {C} {B} cache_facts backing_facts =
    (p : Pair) (v : View) (layout : Layout) (read : Read) (pending : List (List Numbered))
    (count : ℕ) (was : C) (ready : Ready C B) (parts : PartsView (CorePart C B))
    (seat : seats.View cache_facts backing_facts)
    → HasStarted cache_facts backing_facts v.geometry read ready parts seat → IsView p v
    → HasSoundParts p v → IsLayoutOf v.geometry layout
    → ArePartsOf v.geometry v.reading (parts_in ready pending)
    → StandsOn cache_facts backing_facts p v read pending count was ready
    → (o : Origin) × IsStartedFrom p v layout (parts_in ready pending) (first_seq ready.journal)
    (seats.world cache_facts backing_facts seat) o
