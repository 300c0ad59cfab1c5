-- What makes candidates firm, and that they stay so.
use Rattle.std.specs.Prelude.{◌≡◌, ℕ, ◌<◌, ◌≤◌, true, List, ◌∷◌, ◌++◌, Option, Some}
use Rattle.bc_books.specs.Index.{run_place}
use Rattle.bc_deed.specs.Flushed.{HasDone}
use Rattle.bc_deed.specs.bc_hand.Seats.{Did, View, world}
use Rattle.bc_deed.specs.bc_machine.World.{IsCourseOf, IsFlight, IsOrigin, Origin, World, after, candidates_noted, replay}
use Rattle.bc_disk.specs.Disk.{DiskFacts}
use Rattle.bc_events.specs.declared.event.Deed.{Deed}
use Rattle.bc_events.specs.declared.event.Deed.TheVariants as deed
use Rattle.bc_events.specs.declared.event.Event.{Event}
use Rattle.bc_flight.specs.Flight.{InFlight}
use Rattle.bc_firm.specs.Firm.{AreFirm}

-- Whatever happens, by whichever seat, they stay firm.
abbrev pub LawLasts : Type 0
LawLasts = (x : World) (e : Event) (n : ℕ) → AreFirm n x → AreFirm n (after x e)

-- A barrier of the backing device makes all firm that were noted before it.
abbrev pub LawBarrier : Type 0
LawBarrier = (x : World) (i n : ℕ) → n ≤ candidates_noted x.log
    → AreFirm n (after x (record { seat = i; deed = deed.BackingBarrier }))

-- Each sector of a candidate that stands is one of the backing device.
abbrev pub LawInside : Type 0
LawInside = (x : World) (o : Origin) → IsOrigin x o → IsCourseOf o x.log → (c s t : ℕ)
    → ((replay o x.log).machine.whole.flow.candidates c).stands ≡ true
    → run_place ((replay o x.log).machine.whole.flow.candidates c).first
    ((replay o x.log).machine.whole.flow.candidates c).place
    ((replay o x.log).machine.whole.flow.candidates c).count s ≡ Some t
    → s < o.opening.machine.flow.books.size

-- The number of the next one, which the claims in hand have, is how many were noted.
abbrev pub LawCount : Type 0
LawCount = (f : InFlight) (x : World) → IsFlight f x → f.next ≡ candidates_noted x.log

module _ {C B : Type 0} (cache_facts : C → DiskFacts) (backing_facts : B → DiskFacts) where
  -- So they do while a seat waits, or does a deed, or several.
  pub record LawKept : Type 0 where
    pub step : (v w : View cache_facts backing_facts) (o : Option Deed) (n : ℕ)
        → Did cache_facts backing_facts o v w → AreFirm n (world cache_facts backing_facts v)
        → AreFirm n (world cache_facts backing_facts w)
    pub done : (v w : View cache_facts backing_facts) (ds : List Deed) (n : ℕ)
        → HasDone cache_facts backing_facts ds v w
        → AreFirm n (world cache_facts backing_facts v)
        → AreFirm n (world cache_facts backing_facts w)

  -- Behind deeds of a seat, of which one was a barrier of the backing device, all are firm that had
  -- been noted before the first of them: so it is behind a flush.
  abbrev pub LawBehind : Type 0
  LawBehind = (v w : View cache_facts backing_facts) (before behind : List Deed) (n : ℕ)
      → HasDone cache_facts backing_facts (before ++ deed.BackingBarrier ∷ behind) v w
      → n ≤ candidates_noted (world cache_facts backing_facts v).log
      → AreFirm n (world cache_facts backing_facts w)
