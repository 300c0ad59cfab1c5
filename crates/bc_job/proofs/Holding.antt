-- A hand without parts, and what a halt leaves.
use Rattle.std.proofs.Common.{◌≡◌, false, List, [], ◌∷◌, ◌++◌, Option, Some, None, append-nil, append_assoc, refl, sym, ap, ◌∙◌, subst}
use Rattle.std.specs.Prelude.{is_some}
use Rattle.bc_disk.specs.Disk.{DiskFacts}
use Rattle.bc_disk.specs.declared.disk.Device.{Device}
use Rattle.bc_parts.specs.Seat.{PartsView}
use Rattle.bc_seats.specs.Seats.{Grown}
use Rattle.bc_flight.specs.Flight.{InFlight}
use Rattle.bc_events.specs.Columns.{halt_of}
use Rattle.bc_events.specs.declared.event.Event.{Event}
use Rattle.bc_deed.specs.bc_machine.Frame.{stays_halted}
use Rattle.bc_deed.specs.bc_machine.declared.part.BackingPart.{BackingPart}
use Rattle.bc_deed.specs.bc_machine.declared.part.BucketsPart.{BucketsPart}
use Rattle.bc_deed.specs.bc_machine.declared.part.SpinePart.{SpinePart}
use Rattle.bc_journal.specs.Journal.{Journal}
use Rattle.bc_deed.specs.bc_machine.declared.part.CorePart.{CorePart}
use Rattle.bc_deed.specs.bc_hand.declared.hand.Hand.{Hand}
use Rattle.bc_deed.specs.bc_hand.declared.hand.LeafHand.{LeafHand}
use Rattle.bc_deed.specs.bc_hand.Seats.{HasNoneBehindFlight, Kinds, kinds, part_of, empty, Works}
use Rattle.bc_deed.proofs.of_bc_hand.Knowing.{View, m}

is_none : {A : Type 0} (o : Option A) → is_some o ≡ false → o ≡ None
is_none None is = refl
is_none (Some x) is = absurd (cc)

no_leaves : (o : Option LeafHand) → part_of o ≡ None → o ≡ None
no_leaves None is = refl
no_leaves (Some x) is = absurd (cc)

-- a step that holds after it what it held before holds nothing where there was nothing
pub still_empty : {C B : Type 0} (h k : Hand C B) → h ≡ empty → kinds k ≡ kinds h → k ≡ empty
still_empty {C} {B} h k is same =
    let all : kinds k ≡ kinds {C = C} {B = B} empty = same ∙ ap (λ (x : Hand C B). kinds x) is in
    let s : k.spine ≡ None = is_none k.spine (ap (λ (x : Kinds). x.spine) all) in
    let l : k.leaves ≡ None = no_leaves k.leaves (ap (λ (x : Kinds). x.leaves) all) in
    let f : k.flight ≡ None = is_none k.flight (ap (λ (x : Kinds). x.flight) all) in
    let u : k.buckets ≡ None = is_none k.buckets (ap (λ (x : Kinds). x.buckets) all) in
    let j : k.journal ≡ None = is_none k.journal (ap (λ (x : Kinds). x.journal) all) in
    let c : k.cache ≡ None = is_none k.cache (ap (λ (x : Kinds). x.cache) all) in
    let b : k.backing ≡ None = is_none k.backing (ap (λ (x : Kinds). x.backing) all) in
    ap (λ (o : Option SpinePart). record k { spine = o }) s
    ∙ ap (λ (o : Option LeafHand). record k { spine = None; leaves = o }) l
    ∙ ap (λ (o : Option InFlight). record k { spine = None; leaves = None; flight = o }) f
    ∙ ap (λ (o : Option BucketsPart). record (empty {C = C} {B = B}) {
      buckets = o;
      journal = k.journal;
      cache = k.cache;
      backing = k.backing;
    }) u
    ∙ ap (λ (o : Option Journal). record (empty {C = C} {B = B}) {
      journal = o;
      cache = k.cache;
      backing = k.backing;
    }) j
    ∙ ap (λ (o : Option C). record (empty {C = C} {B = B}) { cache = o; backing = k.backing }) c
    ∙ ap (λ (o : Option (BackingPart B)). record (empty {C = C} {B = B}) { backing = o }) b

-- with nothing in hand a part may be taken
pub in_order : {C B : Type 0} (h : Hand C B) → h ≡ empty
    → h.flight ≡ None → HasNoneBehindFlight h
in_order {C} {B} h is none = record {
  buckets = ap (λ (x : Hand C B). x.buckets) is;
  journal = ap (λ (x : Hand C B). x.journal) is;
  cache = ap (λ (x : Hand C B). x.cache) is;
  backing = ap (λ (x : Hand C B). x.backing) is;
}

-- a halt stays, whatever comes behind it
stays_more : (es others : List Event) (d : Device) → halt_of es ≡ Some d → halt_of (es ++ others) ≡ Some d
stays_more es [] d is = ap (λ (l : List Event). halt_of l) (append-nil es) ∙ is
stays_more es (e ∷ others) d is = ap (λ (l : List Event). halt_of l) (sym (append_assoc es (e ∷ []) others))
    ∙ stays_more (es ++ e ∷ []) others d (stays_halted es e d is)

module _ {C B : Type 0} (cache_facts : C → DiskFacts) (backing_facts : B → DiskFacts) where
  pub halted_still : (v w : View cache_facts backing_facts) (d : Device)
      → Grown (m cache_facts backing_facts) v w → halt_of v.seen ≡ Some d → halt_of w.seen ≡ Some d
  halted_still v w d grown is = ap (λ (l : List Event). halt_of l) grown.seen
      ∙ stays_more v.seen grown.more d is

  pub works_empty : (p : PartsView (CorePart C B)) (v : View cache_facts backing_facts) (h : Hand C B)
      → h ≡ empty → Works cache_facts backing_facts p v h → Works cache_facts backing_facts p v empty
  works_empty p v h is works = subst (λ (x : Hand C B). Works cache_facts backing_facts p v x) is works
