-- A hand without parts.
use Rattle.std.proofs.Common.{◌≡◌, false, Option, Some, None, refl, ap, ◌∙◌}
use Rattle.std.specs.Prelude.{is_some}
use Rattle.bc_flight.specs.Flight.{InFlight}
use Rattle.bc_flush.specs.bc_hand.Seats.{Kinds, kinds, part_of, empty}
use Rattle.bc_flush.specs.bc_hand.declared.hand.Hand.{Hand}
use Rattle.bc_flush.specs.bc_hand.declared.hand.LeafHand.{LeafHand}
use Rattle.bc_journal.specs.Journal.{Journal}
use Rattle.bc_flush.specs.bc_machine.declared.part.BackingPart.{BackingPart}
use Rattle.bc_flush.specs.bc_machine.declared.part.BucketsPart.{BucketsPart}
use Rattle.bc_flush.specs.bc_machine.declared.part.SpinePart.{SpinePart}

is_none : {A : Type 0} (o : Option A) → is_some o ≡ false → o ≡ None
is_none None is = refl
is_none (Some x) is = absurd (cc)

no_leaves : (o : Option LeafHand) → part_of o ≡ None → o ≡ None
no_leaves None is = refl
no_leaves (Some x) is = absurd (cc)

-- a step that holds after it what it held before holds nothing where there was nothing
pub still_empty : {C B : Type 0} (h k : Hand C B) → h ≡ empty → kinds k ≡ kinds h → k ≡ empty
still_empty {C} {B} h k is same =
    let all : kinds k ≡ kinds {C = C} {B = B} empty = same ∙ ap (λ (x : Hand C B). kinds x) is in
    let s : k.spine ≡ None = is_none k.spine (ap (λ (x : Kinds). x.spine) all) in
    let l : k.leaves ≡ None = no_leaves k.leaves (ap (λ (x : Kinds). x.leaves) all) in
    let f : k.flight ≡ None = is_none k.flight (ap (λ (x : Kinds). x.flight) all) in
    let u : k.buckets ≡ None = is_none k.buckets (ap (λ (x : Kinds). x.buckets) all) in
    let j : k.journal ≡ None = is_none k.journal (ap (λ (x : Kinds). x.journal) all) in
    let c : k.cache ≡ None = is_none k.cache (ap (λ (x : Kinds). x.cache) all) in
    let b : k.backing ≡ None = is_none k.backing (ap (λ (x : Kinds). x.backing) all) in
    ap (λ (o : Option SpinePart). record k { spine = o }) s
    ∙ ap (λ (o : Option LeafHand). record k { spine = None; leaves = o }) l
    ∙ ap (λ (o : Option InFlight). record k { spine = None; leaves = None; flight = o }) f
    ∙ ap (λ (o : Option BucketsPart). record (empty {C = C} {B = B}) {
      buckets = o;
      journal = k.journal;
      cache = k.cache;
      backing = k.backing;
    }) u
    ∙ ap (λ (o : Option Journal). record (empty {C = C} {B = B}) {
      journal = o;
      cache = k.cache;
      backing = k.backing;
    }) j
    ∙ ap (λ (o : Option C). record (empty {C = C} {B = B}) { cache = o; backing = k.backing }) c
    ∙ ap (λ (o : Option (BackingPart B)). record (empty {C = C} {B = B}) { backing = o }) b
