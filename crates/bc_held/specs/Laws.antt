-- What goes on to hold of a bucket that a seat holds.
use Rattle.std.specs.Prelude.{◌≡◌, ◌≢◌, ℕ, false}
use Rattle.bc_events.specs.declared.event.Event.{Event}
use Rattle.bc_held.specs.Held.{IsHeldFor, IsVacantIn, Leaves}
use Rattle.bc_held.specs.declared.held.HeldBucket.{HeldBucket}
use Rattle.bc_place.specs.bc_machine.World.{FromEach, World, after}
use Rattle.bc_shares.specs.Touched.{touches_spine}

-- Whatever another seat does, the bucket is still the seat's, as fresh as it was.
abbrev pub LawHeld : Type 0
LawHeld = (x : World) (e : Event) (i : ℕ) (b : HeldBucket) → e.seat ≢ i
    → FromEach x (IsHeldFor i b) → FromEach (after x e) (IsHeldFor i b)

-- So it is behind a deed of the seat itself that leaves it alone.
abbrev pub LawHeldKept : Type 0
LawHeldKept = (x : World) (e : Event) (b : HeldBucket) → FromEach x (Leaves b e.deed)
    → FromEach x (IsHeldFor e.seat b) → FromEach (after x e) (IsHeldFor e.seat b)

-- While nobody changes the tree no node comes to lie in it. Who has the tree in hand keeps others
-- from that.
abbrev pub LawVacant : Type 0
LawVacant = (x : World) (e : Event) (b : HeldBucket) → touches_spine e.deed ≡ false
    → FromEach x (IsVacantIn b) → FromEach (after x e) (IsVacantIn b)
