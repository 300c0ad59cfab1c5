-- What steps ask of their seat, and why they refuse.
use Rattle.std.specs.Prelude.{◌≡◌, ℕ, Bool, ◌+◌, ◌*◌, ◌/◌, ◌^◌, ◌<◌, ◌≤◌, List, true, false, None, Some}
use Rattle.bc_events.specs.Columns.{halt_of}
use Rattle.bc_events.specs.declared.event.Event.{Event}
use Rattle.bc_hand.specs.bc_machine.Frame.{Range}
use Rattle.bc_hand.specs.bc_machine.Note.{LastWrite, Note}
use Rattle.bc_flight.specs.Claims.{is_exclusive, conflicts}
use Rattle.bc_flight.specs.Flight.{claim_at}
use Rattle.bc_flight.specs.declared.claim.Claim.{Claim as FlightClaim}
use Rattle.bc_flight.specs.declared.claim.Share.{Share}
use Rattle.bc_events.specs.declared.event.Deed.TheVariants as deed
use Rattle.bc_hand.specs.Seats.{world}
use Rattle.bc_hand.specs.bc_machine.World.{World, data_of, claim_in, data_among}
use Rattle.bc_hand.specs.bc_machine.declared.part.CorePart.{CorePart}
use Rattle.bc_disk.specs.Disk.{DiskFacts}
use Rattle.bc_disk.specs.declared.disk.Device.TheVariants.{Backing}
use Rattle.bc_events.specs.declared.event.Deed.{Deed}
use Rattle.bc_hand.specs.Seats.{View, Did}
use Rattle.bc_hand.specs.declared.error.StepError.{StepError}
use Rattle.bc_hand.specs.declared.error.StepError.TheVariants as error

-- so many sectors lie in the range
abbrev pub IsWithin : Range → ℕ → ℕ → Type 0
IsWithin r first count = (r.first ≤ first) × (first + count ≤ r.first + r.count)

-- such a write was the last one, or one of more sectors from there on, and no barrier has to come
pub record IsLast (x : LastWrite) (line first count : ℕ) : Type 0 where
  pub its_line : x.line ≡ line
  pub its_first : x.first ≡ first
  pub its_count : count ≤ x.count
  pub firm : x.firm ≡ true

-- so many bytes are whole sectors, one at least, which end by this one
abbrev pub AreSectors : ℕ → ℕ → ℕ → Type 0
AreSectors first bytes end = (bytes ≡ 512 * (bytes / 512)) × (0 < bytes / 512) × (bytes / 512 < 2 ^ 32)
    × (first + bytes / 512 ≤ end)

-- so many sectors from there on may be written for a line: the claim is the seat's alone, and nothing
-- was written under it
pub record MayWrite (o : Note) (first count : ℕ) : Type 0 where
  pub exclusive : o.range.exclusive ≡ true
  pub first_write : o.wrote ≡ false
  pub covered : IsWithin o.range first count

-- the claim is this seat's, of this range
pub record IsClaim (c : FlightClaim) (seat : ℕ) (r : Range) : Type 0 where
  pub its_seat : c.seat ≡ seat
  pub some : 1 ≤ c.count
  pub range : r ≡ record { first = c.first; count = c.count; exclusive = is_exclusive c.share }

-- a seat's claim stands that conflicts with it
abbrev pub IsTaken : FlightClaim → World → Type 0
IsTaken c x = (n : ℕ) × (other : FlightClaim) × (claim_in n ((data_of x).seats n).claim ≡ Some other)
    × (conflicts c other ≡ true)

-- this device had halted the run
abbrev pub IsHalted : StepError → List Event → Type 0
IsHalted (error.Fault device) es = ⊥
IsHalted (error.Halted device) es = halt_of es ≡ Some device
IsHalted error.Memory es = ⊥

-- or there was no memory
abbrev pub IsHaltedOr : StepError → List Event → Type 0
IsHaltedOr (error.Fault device) es = ⊥
IsHaltedOr (error.Halted device) es = halt_of es ≡ Some device
IsHaltedOr error.Memory es = Unit {0}

module _ {C B : Type 0} (cache_facts : C → DiskFacts) (backing_facts : B → DiskFacts) where
  -- how many sectors the data are
  abbrev pub size_of : List (CorePart C B) → ℕ
  size_of start = (data_among cache_facts backing_facts start).size

  -- a step whose own call of the backing device failed committed that, and one that came after a
  -- halt only waited
  abbrev pub HasFailed : StepError → Deed → View cache_facts backing_facts
      → View cache_facts backing_facts → Type 0
  HasFailed (error.Fault device) failed v w =
      (device ≡ Backing) × Did cache_facts backing_facts (Some failed) v w
  HasFailed (error.Halted device) failed v w =
      (halt_of w.seen ≡ Some device) × Did cache_facts backing_facts None v w
  HasFailed error.Memory failed v w = ⊥

  -- or it had no memory
  abbrev pub HasFailedOr : StepError → Deed → View cache_facts backing_facts
      → View cache_facts backing_facts → Type 0
  HasFailedOr (error.Fault device) failed v w =
      (device ≡ Backing) × Did cache_facts backing_facts (Some failed) v w
  HasFailedOr (error.Halted device) failed v w =
      (halt_of w.seen ≡ Some device) × Did cache_facts backing_facts None v w
  HasFailedOr error.Memory failed v w = Did cache_facts backing_facts None v w

  -- what a step that was to claim a range did: it did, or such a claim stands that conflicts
  abbrev pub HasClaimed : Bool → ℕ → ℕ → Share → View cache_facts backing_facts
      → View cache_facts backing_facts → Type 0
  HasClaimed true first count how v w = Did cache_facts backing_facts (Some (deed.Claim first count how)) v w
  HasClaimed false first count how v w = Did cache_facts backing_facts None v w
      × IsTaken (claim_at v.first first count how) (world cache_facts backing_facts w)
