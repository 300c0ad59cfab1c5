-- A candidate that a seat notes: what the seat has to know of its place, and what it knows then.
use Rattle.std.specs.Prelude.{◌≡◌, ◌⊎◌, ℕ, ◌+◌, ◌-◌, ◌^◌, ◌≤◌, false, [], ◌∷◌, ◌++◌, length, Option, Some, None}
use Rattle.bc_bucket.specs.Buckets.{Buckets}
use Rattle.bc_data.specs.Enabled.{MayKeep, Points}
use Rattle.bc_disk.specs.Disk.{DiskFacts}
use Rattle.bc_events.specs.Run.{State}
use Rattle.bc_events.specs.declared.event.Deed.TheVariants as deed
use Rattle.bc_fill.specs.declared.fill.Placed.{Placed}
use Rattle.bc_flight.specs.Flight.{InFlight}
use Rattle.bc_key.specs.Key.{pointer_of}
use Rattle.bc_key.specs.declared.key.Key.{Key}
use Rattle.bc_model.specs.Sector.{Value}
use Rattle.bc_node.specs.Leaf.{Leaf}
use Rattle.bc_place.specs.Place.{IsOwn}
use Rattle.bc_place.specs.Written.{AreApart, HasWritten, KeepsOpening, KeepsPlaces, not_in}
use Rattle.bc_place.specs.bc_hand.Seats.{Did, View, world}
use Rattle.bc_place.specs.bc_hand.declared.hand.Hand.{Hand}
use Rattle.bc_place.specs.bc_machine.World.{FromEach, IsFlight, Origin, World}
use Rattle.bc_sight.specs.Sight.{Knows, OfClaim}

-- What the seat wrote to the place, it read from the backing device under its shared claim, where
-- that device has what is shown; or wrote around the cache under it. It is so for as many sectors
-- from `first` on as the place has.
abbrev pub IsKeepable : ℕ → ℕ → Placed → Origin → State → Type 0
IsKeepable i first p o st =
    Points first p.ptr.offset p.count (MayKeep st.machine.whole.flow i)

-- as many candidates stand as can, or each number was given
pub record IsFull (x : World) : Type 0 where
  pub flight : InFlight
  pub stands : IsFlight flight x
  pub full : (64 ≤ length flight.candidates) ⊎ (2 ^ 64 - 1 ≤ flight.next)

-- ---- the claims and candidates

-- The key of its sectors, which are as many from `first` on as the place has. It is clean, with no
-- checksum, and its one pointer is the place's, with the generation that the place's bucket has.
pub record IsKeyFor (first : ℕ) (place : Placed) (key : Key) : Type 0 where
  pub inode : key.inode ≡ 0
  pub end : key.end ≡ first + place.count
  pub size : key.size ≡ place.count
  pub clean : key.dirty ≡ false
  pub no_csum : key.csum ≡ 0
  pub one : key.count ≡ 1
  pub pointer : pointer_of key ≡ Some place.ptr

-- A candidate of the next number with such a key stands behind the others, alive, and nothing else
-- changed.
pub record AddsCandidate (number first : ℕ) (place : Placed) (f g : InFlight) : Type 0 where
  pub number_is : number ≡ f.next
  pub key : Key
  pub its_key : IsKeyFor first place key
  pub candidates : g.candidates
      ≡ f.candidates ++ record { number = number; key = key; killed = false } ∷ []
  pub next : g.next ≡ f.next + 1
  pub claims : g.claims ≡ f.claims
  pub seats : g.seats ≡ f.seats

abbrev pub HasAdded : Option ℕ → (first : ℕ) → Placed → InFlight → InFlight → Type 0
HasAdded (Some number) first place f g = AddsCandidate number first place f g
HasAdded None first place f g = g ≡ f

-- Claims and candidates that were in hand are there still, and those that come out are tied so to
-- those that went in.
abbrev pub TiesFlight : {C B : Type 0} → (old new : Hand C B) → (InFlight → InFlight → Type 0)
    → Type 0
TiesFlight old new tie = (f : InFlight) → old.flight ≡ Some f
    → (g : InFlight) × (new.flight ≡ Some g) × tie f g

module _ {C B : Type 0} (cache_facts : C → DiskFacts) (backing_facts : B → DiskFacts) where
  -- The seat knows no less of what may be noted, and of what it saw and read under its claim.
  pub record KeepsClaim (v w : View cache_facts backing_facts) : Type 0 where
    pub keepable : (first : ℕ) (p : Placed)
        → FromEach (world cache_facts backing_facts v) (IsKeepable v.first first p)
        → FromEach (world cache_facts backing_facts w) (IsKeepable w.first first p)
    pub sight : (leaf : Leaf) (buckets : Buckets) (read : ℕ → Option Value)
        → OfClaim cache_facts backing_facts v (λ o c. Knows o leaf buckets read c)
        → OfClaim cache_facts backing_facts w (λ o c. Knows o leaf buckets read c)

  -- and of its places
  pub record KeepsAll (v w : View cache_facts backing_facts) : Type 0 where
    pub places : KeepsPlaces cache_facts backing_facts v w
    pub claim : KeepsClaim v w

  -- The place is a candidate's, and the seat's no more. What the seat knows of others, it knows
  -- still.
  pub record HasNoted (number first : ℕ) (place : Placed) (v w : View cache_facts backing_facts) :
      Type 0 where
    pub did : Did cache_facts backing_facts
        (Some (deed.Candidate number first place.count place.ptr.offset)) v w
    pub opening : KeepsOpening cache_facts backing_facts v w
    pub own : (p : Placed) → FromEach (world cache_facts backing_facts v) (AreApart place p)
        → FromEach (world cache_facts backing_facts v) (IsOwn v.first p)
        → FromEach (world cache_facts backing_facts w) (IsOwn w.first p)
    pub written : (known : ℕ → Option Value)
        → FromEach (world cache_facts backing_facts v) (HasWritten v.first known)
        → FromEach (world cache_facts backing_facts w)
        (HasWritten w.first (not_in place.ptr.offset place.count known))
    pub claim : KeepsClaim v w

  -- There was no room for it, and nothing was done.
  pub record HasNotNoted (v w : View cache_facts backing_facts) : Type 0 where
    pub waited : Did cache_facts backing_facts None v w
    pub full : IsFull (world cache_facts backing_facts w)
    pub keeps : KeepsAll v w

  abbrev pub HasNotedOr : Option ℕ → (first : ℕ) → Placed → View cache_facts backing_facts
      → View cache_facts backing_facts → Type 0
  HasNotedOr (Some number) first place v w = HasNoted number first place v w
  HasNotedOr None first place v w = HasNotNoted v w
