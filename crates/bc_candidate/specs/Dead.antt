-- A killed candidate whose place is let go.
use Rattle.std.specs.Prelude.{◌≡◌, ℕ, zero, suc, ◌+◌, ◌/◌, true, length, nat_lt, Option, Some, None, if◌then◌else◌}
use Rattle.bc_bucket.specs.Buckets.{Buckets, changed}
use Rattle.bc_disk.specs.Disk.{DiskFacts}
use Rattle.bc_events.specs.declared.event.Deed.TheVariants as deed
use Rattle.bc_events.specs.declared.event.UnpinKind.TheVariants as unpin
use Rattle.bc_flight.specs.Candidates.{first_of, without_first}
use Rattle.bc_flight.specs.Flight.{InFlight}
use Rattle.bc_flight.specs.declared.candidate.Candidate.{Candidate}
use Rattle.bc_flight.specs.declared.candidate.Wanted.TheVariants.{Dead}
use Rattle.bc_key.specs.Key.{pointer_of}
use Rattle.bc_key.specs.declared.ptr.Ptr.{Ptr}
use Rattle.bc_place.specs.Next.{without_pins}
use Rattle.bc_place.specs.bc_hand.Seats.{Did, View, world}
use Rattle.bc_place.specs.bc_machine.Containers.{SameRest}
use Rattle.bc_place.specs.bc_machine.World.{InEach, World, data_of}
use Rattle.bc_place.specs.bc_machine.declared.part.BucketsPart.{BucketsPart}
use Rattle.bc_candidate.specs.Noted.{KeepsAll}

-- ---- the buckets

-- the place is pinned no more, in its bucket where that is one of the device
abbrev pub place_let_go : ℕ → Buckets → Buckets
place_let_go t b = if nat_lt (t / b.size) (length b.records)
    then changed (without_pins 1) (t / b.size) b else b

-- so many places from there on
abbrev pub run_let_go : (at count : ℕ) → Buckets → Buckets
run_let_go at zero b = b
run_let_go at (suc n) b = place_let_go (at + n) (run_let_go at n b)

pub record HasLetGo (part : BucketsPart) (at count : ℕ) (new : BucketsPart) : Type 0 where
  pub reserves : new.reserves ≡ part.reserves
  pub fill : new.fill ≡ part.fill
  pub buckets : new.buckets ≡ run_let_go at count part.buckets
  pub rest : SameRest part new

-- ---- the candidates

-- The oldest candidate that was killed, which has this number, was taken out; or none was killed.
pub record TookOldest (number : ℕ) (f g : InFlight) : Type 0 where
  pub oldest : Candidate
  pub is : first_of Dead f.candidates ≡ Some oldest
  pub number_is : number ≡ oldest.number
  pub candidates : g.candidates ≡ without_first Dead f.candidates
  pub claims : g.claims ≡ f.claims
  pub next : g.next ≡ f.next
  pub seats : g.seats ≡ f.seats

abbrev pub HasTaken : Option ℕ → InFlight → InFlight → Type 0
HasTaken (Some number) f g = TookOldest number f g
HasTaken None f g = (first_of Dead f.candidates ≡ None) × (g ≡ f)

-- ---- what is left of the buckets

-- the places are let go that the oldest candidate had which was killed
pub record LeftOldest (f : InFlight) (part new : BucketsPart) : Type 0 where
  pub oldest : Candidate
  pub is : first_of Dead f.candidates ≡ Some oldest
  pub ptr : Ptr
  pub lies : pointer_of oldest.key ≡ Some ptr
  pub went : HasLetGo part ptr.offset oldest.key.size new

-- or none was killed, and nothing changed
abbrev pub HasLeft : Option ℕ → InFlight → (part new : BucketsPart) → Type 0
HasLeft (Some number) f part new = LeftOldest f part new
HasLeft None f part new = new ≡ part

-- ---- the step

-- each candidate that stands is alive
abbrev pub IsNoneKilled : World → Type 0
IsNoneKilled x = InEach x (λ y. (n : ℕ) → ((data_of y).candidates n).stands ≡ true
    → ((data_of y).candidates n).alive ≡ true)

module _ {C B : Type 0} (cache_facts : C → DiskFacts) (backing_facts : B → DiskFacts) where
  -- The places of this candidate are nobody's any more; or none was killed. The seat knows of its
  -- own places what it knew.
  abbrev pub HasDropped : Option ℕ → View cache_facts backing_facts
      → View cache_facts backing_facts → Type 0
  HasDropped (Some number) v w =
      Did cache_facts backing_facts (Some (deed.Unpin (unpin.Dead number))) v w
      × KeepsAll cache_facts backing_facts v w
  HasDropped None v w = Did cache_facts backing_facts None v w
      × IsNoneKilled (world cache_facts backing_facts w)
      × KeepsAll cache_facts backing_facts v w
