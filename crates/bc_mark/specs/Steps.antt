-- What a step of a trace round makes of the buckets in hand, and when a round may end.
use Rattle.std.specs.Prelude.{◌≡◌, ◌≤◌, Bool, true, Some, length}
use Rattle.bc_disk.specs.Disk.{DiskFacts}
use Rattle.bc_events.specs.Run.{State}
use Rattle.bc_place.specs.bc_hand.Seats.{View, world}
use Rattle.bc_place.specs.bc_hand.declared.hand.Hand.{Hand}
use Rattle.bc_place.specs.bc_machine.World.{FromEach, Origin}
use Rattle.bc_place.specs.bc_machine.declared.part.BucketsPart.{BucketsPart}
use Rattle.bc_rounds.specs.Rounds.{HasEnded}
use Rattle.bc_shares.specs.Shares.{books_of}

-- the buckets are in hand, and a round is open in them, or none is
abbrev pub HasRound : {C B : Type 0} → Bool → Hand C B → Type 0
HasRound going h = (p : BucketsPart) × (h.buckets ≡ Some p) × (p.round.going ≡ going)

-- the part in hand has become another one in this way, and nothing else in hand is another
abbrev pub HasMarkedIn : {C B : Type 0} → (BucketsPart → BucketsPart → Type 0) → Hand C B → Hand C B
    → Type 0
HasMarkedIn P h g = (p q : BucketsPart) × (h.buckets ≡ Some p)
    × (g ≡ record h { buckets = Some q }) × P p q

-- The round is over. The walk has as many buckets as there are, from each opening of the core from
-- which the run so far is one.
abbrev pub IsOver : BucketsPart → BucketsPart → Type 0
IsOver p q = length p.round.walk ≡ length p.buckets.records → HasEnded p q

-- The walk came behind each sector of the backing device, and the journal is durable up to the last
-- insertion that a walked leaf had.
pub record MayEnd (p : BucketsPart) (o : Origin) (st : State) : Type 0 where
  pub all : o.opening.machine.flow.books.size ≤ p.round.next
  pub firm : (books_of st.machine).round.upto ≤ (books_of st.machine).journal.durable

module _ {C B : Type 0} (cache_facts : C → DiskFacts) (backing_facts : B → DiskFacts) where
  -- a round is open in the buckets in hand that may end
  abbrev pub CanEnd : Hand C B → View cache_facts backing_facts → Type 0
  CanEnd h v = (p : BucketsPart) × (h.buckets ≡ Some p) × (p.round.going ≡ true)
      × FromEach (world cache_facts backing_facts v) (MayEnd p)
