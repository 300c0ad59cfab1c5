-- What a seat that names a chain goes on to know of the other buckets that it holds.
use Rattle.std.specs.Prelude.{◌≡◌, ℕ, List}
use Rattle.bc_alloc.specs.Reserve.{times}
use Rattle.bc_chain.specs.bc_hand.Seats.{View, world}
use Rattle.bc_chain.specs.bc_machine.World.{FromEach, Origin}
use Rattle.bc_disk.specs.Disk.{DiskFacts}
use Rattle.bc_events.specs.Run.{State}
use Rattle.bc_held.specs.Held.{AreOther, IsHeldFor, IsVacantIn}
use Rattle.bc_held.specs.declared.held.HeldBucket.{HeldBucket}
use Rattle.bc_parts.specs.Seat.{Holds}

-- the bucket is none of these
abbrev pub IsBeside : List ℕ → HeldBucket → Origin → State → Type 0
IsBeside new b o st = times b.bucket new ≡ 0

module _ {C B : Type 0} (cache_facts : C → DiskFacts) (backing_facts : B → DiskFacts) where
  -- What it knew of each bucket that it holds and that isn't of these, it knows still; and, with the
  -- tree in hand, that no node lies in it.
  pub record KeepsHeldBeside (new : List ℕ) (v w : View cache_facts backing_facts) : Type 0 where
    pub held : (b : HeldBucket)
        → FromEach (world cache_facts backing_facts v) (IsBeside new b)
        → FromEach (world cache_facts backing_facts v) (IsHeldFor v.first b)
        → FromEach (world cache_facts backing_facts w) (IsHeldFor w.first b)
    pub vacant : Holds v.parts 0 → (b : HeldBucket)
        → FromEach (world cache_facts backing_facts v) (IsVacantIn b)
        → FromEach (world cache_facts backing_facts w) (IsVacantIn b)
    pub other : (a b : HeldBucket) → FromEach (world cache_facts backing_facts v) (AreOther a b)
        → FromEach (world cache_facts backing_facts w) (AreOther a b)
