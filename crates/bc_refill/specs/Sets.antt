-- The sets of a chain, written one behind the other.
use Rattle.std.specs.Prelude.{◌≡◌, ℕ, zero, suc, ◌<◌, List, All, length, slice_index, Vec}
use Rattle.std.specs.declared.alloc.Global.{Global}
use Rattle.bc_alloc.specs.Reserve.{IsDistinct}
use Rattle.bc_new_chain.specs.bc_chained.Chained.{AreForChain, next_of}
use Rattle.bc_new_chain.specs.bc_chain.Written.{HasLostSet, HasWrittenSet}
use Rattle.bc_disk.specs.Chain.{bucket_bytes, sets_in_chain}
use Rattle.bc_disk.specs.Disk.{DiskFacts}
use Rattle.bc_disk.specs.declared.gens.BucketRecord.{BucketRecord}
use Rattle.bc_disk.specs.declared.geometry.Geometry.{Geometry}
use Rattle.bc_new_chain.specs.bc_hand.Seats.{View}
use Rattle.bc_new_chain.specs.bc_hand.declared.error.StepError.{StepError}
use Rattle.bc_new_chain.specs.bc_machine.World.{FromEach, World}
use Rattle.bc_refill.specs.Taken.{IsWithin}

-- each has room for a set
abbrev pub AreRooms : Geometry → List (Vec ℕ Global) → Type 0
AreRooms g rooms = All (λ (room : Vec ℕ Global). length room.items ≡ bucket_bytes g) rooms

-- Sets of a chain may be written into these, as many as it has: the seat holds them for it, and
-- each is another one.
pub record AreForSets (g : Geometry) (i : ℕ) (new : List ℕ) (x : World) : Type 0 where
  pub many : length new ≡ sets_in_chain g
  pub within : All (IsWithin g) new
  pub each : FromEach x (AreForChain i new)
  pub once : FromEach x (λ o st. IsDistinct new)

module _ {C B : Type 0} (cache_facts : C → DiskFacts) (backing_facts : B → DiskFacts) where
  -- The first so many sets were written, the first one first.
  abbrev pub HaveWritten : (g : Geometry) (records : List BucketRecord) (new : List ℕ)
      (part count : ℕ) → View cache_facts backing_facts → View cache_facts backing_facts → Type 0
  HaveWritten g records new part zero v w = w ≡ v
  HaveWritten g records new part (suc n) v w = (u : View cache_facts backing_facts)
      × HasWrittenSet cache_facts backing_facts g records (slice_index new part) part
      (next_of new part) v u × HaveWritten g records new (suc part) n u w

  -- The next one wasn't: its write failed, which was committed; or a device had halted the run.
  pub record HaveNotWritten (e : StepError) (g : Geometry) (records : List BucketRecord)
      (new : List ℕ) (v w : View cache_facts backing_facts) : Type 0 where
    pub count : ℕ
    pub less : count < length new
    pub had : View cache_facts backing_facts
    pub written : HaveWritten g records new 0 count v had
    pub lost : HasLostSet cache_facts backing_facts e g records (slice_index new count) count
        (next_of new count) had w
