-- What a request over a cache asks of its seat.
use Rattle.std.specs.Prelude.{◌≡◌, ◌<◌, ◌^◌, false, length}
use Rattle.bc_disk.specs.Disk.{DiskFacts}
use Rattle.bc_job.specs.bc_hand.Seats.{View, Works, empty, note}
use Rattle.bc_job.specs.bc_machine.World.{are_plain}
use Rattle.bc_job.specs.bc_machine.declared.part.CorePart.{CorePart}
use Rattle.bc_parts.specs.Seat.{PartsView}

module _ {C B : Type 0} (cache_facts : C → DiskFacts) (backing_facts : B → DiskFacts) where
  -- A seat of this run, which is one with a cache and some leaves, that holds no part and no claim.
  pub record IsIdle (p : PartsView (CorePart C B)) (v : View cache_facts backing_facts) : Type 0 where
    pub works : Works cache_facts backing_facts p v empty
    pub cached : are_plain cache_facts backing_facts p.run.start ≡ false
    pub leaves : (6 < length p.run.start) × (length p.run.start < 2 ^ 32)
    pub unclaimed : (note cache_facts backing_facts v).range.count ≡ 0
