-- Why a pair isn't opened whose parts weren't read.
use Rattle.std.proofs.Common.{◌≡◌, ℕ, refl}
use Rattle.bc_disk.specs.Disk.{DiskFacts, IsKept}
use Rattle.bc_disk.specs.declared.disk.Device.TheVariants as device
use Rattle.std.specs.Prelude.{Err}
use Rattle.std.proofs.Common.{inr}
use Rattle.bc_regrow.specs.Tree.{IsTreeCause}
use Rattle.bc_replay.specs.Causes.{RisesWith}
use Rattle.bc_replay.specs.declared.error.OpenError.{OpenError}
use Rattle.bc_replay.specs.declared.error.OpenError.TheVariants as errors
use Rattle.bc_replay.specs.declared.held.Survey.{Survey}
use Rattle.bc_open.specs.Open.{IsOpenStop, IsReadStop}

pub read_stop : {B : Type 0} (facts : B → DiskFacts) (s : Survey) (cache cache' : DiskFacts)
    (backing : B) (e : OpenError) → IsReadStop s cache cache' e
    → IsOpenStop facts s 2 cache cache' backing backing e
read_stop facts s cache cache' backing (errors.Fault device.Cache) stop = (stop, refl)
read_stop facts s cache cache' backing (errors.Fault device.Backing) stop = absurd stop
read_stop facts s cache cache' backing errors.Memory stop = (stop, refl)
read_stop facts s cache cache' backing (errors.JournalEnd seq) stop = (inr stop.0, (stop.1, refl))
read_stop facts s cache cache' backing e stop = (stop.0, (stop.1, refl))

-- the tree wasn't read, and no call of the device failed
pub tree_stop : (T : Type 0) (s : Survey) (cache cache' : DiskFacts) (e : OpenError)
    → IsTreeCause s cache e → IsKept cache cache'
    → RisesWith {T = T} (Err e) cache.faults cache'.faults → ((d : _) → e ≡ errors.Fault d → ⊥)
    → IsReadStop s cache cache' e
tree_stop T s cache cache' (errors.Fault d) cause kept rises other = absurd (other d refl)
tree_stop T s cache cache' errors.Memory cause kept rises other =
    record { kept = kept; faults = rises }
tree_stop T s cache cache' e cause kept rises other =
    (cause, record { kept = kept; faults = rises })
