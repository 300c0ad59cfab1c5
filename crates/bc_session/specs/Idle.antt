-- A pair that is opened and closed by a run of which nothing is asked.
use Rattle.std.specs.Prelude.{◌≡◌, ◌⊎◌, Bool, Result, Ok, Err}
use Rattle.std.specs.Bool.{MatchBool}
use Rattle.bc_bucket.specs.Buckets.{Buckets}
use Rattle.bc_disk.specs.Device.{next_count}
use Rattle.bc_disk.specs.Disk.{DiskFacts, IsKept}
use Rattle.bc_disk.specs.declared.disk.Device.TheVariants as device
use Rattle.bc_open.specs.Close.{HasDirty}
use Rattle.bc_open.specs.Open.{EndsOdd, HasFailed}
use Rattle.bc_loaded.specs.bc_regrow.Tree.{OfRead}
use Rattle.bc_replay.specs.declared.error.OpenError.{OpenError}
use Rattle.bc_replay.specs.declared.error.OpenError.TheVariants as errors
use Rattle.bc_replay.specs.declared.held.Survey.{Survey}
use Rattle.bc_session.specs.declared.closing.CloseError.{CloseError}
use Rattle.bc_session.specs.declared.closing.CloseError.TheVariants as closings
use Rattle.bc_session.specs.declared.idle.Idled.{Idled}

-- it says whether some bucket has data that is in the cache alone
abbrev pub Tells : Bool → Buckets → Type 0
Tells dirty buckets = MatchBool dirty (HasDirty buckets) (¬ (HasDirty buckets))

-- the error of a closing, as one of the opening; no run of one seat is halted by another
abbrev pub IsClosingOf : CloseError → OpenError → Type 0
IsClosingOf closings.Fault e = e ≡ errors.Fault device.Backing
IsClosingOf (closings.Halted d) e = ⊥
IsClosingOf closings.Memory e = e ≡ errors.Memory

abbrev pub IsOutcomeOf : Result (Unit {0}) CloseError → Result (Unit {0}) OpenError → Type 0
IsOutcomeOf (Ok u) r = r ≡ Ok tt
IsOutcomeOf (Err why) r = (e : OpenError) × (r ≡ Err e) × IsClosingOf why e

module _ {C B : Type 0} (cache_facts : C → DiskFacts) (backing_facts : B → DiskFacts) (s : Survey)
    (cache : C) (backing : B) (r : Idled C B) where
  -- no sector was written, and no call failed
  pub record IsUnwritten : Type 0 where
    pub kept : IsKept (cache_facts cache) (cache_facts r.cache)
    pub faults : (cache_facts r.cache).faults ≡ (cache_facts cache).faults
    pub backing_same : r.backing ≡ backing

  -- the cache device doesn't hold the pair that was read
  abbrev pub IsAnother : Type 0
  IsAnother = OfRead s (cache_facts cache) (λ p h. ⊥)

  -- Why it wasn't opened and closed. One call of a device failed, and no other; of the backing device
  -- it was one of five. Or memory ran out. Or nothing was written: the newest entry, of this number,
  -- is one behind which none can come. Of devices that hold what was read nothing else comes.
  abbrev pub IsIdleStop : OpenError → Type 0
  IsIdleStop (errors.Fault device.Cache) =
      ((cache_facts r.cache).faults ≡ next_count (cache_facts cache).faults)
      × ((backing_facts r.backing).faults ≡ (backing_facts backing).faults)
  IsIdleStop (errors.Fault device.Backing) =
      ((cache_facts r.cache).faults ≡ (cache_facts cache).faults)
      × HasFailed 5 (backing_facts backing) (backing_facts r.backing)
  IsIdleStop errors.Memory = ((cache_facts r.cache).faults ≡ (cache_facts cache).faults)
      × ((backing_facts r.backing).faults ≡ (backing_facts backing).faults)
  IsIdleStop (errors.JournalEnd seq) = (EndsOdd s.journal seq ⊎ IsAnother) × IsUnwritten
  IsIdleStop error = IsAnother × IsUnwritten
