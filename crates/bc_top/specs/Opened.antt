-- What the opening of a pair leaves of its devices, and why it isn't served.
use Rattle.std.specs.Prelude.{◌≡◌, ◌⊎◌, ℕ, Option, Some, None}
use Rattle.bc_model.specs.Sector.{Image}
use Rattle.bc_disk.specs.Device.{next_count}
use Rattle.bc_disk.specs.Disk.{DiskFacts, BothTold, StandsFor}
use Rattle.bc_disk.specs.Stands.{settled_model}
use Rattle.bc_disk.specs.declared.disk.Device.TheVariants as device
use Rattle.bc_image.specs.Pair.{Pair}
use Rattle.bc_replay.specs.Causes.{EndsAtSupers, IsReadOnce, OfHeld, RefusesBacking}
use Rattle.bc_replay.specs.Survey.{CanBeOpened, IsFirst}
use Rattle.bc_replay.specs.declared.error.OpenError.{OpenError}
use Rattle.bc_replay.specs.declared.error.OpenError.TheVariants as errors
use Rattle.bc_super.specs.Division.{IsPassThrough}
use Rattle.bc_super.specs.Super.{IsState, state_number}
use Rattle.bc_super.specs.Reading.{ReadsSuper}
use Rattle.bc_super.specs.declared.backing.BackingSuper.{BackingSuper}
use Rattle.bc_super.specs.declared.state.BackingState.TheVariants as state
use Rattle.bc_top.specs.Stops.{open_stop}
use Rattle.bc_top.specs.declared.stop.Stop.{Stop}
use Rattle.bc_top.specs.declared.stop.Stop.TheVariants as stop

abbrev pub SameImage : Image → Image → Type 0
SameImage old new = (s : ℕ) → new s ≡ old s

-- ---- the superblocks

abbrev pub HasNoState : BackingSuper → Type 0
HasNoState s = IsState (state_number s.flags) state.None

-- the device tells what it holds, and that its superblock asks for no cache
abbrev pub AsksForNone : DiskFacts → Type 0
AsksForNone d = (held : Image) × (d.holds ≡ Some held)
    × ((s : BackingSuper) × ReadsSuper d s × IsPassThrough s)

-- ---- what the opening leaves

-- a crash would leave exactly what the device holds, where it tells that
abbrev pub StandsStill : DiskFacts → Type 0
StandsStill d = StandsFor d (settled_model d)

abbrev pub AreStill : DiskFacts → DiskFacts → Type 0
AreStill cache backing = StandsStill cache × StandsStill backing

-- It holds what it held, its two calls were a barrier and a read, none failed, and its superblock
-- is this one. A crash would leave what it holds.
pub record IsOpened (s : BackingSuper) (old new : DiskFacts) : Type 0 where
  pub sectors : new.sectors ≡ old.sectors
  pub holds : BothTold SameImage old.holds new.holds
  pub calls : new.calls ≡ next_count (next_count old.calls)
  pub faults : new.faults ≡ old.faults
  pub reads : ReadsSuper new s
  pub still : StandsStill new

-- a crash leaves what it might have left before, or what the device holds
abbrev pub LeavesLess : Option Image → (Image → Type 0) → (Image → Type 0) → Type 0
LeavesLess None old new = Unit {0}
LeavesLess (Some held) old new = (image : Image) → new image → old image ⊎ SameImage held image

-- no sector was written
pub record IsSameDevice (old new : DiskFacts) : Type 0 where
  pub sectors : new.sectors ≡ old.sectors
  pub holds : BothTold SameImage old.holds new.holds
  pub leaves : LeavesLess new.holds old.may_leave new.may_leave

-- what the device has as its superblock asks for a cache
abbrev pub AsksForCache : DiskFacts → Type 0
AsksForCache d = (s : BackingSuper) × ReadsSuper d s × (IsPassThrough s → ⊥)

-- ---- why a pair isn't served

-- the call that failed was the barrier, the first of this device, or a read behind it
abbrev pub FailsOpening : DiskFacts → DiskFacts → Type 0
FailsOpening old new = (new.calls ≡ next_count old.calls)
    ⊎ ((new.calls ≡ next_count (next_count old.calls)) × StandsStill new)

-- One call of the backing device failed, its barrier or the read behind it. Or its superblock,
-- which was read once behind a barrier, has this fault, the first in order. A crash would leave
-- exactly what the device holds, unless the barrier failed.
abbrev pub IsLoneCause : OpenError → DiskFacts → DiskFacts → Type 0
IsLoneCause (errors.Fault device.Backing) old new =
    (new.faults ≡ next_count old.faults) × FailsOpening old new
IsLoneCause (errors.Super device.Backing why) old new = RefusesBacking new why
    × (new.faults ≡ old.faults) × IsReadOnce new.sectors (next_count old.calls) new.calls
    × StandsStill new
IsLoneCause error old new = ⊥

module _ (cache cache' backing backing' : DiskFacts) where
  -- no call of either device failed
  abbrev pub AreQuiet : Type 0
  AreQuiet = (cache'.faults ≡ cache.faults) × (backing'.faults ≡ backing.faults)

  -- the backing device had been called so often, and once more since: its superblock is read with
  -- the pair
  abbrev pub IsReadAgain : ℕ → Type 0
  IsReadAgain calls = backing'.calls ≡ next_count calls

  -- the cache device's barrier, its first call, failed, and the backing device wasn't called again;
  -- or a later one did
  abbrev pub FailsReading : ℕ → Type 0
  FailsReading calls = ((cache'.calls ≡ next_count cache.calls) × (backing'.calls ≡ calls))
      ⊎ (StandsStill cache' × IsReadAgain calls)

  -- Why a pair is refused of which the backing device asks for a cache: one call of a device
  -- failed, and no other; or memory ran out; or the refusal is the first of the pair. A
  -- superblock's is told of what was read, and with how many calls of the cache device behind its
  -- barrier; the backing device had been called so often before. A crash would leave of both
  -- devices exactly what they hold, but of the cache device where its barrier failed.
  abbrev pub IsPairCause : ℕ → OpenError → Type 0
  IsPairCause calls (errors.Fault device.Cache) = (cache'.faults ≡ next_count cache.faults)
      × (backing'.faults ≡ backing.faults) × StandsStill backing' × FailsReading calls
  IsPairCause calls (errors.Fault device.Backing) = (cache'.faults ≡ cache.faults)
      × (backing'.faults ≡ next_count backing.faults) × IsReadAgain calls × AreStill cache' backing'
  IsPairCause calls errors.Memory = AreQuiet × IsReadAgain calls × AreStill cache' backing'
  IsPairCause calls error = OfHeld (λ p. IsFirst p error) cache backing × AreQuiet
      × IsReadAgain calls × EndsAtSupers cache backing (next_count cache.calls) cache'.calls error
      × AreStill cache' backing'

  -- the calls of the opening until then: a barrier of the backing device and a read
  abbrev pub opening_calls : ℕ
  opening_calls = next_count (next_count backing.calls)

  -- such a pair is refused, or it isn't and its cache isn't served yet
  abbrev pub IsPairStop : Stop → Type 0
  IsPairStop why = ((error : OpenError) × (why ≡ open_stop error) × IsPairCause opening_calls error)
      ⊎ ((why ≡ stop.Unserved) × OfHeld CanBeOpened cache backing × AreQuiet
      × IsReadAgain opening_calls × AreStill cache' backing')

  -- The first of these: a cause of the backing device, with which the cache device isn't called, or
  -- one of a pair.
  abbrev pub IsOpeningCause : Stop → Type 0
  IsOpeningCause why = ((error : OpenError) × (why ≡ open_stop error)
      × IsLoneCause error backing backing' × (cache'.calls ≡ cache.calls))
      ⊎ (AsksForCache backing × IsPairStop why)

-- what a pair with a cache is answered where it isn't served: its first refusal, or, where it has
-- none, that what is asked isn't served yet
abbrev pub IsAnswerTo : Pair → Stop → Type 0
IsAnswerTo p why = ((error : OpenError) × IsFirst p error × (why ≡ open_stop error))
    ⊎ (((error : OpenError) → IsFirst p error → ⊥) × (why ≡ stop.Unserved))
