-- Why a pair is refused of which a superblock can't be read.
use Rattle.std.proofs.Common.{◌≡◌, inl, inr, ℕ, ◌<◌, ◌≤◌, refl, sym, subst}
use Rattle.std.specs.Prelude.{Err}
use Rattle.std.proofs.lemmas.Bool.{cases_lt}
use Rattle.bc_disk.proofs.Cases.{next_count_rises}
use Rattle.bc_disk.specs.Device.{HasRisen, next_count}
use Rattle.bc_disk.specs.Disk.{DiskFacts, IsCounted}
use Rattle.bc_disk.specs.declared.disk.Device.{Device}
use Rattle.bc_disk.specs.declared.disk.Device.TheVariants as device
use Rattle.bc_super.specs.Reading.{IsCacheCause, IsCause, ReadsSuper, call_of}
use Rattle.bc_super.specs.declared.backing.BackingSuper.{BackingSuper}
use Rattle.bc_super.specs.declared.error.SuperError.{SuperError}
use Rattle.bc_super.specs.declared.error.SuperError.TheVariants as super
use Rattle.bc_pair.specs.Causes.{BackingFirst, FaultRose, IsShowCause}
use Rattle.bc_pair.specs.Steps.{refusal}
use Rattle.bc_pair.specs.declared.error.PairError.TheVariants as errors

-- how often a call that was refused failed: once where the device failed, and else never
abbrev pub Failures : SuperError → DiskFacts → DiskFacts → Type 0
Failures super.Fault old new = new.faults ≡ next_count old.faults
Failures why old new = new.faults ≡ old.faults

either : (sectors : ℕ) (P : Type 0) → (sectors < 16 → P) → (16 ≤ sectors → P) → P
either sectors P small large = elim (cases_lt sectors 16) [ inl low ↦ small low | inr high ↦ large high ]

pub failures_of : (T : Type 0) (why : SuperError) (old new : DiskFacts) → (why ≡ super.Fault → 16 ≤ old.sectors) → (old.sectors < 16 → new.faults ≡ old.faults) → (16 ≤ old.sectors → IsCounted (call_of {T = T} (Err why)) old new) → Failures why old new
failures_of T super.Fault old new asked untouched counted = (counted (asked refl)).1
failures_of T why old new asked untouched counted = either old.sectors (new.faults ≡ old.faults) untouched (λ large. (counted large).1)

pub backing_asked : (why : SuperError) (old : DiskFacts) → IsCause old why → why ≡ super.Fault → 16 ≤ old.sectors
backing_asked why old cause is = subst (λ e. IsCause old e) is cause

pub cache_asked : (why : SuperError) (old : DiskFacts) → IsCacheCause old why → why ≡ super.Fault → 16 ≤ old.sectors
cache_asked why old cause is = subst (λ e. IsCacheCause old e) is cause

-- the count of a fault rose
risen : (old new : DiskFacts) → new.faults ≡ next_count old.faults → HasRisen old.faults new.faults
risen old new next = subst (HasRisen old.faults) (sym next) (next_count_rises old.faults)

pub backing_rose : (why : SuperError) (cache old new : DiskFacts) → Failures why old new → FaultRose (refusal device.Backing why) cache cache old new
backing_rose super.Fault cache old new failed = (refl, risen old new failed)
backing_rose why cache old new failed = (refl, failed)

pub cache_rose : (why : SuperError) (old new backing backing' : DiskFacts) → backing'.faults ≡ backing.faults → Failures why old new → FaultRose (refusal device.Cache why) old new backing backing'
cache_rose super.Fault old new backing backing' same failed = (risen old new failed, same)
cache_rose why old new backing backing' same failed = (failed, same)

pub cache_cause : (why : SuperError) (cache backing : DiskFacts) (b : BackingSuper) → ReadsSuper backing b → IsCacheCause cache why → IsShowCause (refusal device.Cache why) cache backing
cache_cause super.Fault cache backing b reads cause = tt
cache_cause why cache backing b reads cause = ((b, reads), (λ e. cc), cause)

-- the superblock of the backing device was read first
pub backing_first : {C : Type 0} (why : SuperError) (cache : C) (backing : DiskFacts) → BackingFirst (refusal device.Backing why) cache cache backing
backing_first super.Fault cache backing = tt
backing_first why cache backing = refl

pub cache_behind : {C : Type 0} (why : SuperError) (cache cache' : C) (backing : DiskFacts) (b : BackingSuper) → ReadsSuper backing b → BackingFirst (refusal device.Cache why) cache cache' backing
cache_behind super.Fault cache cache' backing b reads = (b, reads)
cache_behind why cache cache' backing b reads = tt

pub writing_behind : {C : Type 0} (d : Device) (cache cache' : C) (backing : DiskFacts) (b : BackingSuper) → ReadsSuper backing b → BackingFirst (errors.Fault d) cache cache' backing
writing_behind device.Cache cache cache' backing b reads = (b, reads)
writing_behind device.Backing cache cache' backing b reads = tt
