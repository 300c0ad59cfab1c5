-- Why a chain is refused, and how many reads were made until then.
use Rattle.std.specs.Prelude.{◌≡◌, ◌≢◌, ℕ, zero, suc, ◌<◌, List, length, AllPairs, Contains}
use Rattle.bc_disk.specs.Device.{next_count}
use Rattle.bc_disk.specs.Disk.{DiskFacts}
use Rattle.bc_disk.specs.declared.geometry.Geometry.{Geometry}
use Rattle.bc_prio.specs.declared.error.PrioError.{PrioError}
use Rattle.bc_prio.specs.declared.error.PrioError.TheVariants as errors
use Rattle.bc_disk.specs.Chain.{sets_in_chain}
use Rattle.bc_prio.specs.Set.{IsWrong}
use Rattle.bc_prio.specs.Chain.{IsInBucket, IsPlace, Leads}

-- a set of the chain may stand there, behind those in these buckets
abbrev pub IsFresh : Geometry → List ℕ → ℕ → Type 0
IsFresh g chain at = IsPlace g at × (Contains chain at → ⊥)

-- the first reason why none may
abbrev pub IsMisplaced : Geometry → List ℕ → ℕ → PrioError → Type 0
IsMisplaced g chain at errors.Range = IsPlace g at → ⊥
IsMisplaced g chain at errors.Cycle = IsPlace g at × Contains chain at
IsMisplaced g chain at errors.Magic = ⊥
IsMisplaced g chain at errors.Checksum = ⊥
IsMisplaced g chain at errors.Count = ⊥
IsMisplaced g chain at errors.Fault = ⊥
IsMisplaced g chain at errors.Memory = ⊥

-- what stands there isn't the set that follows
abbrev pub StandsWrong : Geometry → DiskFacts → List ℕ → ℕ → PrioError → Type 0
StandsWrong g d chain at error = IsFresh g chain at × ((bytes : List ℕ) × IsInBucket g d at bytes × IsWrong g (length chain) bytes error)

-- when an error may be answered at the bucket that follows these ones; want of memory needs no reason
abbrev pub IsCause : Geometry → DiskFacts → List ℕ → ℕ → PrioError → Type 0
IsCause g d chain at errors.Range = IsMisplaced g chain at errors.Range
IsCause g d chain at errors.Cycle = IsMisplaced g chain at errors.Cycle
IsCause g d chain at errors.Fault = IsFresh g chain at
IsCause g d chain at errors.Magic = StandsWrong g d chain at errors.Magic
IsCause g d chain at errors.Checksum = StandsWrong g d chain at errors.Checksum
IsCause g d chain at errors.Count = StandsWrong g d chain at errors.Count
IsCause g d chain at errors.Memory = Unit {0}

-- a count after so many more calls
abbrev pub counted : ℕ → ℕ → ℕ
counted zero count = count
counted (suc n) count = next_count (counted n count)

-- so many calls were made, and all of them were good
pub record HasRead (n : ℕ) (old new : DiskFacts) : Type 0 where
  pub calls : new.calls ≡ counted n old.calls
  pub faults : new.faults ≡ old.faults

-- so many good calls were made, and then one that failed
pub record HasFailed (n : ℕ) (old new : DiskFacts) : Type 0 where
  pub calls : new.calls ≡ counted (suc n) old.calls
  pub faults : new.faults ≡ next_count old.faults

-- the calls until an error, behind so many sets that were read: a bucket that can't have a set isn't read
abbrev pub CallsUntil : PrioError → ℕ → DiskFacts → DiskFacts → Type 0
CallsUntil errors.Range n old new = HasRead n old new
CallsUntil errors.Cycle n old new = HasRead n old new
CallsUntil errors.Fault n old new = HasFailed n old new
CallsUntil errors.Magic n old new = HasRead (suc n) old new
CallsUntil errors.Checksum n old new = HasRead (suc n) old new
CallsUntil errors.Count n old new = HasRead (suc n) old new
CallsUntil errors.Memory n old new = (m : ℕ) × HasRead m old new

-- the chain that begins in bucket `first` is refused: behind some whole sets in different buckets, fewer than a chain has, stands the cause
pub record IsRefused (g : Geometry) (old new : DiskFacts) (first : ℕ) (error : PrioError) : Type 0 where
  pub chain : List ℕ
  pub at : ℕ
  pub sets : Leads g old (λ _ _. Unit {0}) 0 first chain at
  pub distinct : AllPairs (λ a b. a ≢ b) chain
  pub few : length chain < sets_in_chain g
  pub cause : IsCause g old chain at error
  pub calls : CallsUntil error (length chain) old new
