-- What is said of a pair. Each verdict says that the parts before it hold.
use Rattle.std.specs.Prelude.{◌≡◌, ℕ, ◌<◌}
use Rattle.std.specs.Bool.{MatchBool}
use Rattle.std.specs.Prelude.{Bool, true, List, []}
use Rattle.bc_disk.specs.Disk.{DiskFacts, IfTold}
use Rattle.bc_image.specs.Pair.{Pair}
use Rattle.bc_image.specs.Reading.{View, IsView}
use Rattle.bc_image.specs.Sound.{ServesAlone, AgreesWhereClean, IsWithinWindow, HasNoStrayEntry}
use Rattle.bc_replay.specs.Causes.{OfHeld}
use Rattle.bc_replay.specs.Survey.{IsFirst, IsOpenable}
use Rattle.bc_replay.specs.declared.error.OpenError.{OpenError}
use Rattle.bc_replay.specs.declared.error.OpenError.TheVariants as errors
use Rattle.bc_check.specs.Apart.{Disagrees}
use Rattle.bc_counts.specs.Counts.{IsCount}
use Rattle.bc_check.specs.Counts.{AreLines}
use Rattle.bc_check.specs.Strays.{IsStrayIn}
use Rattle.bc_check.specs.Totals.{IsDirtyAt, IsCleanAt}
use Rattle.bc_check.specs.Window.{IsLeastAged}
use Rattle.bc_check.specs.declared.lines.BucketLine.{BucketLine}
use Rattle.bc_check.specs.declared.verdict.CheckError.{CheckError}
use Rattle.bc_check.specs.declared.verdict.CheckError.TheVariants as checks
use Rattle.bc_check.specs.declared.verdict.Verdict.{Verdict}
use Rattle.bc_check.specs.declared.verdict.Verdict.TheVariants as verdicts

-- the least number of which P holds
pub record IsLeast (P : ℕ → Type 0) (n : ℕ) : Type 0 where
  pub holds : P n
  pub least : (k : ℕ) → k < n → ¬ (P k)

abbrev pub HasStrayIn : Pair → View → ℕ → Type 0
HasStrayIn p v bucket = IsStrayIn v.geometry p.cache v.reading bucket

abbrev pub NoStray : Pair → View → Type 0
NoStray p v = HasNoStrayEntry v.geometry p.cache v.reading

abbrev pub NoneAged : Pair → View → Type 0
NoneAged p v = IsWithinWindow v.geometry v.reading

-- so many sectors have live data, dirty and clean
abbrev pub AreCounts : View → ℕ → ℕ → Type 0
AreCounts v dirty clean = IsCount (IsDirtyAt v.geometry v.reading) dirty × IsCount (IsCleanAt v.geometry v.reading) clean

-- the verdict of a pair that can be opened, in the order of the parts
abbrev pub IsVerdictOf : Pair → View → Verdict → Type 0
IsVerdictOf p v verdicts.PassThrough = ⊥
IsVerdictOf p v (verdicts.Journal bucket) = IsLeast (HasStrayIn p v) bucket
IsVerdictOf p v (verdicts.Age sector) = NoStray p v × IsLeastAged v.geometry v.reading sector
IsVerdictOf p v (verdicts.Agree sector) = NoStray p v × NoneAged p v × IsLeast (Disagrees p v) sector
IsVerdictOf p v (verdicts.Sound dirty clean) = NoStray p v × NoneAged p v × AgreesWhereClean p v × AreCounts v dirty clean

-- a pair that can be opened has this verdict
pub record IsOpened (p : Pair) (verdict : Verdict) : Type 0 where
  pub view : View
  pub is_view : IsView p view
  pub openable : IsOpenable p view
  pub says : IsVerdictOf p view verdict

abbrev pub IsVerdict : Pair → Verdict → Type 0
IsVerdict p verdicts.PassThrough = ServesAlone p
IsVerdict p verdict = IsOpened p verdict

-- the lines of the pair's buckets, where it is sound and they are asked for, and else none
abbrev pub ListsIf : Bool → Pair → Verdict → List BucketLine → Type 0
ListsIf true p (verdicts.Sound dirty clean) lines = (v : View) × IsView p v × AreLines v.geometry v.reading lines
ListsIf list p verdict lines = lines ≡ []

-- a pair that needs its cache device is refused for this reason, the first
abbrev pub IsRefusal : Pair → OpenError → Type 0
IsRefusal p why = ¬ (ServesAlone p) × IsFirst p why

-- a reason that is neither a fault nor want of memory
abbrev pub IsReason : OpenError → Type 0
IsReason (errors.Fault d) = ⊥
IsReason errors.Memory = ⊥
IsReason why = Unit {0}

-- why two devices get no verdict
abbrev pub IsCheckCause : DiskFacts → DiskFacts → CheckError → Type 0
IsCheckCause cache backing (checks.Open why) = IsReason why × OfHeld (λ p. IsRefusal p why) cache backing
IsCheckCause cache backing e = Unit {0}

-- the backing device, where it tells what it holds, serves alone or doesn't
abbrev pub DecidesAlone : DiskFacts → Bool → Type 0
DecidesAlone d alone = IfTold d.holds (λ image. (p : Pair) → p.backing ≡ image → p.backing_sectors ≡ d.sectors → MatchBool alone (ServesAlone p) (¬ (ServesAlone p)))
