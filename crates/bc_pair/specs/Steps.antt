-- What single steps of the making of a pair leave.
use Rattle.std.specs.Prelude.{◌≡◌, ℕ, ◌*◌, ◌<◌, ◌≤◌, List, Result, OnOk}
use Rattle.bc_model.specs.Sector.{Image}
use Rattle.bc_disk.specs.Disk.{DiskFacts, IfTold, BothTold}
use Rattle.bc_disk.specs.declared.disk.Device.{Device}
use Rattle.bc_super.specs.declared.error.SuperError.{SuperError}
use Rattle.bc_super.specs.declared.error.SuperError.TheVariants as super
use Rattle.bc_super.specs.declared.layout.Layout.{Layout}
use Rattle.bc_pair.specs.declared.error.PairError.{PairError}
use Rattle.bc_pair.specs.declared.error.PairError.TheVariants as errors
use Rattle.bc_pair.specs.declared.pair.NewPair.{NewPair}
use Rattle.bc_pair.specs.Causes.{IsFormatRefused}
use Rattle.bc_pair.specs.Runs.{Run, written_over}
use Rattle.bc_disk.specs.declared.disk.Failed.{Failed}
use Rattle.bc_disk.specs.declared.geometry.Geometry.{Geometry}
use Rattle.bc_super.specs.Writing.{AreCounted}
use Rattle.bc_disk.specs.Chain.{sets_in_chain}
use Rattle.bc_image.specs.Formatted.{first_set, leaf_bucket, root_bucket, table_bucket}

-- the answer to a superblock that can't be read
abbrev pub refusal : Device → SuperError → PairError
refusal d super.Fault = errors.Fault d
refusal d why = errors.Superblock d why

-- a refusal to format, which nothing but the sizes and the uuid of the set explains
abbrev pub RefusesFormat : NewPair → PairError → ℕ → ℕ → Type 0
RefusesFormat p (errors.Superblock d why) cache backing = IsFormatRefused p cache backing d why
RefusesFormat p (errors.Fault d) cache backing = ⊥
RefusesFormat p errors.Memory cache backing = ⊥

-- the records' buckets are on a device with so many sectors
pub record HasRoom (g : Geometry) (sectors : ℕ) : Type 0 where
  pub room : g.bucket * g.nbuckets ≤ sectors
  pub within : leaf_bucket g < g.nbuckets

-- the buckets that a division names are those in which the records stand
pub record NamesBuckets (l : Layout) (g : Geometry) : Type 0 where
  pub prio : l.prio ≡ first_set g
  pub sets : l.p ≡ sets_in_chain g
  pub uuid : l.uuid ≡ table_bucket g
  pub root : l.root ≡ root_bucket g
  pub leaf : l.leaf ≡ leaf_bucket g

-- what a device holds became this
abbrev pub Becomes : (Image → Image) → DiskFacts → DiskFacts → Type 0
Becomes f old new = BothTold (λ (a z : Image). (s : ℕ) → z s ≡ f a s) old.holds new.holds

-- No sector was written but such ones: each other holds what it held, and a crash leaves what it might have left.
pub record WritesOnly (P : ℕ → Type 0) (old new : DiskFacts) : Type 0 where
  pub sectors : new.sectors ≡ old.sectors
  pub holds : BothTold (λ (a z : Image). (s : ℕ) → (P s → ⊥) → z s ≡ a s) old.holds new.holds
  pub leaves : IfTold old.holds (λ _. (image : Image) → new.may_leave image → (before : Image) × old.may_leave before × ((s : ℕ) → (P s → ⊥) → image s ≡ before s))

-- Runs of a kind were written by so many calls, or a call failed on the way. No sector was written but such ones.
pub record Wrote (P : ℕ → Type 0) (calls : ℕ) (R : List Run → Type 0) (answer : Result (Unit {0}) Failed) (old new : DiskFacts) : Type 0 where
  pub ok : OnOk answer ((runs : List Run) × R runs × Becomes (written_over runs) old new)
  pub others : WritesOnly P old new
  pub counted : AreCounted calls answer old new
