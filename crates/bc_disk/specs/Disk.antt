-- What a disk of the outside is to its callers, and what each of its calls leaves.
use Rattle.std.specs.Prelude.{◌≡◌, ◌⊎◌, ◌↔◌, ℕ, ◌+◌, ◌*◌, ◌<◌, ◌≤◌, ◌^◌, List, Option, Some, None, Result, Ok, Err}
use Rattle.bc_model.specs.Sector.{Value, Image, at_run, unless, Gives}
use Rattle.bc_disk.specs.Device.{Among, Content, MayLeave, DeviceModel, next_count}

pub record DiskFacts : Type 1 where
  pub sectors : ℕ
  -- what reads give, where the disk tells it
  pub holds : Option Image
  -- the images that a crash at this moment may leave
  pub may_leave : Image → Type 0
  pub calls : ℕ
  pub faults : ℕ

abbrev pub IfTold : Option Image → (Image → Type 0) → Type 0
IfTold None P = Unit {0}
IfTold (Some image) P = P image

-- told before and after and so related, or told at neither time
abbrev pub BothTold : (Image → Image → Type 0) → Option Image → Option Image → Type 0
BothTold R None None = Unit {0}
BothTold R None (Some new) = ⊥
BothTold R (Some old) None = ⊥
BothTold R (Some old) (Some new) = R old new

-- each sector of the range has the new value, and each other the old one
abbrev pub Overwritten : ℕ → List Value → Image → Image → Type 0
Overwritten at values old new = (s : ℕ) → new s ≡ unless (at_run at values s) (old s)

-- each sector is as before or has the value that was to be written, whole
abbrev pub Torn : ℕ → List Value → Image → Image → Type 0
Torn at values old new = (s : ℕ) → (new s ≡ old s) ⊎ (at_run at values s ≡ Some (new s))

-- a crash may leave the same images as before
abbrev pub SameOutcomes : (Image → Type 0) → (Image → Type 0) → Type 0
SameOutcomes old new = (image : Image) → new image ↔ old image

-- a crash may leave what it might have left before, each sector as it was or with the new value, and nothing else
abbrev pub TornOutcomes : ℕ → List Value → (Image → Type 0) → (Image → Type 0) → Type 0
TornOutcomes at values old new = (image : Image) → new image ↔ ((before : Image) × old before × Torn at values before image)

-- what it might have left before it may leave still, and what it may leave besides has new values alone
pub record SomeTornOutcomes (at : ℕ) (values : List Value) (old new : Image → Type 0) : Type 0 where
  pub keeps : (image : Image) → old image → new image
  pub adds : (image : Image) → new image → (before : Image) × old before × Torn at values before image

-- what a disk holds is one of the images that a crash may leave
pub record IsHonest (d : DiskFacts) : Type 0 where
  pub size : d.sectors ≤ 2 ^ 41
  pub possible : IfTold d.holds d.may_leave

-- nothing but counts has changed
pub record IsKept (old new : DiskFacts) : Type 0 where
  pub sectors : new.sectors ≡ old.sectors
  pub holds : BothTold (λ (a b : Image). (s : ℕ) → b s ≡ a s) old.holds new.holds
  pub leaves : SameOutcomes old.may_leave new.may_leave

-- after a good write
pub record IsWritten (at : ℕ) (values : List Value) (old new : DiskFacts) : Type 0 where
  pub sectors : new.sectors ≡ old.sectors
  pub holds : BothTold (Overwritten at values) old.holds new.holds
  pub leaves : TornOutcomes at values old.may_leave new.may_leave

-- after a failed write
pub record IsFailedWrite (at : ℕ) (values : List Value) (old new : DiskFacts) : Type 0 where
  pub sectors : new.sectors ≡ old.sectors
  pub holds : BothTold (Torn at values) old.holds new.holds
  pub leaves : SomeTornOutcomes at values old.may_leave new.may_leave

-- after a good barrier
pub record IsSettled (old new : DiskFacts) : Type 0 where
  pub sectors : new.sectors ≡ old.sectors
  pub holds : BothTold (λ (a b : Image). (s : ℕ) → b s ≡ a s) old.holds new.holds
  pub leaves : IfTold new.holds (λ held. (image : Image) → new.may_leave image → (s : ℕ) → image s ≡ held s)

-- the run of values is what the disk holds there
abbrev pub IsRead : ℕ → List Value → DiskFacts → Type 0
IsRead at values d = IfTold d.holds (λ held. Gives at values (λ s v. v ≡ held s))

-- the call was counted, and as a fault exactly where it failed
abbrev pub IsCounted : {E : Type 0} → Result (Unit {0}) E → DiskFacts → DiskFacts → Type 0
IsCounted (Ok _) old new = (new.calls ≡ next_count old.calls) × (new.faults ≡ old.faults)
IsCounted (Err _) old new = (new.calls ≡ next_count old.calls) × (new.faults ≡ next_count old.faults)

-- a range of whole sectors, one at least, that lies on the disk
abbrev pub IsOnDisk : ℕ → ℕ → DiskFacts → Type 0
IsOnDisk at bytes d = (n : ℕ) × (0 < n) × (bytes ≡ 512 * n) × (at + n ≤ d.sectors)

-- the model allows what the disk reads and what it may leave
abbrev pub Allows : Option Content → Option Image → (Image → Type 0) → Type 0
Allows None None may_leave = Unit {0}
Allows None (Some held) may_leave = ⊥
Allows (Some c) None may_leave = ⊥
Allows (Some c) (Some held) may_leave = ((s : ℕ) → Among (held s) (c.reads s)) × ((image : Image) → may_leave image → MayLeave c image)

-- the disk stands for the model: told or untold like it, with the same counts
pub record StandsFor (d : DiskFacts) (model : DeviceModel) : Type 0 where
  pub sectors : d.sectors ≡ model.sectors
  pub content : Allows model.content d.holds d.may_leave
  pub calls : d.calls ≡ model.calls
  pub faults : d.faults ≡ model.faults
