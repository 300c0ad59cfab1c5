-- What stands on the cache device behind the superblocks, up to the table of uuids.
use Rattle.std.specs.Prelude.{ℕ, List}
use Rattle.bc_disk.specs.Gens.{Gens}
use Rattle.bc_disk.specs.Disk.{DiskFacts, IfTold}
use Rattle.bc_disk.specs.declared.disk.Device.TheVariants as device
use Rattle.bc_disk.specs.declared.geometry.Geometry.{Geometry}
use Rattle.bc_entries.specs.Journal.{Journal, HasJournal, IsRefused as IsJournalRefused}
use Rattle.bc_entries.specs.declared.error.JournalError.TheVariants as journal
use Rattle.bc_model.specs.Sector.{Image}
use Rattle.bc_prio.specs.Records.{ChainIn, RefusedIn}
use Rattle.bc_prio.specs.declared.error.PrioError.{PrioError}
use Rattle.bc_prio.specs.declared.error.PrioError.TheVariants as prio
use Rattle.bc_replay.specs.declared.error.OpenError.{OpenError}
use Rattle.bc_replay.specs.declared.error.OpenError.TheVariants as errors
use Rattle.bc_replay.specs.Heads.{NamesDevice}

-- a refusal of the chain of generations as one of the pair
abbrev pub open_chain : PrioError → OpenError
open_chain prio.Fault = errors.Fault device.Cache
open_chain prio.Memory = errors.Memory
open_chain why = errors.Prio why

-- the journal, the generations that its newest entry names, and the table that names the backing device
pub record HasBehind (g : Geometry) (image : Image) (uuid : List ℕ) (j : Journal) (gens : Gens) : Type 0 where
  pub journal : HasJournal g image j
  pub chain : ChainIn g image journal.entries.newest.item.prio gens
  pub uuids : NamesDevice g image journal.entries.newest.item.uuid_bucket uuid

-- the first refusal of these
abbrev pub IsBehindFirst : Geometry → List ℕ → OpenError → Image → Type 0
IsBehindFirst g uuid errors.NoJournal image = IsJournalRefused g image journal.NoJournal
IsBehindFirst g uuid (errors.JournalGap from to) image = IsJournalRefused g image (journal.Gap from to)
IsBehindFirst g uuid (errors.JournalEnd seq) image = IsJournalRefused g image (journal.End seq)
IsBehindFirst g uuid (errors.Prio e) image = (j : Journal) × ((has : HasJournal g image j) × RefusedIn g image has.entries.newest.item.prio e)
IsBehindFirst g uuid errors.Uuid image = (j : Journal) × ((has : HasJournal g image j) × ((gens : Gens)
    × ChainIn g image has.entries.newest.item.prio gens × ¬ (NamesDevice g image has.entries.newest.item.uuid_bucket uuid)))
IsBehindFirst g uuid e image = ⊥

-- why they aren't had of the cache device
abbrev pub IsBehindCause : DiskFacts → Geometry → List ℕ → OpenError → Type 0
IsBehindCause d g uuid (errors.Fault device.Cache) = Unit {0}
IsBehindCause d g uuid (errors.Fault device.Backing) = ⊥
IsBehindCause d g uuid errors.Memory = Unit {0}
IsBehindCause d g uuid (errors.Super k why) = ⊥
IsBehindCause d g uuid e = IfTold d.holds (IsBehindFirst g uuid e)

-- why the generations aren't had that begin in a bucket
abbrev pub IsChainCause : DiskFacts → Geometry → ℕ → OpenError → Type 0
IsChainCause d g first (errors.Prio e) = IfTold d.holds (λ image. RefusedIn g image first e)
IsChainCause d g first (errors.Fault device.Cache) = Unit {0}
IsChainCause d g first errors.Memory = Unit {0}
IsChainCause d g first e = ⊥

-- why it can't be said whether the table names a device
abbrev pub IsTableCause : OpenError → Type 0
IsTableCause (errors.Fault device.Cache) = Unit {0}
IsTableCause errors.Memory = Unit {0}
IsTableCause e = ⊥
