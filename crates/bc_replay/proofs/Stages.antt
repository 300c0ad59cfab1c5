-- The journal and the generations, of a device that tells what it holds.
use Rattle.std.proofs.Common.{◌≡◌, ◌≢◌, ℕ, List, Option, Some, None, refl}
use Rattle.std.specs.Prelude.{Err}
use Rattle.bc_model.specs.Sector.{Image}
use Rattle.bc_disk.specs.Disk.{DiskFacts, IfTold}
use Rattle.bc_disk.specs.Gens.{Gens}
use Rattle.bc_disk.specs.declared.geometry.Geometry.{Geometry}
use Rattle.bc_entries.specs.Reading.{IsCause as IsJournalCause, FaultCounted}
use Rattle.bc_entries.specs.declared.error.JournalError.{JournalError}
use Rattle.bc_entries.specs.declared.error.JournalError.TheVariants as journal
use Rattle.bc_prio.specs.Chain.{IsChain}
use Rattle.bc_prio.specs.Records.{ChainIn, RefusedIn}
use Rattle.bc_prio.specs.Refusal.{IsRefused}
use Rattle.bc_prio.specs.declared.error.PrioError.{PrioError}
use Rattle.bc_prio.specs.declared.error.PrioError.TheVariants as prio
use Rattle.bc_prio.proofs.Found.{chain_in}
use Rattle.bc_prio.proofs.Refused.{refused_in}
use Rattle.bc_replay.specs.Stages.{open_of}
use Rattle.bc_replay.specs.Behind.{open_chain, IsBehindCause, IsChainCause}
use Rattle.bc_replay.specs.Causes.{RisesWith}

pub journal_cause : (d : DiskFacts) (g : Geometry) (uuid : List ℕ) (why : JournalError) → IsJournalCause g d why → IsBehindCause d g uuid (open_of why)
journal_cause d g uuid journal.NoJournal cause = cause
journal_cause d g uuid (journal.Gap from to) cause = cause
journal_cause d g uuid (journal.End seq) cause = cause
journal_cause d g uuid journal.Fault cause = tt
journal_cause d g uuid journal.Memory cause = tt

pub journal_rises : (T : Type 0) (why : JournalError) (old new : ℕ) → FaultCounted why old new → RisesWith {T = T} (Err (open_of why)) old new
journal_rises T journal.NoJournal old new so = so
journal_rises T (journal.Gap from to) old new so = so
journal_rises T (journal.End seq) old new so = so
journal_rises T journal.Fault old new so = so
journal_rises T journal.Memory old new so = so

if_held : (P : Image → Type 0) (o : Option Image) → ((image : Image) → o ≡ Some image → P image) → IfTold o P
if_held P None f = tt
if_held P (Some image) f = f image refl

pub chain_held : (g : Geometry) (d : DiskFacts) (first : ℕ) (gens : Gens) → IsChain g d first gens → IfTold d.holds (λ image. ChainIn g image first gens)
chain_held g d first gens chain = if_held (λ image. ChainIn g image first gens) d.holds (λ image told. chain_in g d image first gens told chain)

refused_held : (g : Geometry) (old new : DiskFacts) (first : ℕ) (why : PrioError) → why ≢ prio.Fault → why ≢ prio.Memory → IsRefused g old new first why → IfTold old.holds (λ image. RefusedIn g image first why)
refused_held g old new first why fault memory refused = if_held (λ image. RefusedIn g image first why) old.holds (λ image told. refused_in g old new image first why told fault memory refused)

pub chain_cause : (g : Geometry) (old new : DiskFacts) (first : ℕ) (why : PrioError) → IsRefused g old new first why → IsChainCause old g first (open_chain why)
chain_cause g old new first prio.Fault refused = tt
chain_cause g old new first prio.Memory refused = tt
chain_cause g old new first why refused = refused_held g old new first why (λ e. cc) (λ e. cc) refused

pub chain_rises : (T : Type 0) (g : Geometry) (old new : DiskFacts) (first : ℕ) (why : PrioError) → IsRefused g old new first why → RisesWith {T = T} (Err (open_chain why)) old.faults new.faults
chain_rises T g old new first prio.Fault refused = refused.calls.faults
chain_rises T g old new first prio.Memory refused = refused.calls.1.faults
chain_rises T g old new first prio.Range refused = refused.calls.faults
chain_rises T g old new first prio.Cycle refused = refused.calls.faults
chain_rises T g old new first prio.Magic refused = refused.calls.faults
chain_rises T g old new first prio.Checksum refused = refused.calls.faults
chain_rises T g old new first prio.Count refused = refused.calls.faults
