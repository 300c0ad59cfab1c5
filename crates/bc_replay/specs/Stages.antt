-- Where a refusal stands among the others.
use Rattle.std.specs.Prelude.{◌≡◌}
use Rattle.bc_disk.specs.declared.disk.Device.{Device}
use Rattle.bc_entries.specs.declared.error.JournalError.{JournalError}
use Rattle.bc_entries.specs.declared.error.JournalError.TheVariants as journal
use Rattle.bc_image.specs.Pair.{Pair}
use Rattle.bc_prio.specs.Records.{RefusedIn}
use Rattle.bc_prio.specs.declared.error.PrioError.{PrioError}
use Rattle.bc_super.specs.declared.error.SuperError.{SuperError}
use Rattle.bc_replay.specs.declared.error.OpenError.{OpenError}
use Rattle.bc_replay.specs.declared.error.OpenError.TheVariants as errors
use Rattle.bc_replay.specs.First.{IsSuperRefused, IsJournalFirst, BehindJournal, BehindGens}
use Rattle.bc_replay.specs.Heads.{NamesDevice}
use Rattle.bc_disk.specs.declared.disk.Device.TheVariants as device

-- a refusal of the journal as one of the pair
abbrev pub open_of : JournalError → OpenError
open_of journal.NoJournal = errors.NoJournal
open_of (journal.Gap from to) = errors.JournalGap from to
open_of (journal.End seq) = errors.JournalEnd seq
open_of journal.Fault = errors.Fault device.Cache
open_of journal.Memory = errors.Memory

-- a refusal is one of these four
pub data IsOne (p : Pair) (e : OpenError) : Type 0 where
  super : (d : Device) (why : SuperError) → e ≡ errors.Super d why → IsSuperRefused p d why → IsOne p e
  entries : (why : JournalError) → e ≡ open_of why → IsJournalFirst p why → IsOne p e
  chain : (why : PrioError) → e ≡ errors.Prio why → BehindJournal p (λ b g newest. RefusedIn g p.cache newest.item.prio why) → IsOne p e
  table : e ≡ errors.Uuid → BehindGens p (λ b g newest. ¬ (NamesDevice g p.cache newest.item.uuid_bucket b.uuid)) → IsOne p e
