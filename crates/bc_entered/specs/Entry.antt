-- The entry that an opening writes, over what was read, and the values that spell it.
use Rattle.std.specs.Prelude.{◌≡◌, ◌⊎◌, ℕ, ◌<◌, List, length}
use Rattle.bc_model.specs.Sector.{Image, Value}
use Rattle.bc_disk.specs.Disk.{Torn}
use Rattle.bc_disk.specs.declared.geometry.Geometry.{Geometry}
use Rattle.bc_jset.specs.declared.entry.JEntry.{JEntry}
use Rattle.bc_jset.specs.Entries.{FoundEntry, StandIn, bucket_end, bucket_start}
use Rattle.bc_jset.specs.Records.{entry_kind}
use Rattle.bc_meta.specs.Facts.{IsAtBlock}
use Rattle.bc_image.specs.Reading.{Reading}
use Rattle.bc_facts.specs.Whole.{IsWhole, Spell}
use Rattle.bc_enter.specs.Entry.{GoesTo, IsOpeningEntry}

-- The premise: however much of the write a crash leaves, each entry that is read at a block of the
-- journal stood there before, or is the new one.
abbrev pub NoTornEntry : Geometry → Image → ℕ → ℕ → JEntry → List Value → Type 0
NoTornEntry g image b at e values =
    (left : Image) (c place : ℕ) (f : JEntry) → Torn at values image left → c < g.journal
    → IsAtBlock g.block (bucket_start g c) place
    → IsWhole (entry_kind g) left (bucket_end g c) place f
    → IsWhole (entry_kind g) image (bucket_end g c) place f
    ⊎ ((c ≡ b) × (place ≡ at) × (f ≡ e))

-- such an entry behind those that are read, and the values that spell it
pub record IsEntryAt (g : Geometry) (image : Image) (r : Reading) (e : JEntry) (b at : ℕ)
    (values : List Value) : Type 0 where
  pub entry : IsOpeningEntry r.entries r.newest e
  pub all : List FoundEntry
  pub stand : StandIn g image g.journal all
  pub place : GoesTo g all r.entries r.newest (length values) b at
  pub spells : Spell (entry_kind g) values e
  pub no_torn : NoTornEntry g image b at e values
