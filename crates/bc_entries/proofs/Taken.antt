-- One entry that was found in a bucket.
use Rattle.std.proofs.Common.{◌≡◌, ℕ, ◌+◌, ◌*◌, ◌<◌, ◌≤◌, arith}
use Rattle.bc_model.specs.Sector.{Image}
use Rattle.bc_disk.specs.declared.geometry.Geometry.{Geometry}
use Rattle.bc_record.specs.Kind.{IsFound}
use Rattle.bc_record.proofs.Found.{takes_some, found_fits, next_blocks}
use Rattle.bc_jset.specs.declared.entry.JEntry.{JEntry}
use Rattle.bc_jset.specs.Records.{entry_kind, entry_sectors}
use Rattle.bc_jset.proofs.Records.{entry_codec}

-- of its bucket so many blocks are left from its place on
pub record IsTaken (g : Geometry) (place sectors : ℕ) : Type 0 where
  pub some : 0 < sectors
  pub fits : place + sectors ≤ g.bucket
  pub left : ℕ
  pub whole : g.bucket ≡ place + sectors + g.block * left

pub taken : (g : Geometry) (image : Image) (place blocks sectors : ℕ) (e : JEntry) → g.bucket ≡ place + g.block * blocks → IsFound (entry_kind g) image g.bucket place e
    → sectors ≡ entry_sectors g e → IsTaken g place sectors
taken g image place blocks sectors e whole found is =
    let kind = entry_kind g in
    let codec = entry_codec g in
    let fits = found_fits kind codec image g.bucket place blocks e whole found in
    let next = next_blocks kind codec e g.bucket place blocks whole fits in
    let some = takes_some kind codec e in
    record { some = omega (arith, some, is); fits = omega (arith, fits, is); left = next.0; whole = omega (arith, next.1, is) }
