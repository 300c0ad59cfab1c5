-- Entries rest on their own sectors.
use Rattle.std.proofs.Common.{◌≡◌, ℕ, ◌-◌, ◌<◌, arith}
use Rattle.bc_bytes.specs.Fields.{number_at}
use Rattle.bc_keys.proofs.WordsAt.{number_at-front}
use Rattle.bc_model.specs.Sector.{Image}
use Rattle.bc_model.specs.Pattern.{zeros}
use Rattle.bc_disk.specs.declared.geometry.Geometry.{Geometry}
use Rattle.bc_record.specs.Sectors.{bytes_to}
use Rattle.bc_record.proofs.Blocks.{block_some}
use Rattle.bc_record.specs.Codec.{IsCodec}
use Rattle.bc_record.proofs.Parts.{length-bytes_in, zeros_in_front}
use Rattle.bc_jset.specs.declared.entry.JEntry.{JEntry}
use Rattle.bc_jset.specs.EntryBytes.{version_in}
use Rattle.bc_jset.specs.Records.{entry_kind, EntryFound}
use Rattle.bc_jset.proofs.EntryLaws.{one_entry, entry_fits, entry_stays}
use Rattle.bc_jset.proofs.Deciders.{entry_or_none}

pub entry_codec : (g : Geometry) → IsCodec (entry_kind g)
entry_codec g = record {
  block = block_some g;
  some = λ e. omega arith;
  decide = entry_or_none g.set_magic;
  one = one_entry g.set_magic;
  fits = entry_fits g.set_magic;
  stays = entry_stays g.set_magic;
}

-- the version of an entry would be zero
pub none_in_zeros : (g : Geometry) (image : Image) (end place : ℕ) (e : JEntry) → image place ≡ zeros → EntryFound g image end place e → ⊥
unfolding number_at zeros
none_in_zeros g image end place e is found =
    let bytes = bytes_to image end place in
    let room = found.whole.header.room in
    let some : 0 < end - place = omega (arith, room, length-bytes_in image place (end - place)) in
    let none : version_in bytes ≡ 0 = number_at-front 4 bytes zeros 24 512 (zeros_in_front image end place is some) (omega arith) in
    omega (arith, none, found.whole.header.version)
