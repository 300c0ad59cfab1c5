-- Sets rest on their own sectors.
use Rattle.std.proofs.Common.{◌≡◌, ℕ, ◌+◌, ◌-◌, ◌<◌, ◌^◌, ◌≤◌, List, take, drop, slice_range, refl, sym, ap, ◌∙◌, arith}
use Rattle.std.specs.Prelude.{replicate}
use Rattle.std.proofs.lemmas.List.{take-take}
use Rattle.bc_bytes.specs.Checksum.{message, dividend, checksum}
use Rattle.bc_bytes.specs.Division.{remainder}
use Rattle.bc_bytes.specs.Fields.{number_at}
use Rattle.bc_keys.proofs.WordsAt.{number_at-front, slice_range-front, slice_range-take}
use Rattle.bc_model.specs.Sector.{Image}
use Rattle.bc_model.specs.Pattern.{zeros}
use Rattle.bc_disk.specs.declared.geometry.Geometry.{Geometry}
use Rattle.bc_record.specs.Sectors.{bytes_to}
use Rattle.bc_record.specs.Codec.{IsCodec}
use Rattle.bc_record.proofs.Blocks.{block_some}
use Rattle.bc_record.proofs.Parts.{length-bytes_in, zeros_in_front}
use Rattle.bc_set.specs.declared.set.Set.{Set}
use Rattle.bc_set.specs.declared.set.SetKind.{SetKind}
use Rattle.bc_set.specs.SetBytes.{IsSet, StandsAt, start_by, version_in, count_in, end_in}
use Rattle.bc_set.specs.Records.{set_kind, SetFound}
use Rattle.bc_set.proofs.SetLaws.{one_set, set_fits, set_stays}
use Rattle.bc_set.proofs.Deciders.{set_or_none}

pub set_codec : (g : Geometry) (start : ℕ) (kind : SetKind) → IsCodec (set_kind g start kind)
set_codec g start kind = record {
  block = block_some g;
  some = λ s. omega arith;
  decide = set_or_none start g.set_magic kind;
  one = one_set start g.set_magic kind;
  fits = set_fits start g.set_magic kind;
  stays = set_stays start g.set_magic kind;
}

-- ---- zeros

abbrev blank : List ℕ
blank = replicate 32 0

-- what the checksum of an empty set of zeros would be
blank_sum : checksum (2 ^ 64 - 1) (slice_range blank 8 32) ≡ 0x36ce_12c2_3741_696d
unfolding checksum dividend message remainder
blank_sum = refl

blank_fields : (number_at 8 blank 0 ≡ 0) × (number_at 4 blank 24 ≡ 0) × (number_at 4 blank 28 ≡ 0)
unfolding number_at
blank_fields = (refl, refl, refl)

-- a header of zeros is one of version 0 without words, whose checksum isn't zero
pub no_blank_set : (start magic : ℕ) (kind : SetKind) (bytes : List ℕ) (s : Set) → take 32 bytes ≡ blank → IsSet start magic kind bytes s → ⊥
no_blank_set start magic kind bytes s same is =
    let version : version_in bytes ≡ 0 = number_at-front 4 bytes blank 24 32 same (omega arith) ∙ blank_fields.1 in
    let count : count_in bytes ≡ 0 = number_at-front 4 bytes blank 28 32 same (omega arith) ∙ blank_fields.2 in
    let ends : end_in bytes ≡ 32 = omega (arith, count) in
    let first : number_at 8 bytes 0 ≡ 0 = number_at-front 8 bytes blank 0 32 same (omega arith) ∙ blank_fields.0 in
    let sum : checksum (start_by (version_in bytes) start) (slice_range bytes 8 (end_in bytes)) ≡ 0x36ce_12c2_3741_696d =
    ap (λ v. checksum (start_by v start) (slice_range bytes 8 (end_in bytes))) version ∙ ap (λ n. checksum (2 ^ 64 - 1) (slice_range bytes 8 n)) ends
    ∙ ap (checksum (2 ^ 64 - 1)) (slice_range-front bytes blank 8 32 same (omega arith)) ∙ blank_sum in
    let whole = is.whole.checksum in
    omega (arith, first, whole, sum)

pub none_in_blank : (start magic : ℕ) (kind : SetKind) (bytes : List ℕ) (place : ℕ) (s : Set) → slice_range bytes place (place + 32) ≡ blank → StandsAt start magic kind bytes place s → ⊥
none_in_blank start magic kind bytes place s same is = no_blank_set start magic kind (drop place bytes) s (sym (slice_range-take bytes place 32) ∙ same) is

pub none_in_zeros : (g : Geometry) (start : ℕ) (kind : SetKind) (image : Image) (end place : ℕ) (s : Set) → image place ≡ zeros → SetFound g start kind image end place s → ⊥
unfolding zeros
none_in_zeros g start kind image end place s is found =
    let bytes = bytes_to image end place in
    let room = found.whole.header.room in
    let some : 0 < end - place = omega (arith, room, length-bytes_in image place (end - place)) in
    no_blank_set start g.set_magic kind bytes s
    (sym (take-take 32 512 bytes (omega arith)) ∙ ap (take 32) (zeros_in_front image end place is some)) found
