-- A journal of two entries, and one in which two numbers are missing.
use Rattle.std.specs.Prelude.{ℕ, ◌==◌, if◌then◌else◌, List, [], ◌∷◌, ◌++◌, replicate, refl}
use Rattle.std.proofs.Common.{lit<, lit≤}
use Rattle.bc_model.specs.Sector.{Image}
use Rattle.bc_model.specs.Pattern.{zeros}
use Rattle.bc_disk.specs.declared.geometry.Geometry.{Geometry}
use Rattle.bc_jset.specs.Example.{example_uuid_bucket, example_root, example_others, example_words, example_bytes}

-- 128 buckets of 64 sectors, of which buckets 1 and 2 are the journal
abbrev pub example_geometry : Geometry
example_geometry = record {
  block = 1;
  bucket = 64;
  nbuckets = 128;
  first_bucket = 1;
  journal = 2;
  set_magic = 1;
  node_sectors = 64;
  block_is_one = refl;
  bucket_is_one = refl;
  bucket_from = lit≤ tt;
  bucket_to = lit≤ tt;
  first_behind_super = lit< tt;
  buckets_from = lit≤ tt;
  buckets_to = lit≤ tt;
  journal_within = lit≤ tt;
  node_is_one = refl;
}

-- the example's entry with other numbers: checksum, magic, number 1, version 1, a count of 3, and the number 1 of the oldest entry that is
-- needed
abbrev pub first_numbers : List ℕ
first_numbers =
    0x78 ∷ 0x7c ∷ 0x65 ∷ 0xfa ∷ 0xb7 ∷ 0xd3 ∷ 0x4a ∷ 0x87 ∷ 0x33 ∷ 0x50 ∷ 0x62 ∷ 0xa3 ∷ 0xc1 ∷ 0x35 ∷ 0x52 ∷ 0x24
    ∷ 0x01 ∷ 0x00 ∷ 0x00 ∷ 0x00 ∷ 0x00 ∷ 0x00 ∷ 0x00 ∷ 0x00 ∷ 0x01 ∷ 0x00 ∷ 0x00 ∷ 0x00 ∷ 0x03 ∷ 0x00 ∷ 0x00 ∷ 0x00
    ∷ 0x01 ∷ 0x00 ∷ 0x00 ∷ 0x00 ∷ 0x00 ∷ 0x00 ∷ 0x00 ∷ 0x00 ∷ []

-- number 2, and again 1 as the oldest
abbrev pub second_numbers : List ℕ
second_numbers =
    0xd2 ∷ 0xec ∷ 0x26 ∷ 0x03 ∷ 0x46 ∷ 0x83 ∷ 0xe4 ∷ 0xb5 ∷ 0x33 ∷ 0x50 ∷ 0x62 ∷ 0xa3 ∷ 0xc1 ∷ 0x35 ∷ 0x52 ∷ 0x24
    ∷ 0x02 ∷ 0x00 ∷ 0x00 ∷ 0x00 ∷ 0x00 ∷ 0x00 ∷ 0x00 ∷ 0x00 ∷ 0x01 ∷ 0x00 ∷ 0x00 ∷ 0x00 ∷ 0x03 ∷ 0x00 ∷ 0x00 ∷ 0x00
    ∷ 0x01 ∷ 0x00 ∷ 0x00 ∷ 0x00 ∷ 0x00 ∷ 0x00 ∷ 0x00 ∷ 0x00 ∷ []

-- the sector of an entry with these numbers
abbrev pub sector_with : List ℕ → List ℕ
sector_with numbers = numbers ++ (example_uuid_bucket ++ (example_root ++ (example_others ++ (example_words ++ replicate 248 0))))

-- the ring goes round: entry 1 stands in the second bucket of the journal, and entry 2 in the first
abbrev pub example_image : Image
example_image = λ s. if s == 64 then sector_with second_numbers else if s == 128 then sector_with first_numbers else zeros

-- entry 7 alone, which needs those from 5 on
abbrev pub gapped_image : Image
gapped_image = λ s. if s == 64 then example_bytes ++ replicate 248 0 else zeros
