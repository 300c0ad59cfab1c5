-- A chain of one set: a cache device of 128 buckets, all but one of which were never used.
use Rattle.std.specs.Prelude.{ℕ, ◌-◌, List, ◌∷◌, drop, replicate, refl}
use Rattle.std.proofs.Common.{lit<, lit≤}
use Rattle.bc_bytes.specs.Checksum.{checksum}
use Rattle.bc_bytes.specs.Fields.{with_number}
use Rattle.bc_model.specs.Sector.{Image}
use Rattle.bc_disk.specs.Bytes.{image_of}
use Rattle.bc_disk.specs.declared.geometry.Geometry.{Geometry}
use Rattle.bc_disk.specs.declared.gens.BucketRecord.{BucketRecord}

abbrev pub example_geometry : Geometry
example_geometry = record {
  block = 1;
  bucket = 64;
  nbuckets = 128;
  first_bucket = 1;
  journal = 2;
  set_magic = 1;
  node_sectors = 64;
  block_is_one = refl;
  bucket_is_one = refl;
  bucket_from = lit≤ tt;
  bucket_to = lit≤ tt;
  first_behind_super = lit< tt;
  buckets_from = lit≤ tt;
  buckets_to = lit≤ tt;
  journal_within = lit≤ tt;
  node_is_one = refl;
}

abbrev pub unused : BucketRecord
unused = record { priority = 0; generation = 0 }

-- bucket 0 has priority 65,535 and generation 3
abbrev pub example_records : List BucketRecord
example_records = record { priority = 65535; generation = 3 } ∷ replicate 127 unused

-- the bytes of an empty bucket, with the magic, and with the record of bucket 0
unfoldable pub example_blank : List ℕ
example_blank = replicate 32768 0

unfoldable pub example_head : List ℕ
example_head = with_number 8 example_blank 8 0x6750_e15f_8733_7f90

unfoldable pub example_half : List ℕ
example_half = with_number 2 example_head 40 65535

unfoldable pub example_body : List ℕ
example_body = with_number 1 example_half 42 3

-- and with the checksum
unfoldable pub example_set : List ℕ
example_set = with_number 8 example_body 0 (checksum 0xffff_ffff_ffff_ffff (drop 8 example_body))

-- the set stands in bucket 3, the first one behind the journal
abbrev pub example_image : Image
example_image = λ s. image_of example_set (s - 192)
