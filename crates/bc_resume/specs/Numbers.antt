-- The greatest numbers of entries in the journal's buckets.
use Rattle.std.specs.Prelude.{◌≡◌, ℕ, ◌+◌, ◌<◌, ◌==◌, if◌then◌else◌, List, length, slice_index}
use Rattle.bc_disk.specs.declared.geometry.Geometry.{Geometry}
use Rattle.bc_jset.specs.Entries.{FoundEntry}
use Rattle.bc_jset.specs.Ring.{bucket_of, greatest_in}

-- the entry's number, where it was found in this bucket
abbrev pub number_in : Geometry → ℕ → FoundEntry → ℕ
number_in g bucket e = if bucket_of g e == bucket then e.item.seq else 0

-- for each journal bucket the greatest number of the entries that are found in it, 0 where none is
pub record AreNewest (g : Geometry) (all : List FoundEntry) (numbers : List ℕ) : Type 0 where
  pub each : length numbers ≡ g.journal
  pub greatest : (i : ℕ) → i < g.journal → slice_index numbers i ≡ greatest_in g (g.first_bucket + i) all
