-- Where pointers point. Of a key with several pointers the first alone counts, but where all of them are spoken of.
use Rattle.std.specs.Prelude.{◌≡◌, ℕ, ◌+◌, ◌%◌, ◌<◌, ◌≤◌, Some}
use Rattle.bc_disk.specs.declared.geometry.Geometry.{Geometry}
use Rattle.bc_key.specs.declared.key.Key.{Key}
use Rattle.bc_key.specs.declared.ptr.Ptr.{Ptr}
use Rattle.bc_key.specs.Key.{ptr_at, pointer_of}
use Rattle.bc_prio.specs.Chain.{IsPlace}
use Rattle.bc_record.specs.Places.{bucket_at}

-- n sectors from the pointer on lie whole in one data bucket: one behind the journal's. So no place by it counts over 2 ^ 43.
pub record LiesInData (g : Geometry) (ptr : Ptr) (n : ℕ) : Type 0 where
  pub device : ptr.dev ≡ 0
  pub bucket : IsPlace g (bucket_at g ptr.offset)
  pub whole : ptr.offset % g.bucket + n ≤ g.bucket

-- so do the key's sectors by each of its pointers
abbrev pub PointsIntoData : Geometry → Key → Type 0
PointsIntoData g key = (i : ℕ) → i < key.count → LiesInData g (ptr_at key i) key.size

-- the key points into this bucket
abbrev pub PointsInto : Geometry → Key → ℕ → Type 0
PointsInto g key bucket = (ptr : Ptr) × (pointer_of key ≡ Some ptr) × (bucket_at g ptr.offset ≡ bucket)
