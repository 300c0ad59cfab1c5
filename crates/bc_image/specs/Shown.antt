-- What a pair shows: which value each sector of the backing device has for its users.
use Rattle.std.specs.Prelude.{◌≡◌, ℕ, ◌+◌, ◌&&◌, Bool, false, not, nat_le, Option, Some, None, slice_index_or, if◌then◌else◌}
use Rattle.bc_disk.specs.Gens.{Gens}
use Rattle.bc_disk.specs.declared.geometry.Geometry.{Geometry}
use Rattle.bc_disk.specs.declared.gens.BucketRecord.{BucketRecord}
use Rattle.bc_model.specs.Sector.{Image, Value}
use Rattle.bc_key.specs.declared.key.Key.{Key}
use Rattle.bc_key.specs.declared.ptr.Ptr.{Ptr}
use Rattle.bc_key.specs.Key.{pointer_of, place_at}
use Rattle.bc_key.specs.Generation.{behind}
use Rattle.bc_record.specs.Places.{bucket_at}
use Rattle.bc_super.specs.Division.{IsPassThrough}
use Rattle.bc_super.specs.declared.backing.BackingSuper.{BackingSuper}
use Rattle.bc_image.specs.Pair.{Pair, HasBacking}
use Rattle.bc_image.specs.Reading.{View, IsView, key_of}

-- the record of a bucket that isn't told of
abbrev pub no_record : BucketRecord
no_record = record { priority = 0; generation = 0 }

abbrev pub generation_of : Gens → ℕ → ℕ
generation_of gens bucket = (slice_index_or gens.records bucket no_record).generation

-- how many generations a pointer lies behind its bucket
abbrev pub age_of : Geometry → Gens → Ptr → ℕ
age_of g gens ptr = behind (generation_of gens (bucket_at g ptr.offset)) ptr.generation

-- from 1 on up to 128 it is stale; above that it counts as newer
abbrev pub is_stale : ℕ → Bool
is_stale age = nat_le 1 age && nat_le age 128

-- there is a pointer, and it isn't stale
abbrev pub is_fresh : Geometry → Gens → Option Ptr → Bool
is_fresh g gens None = false
is_fresh g gens (Some ptr) = not (is_stale (age_of g gens ptr))

-- the key's data is on the cache device
abbrev pub is_live : Geometry → Gens → Key → Bool
is_live g gens key = is_fresh g gens (pointer_of key)

-- a sector's value: where its key is live the one at the key's place on the cache device, and else the backing device's
abbrev pub value_by : Geometry → Gens → Image → Option Key → ℕ → Value → Value
value_by g gens cache None sector backed = backed
value_by g gens cache (Some key) sector backed = if is_live g gens key then cache (place_at key 0 sector) else backed

-- what a cached pair gives to a sector; data begins at the offset of the backing device
abbrev pub shown_by : Pair → View → ℕ → Value
shown_by p v sector = value_by v.geometry v.reading.gens p.cache (key_of v.reading sector) sector (p.backing (v.backing.data_offset + sector))

-- What a pair shows. It shows nothing where it can't be read.
pub data IsShown (p : Pair) (shown : Image) : Type 0 where
  -- the backing device serves alone
  through : (b : BackingSuper) → HasBacking p b → IsPassThrough b → ((s : ℕ) → shown s ≡ p.backing (b.data_offset + s)) → IsShown p shown
  cached : (v : View) → IsView p v → (IsPassThrough v.backing → ⊥) → ((s : ℕ) → shown s ≡ shown_by p v s) → IsShown p shown
