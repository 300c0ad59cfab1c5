-- What is read of a device is what a state of the machine means.
use Rattle.std.specs.Prelude.{◌≡◌, ℕ, List, ◌∷◌, map, Option, Some, None}
use Rattle.bc_disk.specs.declared.geometry.Geometry.{Geometry}
use Rattle.bc_key.specs.declared.key.Key.{Key}
use Rattle.bc_key.specs.Key.{pointer_of}
use Rattle.bc_meta.specs.Keys.{Ref, ref_by, last_ref}
use Rattle.bc_meta.specs.Entries.{Entry}
use Rattle.bc_meta.specs.Chain.{bytes_of}
use Rattle.bc_facts.specs.Seen.{seen_entry, seen_entries}
use Rattle.bc_facts.specs.Reads.{back, gens_of}
use Rattle.bc_image.specs.Reading.{Reading, key_of}

-- what the key that a sector has says of it
abbrev pub ref_of : Option Key → ℕ → Option Ref
ref_of None s = None
ref_of (Some key) s = ref_by key s (pointer_of key)

-- These entries were read, and each sector has what the index says; the chain has these buckets,
-- and modulo 256 these generations.
pub record Means (g : Geometry) (r : Reading) (newest : Entry) (older : List Entry)
    (index : List Key) (buckets gens : List ℕ) : Type 0 where
  pub entries : seen_entries g r.entries ≡ newest ∷ older
  pub newest_is : seen_entry g r.newest.item ≡ newest
  pub keys : (s : ℕ) → ref_of (key_of r s) s ≡ last_ref index s
  pub chain : r.gens.chain ≡ map (back g) buckets
  pub gens_are : gens_of r.gens.records ≡ bytes_of gens
