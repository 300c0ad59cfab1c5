-- The ring of journal buckets: entries follow each other in a bucket, and the buckets are used one after the other, over and over.
use Rattle.std.specs.Prelude.{◌≡◌, ℕ, ◌+◌, ◌*◌, ◌%◌, ◌<◌, ◌≤◌, Bool, ◌&&◌, ◌||◌, not, nat_lt, nat_le, if◌then◌else◌, List, length, slice_index, slice_set, Option, Some, None}
use Rattle.bc_disk.specs.declared.geometry.Geometry.{Geometry}
use Rattle.bc_record.specs.Sectors.{in_blocks}
use Rattle.bc_journal.specs.declared.place.Place.{Place}

-- what a ring is seen as
pub record Ring : Type 0 where
  pub geometry : Geometry
  -- behind the last entry
  pub next : Place
  -- for each journal bucket the greatest number of an entry in it, 0 where there is none
  pub newest : List ℕ

-- at a block's beginning in a journal bucket, or at its end
pub record IsPlace (g : Geometry) (p : Place) : Type 0 where
  pub bucket : p.bucket < g.journal
  pub inside : p.sector ≤ g.bucket
  pub block : p.sector % g.block ≡ 0

pub record IsRing (ring : Ring) : Type 0 where
  pub buckets : length ring.newest ≡ ring.geometry.journal
  pub next : IsPlace ring.geometry ring.next

-- the journal bucket that is used after one
abbrev pub following : Geometry → ℕ → ℕ
following g bucket = if nat_lt (bucket + 1) g.journal then bucket + 1 else 0

-- each entry in the bucket is older than the oldest one that is needed
abbrev pub is_free : Ring → ℕ → ℕ → Bool
is_free ring low bucket = nat_lt (slice_index ring.newest bucket) low

-- A bucket is begun where it is free. The last free one is kept for entries without keys.
abbrev pub may_begin : Ring → ℕ → Bool → ℕ → Bool
may_begin ring low keyed bucket = is_free ring low bucket && (not keyed || is_free ring low (following ring.geometry bucket))

-- Where an entry of so many sectors goes: behind the last one, or where that would cross the bucket's end to the front of the bucket
-- behind, if that may be begun. `low` is the oldest entry that is needed as the newest durable entry says.
abbrev pub place_of : Ring → ℕ → Bool → ℕ → Option Place
place_of ring low keyed sectors =
    if nat_le (ring.next.sector + sectors) ring.geometry.bucket then Some ring.next
    else (if may_begin ring low keyed (following ring.geometry ring.next.bucket)
    then Some (record { bucket = following ring.geometry ring.next.bucket; sector = 0 }) else None)

-- the ring once an entry of this number and so many sectors is in it
abbrev pub with_entry : Ring → Place → ℕ → ℕ → Ring
with_entry ring place sectors number =
    record {
      geometry = ring.geometry;
      next = record { bucket = place.bucket; sector = place.sector + sectors };
      newest = slice_set ring.newest place.bucket number;
    }

-- how many sectors an entry with so many words of keys takes: whole blocks
abbrev pub sectors_for : Geometry → ℕ → ℕ
sectors_for g words = in_blocks g.block (240 + 8 * words)
