-- What a walk counts of a leaf: each key, cut where the buckets end that it points into.
use Rattle.std.specs.Prelude.{◌≡◌, ℕ, ◌+◌, ◌*◌, ◌<◌, ◌≤◌, max, nat_lt, List, [], ◌∷◌, length, Option, Some, None, if◌then◌else◌}
use Rattle.bc_bucket.specs.Buckets.{Buckets, bucket_of}
use Rattle.bc_bucket.specs.Walk.{walked}
use Rattle.bc_bucket.specs.declared.walk.Found.{Found}
use Rattle.bc_bucket.specs.declared.walk.Reference.{Reference}
use Rattle.bc_key.specs.Key.{place_by, pointer_of, start_of}
use Rattle.bc_key.specs.declared.key.Key.{Key}
use Rattle.bc_key.specs.declared.ptr.Ptr.{Ptr}
use Rattle.bc_mark.specs.bc_machine.declared.part.BucketsPart.{BucketsPart}
use Rattle.bc_mark.specs.bc_rounds.Rounds.{SameBeside}
use Rattle.bc_node.specs.Leaf.{Leaf}

-- so many sectors of a key from this one on, which count for this bucket
pub record Piece : Type 0 where
  pub first : ℕ
  pub count : ℕ
  pub bucket : ℕ

-- All that it points to lies in one bucket of the device. What lies before the first bucket of the
-- core counts for that one, as it does to the core.
pub record LiesInOne (size before : ℕ) (key : Key) (ptr : Ptr) (p : Piece) : Type 0 where
  pub some : 0 < p.count
  pub own : ℕ
  pub bucket : p.bucket ≡ max own before
  pub each : (s : ℕ) → p.first ≤ s → s < p.first + p.count
      → (own * size ≤ place_by ptr (start_of key) s)
      × (place_by ptr (start_of key) s < own * size + size)

-- pieces of a key, one behind the other, from a sector up to another
abbrev pub AreCut : (size before : ℕ) → Key → Ptr → ℕ → List Piece → ℕ → Type 0
AreCut size before key ptr from [] to = from ≡ to
AreCut size before key ptr from (p ∷ ps) to = (p.first ≡ from) × LiesInOne size before key ptr p
    × AreCut size before key ptr (from + p.count) ps to

abbrev pub reference_of : Key → Ptr → ℕ → Reference
reference_of key ptr count =
    record { generation = ptr.generation; sectors = count; dirty = key.dirty }

-- counted for a bucket, if that is one of the device
abbrev pub counted_at : Buckets → ℕ → Reference → List Found → List Found
counted_at b k r walk =
    if nat_lt k (length b.records) then walked k (bucket_of b k).generation r walk else walk

abbrev pub all_counted : Buckets → Key → Ptr → List Piece → List Found → List Found
all_counted b key ptr [] walk = walk
all_counted b key ptr (p ∷ ps) walk = all_counted b key ptr ps
    (counted_at b p.bucket (reference_of key ptr p.count) walk)

-- from one sector of a key up to another all is counted that it points to
pub record IsCountedTo (b : Buckets) (before : ℕ) (key : Key) (ptr : Ptr) (from to : ℕ)
    (old new : List Found) : Type 0 where
  pub pieces : List Piece
  pub cut : AreCut b.size before key ptr from pieces to
  pub is : new ≡ all_counted b key ptr pieces old

-- all of a key; one without a pointer counts for nothing
abbrev pub IsPointedCounted : Buckets → ℕ → Key → Option Ptr → List Found → List Found → Type 0
IsPointedCounted b before key None old new = new ≡ old
IsPointedCounted b before key (Some ptr) old new =
    IsCountedTo b before key ptr (start_of key) key.end old new

abbrev pub IsKeyCounted : Buckets → ℕ → Key → List Found → List Found → Type 0
IsKeyCounted b before key old new = IsPointedCounted b before key (pointer_of key) old new

-- one key behind the other
abbrev pub AreKeysCounted : Buckets → ℕ → List Key → List Found → List Found → Type 0
AreKeysCounted b before [] old new = new ≡ old
AreKeysCounted b before (key ∷ keys) old new = (mid : List Found) × IsKeyCounted b before key old mid
    × AreKeysCounted b before keys mid new

-- The leaf's keys are counted in the round of a part, and the round has come to the leaf's end.
pub record HasCounted (before : ℕ) (leaf : Leaf) (p q : BucketsPart) : Type 0 where
  pub beside : SameBeside p q
  pub buckets : q.buckets ≡ p.buckets
  pub going : q.round.going ≡ p.round.going
  pub next : q.round.next ≡ leaf.end
  pub walk : AreKeysCounted p.buckets before leaf.keys p.round.walk q.round.walk
