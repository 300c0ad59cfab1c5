-- Places in open buckets: where they come from, and that they are fresh.
use Rattle.std.specs.Prelude.{◌≡◌, ◌≢◌, ℕ, ◌+◌, ◌-◌, ◌*◌, ◌<◌, ◌==◌, true, false, min, List, [], ◌∷◌, ◌++◌, map, Option, Some, None, if◌then◌else◌}
use Rattle.bc_bucket.specs.Bucket.{with_held}
use Rattle.bc_bucket.specs.Buckets.{Buckets, bucket_of, changed}
use Rattle.bc_alloc.specs.declared.purpose.Purpose.TheVariants as purposes
use Rattle.bc_alloc.specs.Reserve.{IsDistinct, times}
use Rattle.bc_alloc.specs.Reserves.{Reserves, TakesFirst, times_listed}
use Rattle.bc_fill.specs.declared.fill.Open.{Open}
use Rattle.bc_fill.specs.declared.fill.Placed.{Placed}

-- an open bucket in which nothing is placed yet
abbrev pub just_opened : ℕ → Open
just_opened k = record { bucket = k; next = 0 }

-- each has a free sector
abbrev pub HaveFree : ℕ → List Open → Type 0
HaveFree size [] = Unit {0}
HaveFree size (o ∷ fs) = (o.next < size) × HaveFree size fs

abbrev pub bucket_numbers : List Open → List ℕ
bucket_numbers fs = map (λ o. o.bucket) fs

-- each open bucket is one of the device, is held, stands on no list, and has a free sector, and no
-- two are the same
pub record AreOpen (fs : List Open) (r : Reserves) (b : Buckets) : Type 0 where
  pub distinct : IsDistinct (bucket_numbers fs)
  pub each : (k : ℕ) → 0 < times k (bucket_numbers fs) → (k < r.count) × ((bucket_of b k).held ≡ true) × (times_listed r k ≡ 0)
  pub free : HaveFree b.size fs

-- a bucket with its next sector after so many were placed; a full one is open no longer
abbrev pub after : ℕ → ℕ → Open → List Open → List Open
after size n o rest = if o.next + n == size then rest else record o { next = o.next + n } ∷ rest

-- the sectors from the first open bucket's next free one on, as many as are asked for or as it has
pub record IsPlacedIn (b : Buckets) (o : Open) (count : ℕ) (p : Placed) : Type 0 where
  pub sectors : p.count ≡ min count (b.size - o.next)
  pub device : p.ptr.dev ≡ 0
  pub offset : p.ptr.offset ≡ o.bucket * b.size + o.next
  pub generation : p.ptr.generation ≡ (bucket_of b o.bucket).generation

-- the open buckets, once one was opened or none
abbrev pub with_opened : Option ℕ → List Open → List Open
with_opened None fs = fs
with_opened (Some k) fs = fs ++ just_opened k ∷ []

-- a full bucket is let go
abbrev pub shut_if_full : ℕ → ℕ → Open → Buckets → Buckets
shut_if_full size n o b = if o.next + n == size then changed (with_held false) o.bucket b else b

-- the place is in the first open bucket, and begins at its next free sector, which moves behind it
pub record IsCut (fs gs : List Open) (b d : Buckets) (count : ℕ) (p : Placed) : Type 0 where
  pub first : Open
  pub rest : List Open
  pub were : fs ≡ first ∷ rest
  pub placed : IsPlacedIn b first count p
  pub are : gs ≡ after b.size p.count first rest
  pub buckets : d ≡ shut_if_full b.size p.count first b

-- a bucket was taken for data, where none was open
abbrev pub IsOpened : Option ℕ → List Open → Reserves → Reserves → Buckets → Buckets → Type 0
IsOpened None fs r q b d = (fs ≢ []) × (q ≡ r) × (d ≡ b)
IsOpened (Some k) fs r q b d = (fs ≡ []) × TakesFirst purposes.Plain k r q × (d ≡ changed (with_held true) k b)

-- a bucket is opened where none was, and then the place is cut
pub record Places (p : Placed) (count : ℕ) (fs gs : List Open) (r q : Reserves) (b d : Buckets) : Type 0 where
  -- the buckets once one was opened
  pub between : Buckets
  pub opening : IsOpened p.opened fs r q b between
  pub cut : IsCut (with_opened p.opened fs) gs between d count p
