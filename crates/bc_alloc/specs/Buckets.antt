-- What taking, raising and storing buckets does to their records.
use Rattle.std.specs.Prelude.{◌≡◌, ℕ, ◌<◌, false, List, fold, length}
use Rattle.bc_bucket.specs.declared.bucket.Bucket.{Bucket}
use Rattle.bc_bucket.specs.declared.bucket.Mark.TheVariants as marks
use Rattle.bc_bucket.specs.Bucket.{made_durable, marked}
use Rattle.bc_bucket.specs.Buckets.{Buckets, bucket_of, changed}
use Rattle.bc_alloc.specs.Reserve.{times}
use Rattle.bc_alloc.specs.Reserves.{Reserves, times_listed}

-- these reserves are of these buckets, and none that is listed is held
pub record AreFor (r : Reserves) (b : Buckets) : Type 0 where
  pub same_count : length b.records ≡ r.count
  pub not_held : (k : ℕ) → 0 < times_listed r k → (bucket_of b k).held ≡ false

-- each of these buckets has changed so
abbrev pub all_changed : (Bucket → Bucket) → List ℕ → Buckets → Buckets
all_changed f ks b = fold (λ (b : Buckets) k. changed f k b) b ks

-- nothing is in it that anybody needs
abbrev pub unmarked : Bucket → Bucket
unmarked b = marked marks.None 0 b

-- and its generation stands in durable priority sets
abbrev pub made_ready : Bucket → Bucket
made_ready b = unmarked (made_durable b)

-- these buckets of the device are on no list, not among the raised ones, and not held
abbrev pub AreLoose : Reserves → Buckets → List ℕ → Type 0
AreLoose r b ks = (k : ℕ) → 0 < times k ks → (k < r.count) × (times_listed r k ≡ 0) × ((bucket_of b k).held ≡ false)
