-- Lists, records and open buckets fit each other while pins come and go.
use Rattle.std.proofs.Common.{◌≡◌, ℕ, ◌<◌, List, length, get_or, refl, ◌∙◌, arith}
use Rattle.bc_alloc.proofs.Fits.{held_stays, same_length, still_for}
use Rattle.bc_alloc.specs.Buckets.{AreFor}
use Rattle.bc_alloc.specs.Reserves.{Reserves}
use Rattle.bc_bucket.specs.declared.bucket.Bucket.{Bucket}
use Rattle.bc_bucket.specs.Buckets.{Buckets, changed}
use Rattle.bc_fill.proofs.Opens.{first_below, first_free}
use Rattle.bc_fill.specs.Fill.{AreOpen}
use Rattle.bc_fill.specs.declared.fill.Open.{Open}
use Rattle.bc_deed.specs.bc_machine.declared.part.BucketsPart.{BucketsPart}
use Rattle.bc_place.proofs.Parts.{are_open}

-- a change of a record that leaves alone whether its bucket is held
module _ (f : Bucket → Bucket) (keeps : (x : Bucket) → (f x).held ≡ x.held) (k : ℕ) where
  pub still_fit : (r : Reserves) (b : Buckets) → AreFor r b → AreFor r (changed f k b)
  still_fit r b h = still_for r r b (changed f k b) h refl (same_length f k b)
      (λ j some. (some, held_stays f keeps k b j))

  pub still_open : (fs : List Open) (r : Reserves) (b : Buckets) → AreOpen fs r b
      → AreOpen fs r (changed f k b)
  still_open fs r b h = record {
    distinct = h.distinct;
    each = λ j some. let e = h.each j some in (e.0, held_stays f keeps k b j ∙ e.1, e.2);
    free = h.free;
  }

-- the first open bucket is one of the device, and has a free sector
pub first_known : (p : BucketsPart) (d : Open) → 0 < length p.fill
    → (get_or p.fill 0 d).bucket < length p.buckets.records
first_known p d some = first_below p.fill d (length p.buckets.records) some
    (λ k there. let low = ((are_open p).each k there).0 in
    let same = p.fit.same_count in omega (arith, low, same))

pub first_room : (p : BucketsPart) (d : Open) → 0 < length p.fill
    → (get_or p.fill 0 d).next < p.buckets.size
first_room p d some = first_free p.buckets.size p.fill d some (are_open p).free
