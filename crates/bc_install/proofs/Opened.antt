-- What a part of buckets knows stays where it is touched.
use Rattle.std.proofs.Common.{◌≡◌, ℕ, ◌<◌, Bool, List, [], ◌∷◌, true}
use Rattle.std.proofs.Math.Logic.{∥∥₁_elim}
use Rattle.std.proofs.Props.{props}
use Rattle.bc_alloc.specs.Buckets.{AreFor}
use Rattle.bc_alloc.specs.Reserve.{IsDistinct, times}
use Rattle.bc_alloc.specs.Reserves.{Reserves, times_listed}
use Rattle.bc_bucket.specs.Buckets.{Buckets, bucket_of}
use Rattle.bc_change.specs.bc_machine.declared.part.BucketsPart.{BucketsPart}
use Rattle.bc_fill.specs.Fill.{AreOpen, HaveFree, bucket_numbers}
use Rattle.bc_fill.specs.declared.fill.Open.{Open}

-- ---- what is true of open buckets has one proof

free_prop : (size : ℕ) (fs : List Open) → IsProp (HaveFree size fs)
free_prop size [] x y = λ i. tt
free_prop size (o ∷ fs) x y =
    let one_prop : IsProp (o.next < size) = hlevel props in
    λ i. (one_prop x.0 y.0 i, free_prop size fs x.1 y.1 i)

open_prop : (fs : List Open) (r : Reserves) (b : Buckets) → IsProp (AreOpen fs r b)
open_prop fs r b x y =
    let distinct_prop : IsProp (IsDistinct (bucket_numbers fs)) = hlevel props in
    let each_prop : IsProp ((k : ℕ) → 0 < times k (bucket_numbers fs)
    → (k < r.count) × ((bucket_of b k).held ≡ true) × (times_listed r k ≡ 0)) = hlevel props in
    λ i. record {
      distinct = distinct_prop x.distinct y.distinct i;
      each = each_prop x.each y.each i;
      free = free_prop b.size fs x.free y.free i;
    }

pub are_open : (p : BucketsPart) → AreOpen p.fill p.reserves p.buckets
are_open p = ∥∥₁_elim p.open (open_prop p.fill p.reserves p.buckets) (λ x. x)

-- ---- touched

pub fit_touched : (r : Reserves) (b : Buckets) (t : List Bool) → AreFor r b
    → AreFor r (record b { touched = t })
fit_touched r b t h = record { same_count = h.same_count; not_held = h.not_held }

pub open_touched : (fs : List Open) (r : Reserves) (b : Buckets) (t : List Bool) → AreOpen fs r b
    → AreOpen fs r (record b { touched = t })
open_touched fs r b t h = record { distinct = h.distinct; each = h.each; free = h.free }
