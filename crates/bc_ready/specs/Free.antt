-- How many more buckets the lists may have, and whether a bucket may go.
use Rattle.std.specs.Prelude.{◌≡◌, ℕ, ◌<◌, ◌≤◌, false, List, length, slice_index_or}
use Rattle.bc_alloc.specs.Reserve.{Reserve, free, no_reserve, times}
use Rattle.bc_alloc.specs.Reserves.{times_listed}
use Rattle.bc_bucket.specs.Buckets.{bucket_of}
use Rattle.bc_raise.specs.bc_machine.declared.part.BucketsPart.{BucketsPart}
use Rattle.bc_raise.specs.bc_renew.Ready.{IsTaken}
use Rattle.bc_ready.specs.declared.plan.Free.{Free}

-- each list has room for so many more
pub record AreFree (f : Free) (ls : List Reserve) : Type 0 where
  pub four : length ls ≡ 4
  pub priorities : f.priorities ≡ free (slice_index_or ls 0 no_reserve)
  pub moving : f.moving ≡ free (slice_index_or ls 1 no_reserve)
  pub tree : f.tree ≡ free (slice_index_or ls 2 no_reserve)
  pub plain : f.plain ≡ free (slice_index_or ls 3 no_reserve)

-- a bucket of the device is nobody's and on no list, and stands among these once at most
pub record IsLooseOnce (p : BucketsPart) (ks : List ℕ) (k : ℕ) : Type 0 where
  pub once : times k ks ≤ 1
  pub there : k < p.reserves.count
  pub listed : times_listed p.reserves k ≡ 0
  pub not_held : (bucket_of p.buckets k).held ≡ false

-- so is one that was taken
pub record IsTakenOnce (p : BucketsPart) (ks : List ℕ) (k : ℕ) : Type 0 where
  pub once : times k ks ≤ 1
  pub taken : IsTaken p k
