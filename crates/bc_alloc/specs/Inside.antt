-- The fields behind a `Reserves`.
use Rattle.std.specs.Prelude.{◌≡◌, ℕ, ◌≤◌, Bool, false, List, length, slice_index_or, vec_capacity}
use Rattle.std.specs.BinaryHeap.{heap_capacity}
use Rattle.bc_alloc.specs.Reserve.{flag, no_reserve}
use Rattle.bc_alloc.specs.Reserves.{Reserves, times_listed}
use Rattle.bc_alloc.specs.declared.reserves.Reserves.TheInside.{Inside}

abbrev pub reserves_in : Inside → Reserves
reserves_in r = record { count = r.count; lists = r.lists.items; raised = r.raised.buckets }

-- a bucket's flag says whether it is on a list or among the raised ones
pub record IsFlagged (r : Reserves) (listed : List Bool) : Type 0 where
  pub all : length listed ≡ r.count
  pub each : (k : ℕ) → times_listed r k ≡ flag (slice_index_or listed k false)

pub record IsKept (r : Inside) : Type 0 where
  pub four : length r.lists.items ≡ 4
  pub short : (i : ℕ) → length (slice_index_or r.lists.items i no_reserve).buckets ≤ (slice_index_or r.lists.items i no_reserve).room
  pub flagged : IsFlagged (reserves_in r) r.listed.items
  pub raised_room : r.raised.room ≡ r.count
  pub heap_room : r.count ≤ heap_capacity r.ranks
  pub taken_room : r.count ≤ vec_capacity r.taken
