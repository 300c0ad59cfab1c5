use Rattle.std.proofs.Common.{◌≡◌, ℕ, ◌+◌, ◌≤◌, [], List, Bool}
use Rattle.std.specs.Prelude.{vec_capacity, vec_len}
use Rattle.std.specs.Ordering.{nat_cmp}
use Rattle.std.specs.BinaryHeap.{IsHeap, heap_capacity, heap_items, heap_len}
use Rattle.bc_bucket.specs.declared.bucket.Bucket.{Bucket}
use Rattle.bc_alloc.specs.Choice.{AreChosen}
use Rattle.bc_alloc.proofs.victims.take_all.Given as goal

abbrev pub invariant-loop-i : goal.invariant-loop-i
invariant-loop-i l =
    IsHeap nat_cmp (heap_items l.ranks)
    × ((records : List Bucket) (listed : List Bool) (n most : ℕ) → AreChosen records listed n most (heap_items l.fn.ranks) [] → AreChosen records listed n most (heap_items l.ranks) l.taken.items)
    × (vec_len l.taken ≡ l._i)
    × (heap_len l.ranks + vec_len l.taken ≡ heap_len l.fn.ranks)
    × (heap_capacity l.ranks ≡ heap_capacity l.fn.ranks)
    × (vec_capacity l.fn.taken ≤ vec_capacity l.taken)
