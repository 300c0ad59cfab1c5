use Rattle.std.proofs.Common.{◌≤◌, []}
use Rattle.std.specs.Ordering.{nat_cmp}
use Rattle.std.specs.BinaryHeap.{IsHeap, heap_capacity, heap_items, heap_len}
use Rattle.bc_alloc.specs.Choice.{AreChosen}
use Rattle.bc_alloc.proofs.victims.collect.Given as goal

abbrev pub invariant-loop-k : goal.invariant-loop-k
invariant-loop-k l = IsHeap nat_cmp (heap_items l.ranks) × AreChosen l.records l.listed l.k l.most (heap_items l.ranks) [] × (heap_len l.ranks ≤ l.k) × (l.count ≤ heap_capacity l.ranks)
