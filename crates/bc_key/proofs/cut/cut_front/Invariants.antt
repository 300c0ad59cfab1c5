use Rattle.std.proofs.Common.{◌≡◌, ℕ, ◌<◌, ◌≤◌, length, slice_index_or}
use Rattle.bc_key.specs.Cut.{MovesPtr}
use Rattle.bc_key.specs.declared.ptr.Ptr.{Ptr}
use Rattle.bc_key.proofs.cut.cut_front.Given as goal

abbrev pub invariant-loop-i : goal.invariant-loop-i
invariant-loop-i l = record {
  six : length l.ptrs ≡ 6;
  moved : (j : ℕ) (d : Ptr) → j < l.i → MovesPtr l.n (slice_index_or l.k.ptrs j d) (slice_index_or l.ptrs j d);
  rest : (j : ℕ) (d : Ptr) → l.i ≤ j → slice_index_or l.ptrs j d ≡ slice_index_or l.k.ptrs j d;
}
