use Rattle.std.proofs.Common.{◌≡◌, ℕ, ◌+◌, ◌<◌, length, slice_index, slice_index_or}
use Rattle.bc_key.specs.Ptr.{IsZeroFrom}
use Rattle.bc_key.specs.Words.{ReadsAsPtr}
use Rattle.bc_key.specs.declared.ptr.Ptr.{Ptr}
use Rattle.bc_key.proofs.words.key_of.Given as goal

abbrev pub invariant-loop-i : goal.invariant-loop-i
invariant-loop-i l = record {
  six : length l.ptrs ≡ 6;
  read : (j : ℕ) (d : Ptr) → j < l.i → ReadsAsPtr (slice_index l.words (2 + j)) (slice_index_or l.ptrs j d);
  rest : IsZeroFrom l.i l.ptrs;
}
