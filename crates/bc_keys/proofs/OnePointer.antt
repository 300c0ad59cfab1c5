-- A key with one pointer, for examples.
use Rattle.std.proofs.Common.{ℕ, zero, suc, ◌^◌, ◌<◌, Bool, ◌∷◌, replicate, refl, sym, subst, lit<, lit≤, arith}
use Rattle.std.proofs.lemmas.List.{get_or-replicate}
use Rattle.bc_key.specs.declared.key.Key.{Key}
use Rattle.bc_key.specs.declared.ptr.Ptr.{Ptr}
use Rattle.bc_key.specs.Ptr.{no_ptr, IsZero, IsZeroFrom}

pub one_ptr : (ptr : Ptr) → IsZeroFrom 1 (ptr ∷ replicate 5 no_ptr)
one_ptr ptr zero d from below = absurd (omega arith)
one_ptr ptr (suc i) d from below = subst IsZero (sym (get_or-replicate 5 i no_ptr d (omega arith))) (refl, refl, refl)

abbrev pub one_pointer_key : (end size : ℕ) → Bool → Ptr → end < 2 ^ 64 → size < 2 ^ 16 → Key
one_pointer_key end size dirty ptr end_fits size_fits = record {
  inode = 0;
  end = end;
  size = size;
  dirty = dirty;
  csum = 0;
  count = 1;
  ptrs = ptr ∷ replicate 5 no_ptr;
  inode_fits = lit< tt;
  end_fits = end_fits;
  size_fits = size_fits;
  csum_fits = lit< tt;
  count_fits = lit≤ tt;
  six_places = refl;
  no_more_ptrs = one_ptr ptr;
}

-- a pointer to the device 0
abbrev pub ptr_to : (offset generation : ℕ) → offset < 2 ^ 43 → generation < 2 ^ 8 → Ptr
ptr_to offset generation offset_fits generation_fits =
    record { dev = 0; offset = offset; generation = generation; dev_fits = lit< tt; offset_fits = offset_fits; generation_fits = generation_fits }
