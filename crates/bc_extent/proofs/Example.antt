-- The definition, computed: sectors 0 to 15, and then 4 to 7 over them.
use Rattle.std.proofs.Common.{◌≡◌, ℕ, ◌^◌, ◌<◌, false, [], ◌∷◌, replicate, Some, None, refl, sym, subst, lit<, arith}
use Rattle.std.proofs.lemmas.List.{get_or-replicate}
use Rattle.bc_key.specs.declared.key.Key.{Key}
use Rattle.bc_key.specs.Ptr.{no_ptr, IsZero, IsZeroFrom}
use Rattle.bc_extent.specs.LastKey.{last_key}

no_ptrs : IsZeroFrom 0 (replicate 6 no_ptr)
no_ptrs i d from below = subst IsZero (sym (get_or-replicate 6 i no_ptr d below)) (refl, refl, refl)

-- a key without pointers
abbrev bare_key : (end size : ℕ) → end < 2 ^ 64 → size < 2 ^ 16 → Key
bare_key end size end_fits size_fits = record {
  inode = 0;
  end = end;
  size = size;
  dirty = false;
  csum = 0;
  count = 0;
  ptrs = replicate 6 no_ptr;
  inode_fits = lit< tt;
  end_fits = end_fits;
  size_fits = size_fits;
  csum_fits = lit< tt;
  count_fits = omega arith;
  six_places = refl;
  no_more_ptrs = no_ptrs;
}

abbrev older : Key
older = bare_key 16 16 (lit< tt) (lit< tt)

abbrev newer : Key
newer = bare_key 8 4 (lit< tt) (lit< tt)

last_of_two : (last_key (older ∷ newer ∷ []) 3 ≡ Some older) × (last_key (older ∷ newer ∷ []) 4 ≡ Some newer) × (last_key (older ∷ newer ∷ []) 8 ≡ Some older) × (last_key (older ∷ newer ∷ []) 16 ≡ None)
last_of_two = (refl, refl, refl, refl)
