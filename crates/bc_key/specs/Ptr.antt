use Rattle.std.specs.Prelude.{◌≡◌, ℕ, ◌<◌, ◌≤◌, List, slice_index_or}
use Rattle.std.proofs.Common.{lit<}
use Rattle.bc_key.specs.declared.ptr.Ptr.{Ptr}

-- what stands where there is no pointer
abbrev pub no_ptr : Ptr
no_ptr = record { dev = 0; offset = 0; generation = 0; dev_fits = lit< tt; offset_fits = lit< tt; generation_fits = lit< tt }

-- each field is 0
abbrev pub IsZero : Ptr → Type 0
IsZero ptr = (ptr.dev ≡ 0) × (ptr.offset ≡ 0) × (ptr.generation ≡ 0)

-- of six places for pointers, those from a count on hold none
abbrev pub IsZeroFrom : ℕ → List Ptr → Type 0
IsZeroFrom count ptrs = (i : ℕ) (d : Ptr) → count ≤ i → i < 6 → IsZero (slice_index_or ptrs i d)
