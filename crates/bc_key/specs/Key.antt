use Rattle.std.specs.Prelude.{ℕ, ◌+◌, ◌-◌, ◌<◌, ◌≤◌, ◌%◌, ◌^◌, Option, Some, None, nat_lt, if◌then◌else◌, slice_index_or}
use Rattle.std.specs.declared.cmp.Ordering.{Ordering}
use Rattle.std.specs.Ordering.{nat_cmp, ordering_then}
use Rattle.bc_key.specs.declared.key.Key.{Key}
use Rattle.bc_key.specs.declared.ptr.Ptr.{Ptr}
use Rattle.bc_key.specs.Ptr.{no_ptr}

-- the first sector of a key's range
abbrev pub start_of : Key → ℕ
start_of key = key.end - key.size

-- the sectors that a key speaks of
abbrev pub Covers : Key → ℕ → Type 0
Covers key sector = (start_of key ≤ sector) × (sector < key.end)

-- the range begins at sector 0 or behind it, as each extent's does
abbrev pub IsExtent : Key → Type 0
IsExtent key = key.size ≤ key.end

-- by inode, and then by end
abbrev pub order_of : Key → Key → Ordering
order_of a b = ordering_then (nat_cmp a.inode b.inode) (nat_cmp a.end b.end)

-- pointer i of a key
abbrev pub ptr_at : Key → ℕ → Ptr
ptr_at key i = slice_index_or key.ptrs i no_ptr

-- where a sector of a range lies, by a pointer to the range's start; offsets count modulo 2 ^ 43
abbrev pub place_by : Ptr → ℕ → ℕ → ℕ
place_by ptr start sector = (ptr.offset + (sector - start)) % 2 ^ 43

-- where a sector lies by pointer i of a key
abbrev pub place_at : Key → ℕ → ℕ → ℕ
place_at key i sector = place_by (ptr_at key i) (start_of key) sector

-- the pointer that counts: the first, where there is one
abbrev pub pointer_of : Key → Option Ptr
pointer_of key = if nat_lt 0 key.count then Some (ptr_at key 0) else None
