-- What a cut leaves of a key.
use Rattle.std.specs.Prelude.{◌≡◌, ℕ, ◌+◌, ◌<◌, ◌≤◌, ◌%◌, ◌^◌}
use Rattle.bc_key.specs.declared.key.Key.{Key}
use Rattle.bc_key.specs.declared.ptr.Ptr.{Ptr}
use Rattle.bc_key.specs.Key.{Covers, ptr_at, place_at}

-- all but a key's range and pointers
pub record KeepsKind (old new : Key) : Type 0 where
  pub inode : new.inode ≡ old.inode
  pub dirty : new.dirty ≡ old.dirty
  pub csum : new.csum ≡ old.csum
  pub count : new.count ≡ old.count

-- n sectors further on; offsets count modulo 2 ^ 43
pub record MovesPtr (n : ℕ) (old new : Ptr) : Type 0 where
  pub dev : new.dev ≡ old.dev
  pub offset : new.offset ≡ (old.offset + n) % 2 ^ 43
  pub generation : new.generation ≡ old.generation

-- new is old without its first n sectors
pub record CutsFront (n : ℕ) (old new : Key) : Type 0 where
  pub kind : KeepsKind old new
  pub end : new.end ≡ old.end
  pub size : new.size + n ≡ old.size
  pub ptrs : (i : ℕ) → i < old.count → MovesPtr n (ptr_at old i) (ptr_at new i)

-- new is old without its last n sectors
pub record CutsBack (n : ℕ) (old new : Key) : Type 0 where
  pub kind : KeepsKind old new
  pub end : new.end + n ≡ old.end
  pub size : new.size + n ≡ old.size
  pub ptrs : new.ptrs ≡ old.ptrs

-- Of the sectors from `from` up to `to`, new speaks of those that old does, of no other, and each lies where it lay.
pub record Narrows (old new : Key) (from to : ℕ) : Type 0 where
  pub inside : (sector : ℕ) → Covers new sector → Covers old sector × (from ≤ sector) × (sector < to)
  pub all : (sector : ℕ) → Covers old sector → from ≤ sector → sector < to → Covers new sector
  pub places : (sector i : ℕ) → Covers new sector → i < old.count → place_at new i sector ≡ place_at old i sector
