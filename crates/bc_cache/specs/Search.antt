-- While the slots are gone through.
use Rattle.std.specs.Prelude.{◌≡◌, ℕ, Bool, ◌<◌, ◌≤◌, List, Option, Some, None, nat_le, slice_get, if◌then◌else◌}
use Rattle.bc_cache.specs.declared.slots.Cached.{Cached}
use Rattle.bc_cache.specs.declared.slots.Found.{Found}
use Rattle.bc_cache.specs.Slots.{CanGo, last_use}

-- of the slots below k
pub record IsOldestBelow (slots : List (Option Cached)) (k : ℕ) (found : Found) : Type 0 where
  pub kept : Option Cached
  pub there : slice_get slots found.slot ≡ Some kept
  pub below : found.slot < k
  pub can_go : CanGo kept
  pub since : found.used ≡ last_use kept
  pub least : (i : ℕ) (other : Option Cached) → i < k → slice_get slots i ≡ Some other → CanGo other
      → last_use kept ≤ last_use other
  pub first : (i : ℕ) (other : Option Cached) → i < found.slot → slice_get slots i ≡ Some other
      → CanGo other → last_use kept < last_use other

-- none of the slots below k can be used, or this is the oldest one of them
abbrev pub AreOldest : List (Option Cached) → ℕ → Option Found → Type 0
AreOldest slots k None = (i : ℕ) (other : Option Cached) → i < k → slice_get slots i ≡ Some other → ¬ (CanGo other)
AreOldest slots k (Some found) = IsOldestBelow slots k found

-- of two slots, the second one where it can be used and was used before the other
abbrev pub older_of : Option Found → ℕ → Option ℕ → Option Found
older_of known slot None = known
older_of None slot (Some used) = Some (record { slot = slot; used = used })
older_of (Some found) slot (Some used) =
    if nat_le found.used used then Some found else Some (record { slot = slot; used = used })

-- ---- what is set in a slot

abbrev pub with_use : Option Cached → ℕ → Option Cached
with_use None used = None
with_use (Some cached) used = Some (record cached { used = used })

abbrev pub with_hold : Option Cached → Bool → Option Cached
with_hold None held = None
with_hold (Some cached) held = Some (record cached { held = held })
