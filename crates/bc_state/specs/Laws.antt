-- The state is told by one sector, and nothing else of a pair rests on it.
use Rattle.std.specs.Prelude.{◌≡◌, ℕ, ◌<◌, ◌^◌}
use Rattle.bc_model.specs.Sector.{Value}
use Rattle.bc_super.specs.Super.{IsUsable, IsState, mode_number, state_number}
use Rattle.bc_super.specs.Writing.{IsBackingSector}
use Rattle.bc_super.specs.declared.backing.BackingSuper.{BackingSuper}
use Rattle.bc_super.specs.declared.state.BackingState.{BackingState}
use Rattle.bc_image.specs.Pair.{Pair}
use Rattle.bc_image.specs.Reading.{View, IsView}
use Rattle.bc_image.specs.Shown.{shown_by}
use Rattle.bc_image.specs.Sound.{HasSoundParts}
use Rattle.bc_state.specs.State.{IsCached, flags_with, number_of, super_in, with_sector, view_in}

-- the flags say the state, and the same mode as before
abbrev pub LawFlags : Type 0
LawFlags = (state : BackingState) (flags : ℕ) → flags < 2 ^ 64
    → let new = flags_with (number_of state) flags in
    (new < 2 ^ 64) × IsState (state_number new) state × (mode_number new ≡ mode_number flags)

-- a superblock that can be used can be so with and without a cache
abbrev pub LawUsable : Type 0
LawUsable = (sectors : ℕ) (s : BackingSuper) (state : BackingState) → IsCached state
    → IsUsable sectors s → IsUsable sectors (super_in state s)

-- the same pair, in another state
pub record IsSamePair (p : Pair) (v : View) (q : Pair) (u : View) : Type 0 where
  pub view : IsView q u
  pub sound : HasSoundParts q u
  pub shows : (s : ℕ) → shown_by q u s ≡ shown_by p v s

abbrev pub LawState : Type 0
LawState = (p : Pair) (v : View) (state : BackingState) (bytes : Value) → IsCached state
    → IsView p v → HasSoundParts p v → IsBackingSector bytes (super_in state v.backing)
    → IsSamePair p v (with_sector p bytes) (view_in state v)
