-- What a crash leaves of a pair while it is opened or closed.
use Rattle.std.specs.Prelude.{◌≡◌, ◌⊎◌, ◌==◌, if◌then◌else◌}
use Rattle.bc_model.specs.Sector.{Image, Value}
use Rattle.bc_disk.specs.Disk.{DiskFacts, IfTold}
use Rattle.bc_entries.specs.Journal.{Journal}
use Rattle.bc_entered.specs.Enter.{TearsNone, WasRead}
use Rattle.bc_entered.specs.Laws.{IsSameImage, ShowsTheSame}
use Rattle.bc_image.specs.Pair.{Pair}
use Rattle.bc_image.specs.Reading.{IsView, View}
use Rattle.bc_image.specs.Sound.{HasSoundParts}
use Rattle.bc_replay.specs.Causes.{OfHeld}
use Rattle.bc_state.specs.State.{IsCached, super_in}
use Rattle.bc_super.specs.Writing.{IsBackingSector}
use Rattle.bc_super.specs.declared.backing.BackingSuper.{BackingSuper}
use Rattle.bc_super.specs.declared.state.BackingState.{BackingState}

-- ---- the backing device

-- it says of its cache a state that it may say, and else has what it had
pub record SaysState (May : BackingState → Type 0) (b : BackingSuper) (held image : Image)
    : Type 0 where
  pub state : BackingState
  pub may : May state
  pub cached : IsCached state
  pub bytes : Value
  pub sector : IsBackingSector bytes (super_in state b)
  pub same : IsSameImage (λ s. if s == 8 then bytes else held s) image

-- a crash leaves what the device held, or but for such a state
abbrev pub ChangesState : (BackingState → Type 0) → BackingSuper → DiskFacts → DiskFacts → Type 0
ChangesState May b old new = IfTold old.holds (λ held. (image : Image) → new.may_leave image
    → IsSameImage held image ⊎ SaysState May b held image)

-- ---- both devices

-- a crash would leave just what the device holds
abbrev pub IsStill : DiskFacts → Type 0
IsStill d = IfTold d.holds (λ held. (image : Image) → d.may_leave image → IsSameImage held image)

-- the premise: no part of an opening's entry is read as a whole one by chance
abbrev pub TearsNoEntry : Pair → View → Type 0
TearsNoEntry p v = (read : Journal) → WasRead p v read → TearsNone v.geometry p.cache read

-- where the pair is sound, each that a crash of these devices leaves is sound, and shows the same
abbrev pub ShowsOn : DiskFacts → DiskFacts → Pair → Type 0
ShowsOn cache backing p = (v : View) → IsView p v → HasSoundParts p v → TearsNoEntry p v
    → (c b : Image) → cache.may_leave c → backing.may_leave b
    → ShowsTheSame p v (record p { cache = c; backing = b })

-- so it is of the pair that two devices held, of which a crash would have left just that
abbrev pub LeavesThePair : DiskFacts → DiskFacts → DiskFacts → DiskFacts → Type 0
LeavesThePair cache cache' backing backing' =
    IsStill cache → IsStill backing → OfHeld (ShowsOn cache' backing') cache backing
