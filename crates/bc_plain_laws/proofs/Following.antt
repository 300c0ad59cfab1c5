-- A run of the machine is one of the core, where both devices tell what they hold.
use Rattle.std.proofs.Common.{◌≡◌, true, List, [], ◌∷◌, refl, ◌∙◌}
use Rattle.std.specs.Prelude.{fold}
use Rattle.bc_disk.specs.Disk.{DiskFacts}
use Rattle.bc_parts.specs.Machine.{IsRun}
use Rattle.bc_events.specs.Run as core
use Rattle.bc_events.specs.declared.event.Event.{Event}
use Rattle.bc_hand.specs.bc_machine.World.{World, after, is_plain, is_told}
use Rattle.bc_hand.specs.bc_machine.Standing.{told_event}
use Rattle.bc_hand.specs.Seats.{core as machine}

pub told_events : (x : World) (es : List Event) → is_told (fold after x es) ≡ is_told x
told_events x [] = refl
told_events x (e ∷ es) = told_events (after x e) es ∙ told_event x e

pub opening_events : (x : World) (es : List Event) → (fold after x es).opening ≡ x.opening
opening_events x [] = refl
opening_events x (e ∷ es) = opening_events (after x e) es

pub offset_events : (x : World) (es : List Event) → (fold after x es).offset ≡ x.offset
offset_events x [] = refl
offset_events x (e ∷ es) = offset_events (after x e) es

pub ahead_events : (x : World) (es : List Event) → (fold after x es).ahead ≡ x.ahead
ahead_events x [] = refl
ahead_events x (e ∷ es) = ahead_events (after x e) es

pub now_events : (x : World) (es : List Event) → (fold after x es).now ≡ core.run x.opening x.now es
now_events x [] = refl
now_events x (e ∷ es) = now_events (after x e) es

module _ {C B : Type 0} (cache_facts : C → DiskFacts) (backing_facts : B → DiskFacts) where
  pub follows : (x : World) (es : List Event) → is_told x ≡ true → is_plain x ≡ true
      → IsRun (machine cache_facts backing_facts) x es → core.IsRun x.opening x.now es
  follows x [] told plain h = tt
  follows x (e ∷ es) told plain h =
      ((h.0.allowed told plain).enabled, follows (after x e) es (told_event x e ∙ told) plain h.1)
