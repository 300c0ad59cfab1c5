-- How many sectors a backing device has, no event changes.
use Rattle.std.proofs.Common.{◌≡◌, inl, Bool, true, false, List, [], ◌∷◌, Option, Some, None, refl, ap, ◌∙◌}
use Rattle.std.specs.Prelude.{fold, if◌then◌else◌}
use Rattle.bc_disk.specs.Disk.{DiskFacts}
use Rattle.bc_disk.specs.declared.disk.Device.TheVariants.{Backing}
use Rattle.bc_events.specs.Columns.{Call, call_by}
use Rattle.bc_events.specs.declared.event.Event.{Event}
use Rattle.bc_started.specs.bc_hand.Seats.{View, world}
use Rattle.bc_started.specs.bc_machine.World.{IsBacking, Side, World, after, called, counted, same_device}
use Rattle.bc_started.specs.bc_machine.declared.part.BackingPart.{BackingPart}
use Rattle.bc_session.specs.Close.{HasMade, Outcome}

one_call : (o : Option Call) (x : Side) → (called Backing o x).sectors ≡ x.sectors
one_call None x = refl
one_call (Some call) x = go (same_device call.device Backing)
  where
    go : (b : Bool) → (if b then counted call.failed x else x).sectors ≡ x.sectors
    go true = refl
    go false = refl

pub stay : (x : World) (es : List Event) → (fold after x es).backing.sectors ≡ x.backing.sectors
stay x [] = refl
stay x (e ∷ es) = stay (after x e) es ∙ one_call (call_by e.deed) x.backing

module _ {C B : Type 0} (cache_facts : C → DiskFacts) (backing_facts : B → DiskFacts) where
  pub sectors_of : (v w : View {C = C} {B = B} cache_facts backing_facts) {r : Outcome}
      → HasMade cache_facts backing_facts r v w → (d : BackingPart B)
      → IsBacking {C = C} {B = B} cache_facts backing_facts d (world cache_facts backing_facts w)
      → (backing_facts d.disk).sectors ≡ (world cache_facts backing_facts v).backing.sectors
  sectors_of v w made d on =
      (on (world cache_facts backing_facts w) (inl refl)).stands.sectors
      ∙ ap (λ (x : World). x.backing.sectors) made.done.is
      ∙ stay (world cache_facts backing_facts v) made.done.all
