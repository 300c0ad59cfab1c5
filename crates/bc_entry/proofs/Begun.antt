-- What the first seat of a run knows as the run begins.
use Rattle.std.proofs.Common.{◌≡◌, ◌≤◌, List, [], ◌∷◌, refl, ◌∙◌, arith}
use Rattle.std.specs.List.{All}
use Rattle.std.proofs.lemmas.Bool.{ltb-true}
use Rattle.std.proofs.lemmas.List.Elements.{All-head}
use Rattle.bc_disk.specs.Disk.{DiskFacts}
use Rattle.bc_events.specs.declared.event.Event.{Event}
use Rattle.bc_deed.specs.bc_hand.Seats.{world}
use Rattle.bc_deed.proofs.of_bc_hand.Knowing.{View, m}
use Rattle.bc_sealing.specs.bc_machine.World.{World, after}
use Rattle.bc_parts.specs.Machine.{IsRun}
use Rattle.bc_seats.specs.Seats.{Foreign}
use Rattle.std.specs.Prelude.{fold}
use Rattle.bc_entry.specs.Laws.{LawAlone}

module _ {C B : Type 0} (cache_facts : C → DiskFacts) (backing_facts : B → DiskFacts) where
  none_else : (v : View cache_facts backing_facts) → v.first ≡ 0 → 320 ≤ v.end → (x : World)
      (es : List Event) → IsRun (m cache_facts backing_facts) x es
      → All (Foreign (m cache_facts backing_facts) v) es → fold after x es ≡ x
  none_else v first end x [] follow foreign = refl
  none_else v first end x (e ∷ es) follow foreign =
      let low = ltb-true e.seat 320 follow.0.seat in
      absurd ((All-head (Foreign (m cache_facts backing_facts) v) e es foreign).0 e.seat
      (omega (arith, first)) (omega (arith, low, end)) refl)

  pub law_alone : LawAlone {C = C} {B = B} cache_facts backing_facts
  law_alone v w first end waited = waited.since.is
      ∙ none_else v first end (world cache_facts backing_facts v) waited.since.others
      waited.since.follow waited.since.foreign
