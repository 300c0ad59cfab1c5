-- What a seat goes on to know of what leaves wait for.
use Rattle.std.proofs.Common.{ℕ, List, [], ◌∷◌, sym, subst}
use Rattle.std.specs.Prelude.{fold}
use Rattle.bc_disk.specs.Disk.{DiskFacts}
use Rattle.bc_events.specs.declared.event.Event.{Event}
use Rattle.bc_append.proofs.of_bc_hand.Knowing.{View, m}
use Rattle.bc_append.specs.bc_machine.World.{FromEach, World, after}
use Rattle.bc_append.specs.bc_machine.declared.part.CorePart.{CorePart}
use Rattle.bc_parts.specs.Machine.{IsRun}
use Rattle.bc_parts.specs.Seat.{PartsView}
use Rattle.bc_seats.specs.Seats.{Lasting, Waited, Went, state_seen}
use Rattle.bc_seats.proofs.Knowing.{lasts}
use Rattle.bc_turn.specs.Laws.{LawKnown}
use Rattle.bc_turn.specs.Part.{HasWrittenSets}
use Rattle.bc_turn.specs.Need.{IsToCome, PartNeedsFrom}
use Rattle.bc_turn.proofs.Lasting.{law_lasts}

module _ {C B : Type 0} (cache_facts : C → DiskFacts) (backing_facts : B → DiskFacts) where
  pub lasts_on : (F : World → Type 0) → Lasting (m cache_facts backing_facts) F → (es : List Event)
      (x : World) → IsRun (m cache_facts backing_facts) x es → F x → F (fold after x es)
  lasts_on F keeps [] x follow h = h
  lasts_on F keeps (e ∷ es) x follow h =
      lasts_on F keeps es (after x e) follow.1 (keeps x e follow.0 h)

  -- whatever the seat and others have done
  pub went : (F : World → Type 0) → Lasting (m cache_facts backing_facts) F
      → (v w : View cache_facts backing_facts) (es : List Event)
      → Went (m cache_facts backing_facts) v es w
      → F (state_seen (m cache_facts backing_facts) v) → F (state_seen (m cache_facts backing_facts) w)
  went F keeps v w es h was = subst F (sym h.is)
      (lasts_on F keeps h.all (state_seen (m cache_facts backing_facts) v) h.follow was)

  pub come_stays : (low : ℕ) → Lasting (m cache_facts backing_facts) (λ y. FromEach y (IsToCome low))
  come_stays low y e on h = law_lasts.come y e low h

  pub part_stays : (count part low : ℕ)
      → Lasting (m cache_facts backing_facts) (λ y. FromEach y (PartNeedsFrom count part low))
  part_stays count part low y e on h = law_lasts.part y e count part low h

  pub law_known : LawKnown {C = C} {B = B} cache_facts backing_facts
  law_known = record {
    come = λ v w ds low done h. went (λ y. FromEach y (IsToCome low)) (come_stays low) v w _ done h;
    part = λ v w ds count part low done h. went (λ y. FromEach y (PartNeedsFrom count part low))
        (part_stays count part low) v w _ done h;
  }

  pub come_waited : (v w : View cache_facts backing_facts) (low : ℕ)
      → Waited (m cache_facts backing_facts) v w
      → FromEach (state_seen (m cache_facts backing_facts) v) (IsToCome low)
      → FromEach (state_seen (m cache_facts backing_facts) w) (IsToCome low)
  come_waited v w low h was = lasts (m cache_facts backing_facts) v _
      (λ y. FromEach y (IsToCome low)) (come_stays low) h.since was

  pub part_waited : (v w : View cache_facts backing_facts) (count part low : ℕ)
      → Waited (m cache_facts backing_facts) v w
      → FromEach (state_seen (m cache_facts backing_facts) v) (PartNeedsFrom count part low)
      → FromEach (state_seen (m cache_facts backing_facts) w) (PartNeedsFrom count part low)
  part_waited v w count part low h was = lasts (m cache_facts backing_facts) v _
      (λ y. FromEach y (PartNeedsFrom count part low)) (part_stays count part low) h.since was

  pub sets_know : (p : PartsView (CorePart C B)) (v w : View cache_facts backing_facts)
      (count part low : ℕ) → HasWrittenSets cache_facts backing_facts p low v w
      → FromEach (state_seen (m cache_facts backing_facts) v) (PartNeedsFrom count part low)
      → FromEach (state_seen (m cache_facts backing_facts) w) (PartNeedsFrom count part low)
  sets_know p v w count part low sets was =
      law_known.part v w sets.deeds count part low sets.done was
