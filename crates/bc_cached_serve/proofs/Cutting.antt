-- The seat of worker 1, which is cut off from one that did all that has happened.
use Rattle.std.proofs.Common.{◌≡◌, ◌^◌, ◌<◌, List, [], ◌∷◌, refl, sym, ap, ◌∙◌, subst, arith}
use Rattle.std.specs.Prelude.{All, false, length, map}
use Rattle.std.proofs.lemmas.List.Elements.{All-cons, All-nil}
use Rattle.bc_disk.specs.Disk.{DiskFacts}
use Rattle.bc_serve.proofs.of_bc_deed.Joining.{works_kept_half}
use Rattle.bc_events.specs.declared.event.Deed.{Deed}
use Rattle.bc_events.specs.declared.event.Event.{Event}
use Rattle.bc_serve.proofs.of_bc_hand.Knowing.{IsFresh, View, fresh_since, m}
use Rattle.bc_serve.specs.bc_hand.Seats.{Works, by, empty, note, world}
use Rattle.bc_serve.proofs.of_bc_machine.Viewing.{new_view}
use Rattle.bc_serve.specs.bc_machine.Note.{note_by}
use Rattle.bc_serve.specs.bc_machine.World.{FromEach, are_plain}
use Rattle.bc_serve.specs.bc_machine.declared.part.CorePart.{CorePart}
use Rattle.bc_parts.specs.Seat.{PartsView}
use Rattle.bc_seats.specs.Seats.{Foreign, Since}
use Rattle.bc_serve.specs.Run.{events_by}
use Rattle.bc_cached_serve.proofs.Alone.{none_by}
use Rattle.bc_cached_serve.specs.Run.{IsAlone}
use Rattle.bc_cached_serve.specs.Worker.{AreAllDurable, IsReady, kept_seat, worker_seat}

module _ {C B : Type 0} (cache_facts : C → DiskFacts) (backing_facts : B → DiskFacts) where
  -- the worker's seat before anything has happened
  abbrev newborn : View cache_facts backing_facts → View cache_facts backing_facts
  newborn v = record v { first = 16; seen = []; parts = []; promises = 0 }

  foreign_deeds : (v : View cache_facts backing_facts) (ds : List Deed)
      → All (Foreign (m cache_facts backing_facts) (newborn v)) (map (by 0) ds)
  foreign_deeds v [] = All-nil (Foreign (m cache_facts backing_facts) (newborn v))
  foreign_deeds v (d ∷ ds) = All-cons (Foreign (m cache_facts backing_facts) (newborn v)) (by 0 d)
      (map (by 0) ds) ((λ n low high is. omega (arith, is, low)), (λ k holds. absurd holds))
      (foreign_deeds v ds)

  since_born : (v : View cache_facts backing_facts) (p : PartsView (CorePart C B))
      → Works cache_facts backing_facts p v empty → IsAlone cache_facts backing_facts v
      → Since (m cache_facts backing_facts) (newborn v) (world cache_facts backing_facts v)
  since_born v p works alone = record {
    others = v.seen;
    is = refl;
    follow = works.seat.seat.run;
    foreign = subst (λ (es : List Event).
        All (Foreign (m cache_facts backing_facts) (newborn v)) es) (sym alone.seen)
        (foreign_deeds v alone.deeds);
  }

  worker_works : (p : PartsView (CorePart C B)) (v : View cache_facts backing_facts)
      → Works cache_facts backing_facts p v empty → IsAlone cache_facts backing_facts v
      → Works cache_facts backing_facts p (worker_seat cache_facts backing_facts v) empty
  worker_works p v works alone =
      let b = alone.all.end in
      let live : 16 < v.end = omega arith in
      let born : IsFresh cache_facts backing_facts 16
      (world cache_facts backing_facts (newborn v)) = λ y view.
      (new_view cache_facts backing_facts v.run.start y view).late 16 in record {
        run = works.run;
        seat = record {
          seat = record { live = live; run = works.seat.seat.run };
          numbers = works.seat.numbers;
          parts = works.seat.parts;
          fresh = λ untold. fresh_since cache_facts backing_facts (newborn v)
              (world cache_facts backing_facts v) live (since_born v p works alone) born;
          bare = works.seat.bare;
        };
        parts = refl;
        stand = works.stand;
      }

  -- it has claimed nothing
  worker_unclaimed : (v : View cache_facts backing_facts) → IsAlone cache_facts backing_facts v
      → (note cache_facts backing_facts (worker_seat cache_facts backing_facts v)).range.count ≡ 0
  worker_unclaimed v alone = ap (λ (es : List Event).
      (note_by (are_plain cache_facts backing_facts v.run.start) es).range.count)
      (ap (λ (es : List Event). events_by 16 es) alone.seen
      ∙ none_by 16 0 alone.deeds (λ is. omega (arith, is)))

  -- so it can serve lines, where all that came in is durable
  pub ready_alone : (p : PartsView (CorePart C B)) (v : View cache_facts backing_facts)
      → Works cache_facts backing_facts p v empty → IsAlone cache_facts backing_facts v
      → are_plain cache_facts backing_facts p.run.start ≡ false
      → (6 < length p.run.start) × (length p.run.start < 2 ^ 32)
      → FromEach (world cache_facts backing_facts v) AreAllDurable
      → IsReady cache_facts backing_facts p v
  ready_alone p v works alone cached leaves durable = record {
    all = alone.all;
    works = works;
    worker = record {
      works = worker_works p v works alone;
      cached = cached;
      leaves = leaves;
      unclaimed = worker_unclaimed v alone;
    };
    durable = durable;
  }

  -- what is left of it
  pub kept_works : (p : PartsView (CorePart C B)) (v : View cache_facts backing_facts)
      → IsReady cache_facts backing_facts p v
      → Works cache_facts backing_facts p (kept_seat cache_facts backing_facts v) empty
  kept_works p v ready =
      let a = ready.all.first in let b = ready.all.end in
      works_kept_half cache_facts backing_facts p v 16 ready.works (omega arith) (omega arith)
