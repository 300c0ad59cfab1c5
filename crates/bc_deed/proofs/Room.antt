-- Room for deeds: a seat that has more of it has waited, but for what it was promised.
use Rattle.std.proofs.Common.{◌≡◌, ℕ, Bool, [], sym, ◌∙◌, refl}
use Rattle.std.proofs.lemmas.List.{append-nil}
use Rattle.bc_disk.specs.Disk.{DiskFacts}
use Rattle.bc_parts.specs.Seat.{PartsView}
use Rattle.bc_seats.specs.Seats.{Since, Waited, Kept, Went, own_events, state_seen}
use Rattle.bc_hand.specs.bc_machine.declared.part.CorePart.{CorePart}
use Rattle.bc_hand.specs.bc_machine.Note.{IsFirmer}
use Rattle.bc_hand.specs.declared.hand.Hand.{Hand}
use Rattle.bc_hand.specs.Seats.{note, IsCoreSeat, Works}
use Rattle.bc_hand.proofs.Knowing.{View, m, note_waited}
use Rattle.bc_hand.proofs.Lending.{works_waited}

module _ {C B : Type 0} (cache_facts : C → DiskFacts) (backing_facts : B → DiskFacts) where
  -- with the room that it had
  abbrev as_before : View cache_facts backing_facts → View cache_facts backing_facts
      → View cache_facts backing_facts
  as_before v w = record w { promises = v.promises }

  waited_for : (v w : View cache_facts backing_facts) → Went (m cache_facts backing_facts) v [] w
      → Since (m cache_facts backing_facts) v (state_seen (m cache_facts backing_facts) w)
      → w.heard ≡ v.heard → Waited (m cache_facts backing_facts) v (as_before v w)
  waited_for v w went since told = record {
    same = record { run = went.same.run; first = went.same.first; end = went.same.end };
    promises = refl;
    own = went.own ∙ append-nil (own_events (m cache_facts backing_facts) v);
    since = since;
    grown = record { more = went.grown.more; seen = went.grown.seen; rest = went.grown.rest };
    heard = λ none. sym told ∙ none;
  }

  pub works_promised : (p : PartsView (CorePart C B)) (v w : View cache_facts backing_facts) (h : Hand C B)
      (changed : ℕ → Bool) → Works cache_facts backing_facts p v h
      → Kept (m cache_facts backing_facts) v w changed → Went (m cache_facts backing_facts) v [] w
      → Since (m cache_facts backing_facts) v (state_seen (m cache_facts backing_facts) w)
      → w.heard ≡ v.heard → Works cache_facts backing_facts p w h
  works_promised p v w h changed works kept went since told =
      let on = works_waited cache_facts backing_facts p v (as_before v w) h works
      (record { live = kept.seat.live; run = kept.seat.run }) (waited_for v w went since told) kept.parts in
      record {
        run = on.run;
        seat = record {
          seat = kept.seat;
          numbers = on.seat.numbers;
          parts = on.seat.parts;
          fresh = on.seat.fresh;
          bare = on.seat.bare;
        };
        parts = on.parts;
        stand = on.stand;
      }

  pub note_promised : (v w : View cache_facts backing_facts) → IsCoreSeat cache_facts backing_facts v
      → Went (m cache_facts backing_facts) v [] w
      → Since (m cache_facts backing_facts) v (state_seen (m cache_facts backing_facts) w)
      → w.heard ≡ v.heard → IsFirmer (note cache_facts backing_facts v) (note cache_facts backing_facts w)
  note_promised v w seat went since told =
      note_waited cache_facts backing_facts v (as_before v w) seat (waited_for v w went since told)
