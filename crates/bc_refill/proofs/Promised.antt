-- A seat that has room for more deeds has waited, but for that.
use Rattle.std.proofs.Common.{◌≡◌, [], None, refl, sym, ◌∙◌}
use Rattle.std.proofs.lemmas.List.{append-nil}
use Rattle.bc_disk.specs.Disk.{DiskFacts}
use Rattle.bc_new_chain.proofs.of_bc_chain.of_bc_hand.Knowing.{View, m}
use Rattle.bc_new_chain.proofs.of_bc_chain.of_bc_place.Keeping.{keeps_waited as places_waited}
use Rattle.bc_new_chain.proofs.of_bc_held.Keeping.{keeps_waited as held_waited}
use Rattle.bc_new_chain.specs.bc_hand.Seats.{IsCoreSeat}
use Rattle.bc_new_chain.specs.bc_held.Taken.{KeepsHeld}
use Rattle.bc_new_chain.specs.bc_place.Written.{KeepsPlaces}
use Rattle.bc_seats.specs.Seats.{Since, Waited, Went, own_events, state_seen}

module _ {C B : Type 0} (cache_facts : C → DiskFacts) (backing_facts : B → DiskFacts)
    (v w : View cache_facts backing_facts) (seat : IsCoreSeat cache_facts backing_facts v)
    (went : Went (m cache_facts backing_facts) v [] w)
    (since : Since (m cache_facts backing_facts) v (state_seen (m cache_facts backing_facts) w))
    (told : w.heard ≡ v.heard) where
  -- with the room that it had
  abbrev before : View cache_facts backing_facts
  before = record w { promises = v.promises }

  waited : Waited (m cache_facts backing_facts) v before
  waited = record {
    same = record { run = went.same.run; first = went.same.first; end = went.same.end };
    promises = refl;
    own = went.own ∙ append-nil (own_events (m cache_facts backing_facts) v);
    since = since;
    grown = record { more = went.grown.more; seen = went.grown.seen; rest = went.grown.rest };
    heard = λ none. sym told ∙ none;
  }

  pub places_promised : KeepsPlaces cache_facts backing_facts v w
  places_promised = let keeps = places_waited cache_facts backing_facts v before seat waited in
      record {
        opening = record { apart = keeps.opening.apart; before = keeps.opening.before };
        own = keeps.own;
        written = keeps.written;
      }

  pub held_promised : KeepsHeld cache_facts backing_facts v w
  held_promised = let keeps = held_waited cache_facts backing_facts None v before seat waited in
      record { held = keeps.held; vacant = keeps.vacant; other = keeps.other }
