-- Seats cut in two, and joined again.
use Rattle.std.proofs.Common.{◌≡◌, ℕ, ◌<◌, ◌≤◌, [], Option, Some, None, refl, sym, ◌∙◌, subst, arith}
use Rattle.std.specs.Prelude.{false, length}
use Rattle.std.specs.Option.{option_or}
use Rattle.bc_disk.specs.Disk.{DiskFacts}
use Rattle.bc_parts.specs.Later.{SeesLater}
use Rattle.bc_parts.specs.Seat.{PartsView, Run}
use Rattle.bc_seats.specs.Seats.{state_seen}
use Rattle.bc_seats.proofs.Knowing.{since_later}
use Rattle.bc_hand.specs.bc_machine.declared.part.CorePart.{CorePart}
use Rattle.bc_hand.specs.bc_machine.World.{data_of, IsView, InEach, opening}
use Rattle.bc_hand.proofs.of_bc_machine.Viewing.{new_view}
use Rattle.bc_hand.specs.Seats.{world, Works, empty}
use Rattle.bc_hand.proofs.Knowing.{View, m, fresh_since, bare_since}
use Rattle.bc_deed.specs.Begun.{HasJoined}

none_left : {A : Type 0} (a b : Option A) → option_or a b ≡ None → a ≡ None
none_left None b is = refl
none_left (Some x) b is = absurd (cc)

module _ {C B : Type 0} (cache_facts : C → DiskFacts) (backing_facts : B → DiskFacts) where
  -- ---- before anything has happened

  pub works_kept_half : (p : PartsView (CorePart C B)) (v : View cache_facts backing_facts) (at : ℕ)
      → Works cache_facts backing_facts p v empty → v.first < at → at < v.end
      → Works cache_facts backing_facts p (record v { end = at }) empty
  works_kept_half p v at works low high = record {
    run = works.run;
    seat = record {
      seat = record { live = low; run = works.seat.seat.run };
      numbers = let few = works.seat.numbers in omega arith;
      parts = works.seat.parts;
      fresh = works.seat.fresh;
      bare = works.seat.bare;
    };
    parts = works.parts;
    stand = works.stand;
  }

  pub works_other_half : (p : PartsView (CorePart C B)) (v : View cache_facts backing_facts) (at : ℕ)
      → Works cache_facts backing_facts p v empty → v.seen ≡ [] → v.first < at → at < v.end
      → Works cache_facts backing_facts p (record v { first = at; parts = []; promises = 0 }) empty
  works_other_half p v at works none low high = record {
    run = works.run;
    seat = record {
      seat = record { live = high; run = works.seat.seat.run };
      numbers = works.seat.numbers;
      parts = works.seat.parts;
      fresh = λ untold y view. (new_view cache_facts backing_facts v.run.start y
          (subst (λ es. IsView (state_seen (m cache_facts backing_facts) (record v { seen = es })) y) none view)).late at;
      bare = works.seat.bare;
    };
    parts = refl;
    stand = works.stand;
  }

  -- ---- joined

  pub works_joined : (p : PartsView (CorePart C B)) (v o w : View cache_facts backing_facts)
      → Works cache_facts backing_facts p v empty → Works cache_facts backing_facts p o empty
      → w.run ≡ v.run → w.first ≡ v.first → w.end ≡ o.end → o.first ≡ v.end → w.parts ≡ v.parts
      → w.heard ≡ option_or v.heard o.heard → SeesLater (m cache_facts backing_facts) v w.seen
      → Works cache_facts backing_facts p w empty
  works_joined p v o w a b run first_is end_is next parts told sees =
      let since = since_later (m cache_facts backing_facts) v w sees run in
      let live = a.seat.seat.live in
      let more = b.seat.seat.live in
      let fresh = fresh_since cache_facts backing_facts v (world cache_facts backing_facts w) live since in record {
        run = run ∙ a.run;
        seat = record {
          seat = record {
            live = omega arith;
            run = subst (λ (r : Run (CorePart C B)). Rattle.bc_parts.specs.Machine.IsRun (m cache_facts backing_facts)
                (opening cache_facts backing_facts r.start) w.seen) (sym run) sees.run;
          };
          numbers = subst (λ n. n ≤ 320) (sym end_is) b.seat.numbers;
          parts = subst (λ (r : Run (CorePart C B)). 5 < length r.start) (sym run) a.seat.parts;
          fresh = λ none. subst (λ n. InEach (world cache_facts backing_facts w) (λ y. (data_of y).late n ≡ false))
              (sym first_is) (fresh (a.seat.fresh (none_left v.heard o.heard (sym told ∙ none))));
          bare = bare_since cache_facts backing_facts v (world cache_facts backing_facts w) a.seat.bare since;
        };
        parts = parts ∙ a.parts;
        stand = record {
          spine = tt;
          leaves = tt;
          flight = tt;
          buckets = tt;
          journal = tt;
          cache = tt;
          backing = tt;
        };
      }

  pub has_joined : (v o w : View cache_facts backing_facts) → w.run ≡ v.run → w.first ≡ v.first
      → w.end ≡ o.end → SeesLater (m cache_facts backing_facts) v w.seen
      → SeesLater (m cache_facts backing_facts) o w.seen → HasJoined cache_facts backing_facts v o w
  has_joined v o w run first_is end_is mine its = record {
    run = run;
    first = first_is;
    end = end_is;
    seen = (its.grows.others, its.grows.behind);
    own = mine.own;
    others = its.own;
  }
