-- The seat of worker 1 is taken in again: nothing else happened meanwhile, and it can be cut off
-- for the next line.
use Rattle.std.proofs.Common.{◌≡◌, ◌≢◌, inl, inr, ℕ, ◌<◌, ◌≤◌, List, [], ◌∷◌, ◌++◌, Option, None, Some, append_assoc, refl, sym, ap, ◌∙◌, subst, arith}
use Rattle.std.specs.Prelude.{Err, IfErr, IfOk, Ok, Result, false, fold, map}
use Rattle.std.specs.Option.{option_or}
use Rattle.std.proofs.lemmas.Bool.{cases_lt}
use Rattle.bc_serve.specs.bc_deed.Begun.{HasJoined}
use Rattle.bc_serve.specs.bc_deed.Flushed.{HasDone}
use Rattle.bc_disk.specs.Disk.{DiskFacts}
use Rattle.bc_events.specs.declared.event.Deed.{Deed}
use Rattle.bc_events.specs.declared.event.Event.{Event}
use Rattle.bc_serve.proofs.of_bc_hand.Knowing.{View, m}
use Rattle.bc_serve.specs.bc_hand.Seats.{Works, by, empty, note, world}
use Rattle.bc_serve.specs.bc_job.declared.job.Job.{Job}
use Rattle.bc_serve.specs.bc_machine.Note.{Note, note_by}
use Rattle.bc_serve.specs.bc_machine.World.{FromEach, InEach, World, after, are_plain, data_of, opening}
use Rattle.bc_serve.specs.bc_machine.declared.part.CorePart.{CorePart}
use Rattle.bc_parts.specs.Machine.{IsRun}
use Rattle.bc_parts.specs.Seat.{PartsView, Run}
use Rattle.bc_flush.specs.bc_request.Asked.{IsIdle}
use Rattle.bc_flush.specs.bc_request.declared.error.RequestError.{RequestError}
use Rattle.bc_script.specs.declared.answer.Answer.{Answer}
use Rattle.bc_serve.specs.Run.{events_by}
use Rattle.std.proofs.lemmas.List.Sums.{fold-append}
use Rattle.bc_cached_serve.proofs.Alone.{ended_there, nothing_behind, own_both, went_on}
use Rattle.bc_cached_serve.proofs.Durable.{durable_behind}
use Rattle.bc_cached_serve.proofs.Going.{keeping_of}
use Rattle.bc_cached_serve.specs.Answered.{HasAnsweredRead, HasHalfServedRead, HasServedRead, HasStoppedRead}
use Rattle.bc_cached_serve.specs.Deeds.{AreKeeping}
use Rattle.bc_cached_serve.specs.Worker.{AreAllDurable, IsReady, IsTakenIn, kept_seat, worker_seat}
use Rattle.bc_session.specs.bc_started.First.{HasAll}

none_right : {A : Type 0} (a b : Option A) → option_or a b ≡ None → b ≡ None
none_right None b is = is
none_right (Some x) b is = absurd (cc)

none_last : (xs ys : List Event) → xs ++ ys ≡ [] → ys ≡ []
none_last [] ys is = is
none_last (x ∷ xs) ys is = absurd (cc)

above : (n : ℕ) → n ≢ 16 → 16 ≤ n → 16 < n
above n other more = grind (arith, other, more)

module _ {C B : Type 0} (cache_facts : C → DiskFacts) (backing_facts : B → DiskFacts) where
  -- what a seat has done that changes no value
  pub record HasGone (v w : View cache_facts backing_facts) : Type 0 where
    pub deeds : List Deed
    pub done : HasDone cache_facts backing_facts deeds v w
    pub keeping : AreKeeping deeds

  -- its numbers are the next ones
  pub next_of : (v k u o : View cache_facts backing_facts)
      → k ≡ kept_seat cache_facts backing_facts v → u ≡ worker_seat cache_facts backing_facts v
      → o.first ≡ u.first → o.first ≡ k.end
  next_of v k u o kept new same = same
      ∙ ap (λ (y : View cache_facts backing_facts). y.first) new
      ∙ sym (ap (λ (y : View cache_facts backing_facts). y.end) kept)

  module _ (p : PartsView (CorePart C B)) (v o x : View cache_facts backing_facts)
      (ready : IsReady cache_facts backing_facts p v)
      (joined : HasJoined cache_facts backing_facts (kept_seat cache_facts backing_facts v) o x)
      (works : Works cache_facts backing_facts p x empty) where
    follow : IsRun (m cache_facts backing_facts) (opening cache_facts backing_facts x.run.start)
        x.seen
    follow = works.seat.seat.run

    module _ (ds : List Deed)
        (done : HasDone cache_facts backing_facts ds (worker_seat cache_facts backing_facts v) o)
      where
        last_first : o.first ≡ 16
        last_first = done.same.first

        last_end : o.end ≡ 320
        last_end = done.same.end ∙ ready.all.end

        all_again : HasAll cache_facts backing_facts x
        all_again = record {
          first = joined.first ∙ ready.all.first;
          end = joined.end ∙ last_end;
        }

        below : (n : ℕ) → n < 16 → events_by n x.seen ≡ events_by n v.seen
        below n less = let a = ready.all.first in joined.own n (omega arith) less

        -- those of its numbers
        its : (n : ℕ) → n < 320 → 16 ≤ n → events_by n x.seen ≡ events_by n o.seen
        its n low more = let a = last_first in let b = last_end in
            joined.others n (omega arith) (omega arith)

        others : (n : ℕ) → n < 320 → n ≢ 16 → events_by n x.seen ≡ events_by n v.seen
        others n low other = elim (cases_lt n 16) [
          | inl less ↦ below n less
          | inr more ↦ (let b = ready.all.end in
              its n low more ∙ done.grown.rest n (above n other more) (omega arith))
        ]

        own : events_by 16 x.seen ≡ events_by 16 v.seen ++ map (by 16) ds
        own = its 16 (omega arith) (omega arith)
            ∙ ap (λ n. events_by n o.seen) (sym last_first) ∙ done.own

        behind : x.seen ≡ v.seen ++ (done.grown.more ++ joined.seen.0)
        behind = joined.seen.1
            ∙ ap (λ (l : List Event). l ++ joined.seen.0) done.grown.seen
            ∙ append_assoc v.seen done.grown.more joined.seen.0

        seen_is : x.seen ≡ v.seen ++ map (by 16) ds
        seen_is = went_on cache_facts backing_facts
            (opening cache_facts backing_facts x.run.start) v.seen x.seen 16
            (done.grown.more ++ joined.seen.0) ds follow behind others own

        -- nothing came behind what it has seen
        none_more : (n : ℕ) → n < 320 → events_by n joined.seen.0 ≡ []
        none_more n low = elim (cases_lt n 16) [
          | inl less ↦ none_last (events_by n done.grown.more) (events_by n joined.seen.0)
              (sym (own_both n done.grown.more joined.seen.0)
              ∙ nothing_behind (events_by n v.seen)
              (events_by n (done.grown.more ++ joined.seen.0))
              (sym (own_both n v.seen (done.grown.more ++ joined.seen.0))
              ∙ ap (λ (l : List Event). events_by n l) (sym behind) ∙ below n less))
          | inr more ↦ nothing_behind (events_by n o.seen) (events_by n joined.seen.0)
              (sym (own_both n o.seen joined.seen.0)
              ∙ ap (λ (l : List Event). events_by n l) (sym joined.seen.1) ∙ its n low more)
        ]

        last_seen : o.seen ≡ x.seen
        last_seen = ended_there cache_facts backing_facts
            (opening cache_facts backing_facts x.run.start) o.seen x.seen joined.seen.0 follow
            joined.seen.1 none_more

        pub taken_in : IsTakenIn cache_facts backing_facts ds v o x
        taken_in = record {
          all = all_again;
          run = joined.run;
          seen = seen_is;
          last = last_seen;
        }

        same_run : o.run ≡ x.run
        same_run = done.same.run ∙ sym joined.run

        pub same_world : world cache_facts backing_facts o ≡ world cache_facts backing_facts x
        same_world = ap (λ (r : Run (CorePart C B)).
            fold after (opening cache_facts backing_facts r.start) o.seen) same_run
            ∙ ap (λ (l : List Event). fold after (opening cache_facts backing_facts x.run.start) l)
            last_seen

        -- what it has noted, it notes as well once it is cut off again
        pub same_note : note cache_facts backing_facts (worker_seat cache_facts backing_facts x)
            ≡ note cache_facts backing_facts o
        same_note = ap (λ (r : Run (CorePart C B)).
            note_by (are_plain cache_facts backing_facts r.start) (events_by 16 x.seen))
            (sym same_run)
            ∙ ap (λ (l : List Event). note_by (are_plain cache_facts backing_facts o.run.start)
            (events_by 16 l)) (sym last_seen)
            ∙ ap (λ n. note_by (are_plain cache_facts backing_facts o.run.start)
            (events_by n o.seen)) (sym last_first)

        durable_still : AreKeeping ds → FromEach (world cache_facts backing_facts x) AreAllDurable
        durable_still are = subst (λ (y : World). FromEach y AreAllDurable)
            (sym (ap (λ (r : Run (CorePart C B)).
            fold after (opening cache_facts backing_facts r.start) x.seen) joined.run
            ∙ ap (λ (l : List Event). fold after (opening cache_facts backing_facts v.run.start) l)
            seen_is
            ∙ fold-append after (opening cache_facts backing_facts v.run.start) v.seen
            (map (by 16) ds)))
            (durable_behind 16 (world cache_facts backing_facts v) ds are ready.durable)

        module _ (idle : IsIdle cache_facts backing_facts p o)
            (heard : x.heard ≡ option_or v.heard o.heard) where
          fresh : x.heard ≡ None → InEach (world cache_facts backing_facts x)
              (λ y. (data_of y).late 16 ≡ false)
          fresh untold = subst (λ (w : World). InEach w (λ y. (data_of y).late 16 ≡ false))
              same_world (subst (λ n. InEach (world cache_facts backing_facts o)
              (λ y. (data_of y).late n ≡ false)) last_first
              (idle.works.seat.fresh (none_right v.heard o.heard (sym heard ∙ untold))))

          pub ready_again : AreKeeping ds → IsReady cache_facts backing_facts p x
          ready_again are = let b = all_again.end in record {
            all = all_again;
            works = works;
            worker = record {
              works = record {
                run = works.run;
                seat = record {
                  seat = record { live = omega arith; run = follow };
                  numbers = works.seat.numbers;
                  parts = works.seat.parts;
                  fresh = fresh;
                  bare = works.seat.bare;
                };
                parts = refl;
                stand = works.stand;
              };
              cached = idle.cached;
              leaves = idle.leaves;
              unclaimed = ap (λ (n : Note). n.range.count) same_note ∙ idle.unclaimed;
            };
            durable = durable_still are;
          }

  -- of what is left of a seat where it was cut off
  module _ (p : PartsView (CorePart C B)) (v k u o x : View cache_facts backing_facts)
      (ready : IsReady cache_facts backing_facts p v)
      (kept : k ≡ kept_seat cache_facts backing_facts v)
      (new : u ≡ worker_seat cache_facts backing_facts v)
      (joined : HasJoined cache_facts backing_facts k o x)
      (works : Works cache_facts backing_facts p x empty) where
    joined_kept : HasJoined cache_facts backing_facts (kept_seat cache_facts backing_facts v) o x
    joined_kept = subst (λ (y : View cache_facts backing_facts).
        HasJoined cache_facts backing_facts y o x) kept joined

    done_new : (ds : List Deed) → HasDone cache_facts backing_facts ds u o
        → HasDone cache_facts backing_facts ds (worker_seat cache_facts backing_facts v) o
    done_new ds done = subst (λ (y : View cache_facts backing_facts).
        HasDone cache_facts backing_facts ds y o) new done

    pub taken_by : (ds : List Deed) → HasDone cache_facts backing_facts ds u o
        → IsTakenIn cache_facts backing_facts ds v o x
    taken_by ds done = taken_in p v o x ready joined_kept works ds (done_new ds done)

    pub note_by_it : (ds : List Deed) → HasDone cache_facts backing_facts ds u o
        → note cache_facts backing_facts (worker_seat cache_facts backing_facts x)
        ≡ note cache_facts backing_facts o
    note_by_it ds done = same_note p v o x ready joined_kept works ds (done_new ds done)

    pub ready_by : HasGone u o → IsIdle cache_facts backing_facts p o
        → x.heard ≡ option_or k.heard o.heard → IsReady cache_facts backing_facts p x
    ready_by gone idle heard = ready_again p v o x ready joined_kept works gone.deeds
        (done_new gone.deeds gone.done) idle
        (heard ∙ ap (λ (y : View cache_facts backing_facts). option_or y.heard o.heard) kept)
        gone.keeping

    -- ---- a line that reads

    module _ (job : Job) (r : Result Answer RequestError) where
      pub served_read : IfOk r (λ a. HasAnsweredRead cache_facts backing_facts p job a u o)
          → IfOk r (λ a. HasServedRead cache_facts backing_facts p job a v x)
      served_read ok = of_worker r (subst (λ (y : View cache_facts backing_facts).
          IfOk r (λ a. HasAnsweredRead cache_facts backing_facts p job a y o)) new ok)
        where
          of_worker : (q : Result Answer RequestError) → IfOk q (λ a. HasAnsweredRead cache_facts
              backing_facts p job a (worker_seat cache_facts backing_facts v) o)
              → IfOk q (λ a. HasServedRead cache_facts backing_facts p job a v x)
          of_worker (Ok a) h = record {
            last = o;
            answered = h;
            taken = taken_in p v o x ready joined_kept works h.deeds h.done;
          }
          of_worker (Err why) h = tt

      pub half_read : IfErr r (λ why. HasStoppedRead cache_facts backing_facts p job why u o)
          → IfErr r (λ why. HasHalfServedRead cache_facts backing_facts p job why v x)
      half_read err = of_worker r (subst (λ (y : View cache_facts backing_facts).
          IfErr r (λ why. HasStoppedRead cache_facts backing_facts p job why y o)) new err)
        where
          of_worker : (q : Result Answer RequestError) → IfErr q (λ why. HasStoppedRead cache_facts
              backing_facts p job why (worker_seat cache_facts backing_facts v) o)
              → IfErr q (λ why. HasHalfServedRead cache_facts backing_facts p job why v x)
          of_worker (Ok a) h = tt
          of_worker (Err why) h = record {
            last = o;
            stopped = h;
            taken = taken_in p v o x ready joined_kept works h.deeds h.done;
          }

  pub gone_read : (p : PartsView (CorePart C B)) (job : Job) (r : Result Answer RequestError)
      (v w : View cache_facts backing_facts)
      → IfOk r (λ a. HasAnsweredRead cache_facts backing_facts p job a v w)
      → IfErr r (λ why. HasStoppedRead cache_facts backing_facts p job why v w)
      → HasGone v w
  gone_read p job (Ok a) v w ok err =
      record { deeds = ok.deeds; done = ok.done; keeping = ok.keeping }
  gone_read p job (Err why) v w ok err =
      record { deeds = err.deeds; done = err.done; keeping = keeping_of err.deeds err.reading }
