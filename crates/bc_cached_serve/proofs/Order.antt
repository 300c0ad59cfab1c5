-- Lines served one behind the other.
use Rattle.std.proofs.Common.{◌≡◌, ℕ, suc, ◌+◌, List, [], ◌∷◌, ◌++◌, Ok, Err, append-nil, append_assoc, length, refl, sym, ap, ◌∙◌, subst, arith}
use Rattle.std.specs.Prelude.{OnOk, Result, map}
use Rattle.std.proofs.lemmas.List.{map-append}
use Rattle.bc_disk.specs.Disk.{DiskFacts}
use Rattle.bc_events.specs.declared.event.Deed.{Deed}
use Rattle.bc_events.specs.declared.event.Event.{Event}
use Rattle.bc_serve.proofs.of_bc_hand.Knowing.{View}
use Rattle.bc_serve.specs.bc_hand.Seats.{by}
use Rattle.bc_serve.proofs.of_bc_job.Looping.{done_none}
use Rattle.bc_serve.specs.bc_machine.declared.part.CorePart.{CorePart}
use Rattle.bc_model.specs.declared.history.Entry.{Entry}
use Rattle.bc_parts.specs.Seat.{PartsView}
use Rattle.bc_script.proofs.Marks.{is_served, one_more}
use Rattle.bc_script.specs.Served.{Served, ServesLine}
use Rattle.bc_script.specs.declared.answer.Answer.{Answer}
use Rattle.bc_script.specs.declared.answer.Answer.TheVariants.{Silent}
use Rattle.bc_script.specs.declared.line.Line.{Line}
use Rattle.bc_script.specs.declared.line.Line.TheVariants as line
use Rattle.bc_serve.proofs.Lists.{entries_both}
use Rattle.bc_serve.specs.Causes.{entries_by}
use Rattle.bc_cached_serve.proofs.Going.{keeping_both, keeping_of}
use Rattle.bc_cached_serve.specs.Answered.{HasHalfServedLine, HasServedLine}
use Rattle.bc_cached_serve.specs.Deeds.{AreKeeping}
use Rattle.bc_cached_serve.specs.Served.{AreAnswered, HaveAnswered, HaveServed, HaveStopped}
use Rattle.bc_cached_serve.specs.Worker.{IsReady, worker_seat}
use Rattle.bc_cached_serve.specs.declared.unsound.Unsound.{Unsound}

module _ {C B : Type 0} (cache_facts : C → DiskFacts) (backing_facts : B → DiskFacts)
    (p : PartsView (CorePart C B)) (size : ℕ) where
  -- a line that asks for nothing
  pub silent_served : (number : ℕ) (l : Line) (v : View cache_facts backing_facts)
      → IsReady cache_facts backing_facts p v → l ≡ line.Silent
      → HasServedLine cache_facts backing_facts p size number l Silent v v
  silent_served number l v ready is = subst (λ (x : Line).
      HasServedLine cache_facts backing_facts p size number x Silent v v) (sym is) (record {
        last = worker_seat cache_facts backing_facts v;
        answered = record {
          deeds = [];
          done = done_none cache_facts backing_facts (worker_seat cache_facts backing_facts v)
              ready.worker.works.seat;
          keeping = tt;
          serves = (refl, refl);
          caused = refl;
          did = refl;
        };
        taken = record {
          all = ready.all;
          run = refl;
          seen = sym (append-nil v.seen);
          last = refl;
        };
      })

  one_line_more : (number at : ℕ) (ls : List Line) (answers : List Answer) (l : Line) (a : Answer)
      (u v w : View cache_facts backing_facts) → at ≡ number + length ls
      → AreAnswered cache_facts backing_facts p size number ls answers u v
      → HasServedLine cache_facts backing_facts p size at l a v w
      → AreAnswered cache_facts backing_facts p size number (ls ++ l ∷ []) (answers ++ a ∷ []) u w
  one_line_more number at [] [] l a u v w is served new =
      let here : at ≡ number = omega arith in (
        w,
        subst (λ n. HasServedLine cache_facts backing_facts p size n l a u w) here
            (subst (λ (x : View cache_facts backing_facts).
            HasServedLine cache_facts backing_facts p size at l a x w) served new),
        refl,
      )
  one_line_more number at [] (b ∷ others) l a u v w is served new = absurd served
  one_line_more number at (x ∷ ls) [] l a u v w is served new = absurd served
  one_line_more number at (x ∷ ls) (b ∷ others) l a u v w is served new = (
    served.0,
    served.1,
    one_line_more (suc number) at ls others l a served.0 v w (omega arith) served.2 new,
  )

  pub none_answered : (v : View cache_facts backing_facts)
      → HaveAnswered cache_facts backing_facts p size [] [] v v
  none_answered v = record {
    deeds = [];
    run = refl;
    seen = sym (append-nil v.seen);
    keeping = tt;
    served = is_served size [] [] [] refl;
    by_line = refl;
  }

  seen_both : (xs ys : List Deed) (u v w : View cache_facts backing_facts)
      → v.seen ≡ u.seen ++ map (by 16) xs → w.seen ≡ v.seen ++ map (by 16) ys
      → w.seen ≡ u.seen ++ map (by 16) (xs ++ ys)
  seen_both xs ys u v w one two = two
      ∙ ap (λ (l : List Event). l ++ map (by 16) ys) one
      ∙ append_assoc u.seen (map (by 16) xs) (map (by 16) ys)
      ∙ ap (λ (l : List Event). u.seen ++ l) (sym (map-append (by 16) xs ys))

  pub more_answered : (at : ℕ) (ls : List Line) (answers : List Answer) (l : Line) (a : Answer)
      (u v w : View cache_facts backing_facts) → at ≡ suc (length ls)
      → HaveAnswered cache_facts backing_facts p size ls answers u v
      → HasServedLine cache_facts backing_facts p size at l a v w
      → HaveAnswered cache_facts backing_facts p size (ls ++ l ∷ []) (answers ++ a ∷ []) u w
  more_answered at ls answers l a u v w is before h =
      let here : at ≡ 1 + length ls = omega arith in
      let line_by = h.answered in record {
        deeds = before.deeds ++ line_by.deeds;
        run = h.taken.run ∙ before.run;
        seen = seen_both before.deeds line_by.deeds u v w before.seen h.taken.seen;
        keeping = keeping_both before.deeds line_by.deeds before.keeping line_by.keeping;
        served = subst (λ (es : List Entry). Served size (ls ++ l ∷ []) (answers ++ a ∷ []) es)
            (sym (entries_both before.deeds line_by.deeds))
            (one_more size ls answers (entries_by before.deeds) (entries_by line_by.deeds) l a
            before.served
            (subst (λ n. ServesLine size n l a (entries_by line_by.deeds)) is line_by.serves));
        by_line = one_line_more 1 at ls answers l a u v w here before.by_line h;
      }

  -- the lines before this one are answered, and this one stopped the seat
  pub stopped_at : (stop : Unsound) (lines ls others : List Line) (answers : List Answer) (l : Line)
      (u v w : View cache_facts backing_facts) → lines ≡ ls ++ l ∷ others
      → stop.line ≡ suc (length ls)
      → HaveAnswered cache_facts backing_facts p size ls answers u v
      → HasHalfServedLine cache_facts backing_facts p size stop.line l stop.why v w
      → HaveStopped cache_facts backing_facts p size stop lines answers u w
  stopped_at stop lines ls others answers l u v w all is before h = record {
    before = ls;
    refused = l;
    others = others;
    lines_are = all;
    number = is;
    at = v;
    answered = before;
    stopped = h;
  }

  -- ---- whatever came of them

  pub record HasGoneOn (v w : View cache_facts backing_facts) : Type 0 where
    pub deeds : List Deed
    pub run : w.run ≡ v.run
    pub seen : w.seen ≡ v.seen ++ map (by 16) deeds
    pub keeping : AreKeeping deeds

  pub gone_on : (r : Result (Unit {0}) Unsound) (lines : List Line) (answers : List Answer)
      (v w : View cache_facts backing_facts)
      → HaveServed cache_facts backing_facts p size lines answers r v w → HasGoneOn v w
  gone_on (Ok u) lines answers v w h = record {
    deeds = h.deeds;
    run = h.run;
    seen = h.seen;
    keeping = h.keeping;
  }
  gone_on (Err stop) lines answers v w h =
      let a = h.answered in let b = h.stopped in let ds = b.stopped.deeds in record {
        deeds = a.deeds ++ ds;
        run = b.taken.run ∙ a.run;
        seen = seen_both a.deeds ds v h.at w a.seen b.taken.seen;
        keeping = keeping_both a.deeds ds a.keeping (keeping_of ds b.stopped.reading);
      }

  -- and where all were answered its entries serve them
  pub on_serves : (r : Result (Unit {0}) Unsound) (lines : List Line) (answers : List Answer)
      (v w : View cache_facts backing_facts)
      (h : HaveServed cache_facts backing_facts p size lines answers r v w)
      → OnOk r (Served size lines answers (entries_by (gone_on r lines answers v w h).deeds))
  unfolding gone_on
  on_serves (Ok u) lines answers v w h = h.served
  on_serves (Err stop) lines answers v w h = tt
