-- The flush of a line, from its beginning to its answer.
use Rattle.std.proofs.Common.{◌≡◌, ◌⊎◌, inl, inr, ℕ, ◌≤◌, Bool, List, [], ◌∷◌, ◌++◌, None, Some, append_assoc, refl, sym, ap, ◌∙◌, subst, arith}
use Rattle.std.specs.Prelude.{Err, IfErr, Ok, OnErr, OnOk, Result, fold, map}
use Rattle.std.specs.Option.{option_or}
use Rattle.std.proofs.lemmas.List.Sums.{fold-append}
use Rattle.bc_serve.proofs.of_bc_deed.Sequence.{begun_going, done_both, done_then}
use Rattle.bc_serve.specs.bc_deed.Asked.{HasFailed, IsHalted}
use Rattle.bc_serve.specs.bc_deed.Begun.{HasJoined}
use Rattle.bc_serve.specs.bc_deed.Flushed.{HasDone}
use Rattle.bc_disk.specs.Disk.{DiskFacts}
use Rattle.bc_disk.specs.declared.disk.Device.TheVariants as device
use Rattle.bc_events.specs.declared.event.Deed.{Deed}
use Rattle.bc_events.specs.declared.event.Deed.TheVariants as deed
use Rattle.bc_events.specs.declared.event.Event.{Event}
use Rattle.bc_events.specs.declared.event.Failure.{Failure}
use Rattle.bc_events.specs.declared.event.Failure.TheVariants as failure
use Rattle.bc_events.specs.declared.event.LineNumber.{LineNumber}
use Rattle.bc_flush.proofs.Noting.{begun_with}
use Rattle.bc_flush.specs.Durable.{IsFlushed}
use Rattle.bc_serve.proofs.of_bc_hand.Knowing.{View, m}
use Rattle.bc_serve.specs.bc_hand.Seats.{Did, IsCoreSeat, Works, by, empty, note, world}
use Rattle.bc_serve.specs.bc_hand.declared.error.StepError.{StepError}
use Rattle.bc_serve.specs.bc_hand.declared.error.StepError.TheVariants as step
use Rattle.bc_serve.specs.bc_machine.Frame.{Range}
use Rattle.bc_serve.specs.bc_machine.Note.{Note, no_note, note_after, note_by}
use Rattle.bc_serve.specs.bc_machine.World.{FromEach, World, after, are_plain, opening}
use Rattle.bc_serve.specs.bc_machine.declared.part.CorePart.{CorePart}
use Rattle.bc_model.specs.declared.history.Entry.{Entry}
use Rattle.bc_model.specs.declared.history.Entry.TheVariants as entry
use Rattle.bc_parts.specs.Seat.{PartsView, Run}
use Rattle.bc_flush.specs.bc_request.Asked.{IsIdle}
use Rattle.bc_script.specs.Served.{ServesFlush}
use Rattle.bc_script.specs.declared.answer.Answer.TheVariants as answer
use Rattle.bc_seats.specs.Seats.{own_events}
use Rattle.bc_serve.specs.Causes.{entries_by}
use Rattle.bc_serve.specs.Run.{events_by}
use Rattle.bc_session.specs.bc_started.First.{HasAll}
use Rattle.bc_cached_serve.proofs.Taken.{HasGone, ready_by, taken_by}
use Rattle.bc_cached_serve.specs.Answered.{HasServedFlush}
use Rattle.bc_cached_serve.specs.Deeds.{AreKeeping, IsCutAtEnd, IsCutBefore, refusal_of_step}
use Rattle.bc_cached_serve.specs.Worker.{AreAllDurable, HasBegun, HasNotBegun, HasNotEnded, HaveNoted, IsReady, IsTakenIn, kept_seat, worker_seat}

-- ---- the deeds of a flush

-- it is one of a flush, and claims nothing
abbrev IsOfFlush : Deed → Type 0
IsOfFlush (deed.FlushFrom of) = Unit {0}
IsOfFlush deed.BackingBarrier = Unit {0}
IsOfFlush (deed.FlushDone of) = Unit {0}
IsOfFlush (deed.DeviceFault (failure.Barrier device.Backing)) = Unit {0}
IsOfFlush d = ⊥

abbrev AreOfFlush : List Deed → Type 0
AreOfFlush [] = Unit {0}
AreOfFlush (d ∷ ds) = IsOfFlush d × AreOfFlush ds

-- deeds of a flush, of which this is what they are in the history
record Flushes (entries : List Entry) (ds : List Deed) : Type 0 where
  keeping : AreKeeping ds
  own : AreOfFlush ds
  entries_are : entries_by ds ≡ entries

flushes_as : (entries : List Entry) (ds es : List Deed) → ds ≡ es → Flushes entries es
    → Flushes entries ds
flushes_as entries ds es is h = subst (Flushes entries) (sym is) h

before_flushes : (e : StepError) (seen : List Event) (ds : List Deed) → IsCutBefore e seen ds
    → Flushes [] ds
before_flushes (step.Fault which) seen ds cut = absurd cut
before_flushes (step.Halted which) seen ds cut =
    flushes_as [] ds [] cut.1 (record { keeping = tt; own = tt; entries_are = refl })
before_flushes step.Memory seen ds cut =
    flushes_as [] ds [] cut (record { keeping = tt; own = tt; entries_are = refl })

end_flushes : (e : StepError) (seen : List Event) (ds : List Deed) → IsCutAtEnd e seen ds
    → Flushes [] ds
end_flushes (step.Fault which) seen ds cut =
    flushes_as [] ds (deed.DeviceFault (failure.Barrier device.Backing) ∷ []) cut.1
    (record { keeping = (tt, tt); own = (tt, tt); entries_are = refl })
end_flushes (step.Halted which) seen ds (halt, inl none) =
    flushes_as [] ds [] none (record { keeping = tt; own = tt; entries_are = refl })
end_flushes (step.Halted which) seen ds (halt, inr made) =
    flushes_as [] ds (deed.BackingBarrier ∷ []) made
    (record { keeping = (tt, tt); own = (tt, tt); entries_are = refl })
end_flushes step.Memory seen ds cut =
    flushes_as [] ds [] cut (record { keeping = tt; own = tt; entries_are = refl })

-- ---- the claim stays

range_failed : (plain : Bool) (o : Note) (x : Failure) → IsOfFlush (deed.DeviceFault x)
    → (note_after plain o (deed.DeviceFault x)).range ≡ o.range
range_failed plain o (failure.Barrier device.Backing) is = refl
range_failed plain o x is = absurd is

range_after : (plain : Bool) (o : Note) (d : Deed) → IsOfFlush d
    → (note_after plain o d).range ≡ o.range
range_after plain o (deed.FlushFrom of) is = refl
range_after plain o deed.BackingBarrier is = refl
range_after plain o (deed.FlushDone of) is = refl
range_after plain o (deed.DeviceFault x) is = range_failed plain o x is
range_after plain o d is = absurd is

abbrev noted : Bool → ℕ → Note → List Deed → Note
noted plain i o ds = fold (λ x (e : Event). note_after plain x e.deed) o (map (by i) ds)

range_noted : (plain : Bool) (i : ℕ) (o : Note) (ds : List Deed) → AreOfFlush ds
    → (noted plain i o ds).range ≡ o.range
range_noted plain i o [] are = refl
range_noted plain i o (d ∷ ds) are =
    range_noted plain i (note_after plain o d) ds are.1 ∙ range_after plain o d are.0

through : (a b c : ℕ) → a ≤ b → b ≤ c → a ≤ c
through a b c one two = omega (arith, one, two)

module _ {C B : Type 0} (cache_facts : C → DiskFacts) (backing_facts : B → DiskFacts) where
  abbrev Done : List Deed → View cache_facts backing_facts → View cache_facts backing_facts → Type 0
  Done ds v w = HasDone cache_facts backing_facts ds v w

  note_done : (ds : List Deed) (v w : View cache_facts backing_facts) → Done ds v w
      → note cache_facts backing_facts w
      ≡ noted (are_plain cache_facts backing_facts v.run.start) v.first
      (note cache_facts backing_facts v) ds
  note_done ds v w h = ap (λ b. note_by b (own_events (m cache_facts backing_facts) w))
      (ap (λ (r : Run (CorePart C B)). are_plain cache_facts backing_facts r.start) h.same.run)
      ∙ ap (λ es. note_by (are_plain cache_facts backing_facts v.run.start) es) h.own
      ∙ fold-append (λ o (e : Event). note_after (are_plain cache_facts backing_facts v.run.start)
      o e.deed) no_note (own_events (m cache_facts backing_facts) v) (map (by v.first) ds)

  idle_by : (p : PartsView (CorePart C B)) (ds : List Deed) (v w : View cache_facts backing_facts)
      → IsIdle cache_facts backing_facts p v → Done ds v w → AreOfFlush ds
      → Works cache_facts backing_facts p w empty → IsIdle cache_facts backing_facts p w
  idle_by p ds v w idle done are works = record {
    works = works;
    cached = idle.cached;
    leaves = idle.leaves;
    unclaimed = ap (λ (o : Note). o.range.count) (note_done ds v w done)
        ∙ ap (λ (r : Range). r.count)
        (range_noted (are_plain cache_facts backing_facts v.run.start) v.first
        (note cache_facts backing_facts v) ds are)
        ∙ idle.unclaimed;
  }

  -- ---- its beginning

  pub not_begun_memory : (v w : View cache_facts backing_facts) → Done [] v w
      → HasNotBegun cache_facts backing_facts step.Memory v w
  not_begun_memory v w done = record { deeds = []; done = done; cut = refl }

  not_begun : (e : StepError) (t u v : View cache_facts backing_facts) → Done [] t u
      → IsHalted e v.seen → Did cache_facts backing_facts None u v
      → HasNotBegun cache_facts backing_facts e t v
  not_begun (step.Fault which) t u v first halted did = absurd halted
  not_begun (step.Halted which) t u v first halted did = record {
    deeds = [];
    done = done_then cache_facts backing_facts [] None t u v first did;
    cut = (halted, refl);
  }
  not_begun step.Memory t u v first halted did = absurd halted

  has_begun : (of : LineNumber) (t u v : View cache_facts backing_facts) → Done [] t u
      → IsCoreSeat cache_facts backing_facts u
      → Did cache_facts backing_facts (Some (deed.FlushFrom of)) u v
      → HasBegun cache_facts backing_facts of t v
  has_begun of t u v first seat did =
      let begins = begun_going cache_facts backing_facts u v of seat did in record {
        done = done_then cache_facts backing_facts [] (Some (deed.FlushFrom of)) t u v first did;
        going = begins.0;
        its = begins.1;
        noted = subst (λ i. FromEach (world cache_facts backing_facts v) (HaveNoted i))
            first.same.first (begun_with cache_facts backing_facts u v of did);
      }

  module _ {A : Type 0} (r : Result A StepError) (of : LineNumber)
      (t u v : View cache_facts backing_facts) (first : Done [] t u) where
    pub begun_ok : IsCoreSeat cache_facts backing_facts u
        → OnOk r (Did cache_facts backing_facts (Some (deed.FlushFrom of)) u v)
        → OnOk r (HasBegun cache_facts backing_facts of t v)
    begun_ok = by_result r
      where
        by_result : (q : Result A StepError) → IsCoreSeat cache_facts backing_facts u
            → OnOk q (Did cache_facts backing_facts (Some (deed.FlushFrom of)) u v)
            → OnOk q (HasBegun cache_facts backing_facts of t v)
        by_result (Ok a) seat did = has_begun of t u v first seat did
        by_result (Err e) seat did = tt

    pub begun_err : OnErr r (Did cache_facts backing_facts None u v)
        → IfErr r (λ e. IsHalted e v.seen)
        → IfErr r (λ e. HasNotBegun cache_facts backing_facts e t v)
    begun_err = by_result r
      where
        by_result : (q : Result A StepError) → OnErr q (Did cache_facts backing_facts None u v)
            → IfErr q (λ e. IsHalted e v.seen)
            → IfErr q (λ e. HasNotBegun cache_facts backing_facts e t v)
        by_result (Ok a) did halted = tt
        by_result (Err e) did halted = not_begun e t u v first halted did

  pub gone_begun : {A : Type 0} (r : Result A StepError) (of : LineNumber)
      (v w : View cache_facts backing_facts)
      → OnOk r (HasBegun cache_facts backing_facts of v w)
      → IfErr r (λ e. HasNotBegun cache_facts backing_facts e v w)
      → HasGone cache_facts backing_facts v w
  gone_begun (Ok a) of v w ok err =
      record { deeds = deed.FlushFrom of ∷ []; done = ok.done; keeping = (tt, tt) }
  gone_begun (Err e) of v w ok err = record {
    deeds = err.deeds;
    done = err.done;
    keeping = (before_flushes e w.seen err.deeds err.cut).keeping;
  }

  pub idle_begun : {A : Type 0} (r : Result A StepError) (of : LineNumber)
      (p : PartsView (CorePart C B)) (v w : View cache_facts backing_facts)
      → IsIdle cache_facts backing_facts p v → Works cache_facts backing_facts p w empty
      → OnOk r (HasBegun cache_facts backing_facts of v w)
      → IfErr r (λ e. HasNotBegun cache_facts backing_facts e v w)
      → IsIdle cache_facts backing_facts p w
  idle_begun (Ok a) of p v w idle works ok err =
      idle_by p (deed.FlushFrom of ∷ []) v w idle ok.done (tt, tt) works
  idle_begun (Err e) of p v w idle works ok err =
      idle_by p err.deeds v w idle err.done (before_flushes e w.seen err.deeds err.cut).own works

  -- ---- its end

  pub not_ended_memory : (v w : View cache_facts backing_facts) → Done [] v w
      → HasNotEnded cache_facts backing_facts step.Memory v w
  not_ended_memory v w done = record { deeds = []; done = done; cut = refl }

  pub not_ended_barrier : (e : StepError) (u v w : View cache_facts backing_facts) → Done [] u v
      → HasFailed cache_facts backing_facts e (deed.DeviceFault (failure.Barrier device.Backing))
      v w → HasNotEnded cache_facts backing_facts e u w
  not_ended_barrier (step.Fault which) u v w first h = record {
    deeds = deed.DeviceFault (failure.Barrier device.Backing) ∷ [];
    done = done_then cache_facts backing_facts []
        (Some (deed.DeviceFault (failure.Barrier device.Backing))) u v w first h.1;
    cut = (h.0, refl);
  }
  not_ended_barrier (step.Halted which) u v w first h = record {
    deeds = [];
    done = done_then cache_facts backing_facts [] None u v w first h.1;
    cut = (h.0, inl refl);
  }
  not_ended_barrier step.Memory u v w first h = absurd h

  module _ (of : LineNumber) (t u v w : View cache_facts backing_facts) (first : Done [] t u)
      (barrier : Did cache_facts backing_facts (Some deed.BackingBarrier) u v) where
    so_far : Done (deed.BackingBarrier ∷ []) t v
    so_far = done_then cache_facts backing_facts [] (Some deed.BackingBarrier) t u v first barrier

    not_ended : (e : StepError) → IsHalted e w.seen → Did cache_facts backing_facts None v w
        → HasNotEnded cache_facts backing_facts e t w
    not_ended (step.Fault which) halted did = absurd halted
    not_ended (step.Halted which) halted did = record {
      deeds = deed.BackingBarrier ∷ [];
      done = done_then cache_facts backing_facts (deed.BackingBarrier ∷ []) None t v w so_far did;
      cut = (halted, inr refl);
    }
    not_ended step.Memory halted did = absurd halted

    pub ended_ok : {A : Type 0} (r : Result A StepError)
        → OnOk r (Did cache_facts backing_facts (Some (deed.FlushDone of)) v w)
        → OnOk r (Done (deed.BackingBarrier ∷ deed.FlushDone of ∷ []) t w)
    ended_ok (Ok a) did = done_then cache_facts backing_facts (deed.BackingBarrier ∷ [])
        (Some (deed.FlushDone of)) t v w so_far did
    ended_ok (Err e) did = tt

    pub ended_err : {A : Type 0} (r : Result A StepError)
        → OnErr r (Did cache_facts backing_facts None v w) → IfErr r (λ e. IsHalted e w.seen)
        → IfErr r (λ e. HasNotEnded cache_facts backing_facts e t w)
    ended_err (Ok a) did halted = tt
    ended_err (Err e) did halted = not_ended e halted did

  pub gone_ended : {A : Type 0} (r : Result A StepError) (of : LineNumber)
      (v w : View cache_facts backing_facts)
      → OnOk r (Done (deed.BackingBarrier ∷ deed.FlushDone of ∷ []) v w)
      → IfErr r (λ e. HasNotEnded cache_facts backing_facts e v w)
      → HasGone cache_facts backing_facts v w
  gone_ended (Ok a) of v w ok err = record {
    deeds = deed.BackingBarrier ∷ deed.FlushDone of ∷ [];
    done = ok;
    keeping = (tt, (tt, tt));
  }
  gone_ended (Err e) of v w ok err = record {
    deeds = err.deeds;
    done = err.done;
    keeping = (end_flushes e w.seen err.deeds err.cut).keeping;
  }

  pub idle_ended : {A : Type 0} (r : Result A StepError) (of : LineNumber)
      (p : PartsView (CorePart C B)) (v w : View cache_facts backing_facts)
      → IsIdle cache_facts backing_facts p v → Works cache_facts backing_facts p w empty
      → OnOk r (Done (deed.BackingBarrier ∷ deed.FlushDone of ∷ []) v w)
      → IfErr r (λ e. HasNotEnded cache_facts backing_facts e v w)
      → IsIdle cache_facts backing_facts p w
  idle_ended (Ok a) of p v w idle works ok err = idle_by p
      (deed.BackingBarrier ∷ deed.FlushDone of ∷ []) v w idle ok (tt, (tt, tt)) works
  idle_ended (Err e) of p v w idle works ok err =
      idle_by p err.deeds v w idle err.done (end_flushes e w.seen err.deeds err.cut).own works

  -- ---- the whole of it

  refused_so : (of : LineNumber) (e : StepError) (entries : List Entry)
      → (entries ≡ []) ⊎ (entries ≡ entry.FlushFrom of.worker of.line ∷ [])
      → ServesFlush of.worker of.line (answer.Refused (refusal_of_step e)) entries
  refused_so of (step.Fault which) entries is = is
  refused_so of (step.Halted which) entries is = is
  refused_so of step.Memory entries is = is

  -- nothing of it was done
  pub refused_before : (of : LineNumber) (e : StepError) (v o x : View cache_facts backing_facts)
      (h : HasNotBegun cache_facts backing_facts e (worker_seat cache_facts backing_facts v) o)
      → IsTakenIn cache_facts backing_facts h.deeds v o x
      → HasServedFlush cache_facts backing_facts of (answer.Refused (refusal_of_step e)) v x
  refused_before of e v o x h taken =
      let is = before_flushes e o.seen h.deeds h.cut in record {
        last = o;
        answered = record {
          deeds = h.deeds;
          done = h.done;
          keeping = is.keeping;
          serves = refused_so of e (entries_by h.deeds) (inl is.entries_are);
          caused = (e, refl, inl h.cut);
          did = tt;
        };
        taken = taken;
      }

  -- the same is done by a seat that has seen the same
  done_same : (ds : List Deed) (u o w : View cache_facts backing_facts) → Done ds u o
      → w.run ≡ o.run → w.first ≡ o.first → w.end ≡ o.end → w.seen ≡ o.seen → Done ds u w
  done_same ds u o w h run first end seen = record {
    same = record {
      run = run ∙ h.same.run;
      first = first ∙ h.same.first;
      end = end ∙ h.same.end;
    };
    own = ap (λ n. events_by n w.seen) first ∙ ap (λ (l : List Event). events_by o.first l) seen
        ∙ h.own;
    all = h.all;
    is = ap (λ (r : Run (CorePart C B)).
        fold after (opening cache_facts backing_facts r.start) w.seen) run
        ∙ ap (λ (l : List Event). fold after (opening cache_facts backing_facts o.run.start) l) seen
        ∙ h.is;
    follow = h.follow;
    grown = record {
      more = h.grown.more;
      seen = seen ∙ h.grown.seen;
      rest = λ n low high. ap (λ (l : List Event). events_by n l) seen ∙ h.grown.rest n low high;
    };
  }

  -- behind its beginning the seat is x, and behind its end y
  module _ (of : LineNumber) (v o x : View cache_facts backing_facts)
      (all : HasAll cache_facts backing_facts v)
      (begun : HasBegun cache_facts backing_facts of (worker_seat cache_facts backing_facts v) o)
      (first : IsTakenIn cache_facts backing_facts (deed.FlushFrom of ∷ []) v o x) where
    begun_again : Done (deed.FlushFrom of ∷ []) (worker_seat cache_facts backing_facts v)
        (worker_seat cache_facts backing_facts x)
    begun_again = done_same (deed.FlushFrom of ∷ []) (worker_seat cache_facts backing_facts v) o
        (worker_seat cache_facts backing_facts x) begun.done
        (first.run ∙ sym begun.done.same.run) (sym begun.done.same.first)
        (first.all.end ∙ sym all.end ∙ sym begun.done.same.end) (sym first.last)

    same_world : world cache_facts backing_facts o ≡ world cache_facts backing_facts x
    same_world = ap (λ (r : Run (CorePart C B)).
        fold after (opening cache_facts backing_facts r.start) o.seen)
        (begun.done.same.run ∙ sym first.run)
        ∙ ap (λ (l : List Event). fold after (opening cache_facts backing_facts x.run.start) l)
        first.last

    -- all that it noted is durable
    pub flushed_now : FromEach (world cache_facts backing_facts x) AreAllDurable
        → FromEach (world cache_facts backing_facts x) (IsFlushed 16)
    flushed_now durable p is course = through _ _ _
        (subst (λ (y : World). FromEach y (HaveNoted 16)) same_world begun.noted p is course)
        (durable p is course)

    module _ (z y : View cache_facts backing_facts) where
      both_taken : (more : List Deed) → IsTakenIn cache_facts backing_facts more x z y
          → IsTakenIn cache_facts backing_facts (deed.FlushFrom of ∷ more) v z y
      both_taken more then = record {
        all = then.all;
        run = then.run ∙ first.run;
        seen = then.seen
            ∙ ap (λ (l : List Event). l ++ map (by 16) more) first.seen
            ∙ append_assoc v.seen (by 16 (deed.FlushFrom of) ∷ []) (map (by 16) more);
        last = then.last;
      }

      both_done : (more : List Deed) → Done more (worker_seat cache_facts backing_facts x) z
          → Done (deed.FlushFrom of ∷ more) (worker_seat cache_facts backing_facts v) z
      both_done more done = done_both cache_facts backing_facts (deed.FlushFrom of ∷ []) more
          (worker_seat cache_facts backing_facts v) (worker_seat cache_facts backing_facts x) z
          begun_again done

      pub flush_done : Done (deed.BackingBarrier ∷ deed.FlushDone of ∷ [])
          (worker_seat cache_facts backing_facts x) z
          → IsTakenIn cache_facts backing_facts (deed.BackingBarrier ∷ deed.FlushDone of ∷ []) x z
          y → HasServedFlush cache_facts backing_facts of answer.Done v y
      flush_done done then = record {
        last = z;
        answered = record {
          deeds = deed.FlushFrom of ∷ deed.BackingBarrier ∷ deed.FlushDone of ∷ [];
          done = both_done (deed.BackingBarrier ∷ deed.FlushDone of ∷ []) done;
          keeping = (tt, (tt, (tt, tt)));
          serves = refl;
          caused = refl;
          did = tt;
        };
        taken = both_taken (deed.BackingBarrier ∷ deed.FlushDone of ∷ []) then;
      }

      pub refused_behind : (e : StepError) (h : HasNotEnded cache_facts backing_facts e
          (worker_seat cache_facts backing_facts x) z)
          → IsTakenIn cache_facts backing_facts h.deeds x z y
          → HasServedFlush cache_facts backing_facts of (answer.Refused (refusal_of_step e)) v y
      refused_behind e h then =
          let is = end_flushes e z.seen h.deeds h.cut in record {
            last = z;
            answered = record {
              deeds = deed.FlushFrom of ∷ h.deeds;
              done = both_done h.deeds h.done;
              keeping = (tt, is.keeping);
              serves = refused_so of e (entry.FlushFrom of.worker of.line ∷ entries_by h.deeds)
                  (inr (ap (λ (l : List Entry). entry.FlushFrom of.worker of.line ∷ l)
                  is.entries_are));
              caused = (e, refl, inr (h.deeds, h.cut, refl));
              did = tt;
            };
            taken = both_taken h.deeds then;
          }

  -- ---- as the seat of worker 1 was cut off and taken in

  -- at its beginning
  module _ (p : PartsView (CorePart C B)) (of : LineNumber)
      (v k u o x : View cache_facts backing_facts) (ready : IsReady cache_facts backing_facts p v)
      (kept : k ≡ kept_seat cache_facts backing_facts v)
      (new : u ≡ worker_seat cache_facts backing_facts v)
      (joined : HasJoined cache_facts backing_facts k o x)
      (works : Works cache_facts backing_facts p x empty) where
    pub first_ready : {A : Type 0} (r : Result A StepError) → IsIdle cache_facts backing_facts p u
        → Works cache_facts backing_facts p o empty
        → OnOk r (HasBegun cache_facts backing_facts of u o)
        → IfErr r (λ e. HasNotBegun cache_facts backing_facts e u o)
        → x.heard ≡ option_or k.heard o.heard → IsReady cache_facts backing_facts p x
    first_ready r idle work ok err heard =
        ready_by cache_facts backing_facts p v k u o x ready kept new joined works
        (gone_begun r of u o ok err) (idle_begun r of p u o idle work ok err) heard

    pub first_refused : (e : StepError) → HasNotBegun cache_facts backing_facts e u o
        → HasServedFlush cache_facts backing_facts of (answer.Refused (refusal_of_step e)) v x
    first_refused e h = refused_before of e v o x (record {
      deeds = h.deeds;
      done = subst (λ (y : View cache_facts backing_facts). Done h.deeds y o) new h.done;
      cut = h.cut;
    }) (taken_by cache_facts backing_facts p v k u o x ready kept new joined works h.deeds h.done)

    module _ (begun : HasBegun cache_facts backing_facts of u o) where
      abbrev begun_of : HasBegun cache_facts backing_facts of
          (worker_seat cache_facts backing_facts v) o
      begun_of = subst (λ (y : View cache_facts backing_facts).
          HasBegun cache_facts backing_facts of y o) new begun

      first_taken : IsTakenIn cache_facts backing_facts (deed.FlushFrom of ∷ []) v o x
      first_taken = taken_by cache_facts backing_facts p v k u o x ready kept new joined works
          (deed.FlushFrom of ∷ []) begun.done

      pub all_flushed : (w : View cache_facts backing_facts)
          → w ≡ worker_seat cache_facts backing_facts x
          → FromEach (world cache_facts backing_facts x) AreAllDurable
          → FromEach (world cache_facts backing_facts w) (IsFlushed w.first)
      all_flushed w is durable = subst (λ (y : View cache_facts backing_facts).
          FromEach (world cache_facts backing_facts y) (IsFlushed y.first)) (sym is)
          (flushed_now of v o x ready.all begun_of first_taken durable)

      -- and at its end
      module _ (again : IsReady cache_facts backing_facts p x)
          (k' u' z y : View cache_facts backing_facts)
          (kept' : k' ≡ kept_seat cache_facts backing_facts x)
          (new' : u' ≡ worker_seat cache_facts backing_facts x)
          (joined' : HasJoined cache_facts backing_facts k' z y)
          (works' : Works cache_facts backing_facts p y empty) where
        taken' : (ds : List Deed) → Done ds u' z → IsTakenIn cache_facts backing_facts ds x z y
        taken' ds done = taken_by cache_facts backing_facts p x k' u' z y again kept' new' joined'
            works' ds done

        pub last_done : Done (deed.BackingBarrier ∷ deed.FlushDone of ∷ []) u' z
            → HasServedFlush cache_facts backing_facts of answer.Done v y
        last_done done = flush_done of v o x ready.all begun_of first_taken z y
            (subst (λ (w : View cache_facts backing_facts).
            Done (deed.BackingBarrier ∷ deed.FlushDone of ∷ []) w z) new' done)
            (taken' (deed.BackingBarrier ∷ deed.FlushDone of ∷ []) done)

        pub last_refused : (e : StepError) → HasNotEnded cache_facts backing_facts e u' z
            → HasServedFlush cache_facts backing_facts of (answer.Refused (refusal_of_step e)) v y
        last_refused e h = refused_behind of v o x ready.all begun_of first_taken z y e (record {
          deeds = h.deeds;
          done = subst (λ (w : View cache_facts backing_facts). Done h.deeds w z) new' h.done;
          cut = h.cut;
        }) (taken' h.deeds h.done)

  pub last_ready : {A : Type 0} (p : PartsView (CorePart C B)) (of : LineNumber)
      (x k u z y : View cache_facts backing_facts) → IsReady cache_facts backing_facts p x
      → k ≡ kept_seat cache_facts backing_facts x
      → u ≡ worker_seat cache_facts backing_facts x
      → HasJoined cache_facts backing_facts k z y → Works cache_facts backing_facts p y empty
      → (r : Result A StepError) → IsIdle cache_facts backing_facts p u
      → Works cache_facts backing_facts p z empty
      → OnOk r (Done (deed.BackingBarrier ∷ deed.FlushDone of ∷ []) u z)
      → IfErr r (λ e. HasNotEnded cache_facts backing_facts e u z)
      → y.heard ≡ option_or k.heard z.heard → IsReady cache_facts backing_facts p y
  last_ready p of x k u z y ready kept new joined works r idle work ok err heard =
      ready_by cache_facts backing_facts p x k u z y ready kept new joined works
      (gone_ended r of u z ok err) (idle_ended r of p u z idle work ok err) heard
