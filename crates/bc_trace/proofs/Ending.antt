-- A round that ends, or is given up.
use Rattle.std.proofs.Common.{◌≡◌, inl, inr, ℕ, ◌≤◌, true, List, [], ◌∷◌, ◌++◌, Option, Some, refl, sym, ap, ◌∙◌, subst, arith, append_assoc}
use Rattle.std.proofs.lemmas.List.{append-nil}
use Rattle.std.proofs.lemmas.List.Elements.{All-append}
use Rattle.std.specs.Prelude.{IfSome, OnOk, Result, Ok, Err}
use Rattle.bc_disk.specs.Disk.{DiskFacts}
use Rattle.bc_events.specs.Run.{Opening}
use Rattle.bc_events.specs.declared.event.Deed.{Deed}
use Rattle.bc_events.specs.declared.event.Deed.TheVariants as deed
use Rattle.bc_events.specs.declared.event.MarkForm.TheVariants as mark
use Rattle.bc_flush.proofs.Flushing.{all_synced}
use Rattle.bc_flush.proofs.Hands.{journal_stands}
use Rattle.bc_flush.proofs.Syncing.{none_owed}
use Rattle.bc_flush.specs.Sync.{HasSynced}
use Rattle.bc_leaf_walk.proofs.of_bc_deed.Sequence.{done_both, done_one}
use Rattle.bc_leaf_walk.proofs.of_bc_hand.Knowing.{View}
use Rattle.bc_leaf_walk.proofs.of_bc_machine.Viewing.{opening_stays}
use Rattle.bc_leaf_walk.proofs.of_bc_place.Parts.{order_course}
use Rattle.bc_leaf_walk.specs.bc_deed.Asked.{size_of}
use Rattle.bc_leaf_walk.specs.bc_hand.Seats.{Did, Works, world}
use Rattle.bc_leaf_walk.specs.bc_hand.declared.hand.Hand.{Hand}
use Rattle.bc_leaf_walk.specs.bc_machine.World.{AreBuckets, FromEach, opening, replay}
use Rattle.bc_leaf_walk.specs.bc_machine.declared.part.BucketsPart.{BucketsPart}
use Rattle.bc_leaf_walk.specs.bc_machine.declared.part.CorePart.{CorePart}
use Rattle.bc_leaf_walk.specs.bc_mark.Steps.{CanEnd, HasMarkedIn, IsOver, MayEnd}
use Rattle.bc_parts.specs.Seat.{PartsView, Run}
use Rattle.bc_shares.specs.Shares.{books_of}
use Rattle.bc_trace.specs.Trace.{GivesUp, HadSectorsLeft, HasGone, HasNotTraced, HasStopped, HasTraced, IsOfTrace, IsSettled}
use Rattle.bc_trace.specs.declared.error.TraceError.{TraceError}
use Rattle.bc_trace.proofs.Going.{Done}

module _ {C B : Type 0} (cache_facts : C → DiskFacts) (backing_facts : B → DiskFacts) where
  -- ---- when it may end

  module _ (pv : PartsView (CorePart C B)) (v : View cache_facts backing_facts) (h : Hand C B)
      (works : Works cache_facts backing_facts pv v h) (settled : IsSettled h) (p : BucketsPart)
      (is_p : h.buckets ≡ Some p) (size : ℕ)
      (size_is : size ≡ size_of cache_facts backing_facts pv.run.start)
      (behind : size ≤ p.round.next) where
    world_size : (world cache_facts backing_facts v).opening.machine.flow.books.size ≡ size
    world_size = ap (λ (o : Opening). o.machine.flow.books.size)
        (opening_stays (opening cache_facts backing_facts v.run.start) v.seen)
        ∙ ap (λ (r : Run (CorePart C B)). size_of cache_facts backing_facts r.start) works.run
        ∙ sym size_is

    may_end_it : FromEach (world cache_facts backing_facts v) (MayEnd p)
    may_end_it o is course = record {
      all = let its = is.size in let same = world_size in omega (arith, its, same, behind);
      firm = none_owed cache_facts backing_facts v works.seat settled.0
          (journal_stands cache_facts backing_facts pv v h settled.0 works settled.1) settled.3
          settled.2
          (λ q. (books_of (replay q (world cache_facts backing_facts v).log).machine).round.upto)
          (λ q its so. (order_course q its.sound (world cache_facts backing_facts v).log
          so).counted.walk) o is course;
    }

    pub can_end : p.round.going ≡ true → CanEnd cache_facts backing_facts h v
    can_end going = (p, is_p, going, may_end_it)

  -- ---- what was done

  pub gone_synced : (v w : View cache_facts backing_facts)
      → HasSynced cache_facts backing_facts v w → HasGone cache_facts backing_facts v w
  gone_synced v w h = record {
    deeds = h.deeds;
    are = all_synced IsOfTrace (λ low bucket rest. tt) tt (λ s values. tt) tt h.deeds h.are;
    done = h.done;
  }

  pub traced : (u v w : View cache_facts backing_facts) → HasGone cache_facts backing_facts u v
      → Did cache_facts backing_facts (Some (deed.Mark mark.End)) v w → (a b : Hand C B)
      → HasMarkedIn IsOver a b → HasTraced cache_facts backing_facts u w
  traced u v w gone did a b over = record {
    deeds = gone.deeds;
    are = gone.are;
    done = done_both cache_facts backing_facts gone.deeds (deed.Mark mark.End ∷ []) u v w gone.done
        (done_one cache_facts backing_facts (Some (deed.Mark mark.End)) v w did);
    old = over.0;
    new = over.1;
    over = over.4;
  }

  pub done_around : (ds : List Deed) (t u v w : View cache_facts backing_facts)
      → Done cache_facts backing_facts [] t u → Done cache_facts backing_facts ds u v
      → Done cache_facts backing_facts [] v w → Done cache_facts backing_facts ds t w
  done_around ds t u v w a b c = subst (λ (l : List Deed). Done cache_facts backing_facts l t w)
      (append-nil ds) (done_both cache_facts backing_facts ds [] t v w
      (done_both cache_facts backing_facts [] ds t u v a b) c)

  pub traced_around : {A E : Type 0} (r : Result A E) (t u v w : View cache_facts backing_facts)
      → Done cache_facts backing_facts [] t u → Done cache_facts backing_facts [] v w
      → OnOk r (HasTraced cache_facts backing_facts u v)
      → OnOk r (HasTraced cache_facts backing_facts t w)
  traced_around (Ok x) t u v w a b h = record {
    deeds = h.deeds;
    are = h.are;
    done = done_around (h.deeds ++ deed.Mark mark.End ∷ []) t u v w a h.done b;
    old = h.old;
    new = h.new;
    over = h.over;
  }
  traced_around (Err e) t u v w a b h = tt

  pub traced_behind : (t u v : View cache_facts backing_facts)
      → HasGone cache_facts backing_facts t u → HasTraced cache_facts backing_facts u v
      → HasTraced cache_facts backing_facts t v
  traced_behind t u v a h = record {
    deeds = a.deeds ++ h.deeds;
    are = All-append IsOfTrace a.deeds h.deeds a.are h.are;
    done = subst (λ (l : List Deed). Done cache_facts backing_facts l t v)
        (sym (append_assoc a.deeds h.deeds (deed.Mark mark.End ∷ [])))
        (done_both cache_facts backing_facts a.deeds (h.deeds ++ deed.Mark mark.End ∷ []) t u v
        a.done h.done);
    old = h.old;
    new = h.new;
    over = h.over;
  }

  pub traced_on : {A E : Type 0} (r : Result A E) (t u v : View cache_facts backing_facts)
      → HasGone cache_facts backing_facts t u → OnOk r (HasTraced cache_facts backing_facts u v)
      → OnOk r (HasTraced cache_facts backing_facts t v)
  traced_on (Ok x) t u v a h = traced_behind t u v a h
  traced_on (Err e) t u v a h = tt

  -- ---- given up

  pub gives_none : (v w : View cache_facts backing_facts) → Done cache_facts backing_facts [] v w
      → GivesUp cache_facts backing_facts v w
  gives_none v w h = record { deeds = []; are = inl refl; done = h }

  pub gives_did : (v w : View cache_facts backing_facts)
      → Did cache_facts backing_facts (Some (deed.Mark mark.Drop)) v w
      → GivesUp cache_facts backing_facts v w
  gives_did v w did = record {
    deeds = deed.Mark mark.Drop ∷ [];
    are = inr refl;
    done = done_one cache_facts backing_facts (Some (deed.Mark mark.Drop)) v w did;
  }

  pub gives_around : (t u v w : View cache_facts backing_facts)
      → Done cache_facts backing_facts [] t u → GivesUp cache_facts backing_facts u v
      → Done cache_facts backing_facts [] v w → GivesUp cache_facts backing_facts t w
  gives_around t u v w a h b = record {
    deeds = h.deeds;
    are = h.are;
    done = done_around h.deeds t u v w a h.done b;
  }

  pub not_traced : (sectors : ℕ) (e : TraceError) (v u w : View cache_facts backing_facts)
      → HasStopped cache_facts backing_facts sectors e v u → GivesUp cache_facts backing_facts u w
      → HasNotTraced cache_facts backing_facts sectors e v w
  not_traced sectors e v u w stopped gives =
      record { at = u; stopped = stopped; given_up = gives }

  pub part_stands : (pv : PartsView (CorePart C B)) (v : View cache_facts backing_facts)
      (h : Hand C B) → Works cache_facts backing_facts pv v h → (p : BucketsPart)
      → h.buckets ≡ Some p → AreBuckets p (world cache_facts backing_facts v)
  part_stands pv v h works p is = subst (λ (o : Option BucketsPart). IfSome o
      (λ q. AreBuckets q (world cache_facts backing_facts v))) is works.stand.buckets

  -- sectors are left
  pub left_over : (pv : PartsView (CorePart C B)) (v : View cache_facts backing_facts)
      (h : Hand C B) → Works cache_facts backing_facts pv v h → (p : BucketsPart)
      → h.buckets ≡ Some p → (size : ℕ)
      → size ≡ size_of cache_facts backing_facts pv.run.start
      → ¬ ((p.round.going ≡ true) × (size ≤ p.round.next))
      → HadSectorsLeft cache_facts backing_facts v
  left_over pv v h works p is size size_is off = record {
    part = p;
    stood = part_stands pv v h works p is;
    apart = λ both. off (
      both.0,
      subst (λ (n : ℕ). n ≤ p.round.next)
          (ap (λ (r : Run (CorePart C B)). size_of cache_facts backing_facts r.start) works.run
          ∙ sym size_is) both.1,
    );
  }
