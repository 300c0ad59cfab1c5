-- The first entry of a run: what its seat has in hand, knows, and has done.
use Rattle.std.proofs.Common.{◌≡◌, inl, inr, false, List, [], Option, Some, None, refl, sym, ap, ◌∙◌, subst}
use Rattle.std.specs.Prelude.{Err, IfErr, Ok, OnOk, Result, fold, is_some, map}
use Rattle.std.proofs.lemmas.List.{append-nil}
use Rattle.bc_entry.specs.bc_deed.Flushed.{HasDone}
use Rattle.bc_entry.proofs.of_bc_deed.Sequence.{done_both}
use Rattle.bc_disk.specs.Disk.{DiskFacts}
use Rattle.bc_disk.specs.declared.disk.Device.{Device}
use Rattle.bc_entry.specs.Entry.{IsNewestEntry}
use Rattle.bc_entry.specs.Put.{HasCut, HasPut, IsCause, IsCut, HasStoppedBehind}
use Rattle.bc_events.specs.Columns.{halt_of}
use Rattle.bc_events.specs.declared.event.Deed.{Deed}
use Rattle.bc_events.specs.declared.event.Event.{Event}
use Rattle.bc_entry.specs.bc_hand.Seats.{IsCoreSeat, Kinds, Works, by, empty, kinds, part_of, world}
use Rattle.bc_entry.specs.bc_hand.declared.hand.Hand.{Hand}
use Rattle.bc_entry.specs.bc_hand.declared.hand.LeafHand.{LeafHand}
use Rattle.bc_entry.specs.bc_hand.declared.error.StepError.{StepError}
use Rattle.bc_entry.specs.bc_hand.declared.error.StepError.TheVariants as step
use Rattle.bc_entry.proofs.of_bc_hand.Knowing.{View, m}
use Rattle.bc_journal.specs.Journal.{Journal}
use Rattle.bc_entry.specs.bc_machine.World.{FromEach, IsJournal, World, after, opening}
use Rattle.bc_entry.specs.bc_machine.declared.part.CorePart.{CorePart}
use Rattle.bc_parts.specs.Seat.{PartsView, Run}
use Rattle.bc_seats.specs.Seats.{Waited}
use Rattle.bc_seats.proofs.Knowing.{waited}
use Rattle.bc_started.specs.First.{HasAll, IsNew, journal_and_cache}
use Rattle.bc_started.specs.Stop.{IsNoHalt}
use Rattle.bc_started.proofs.Alone.{own_all}

-- ---- in hand

not_some : {A : Type 0} (o : Option A) → is_some o ≡ false → o ≡ None
not_some None is = refl
not_some (Some a) is = absurd (cc)

no_part : (o : Option LeafHand) → part_of o ≡ None → o ≡ None
no_part None is = refl
no_part (Some l) is = absurd (cc)

-- without the journal and the cache device nothing is left
pub none_left : {C B : Type 0} (h new : Hand C B) → kinds h ≡ journal_and_cache
    → new ≡ record h { journal = None; cache = None } → new ≡ empty
none_left h new both is =
    let spine = not_some h.spine (ap (λ (k : Kinds). k.spine) both) in
    let leaves = no_part h.leaves (ap (λ (k : Kinds). k.leaves) both) in
    let flight = not_some h.flight (ap (λ (k : Kinds). k.flight) both) in
    let buckets = not_some h.buckets (ap (λ (k : Kinds). k.buckets) both) in
    let backing = not_some h.backing (ap (λ (k : Kinds). k.backing) both) in
    is
    ∙ ap (λ o. record h { spine = o; journal = None; cache = None }) spine
    ∙ ap (λ o. record h { spine = None; leaves = o; journal = None; cache = None }) leaves
    ∙ ap (λ o. record h {
      spine = None;
      leaves = None;
      flight = o;
      journal = None;
      cache = None;
    }) flight
    ∙ ap (λ o. record h {
      spine = None;
      leaves = None;
      flight = None;
      buckets = o;
      journal = None;
      cache = None;
    }) buckets
    ∙ ap (λ o. record h {
      spine = None;
      leaves = None;
      flight = None;
      buckets = None;
      journal = None;
      cache = None;
      backing = o;
    }) backing

-- ---- why it stopped

halted_none : (s : _) (ds : List Deed) → HasStoppedBehind s ds
    → halt_of (map (by 0) ds) ≡ None
halted_none s ds (inl is) = ap (λ (l : List Deed). halt_of (map (by 0) l)) is
halted_none s ds (inr (inl is)) = ap (λ (l : List Deed). halt_of (map (by 0) l)) is
halted_none s ds (inr (inr (values, are, inl is))) =
    ap (λ (l : List Deed). halt_of (map (by 0) l)) is
halted_none s ds (inr (inr (values, are, inr is))) =
    ap (λ (l : List Deed). halt_of (map (by 0) l)) is

no_device : (o : Option Device) (d : Device) → o ≡ None → o ≡ Some d → ⊥
no_device o d none some = cc

-- what came of it doesn't halt a run whose seat did that alone
not_halted : (device : Device) (j : Journal) (ds : List Deed)
    → IsCut (step.Halted device) j ds → halt_of (map (by 0) ds) ≡ None
not_halted device j ds (inl none) = ap (λ (l : List Deed). halt_of (map (by 0) l)) none.1
not_halted device j ds (inr at) =
    ap (λ (l : List Deed). halt_of (map (by 0) l)) at.is ∙ halted_none at.sealed at.more at.cut

pub no_halt : (e : StepError) (j : Journal) (ds : List Deed) (es : List Event)
    → IsCut e j ds → es ≡ map (by 0) ds → IsCause e es → IsNoHalt e
no_halt (step.Fault device) j ds es cut is cause = tt
no_halt (step.Halted device) j ds es cut is cause = no_device (halt_of es) device
    (ap halt_of is ∙ not_halted device j ds cut) cause
no_halt step.Memory j ds es cut is cause = tt

module _ {C B : Type 0} (cache_facts : C → DiskFacts) (backing_facts : B → DiskFacts) where
  -- another journal that stands for the same
  pub with_journal : (p : PartsView (CorePart C B)) (v : View cache_facts backing_facts)
      (h : Hand C B) (a b : Journal)
      → Works cache_facts backing_facts p v (record h { journal = Some a })
      → IsJournal b (world cache_facts backing_facts v)
      → Works cache_facts backing_facts p v (record h { journal = Some b })
  with_journal p v h a b works on = record {
    run = works.run;
    seat = works.seat;
    parts = works.parts;
    stand = record {
      spine = works.stand.spine;
      leaves = works.stand.leaves;
      flight = works.stand.flight;
      buckets = works.stand.buckets;
      journal = on;
      cache = works.stand.cache;
      backing = works.stand.backing;
    };
  }

  -- ---- before anything has happened

  pub as_waited : (v w : View cache_facts backing_facts) → Waited (m cache_facts backing_facts) v w
      → HasDone cache_facts backing_facts [] v w
  as_waited v w h = waited (m cache_facts backing_facts) v w h

  pub still_all : (v w : View cache_facts backing_facts) (ds : List Deed)
      → HasAll cache_facts backing_facts v → HasDone cache_facts backing_facts ds v w
      → HasAll cache_facts backing_facts w
  still_all v w ds all done =
      record { first = done.same.first ∙ all.first; end = done.same.end ∙ all.end }

  pub still_new : (v w : View cache_facts backing_facts) → IsNew cache_facts backing_facts v
      → HasDone cache_facts backing_facts [] v w → IsCoreSeat cache_facts backing_facts w
      → IsNew cache_facts backing_facts w
  still_new v w new done seat = record {
    all = still_all v w [] new.all done;
    seen = own_all cache_facts backing_facts v w [] new done seat;
  }

  pub at_opening : (p : PartsView (CorePart C B)) (v : View cache_facts backing_facts)
      → IsNew cache_facts backing_facts v → v.run ≡ p.run
      → world cache_facts backing_facts v ≡ opening cache_facts backing_facts p.run.start
  at_opening p v new run = ap (λ (es : List Event).
      fold after (opening cache_facts backing_facts v.run.start) es) new.seen
      ∙ ap (λ (r : Run (CorePart C B)). opening cache_facts backing_facts r.start) run

  -- ---- what was done

  pub done_around : (ds : List Deed) (t u v w : View cache_facts backing_facts)
      → HasDone cache_facts backing_facts [] t u → HasDone cache_facts backing_facts ds u v
      → HasDone cache_facts backing_facts [] v w → HasDone cache_facts backing_facts ds t w
  done_around ds t u v w a b c = subst (λ (l : List Deed).
      HasDone cache_facts backing_facts l t w) (append-nil ds)
      (done_both cache_facts backing_facts ds [] t v w
      (done_both cache_facts backing_facts [] ds t u v a b) c)

  same_world : (v w : View cache_facts backing_facts) → Waited (m cache_facts backing_facts) v w
      → w.seen ≡ v.seen → world cache_facts backing_facts v ≡ world cache_facts backing_facts w
  same_world v w last seen = ap (λ (r : Run (CorePart C B)).
      fold after (opening cache_facts backing_facts r.start) v.seen) (sym last.same.run)
      ∙ ap (λ (es : List Event). fold after (opening cache_facts backing_facts w.run.start) es)
      (sym seen)

  pub put_around : (j : Journal) (t u v w : View cache_facts backing_facts)
      → HasDone cache_facts backing_facts [] t u → HasPut cache_facts backing_facts j u v
      → Waited (m cache_facts backing_facts) v w → w.seen ≡ v.seen
      → HasPut cache_facts backing_facts j t w
  put_around j t u v w first put last seen = record {
    sealed = put.sealed;
    behind = put.behind;
    entry = put.entry;
    deeds = put.deeds;
    put = put.put;
    done = done_around put.deeds t u v w first put.done (as_waited v w last);
    newest = subst (λ (x : World). FromEach x
        (IsNewestEntry put.sealed.geometry put.sealed.entry)) (same_world v w last seen) put.newest;
  }

  pub cut_around : (e : StepError) (j : Journal)
      (t u v w : View cache_facts backing_facts) → HasDone cache_facts backing_facts [] t u
      → HasCut cache_facts backing_facts e j u v → Waited (m cache_facts backing_facts) v w
      → HasCut cache_facts backing_facts e j t w
  cut_around e j t u v w first cut last = record {
    deeds = cut.deeds;
    cut = cut.cut;
    done = done_around cut.deeds t u v w first cut.done (as_waited v w last);
  }

  -- ---- by the result of the entry's steps

  some_same : (o : Option Journal) (j k : Journal) → o ≡ Some j → o ≡ Some k → j ≡ k
  some_same o j k a b = cc

  abbrev Put : Option Journal → View cache_facts backing_facts
      → View cache_facts backing_facts → Type 0
  Put o v w =
      (j : Journal) × (o ≡ Some j) × HasPut cache_facts backing_facts j v w

  abbrev Cut : StepError → Option Journal → View cache_facts backing_facts
      → View cache_facts backing_facts → Type 0
  Cut e o v w =
      (j : Journal) × (o ≡ Some j) × HasCut cache_facts backing_facts e j v w

  pub all_behind : (r : Result (Unit {0}) StepError) (o : Option Journal)
      (v w : View cache_facts backing_facts) → HasAll cache_facts backing_facts v
      → OnOk r (Put o v w) → IfErr r (λ e. Cut e o v w)
      → HasAll cache_facts backing_facts w
  all_behind (Ok u) o v w all put cut = still_all v w put.2.deeds all put.2.done
  all_behind (Err e) o v w all put cut = still_all v w cut.2.deeds all cut.2.done

  module _ (o : Option Journal) (journal : Journal) (here : o ≡ Some journal)
      (t u v w : View cache_facts backing_facts)
      (first : HasDone cache_facts backing_facts [] t u)
      (last : Waited (m cache_facts backing_facts) v w) (seen : w.seen ≡ v.seen) where
    pub put_result : (r : Result (Unit {0}) StepError) → OnOk r (Put o u v)
        → OnOk r (HasPut cache_facts backing_facts journal t w)
    put_result (Ok x) put = put_around journal t u v w first
        (subst (λ (j : Journal). HasPut cache_facts backing_facts j u v)
        (some_same o put.0 journal put.1 here) put.2) last seen
    put_result (Err e) put = tt

    pub cut_result : (r : Result (Unit {0}) StepError) → IfErr r (λ e. Cut e o u v)
        → IfErr r (λ e. HasCut cache_facts backing_facts e journal t w)
    cut_result (Ok x) cut = tt
    cut_result (Err e) cut = cut_around e journal t u v w first
        (subst (λ (j : Journal). HasCut cache_facts backing_facts e j u v)
        (some_same o cut.0 journal cut.1 here) cut.2) last

    pub halt_result : (r : Result (Unit {0}) StepError) → IsNew cache_facts backing_facts t
        → IsCoreSeat cache_facts backing_facts w → IfErr r (λ e. Cut e o u v)
        → IfErr r (λ e. IsCause e v.seen) → IfErr r IsNoHalt
    halt_result (Ok x) new seat cut cause = tt
    halt_result (Err e) new seat cut cause = let far = cut_result (Err e) cut in
        no_halt e journal far.deeds v.seen far.cut
        (sym seen ∙ own_all cache_facts backing_facts t w far.deeds new far.done seat) cause
