-- Deeds of a trace, one behind the other.
use Rattle.std.proofs.Common.{ℕ, List, [], ◌∷◌, ◌++◌, Some, None}
use Rattle.std.specs.Prelude.{IfErr, OnOk, Result, Ok, Err}
use Rattle.std.proofs.lemmas.List.Elements.{All-append, All-cons, All-nil}
use Rattle.bc_disk.specs.Disk.{DiskFacts}
use Rattle.bc_events.specs.declared.event.Deed.{Deed}
use Rattle.bc_flush.proofs.Counting.{Lasts}
use Rattle.bc_flush.proofs.Walking.{lasts_done}
use Rattle.bc_leaf_walk.proofs.of_bc_deed.Sequence.{done_both, done_one}
use Rattle.bc_leaf_walk.proofs.of_bc_deed.May.{did_nothing}
use Rattle.bc_leaf_walk.proofs.of_bc_hand.Knowing.{View, m}
use Rattle.bc_leaf_walk.specs.bc_deed.Flushed.{HasDone}
use Rattle.bc_leaf_walk.specs.bc_hand.Seats.{Did, IsCoreSeat, world}
use Rattle.bc_leaf_walk.specs.bc_machine.Standing.{origin_before}
use Rattle.bc_leaf_walk.specs.bc_machine.World.{FromEach}
use Rattle.bc_leaf_walk.specs.bc_place.Place.{HasBefore}
use Rattle.bc_seats.proofs.Knowing.{waited}
use Rattle.bc_seats.specs.Seats.{Waited}
use Rattle.bc_trace.specs.Trace.{HasGone, HasStopped, IsCause, IsOfTrace}
use Rattle.bc_trace.specs.declared.error.TraceError.{TraceError}
use Rattle.bc_trace.specs.declared.error.TraceError.TheVariants as error

before_lasts : (n : ℕ) → Lasts (HasBefore n)
before_lasts n x e h o is course = h o (origin_before x e o is) course.2

module _ {C B : Type 0} (cache_facts : C → DiskFacts) (backing_facts : B → DiskFacts) where
  abbrev pub Done : List Deed → View cache_facts backing_facts → View cache_facts backing_facts
      → Type 0
  Done = HasDone cache_facts backing_facts

  abbrev Gone : View cache_facts backing_facts → View cache_facts backing_facts → Type 0
  Gone = HasGone cache_facts backing_facts

  pub as_waited : (v w : View cache_facts backing_facts) → Waited (m cache_facts backing_facts) v w
      → Done [] v w
  as_waited v w h = waited (m cache_facts backing_facts) v w h

  pub none_done : (v : View cache_facts backing_facts) → IsCoreSeat cache_facts backing_facts v
      → Done [] v v
  none_done v seat = done_one cache_facts backing_facts None v v
      (did_nothing cache_facts backing_facts v seat)

  pub gone_done : (v w : View cache_facts backing_facts) → Done [] v w → Gone v w
  gone_done v w h = record { deeds = []; are = All-nil IsOfTrace; done = h }

  pub gone_none : (v : View cache_facts backing_facts) → IsCoreSeat cache_facts backing_facts v
      → Gone v v
  gone_none v seat = gone_done v v (none_done v seat)

  pub gone_one : (d : Deed) (v w : View cache_facts backing_facts) → IsOfTrace d
      → Did cache_facts backing_facts (Some d) v w → Gone v w
  gone_one d v w is did = record {
    deeds = d ∷ [];
    are = All-cons IsOfTrace d [] is (All-nil IsOfTrace);
    done = done_one cache_facts backing_facts (Some d) v w did;
  }

  pub gone_both : (u v w : View cache_facts backing_facts) → Gone u v → Gone v w → Gone u w
  gone_both u v w a b = record {
    deeds = a.deeds ++ b.deeds;
    are = All-append IsOfTrace a.deeds b.deeds a.are b.are;
    done = done_both cache_facts backing_facts a.deeds b.deeds u v w a.done b.done;
  }

  pub both_none : (u v w : View cache_facts backing_facts) → Done [] u v → Done [] v w → Done [] u w
  both_none u v w a b = done_both cache_facts backing_facts [] [] u v w a b

  pub gone_around : (t u v w : View cache_facts backing_facts) → Done [] t u → Done [] v w
      → Gone u v → Gone t w
  gone_around t u v w a b h = gone_both t u w (gone_done t u a)
      (gone_both u v w h (gone_done v w b))

  -- ---- what kept it from more

  cause_on : (sectors : ℕ) (e : TraceError) (u v w : View cache_facts backing_facts) → Gone u v
      → IsCause cache_facts backing_facts sectors e v w
      → IsCause cache_facts backing_facts sectors e u w
  cause_on sectors error.Open u v w a h = (h.0, gone_both u v w a h.1)
  cause_on sectors error.Moved u v w a h = (h.0, gone_both u v w a h.1)
  cause_on sectors (error.Step e) u v w a h = (h.0, gone_both u v w a h.1)
  cause_on sectors (error.Leaf e) u v w a h = record {
    at = h.at;
    before = gone_both u v h.at a h.before;
    first = h.first;
    stopped = h.stopped;
  }
  cause_on sectors (error.Journal e) u v w a h = record {
    at = h.at;
    before = gone_both u v h.at a h.before;
    stopped = h.stopped;
  }

  pub stopped_on : (sectors : ℕ) (e : TraceError) (u v w : View cache_facts backing_facts)
      → Gone u v → HasStopped cache_facts backing_facts sectors e v w
      → HasStopped cache_facts backing_facts sectors e u w
  stopped_on sectors e u v w a h = record {
    at = h.at;
    cause = cause_on sectors e u v h.at a h.cause;
    then = h.then;
  }

  pub stopped_then : (sectors : ℕ) (e : TraceError) (v w x : View cache_facts backing_facts)
      → HasStopped cache_facts backing_facts sectors e v w → Done [] w x
      → HasStopped cache_facts backing_facts sectors e v x
  stopped_then sectors e v w x h b = record {
    at = h.at;
    cause = h.cause;
    then = both_none h.at w x h.then b;
  }

  -- at once
  pub stopped_here : (sectors : ℕ) (e : TraceError) (v w : View cache_facts backing_facts)
      → IsCoreSeat cache_facts backing_facts w → IsCause cache_facts backing_facts sectors e v w
      → HasStopped cache_facts backing_facts sectors e v w
  stopped_here sectors e v w seat cause = record { at = w; cause = cause; then = none_done w seat }

  pub stopped_around : {A : Type 0} (sectors : ℕ) (r : Result A TraceError)
      (t u v w : View cache_facts backing_facts) → Done [] t u → Done [] v w
      → IfErr r (λ e. HasStopped cache_facts backing_facts sectors e u v)
      → IfErr r (λ e. HasStopped cache_facts backing_facts sectors e t w)
  stopped_around sectors (Ok a) t u v w x y h = tt
  stopped_around sectors (Err e) t u v w x y h =
      stopped_then sectors e t v w (stopped_on sectors e t u v (gone_done t u x) h) y

  pub ok_around : {A E : Type 0} (r : Result A E) (t u v w : View cache_facts backing_facts)
      → Done [] t u → Done [] v w → OnOk r (Gone u v) → OnOk r (Gone t w)
  ok_around (Ok a) t u v w x y h = gone_around t u v w x y h
  ok_around (Err e) t u v w x y h = tt

  -- ---- what stays known

  pub before_done : (n : ℕ) (ds : List Deed) (v w : View cache_facts backing_facts) → Done ds v w
      → FromEach (world cache_facts backing_facts v) (HasBefore n)
      → FromEach (world cache_facts backing_facts w) (HasBefore n)
  before_done n ds v w done h = lasts_done cache_facts backing_facts (HasBefore n) (before_lasts n) ds
      v w done h

  -- behind some deeds
  pub ok_after : {A E : Type 0} (r : Result A E) (t u v w : View cache_facts backing_facts)
      → Gone t u → Done [] v w → OnOk r (Gone u v) → OnOk r (Gone t w)
  ok_after (Ok a) t u v w x y h = gone_both t u w x (gone_both u v w h (gone_done v w y))
  ok_after (Err e) t u v w x y h = tt

  pub stopped_after : {A : Type 0} (sectors : ℕ) (r : Result A TraceError)
      (t u v w : View cache_facts backing_facts) → Gone t u → Done [] v w
      → IfErr r (λ e. HasStopped cache_facts backing_facts sectors e u v)
      → IfErr r (λ e. HasStopped cache_facts backing_facts sectors e t w)
  stopped_after sectors (Ok a) t u v w x y h = tt
  stopped_after sectors (Err e) t u v w x y h =
      stopped_then sectors e t v w (stopped_on sectors e t u v x h) y
