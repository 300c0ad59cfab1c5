-- What was done in a run that was begun over what was read, whether it goes on or ended.
use Rattle.std.proofs.Common.{◌≡◌, ◌<◌, false, List, length, sym, ap, ◌∙◌, subst, arith}
use Rattle.std.specs.Prelude.{Some, fold}
use Rattle.bc_cached.specs.bc_begun.Begin.{parts_of}
use Rattle.bc_book.specs.Pass.{events_in}
use Rattle.bc_book.specs.declared.pass.Pass.{Pass}
use Rattle.bc_cached.specs.Begun.{HasBegun}
use Rattle.bc_cached.specs.declared.run.Ready.{Ready}
use Rattle.bc_disk.specs.Disk.{DiskFacts}
use Rattle.bc_disk.specs.declared.geometry.Geometry.{Geometry}
use Rattle.bc_enter.specs.Begun.{IsUnsealed}
use Rattle.bc_enter.specs.declared.next.Next.{Next}
use Rattle.bc_enter.proofs.Following.{sealed_next}
use Rattle.bc_entries.specs.Journal.{Journal as Read}
use Rattle.bc_entry.specs.Entry.{IsNewestEntry}
use Rattle.bc_entry.specs.Put.{HasCut, HasPut}
use Rattle.bc_events.specs.declared.event.Event.{Event}
use Rattle.bc_entry.specs.bc_hand.Seats.{Works, empty, world}
use Rattle.bc_entry.specs.bc_hand.declared.error.StepError.{StepError}
use Rattle.bc_entry.proofs.of_bc_hand.Knowing.{View}
use Rattle.bc_journal.specs.Journal.{Journal}
use Rattle.bc_entry.specs.bc_machine.World.{FromEach, IsBacking, IsCache, World, after, are_plain, opening}
use Rattle.bc_entry.specs.bc_machine.declared.part.CorePart.{CorePart}
use Rattle.bc_parts.specs.Seat.{PartsView, Run}
use Rattle.bc_started.specs.First.{CanPutFirst, HasAll, IsNew}
use Rattle.bc_started.specs.Start.{CanStart, HasStarted}
use Rattle.bc_started.specs.Stop.{HasEnded, IsCauseOf, IsNotStarted, StopsWith, behind}
use Rattle.bc_started.specs.declared.start.NotStarted.{NotStarted}
use Rattle.bc_started.proofs.Alone.{own_all}
use Rattle.bc_started.proofs.Begun.{can_put}

module _ {C B : Type 0} (cache_facts : C → DiskFacts) (backing_facts : B → DiskFacts)
    (g : Geometry) (read : Read) (ready : Ready C B)
    (can : CanStart cache_facts backing_facts g read ready) (u : Journal)
    (is : IsUnsealed g read u) (parts : PartsView (CorePart C B))
    (v : View cache_facts backing_facts)
    (b : HasBegun cache_facts backing_facts ready parts v) where
  pub new : IsNew cache_facts backing_facts v
  new = record { all = record { first = b.first; end = b.end }; seen = b.seen }

  pub cached : are_plain cache_facts backing_facts parts.run.start ≡ false
  cached = ap (λ (ps : List (CorePart C B)). are_plain cache_facts backing_facts ps) b.start

  pub many : 5 < length parts.run.start
  many = subst (λ (ps : List (CorePart C B)). 5 < length ps) (sym b.start) (omega arith)

  pub can_first : CanPutFirst cache_facts backing_facts parts.run.start u
  can_first = subst (λ (ps : List (CorePart C B)).
      CanPutFirst cache_facts backing_facts ps u) (sym b.start)
      (can_put cache_facts backing_facts g read ready can u is b.beginning b.made)

  module _ (w : View cache_facts backing_facts)
      (works : Works cache_facts backing_facts parts w empty) where
    pub started : HasAll cache_facts backing_facts w
        → HasPut cache_facts backing_facts u v w
        → HasStarted cache_facts backing_facts g read ready parts w
    started all put =
        let next : Next = record { journal = put.behind; sealed = put.sealed } in
        let begun = sealed_next g read can.fit u next is put.entry in
        record {
          beginning = b.beginning;
          made = b.made;
          start = b.start;
          seats = b.seats;
          unsealed = u;
          is_unsealed = is;
          next = next;
          begun = begun;
          deeds = put.deeds;
          put = put.put;
          seen = own_all cache_facts backing_facts v w put.deeds new put.done works.seat;
          newest = subst (λ (q : Geometry). FromEach (world cache_facts backing_facts w)
              (IsNewestEntry q put.sealed.entry)) begun.entry.geometry put.newest;
          all = all;
          works = works;
        }

    module _ (e : StepError) (n : NotStarted C B) (pass : Pass) (cause : IsCauseOf e n.why)
        (events : events_in pass ≡ w.seen)
        (cache : IsCache {C = C} {B = B} cache_facts backing_facts n.cache
        (world cache_facts backing_facts w))
        (backing : IsBacking {C = C} {B = B} cache_facts backing_facts n.backing
        (world cache_facts backing_facts w)) where
      ended_with : HasCut cache_facts backing_facts e u v w
          → HasEnded cache_facts backing_facts g read ready n pass
      ended_with cut =
          let seen = own_all cache_facts backing_facts v w cut.deeds new cut.done works.seat in
          let now : world cache_facts backing_facts w
          ≡ behind cache_facts backing_facts g read ready b.beginning cut.deeds =
          ap (λ (r : Run (CorePart C B)).
          fold after (opening cache_facts backing_facts r.start) w.seen) works.run
          ∙ ap (λ (ps : List (CorePart C B)).
          fold after (opening cache_facts backing_facts ps) w.seen) b.start
          ∙ ap (λ (es : List Event).
          fold after (opening cache_facts backing_facts (parts_of ready.tree b.beginning)) es)
          seen in
          record {
            beginning = b.beginning;
            made = b.made;
            unsealed = u;
            is_unsealed = is;
            error = e;
            cause = cause;
            deeds = cut.deeds;
            cut = cut.cut;
            events = events ∙ seen;
            cache = subst (λ (y : World).
                IsCache {C = C} {B = B} cache_facts backing_facts n.cache y) now cache;
            backing = subst (λ (y : World).
                IsBacking {C = C} {B = B} cache_facts backing_facts n.backing y) now backing;
          }

      pub ended : n.pass ≡ Some pass → HasCut cache_facts backing_facts e u v w
          → IsNotStarted cache_facts backing_facts g read ready n
      ended has cut =
          subst (StopsWith cache_facts backing_facts g read ready n) (sym has) (ended_with cut)
