-- A run that served its lines, to its end.
use Rattle.std.proofs.Common.{◌≡◌, inl, inr, ℕ, Bool, List, [], ◌∷◌, ◌++◌, Err, Ok, append-nil, append_assoc, refl, sym, ap, ◌∙◌, subst, arith}
use Rattle.std.specs.Prelude.{fold, map, option_to_list}
use Rattle.bc_serve.specs.bc_deed.Flushed.{HasDone}
use Rattle.bc_disk.specs.Disk.{DiskFacts}
use Rattle.bc_events.specs.Columns.{entries_of, entry_by}
use Rattle.bc_events.specs.declared.event.Deed.{Deed}
use Rattle.bc_events.specs.declared.event.Event.{Event}
use Rattle.bc_serve.proofs.of_bc_hand.Knowing.{View, m}
use Rattle.bc_serve.specs.bc_hand.Seats.{by, world}
use Rattle.bc_serve.specs.bc_machine.World.{after, opening}
use Rattle.bc_serve.specs.bc_machine.declared.part.CorePart.{CorePart}
use Rattle.bc_model.specs.declared.history.Entry.{Entry}
use Rattle.bc_parts.specs.Machine.{IsRun}
use Rattle.bc_parts.specs.Seat.{PartsView, Run}
use Rattle.bc_script.specs.declared.line.Line.{Line}
use Rattle.bc_serve.proofs.Lists.{entries_map}
use Rattle.bc_serve.specs.Causes.{entries_by}
use Rattle.bc_serve.specs.Run.{events_by}
use Rattle.bc_session.proofs.Sectors.{stay}
use Rattle.bc_session.specs.Close.{HasClosed, IsBarrierOf, Outcome as Outcomes}
use Rattle.bc_session.specs.declared.closing.CloseError.TheVariants as errors
use Rattle.bc_session.specs.bc_started.First.{HasAll}
use Rattle.bc_super.specs.Super.{IsUsable}
use Rattle.bc_super.specs.declared.backing.BackingSuper.{BackingSuper}
use Rattle.bc_cached_serve.proofs.Alone.{went_on}
use Rattle.bc_cached_serve.proofs.Order.{gone_on, on_serves}
use Rattle.bc_cached_serve.specs.Run.{HasRunOn}
use Rattle.bc_cached_serve.specs.Served.{HaveServed}
use Rattle.bc_cached_serve.specs.Worker.{IsReady}
use Rattle.bc_cached_serve.specs.declared.whole_run.Outcome.{Outcome}

-- ---- entries

entries_join : (xs ys : List Event) → entries_of (xs ++ ys) ≡ entries_of xs ++ entries_of ys
entries_join [] ys = refl
entries_join (x ∷ xs) ys =
    ap (λ (l : List Entry). option_to_list (entry_by x.deed) ++ l) (entries_join xs ys)
    ∙ sym (append_assoc (option_to_list (entry_by x.deed)) (entries_of xs) (entries_of ys))

-- a closing puts nothing into the history
closing_entries : (o : Outcomes) (ds : List Deed) (seen : List Event) → IsBarrierOf o ds seen
    → entries_by ds ≡ []
closing_entries (Ok u) ds seen is = ap entries_by is.0
closing_entries (Err errors.Fault) ds seen is = ap entries_by is
closing_entries (Err (errors.Halted d)) ds seen is = elim is.0 [
  | inl none ↦ ap entries_by none
  | inr made ↦ ap entries_by made
]
closing_entries (Err errors.Memory) ds seen is = ap entries_by is

pub all_entries : (before : List Event) (ds last : List Deed) → entries_by last ≡ []
    → entries_of ((before ++ map (by 16) ds) ++ map (by 0) last)
    ≡ entries_of before ++ entries_by ds
all_entries before ds last none = entries_join (before ++ map (by 16) ds) (map (by 0) last)
    ∙ ap (λ (l : List Entry). entries_of (before ++ map (by 16) ds) ++ l)
    (entries_map 0 last ∙ none)
    ∙ append-nil (entries_of (before ++ map (by 16) ds))
    ∙ entries_join before (map (by 16) ds)
    ∙ ap (λ (l : List Entry). entries_of before ++ l) (entries_map 16 ds)

module _ {C B : Type 0} (cache_facts : C → DiskFacts) (backing_facts : B → DiskFacts) where
  -- the seat that has all numbers did the last deeds
  last_seen : (x w : View cache_facts backing_facts) (ds : List Deed)
      → HasAll cache_facts backing_facts x → HasDone cache_facts backing_facts ds x w
      → IsRun (m cache_facts backing_facts) (opening cache_facts backing_facts w.run.start) w.seen
      → w.seen ≡ x.seen ++ map (by 0) ds
  last_seen x w ds all done follow =
      went_on cache_facts backing_facts (opening cache_facts backing_facts w.run.start) x.seen
      w.seen 0
      done.grown.more ds follow done.grown.seen
      (λ n low other. let a = all.first in let b = all.end in
      done.grown.rest n (omega (arith, other, a)) (omega arith))
      (ap (λ n. events_by n w.seen) (sym (done.same.first ∙ all.first)) ∙ done.own
      ∙ ap (λ n. events_by n x.seen ++ map (by n) ds) all.first)

  -- the superblock that the device had goes on to be one that it may have
  pub usable_still : (b : BackingSuper) (v x : View cache_facts backing_facts) → x.run ≡ v.run
      → IsUsable (world cache_facts backing_facts v).backing.sectors b
      → IsUsable (world cache_facts backing_facts x).backing.sectors b
  usable_still b v x run is = subst (λ n. IsUsable n b)
      (sym (stay (opening cache_facts backing_facts x.run.start) x.seen
      ∙ ap (λ (r : Run (CorePart C B)).
      (opening cache_facts backing_facts r.start).backing.sectors) run
      ∙ sym (stay (opening cache_facts backing_facts v.run.start) v.seen))) is

  pub has_run_on : (p : PartsView (CorePart C B)) (b : BackingSuper) (dirty : Bool) (size : ℕ)
      (lines : List Line) (v x : View cache_facts backing_facts) (r : Outcome C B)
      → HaveServed cache_facts backing_facts p size lines r.answers.items r.served v x
      → IsReady cache_facts backing_facts p x
      → HasClosed cache_facts backing_facts b dirty x r.closed
      → HasRunOn cache_facts backing_facts p b dirty size lines v r
  has_run_on p b dirty size lines v x r served ready closed =
      let went = gone_on cache_facts backing_facts p size r.served lines r.answers.items v x
      served in
      let last = closed.last in
      let ends : last.seen ≡ x.seen ++ map (by 0) closed.made.deeds =
      last_seen x last closed.made.deeds ready.all closed.made.done closed.seat.seat.run in
      let run : last.run ≡ p.run = closed.made.done.same.run ∙ ready.works.run in
      record {
        before = x;
        lines_by = record {
          served = served;
          run = went.run;
          deeds = went.deeds;
          seen = went.seen;
          keeping = went.keeping;
          serves = on_serves cache_facts backing_facts p size r.served lines r.answers.items v x
              served;
        };
        all = ready.all;
        closed = closed;
        told = closed.events ∙ ends
            ∙ ap (λ (l : List Event). l ++ map (by 0) closed.made.deeds) went.seen;
        run = subst (λ (l : List Event). IsRun (m cache_facts backing_facts)
            (opening cache_facts backing_facts p.run.start) l) (sym closed.events)
            (subst (λ (y : Run (CorePart C B)). IsRun (m cache_facts backing_facts)
            (opening cache_facts backing_facts y.start) last.seen) run closed.seat.seat.run);
        ends = ap (λ (y : Run (CorePart C B)).
            fold after (opening cache_facts backing_facts y.start) last.seen) run
            ∙ ap (λ (l : List Event).
            fold after (opening cache_facts backing_facts p.run.start) l) (sym closed.events);
        entries = ap entries_of (closed.events ∙ ends
            ∙ ap (λ (l : List Event). l ++ map (by 0) closed.made.deeds) went.seen)
            ∙ all_entries v.seen went.deeds closed.made.deeds
            (closing_entries closed.barrier closed.made.deeds last.seen closed.made.is);
      }
