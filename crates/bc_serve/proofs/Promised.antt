-- From the steps of a run to what it promises.
use Rattle.std.proofs.Common.{◌≡◌, List, [], ◌∷◌, ◌++◌, Option, Some, None, append-nil, append_assoc, refl, sym, ap, ◌∙◌, subst}
use Rattle.std.specs.Prelude.{fold, map, option_to_list}
use Rattle.bc_model.specs.Sector.{Image}
use Rattle.bc_model.specs.declared.history.Entry.{Entry}
use Rattle.bc_disk.specs.Disk.{DiskFacts, IfTold}
use Rattle.bc_parts.specs.Machine.{IsRun}
use Rattle.bc_parts.specs.Seat.{PartsView, Run}
use Rattle.bc_events.specs.Columns.{entries_of, entry_by}
use Rattle.bc_events.specs.declared.event.Deed.{Deed}
use Rattle.bc_events.specs.declared.event.Event.{Event}
use Rattle.bc_book.specs.Pass.{events_in}
use Rattle.bc_book.specs.declared.pass.Pass.{Pass}
use Rattle.bc_plain_laws.specs.bc_machine.World.{IsBacking, after, opening}
use Rattle.bc_plain_laws.specs.bc_machine.declared.part.BackingPart.{BackingPart}
use Rattle.bc_plain_laws.specs.bc_machine.declared.part.CorePart.{CorePart}
use Rattle.bc_plain_laws.specs.bc_hand.Seats.{by, world}
use Rattle.bc_plain_laws.proofs.of_bc_hand.Knowing.{View, m}
use Rattle.bc_job.specs.bc_deed.Begun.{HasBegun, HasJoined}
use Rattle.bc_job.specs.bc_deed.Flushed.{HasDone}
use Rattle.bc_plain_laws.specs.Laws.{EndsFirmly, Promises}
use Rattle.bc_plain_laws.specs.Promises.{LeavesLastWrites, IsUntouched, Survives}
use Rattle.bc_plain_laws.proofs.Promising.{law_promises}
use Rattle.bc_script.specs.Served.{Served}
use Rattle.bc_script.specs.declared.answer.Answer.{Answer}
use Rattle.bc_script.specs.declared.line.Line.{Line}
use Rattle.bc_serve.specs.Causes.{entries_by}
use Rattle.bc_serve.specs.Closed.{ClosedBy}
use Rattle.bc_serve.specs.Run.{AreServedBy, HasRun, HaveAnswered}
use Rattle.bc_serve.specs.declared.closing.Closing.{Closing}
use Rattle.bc_serve.specs.declared.closing.Closing.TheVariants as closing
use Rattle.bc_serve.proofs.Lists.{entries_map}
use Rattle.bc_serve.proofs.Whole.{IsWhole, closed_entries, whole}

entries_join : (xs ys : List Event) → entries_of (xs ++ ys) ≡ entries_of xs ++ entries_of ys
entries_join [] ys = refl
entries_join (x ∷ xs) ys = ap (λ (l : List Entry). option_to_list (entry_by x.deed) ++ l) (entries_join xs ys)
    ∙ sym (append_assoc (option_to_list (entry_by x.deed)) (entries_of xs) (entries_of ys))

where_told : (o : Option Image) (P Q : Image → Type 0) → ((image : Image) → P image → Q image) → IfTold o P
    → IfTold o Q
where_told None P Q f h = tt
where_told (Some image) P Q f h = f image h

-- both seats, from the beginning to the end of the run
pub record Course {C B : Type 0} (cache_facts : C → DiskFacts) (backing_facts : B → DiskFacts)
    (backing left : BackingPart B) (lines : List Line) (answers : List Answer) (how : Closing) (pass : Pass)
    (p : PartsView (CorePart C B)) (a v u o x w : View cache_facts backing_facts) : Type 0 where
  pub begun : HasBegun cache_facts backing_facts backing p a
  pub kept : v ≡ record a { end = 16 }
  pub other : u ≡ record a { first = 16; parts = []; promises = 0 }
  pub served : HaveAnswered cache_facts backing_facts backing.size lines answers u o
  pub joined : HasJoined cache_facts backing_facts v o x
  pub last : List Deed
  pub done : HasDone cache_facts backing_facts last x w
  pub closed : ClosedBy how last w.seen
  pub run : IsRun (m cache_facts backing_facts) (opening cache_facts backing_facts p.run.start) w.seen
  pub stands : IsBacking {C = C} cache_facts backing_facts left (world cache_facts backing_facts w)
  pub told : events_in pass ≡ w.seen
  pub history : pass.entries.items ≡ entries_of w.seen

module _ {C B : Type 0} (cache_facts : C → DiskFacts) (backing_facts : B → DiskFacts)
    (backing left : BackingPart B) (lines : List Line) (answers : List Answer) (how : Closing) (pass : Pass)
    (p : PartsView (CorePart C B)) (a v u o x w : View cache_facts backing_facts)
    (c : Course cache_facts backing_facts backing left lines answers how pass p a v u o x w) where
  us : u.seen ≡ []
  us = ap (λ (y : View cache_facts backing_facts). y.seen) c.other ∙ c.begun.seen

  uf : u.first ≡ 16
  uf = ap (λ (y : View cache_facts backing_facts). y.first) c.other

  both : IsWhole c.served.deeds c.last o.seen w.seen
  both = whole cache_facts backing_facts v u o x w (opening cache_facts backing_facts p.run.start) c.served.deeds c.last
      (ap (λ (y : View cache_facts backing_facts). y.first) c.kept ∙ c.begun.first)
      (ap (λ (y : View cache_facts backing_facts). y.end) c.kept)
      (ap (λ (y : View cache_facts backing_facts). y.seen) c.kept ∙ c.begun.seen)
      uf (ap (λ (y : View cache_facts backing_facts). y.end) c.other ∙ c.begun.end) us
      c.served.done c.joined c.done c.run

  -- the state at the end, from the parts with which the run began
  stands : IsBacking {C = C} cache_facts backing_facts left
      (fold after (opening cache_facts backing_facts p.run.start) w.seen)
  stands = subst (λ (r : Run (CorePart C B)). IsBacking {C = C} cache_facts backing_facts left
      (fold after (opening cache_facts backing_facts r.start) w.seen))
      (c.done.same.run ∙ c.joined.run ∙ ap (λ (y : View cache_facts backing_facts). y.run) c.kept ∙ c.begun.works.run)
      c.stands

  entries : pass.entries.items ≡ entries_by c.served.deeds
  entries = c.history ∙ ap (λ (l : List Event). entries_of l) both.all
      ∙ entries_join o.seen (map (by 0) c.last)
      ∙ ap (λ (l : List Event). entries_of l ++ entries_of (map (by 0) c.last)) both.lines
      ∙ ap (λ (l : List Entry). l ++ entries_of (map (by 0) c.last)) (entries_map 16 c.served.deeds)
      ∙ ap (λ (l : List Entry). entries_by c.served.deeds ++ l)
      (entries_map 0 c.last ∙ (closed_entries how c.last w.seen c.closed).0)
      ∙ append-nil (entries_by c.served.deeds)

  pub has_run : HasRun cache_facts backing_facts backing left lines answers how w.seen pass
  has_run = record {
    flight = c.begun.start.0;
    run = subst (λ (ps : List (CorePart C B)). IsRun (m cache_facts backing_facts)
        (opening cache_facts backing_facts ps) w.seen) c.begun.start.1 c.run;
    told = c.told;
    history = c.history;
    device = subst (λ (ps : List (CorePart C B)). IsBacking {C = C} cache_facts backing_facts left
        (fold after (opening cache_facts backing_facts ps) w.seen)) c.begun.start.1 stands;
    served = subst (λ (es : List Entry). Served backing.size lines answers es) (sym entries) c.served.served;
    seen = o.seen;
    alone = both.alone;
    by_line = subst (λ (es : List Event). AreServedBy backing.size 16 1 lines answers es o.seen) us
        (subst (λ n. AreServedBy backing.size n 1 lines answers u.seen o.seen) uf c.served.by_line);
    last = c.last;
    closing = both.all;
    closed = c.closed;
  }

  promised : IfTold (backing_facts backing.disk).holds
      (λ held. Promises cache_facts backing_facts backing w.seen held (backing_facts left.disk))
  promised = law_promises cache_facts backing_facts backing left p.run.start w.seen c.begun.start c.run stands

  pub survives : IfTold (backing_facts backing.disk).holds
      (λ held. Survives backing.offset held pass.entries.items (backing_facts left.disk))
  survives = where_told (backing_facts backing.disk).holds _ _ (λ held h.
      subst (λ (es : List Entry). Survives backing.offset held es (backing_facts left.disk)) (sym c.history) h.survives)
      promised

  firm : how ≡ closing.Done → EndsFirmly w.seen
  firm is =
      let at = subst (λ (y : Closing). ClosedBy y c.last w.seen) is c.closed in record {
        before = o.seen;
        seat = 0;
        is = both.all ∙ ap (λ (l : List Deed). o.seen ++ map (by 0) l) at.0;
        running = at.1;
      }

  pub stable : how ≡ closing.Done → IfTold (backing_facts backing.disk).holds
      (λ held. LeavesLastWrites backing.offset held pass.entries.items (backing_facts left.disk))
  stable is = where_told (backing_facts backing.disk).holds _ _ (λ held h.
      subst (λ (es : List Entry). LeavesLastWrites backing.offset held es (backing_facts left.disk)) (sym c.history)
      (h.stable (firm is))) promised

  pub outside : IfTold (backing_facts backing.disk).holds
      (λ held. IsUntouched backing.offset backing.size held (backing_facts left.disk))
  outside = where_told (backing_facts backing.disk).holds _ _ (λ held h. h.outside) promised
