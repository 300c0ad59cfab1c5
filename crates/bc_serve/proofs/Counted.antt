-- What a run's calls come to in the count of faults.
use Rattle.std.proofs.Common.{◌≡◌, inl, ℕ, suc, true, List, [], ◌∷◌, ◌++◌, refl, sym, subst}
use Rattle.std.specs.Prelude.{map}
use Rattle.bc_disk.specs.Device.{HasRisen}
use Rattle.bc_disk.specs.Disk.{DiskFacts}
use Rattle.bc_book.specs.declared.pass.Pass.{Pass}
use Rattle.bc_events.specs.declared.event.Event.{Event}
use Rattle.bc_plain_laws.specs.bc_machine.World.{opening}
use Rattle.bc_plain_laws.specs.bc_machine.declared.part.BackingPart.{BackingPart}
use Rattle.bc_plain_laws.specs.bc_hand.Seats.{by}
use Rattle.bc_job.specs.bc_deed.Begun.{opening_parts}
use Rattle.bc_script.specs.declared.answer.Answer.{Answer}
use Rattle.bc_script.specs.declared.line.Line.{Line}
use Rattle.bc_serve.specs.Run.{AreServedBy, HasRun, events_by}
use Rattle.bc_serve.specs.declared.closing.Closing.{Closing}
use Rattle.bc_serve.proofs.Failing.{AreOfBacking, calls_join, calls_map, failed_in, rises}
use Rattle.bc_serve.proofs.Whole.{closed_entries}

-- the lines call the backing device alone
pub calls_lines : (size i number : ℕ) (ls : List Line) (answers : List Answer) (before last : List Event)
    → AreServedBy size i number ls answers before last → AreOfBacking (events_by i before)
    → AreOfBacking (events_by i last)
calls_lines size i number [] [] before last served of = subst (λ (es : List Event). AreOfBacking (events_by i es))
    (sym served) of
calls_lines size i number [] (b ∷ others) before last served of = absurd served
calls_lines size i number (x ∷ ls) [] before last served of = absurd served
calls_lines size i number (x ∷ ls) (b ∷ others) before last served of =
    calls_lines size i (suc number) ls others (before ++ served.0) last served.3
    (subst AreOfBacking (sym served.2.its) (calls_join (events_by i before) (map (by i) served.1) of
    (calls_map i served.1 served.2.calls)))

module _ {C B : Type 0} (cache_facts : C → DiskFacts) (backing_facts : B → DiskFacts)
    (backing left : BackingPart B) (lines : List Line) (answers : List Answer) (how : Closing)
    (events : List Event) (pass : Pass)
    (run : HasRun cache_facts backing_facts backing left lines answers how events pass) where
  calls : AreOfBacking events
  calls = subst AreOfBacking (sym run.closing)
      (calls_join run.seen (map (by 0) run.last)
      (subst AreOfBacking (sym run.alone)
      (calls_lines backing.size 16 1 lines answers [] run.seen run.by_line tt))
      (calls_map 0 run.last (closed_entries how run.last events run.closed).1))

  -- where a call failed the device has counted it
  pub run_rises : failed_in events ≡ true
      → HasRisen (backing_facts backing.disk).faults (backing_facts left.disk).faults
  run_rises failed = subst (HasRisen (backing_facts backing.disk).faults) (sym (run.device _ (inl refl)).stands.faults)
      (rises (opening cache_facts backing_facts (opening_parts run.flight backing)) events calls failed)
