-- What is answered of a pair that was opened and closed.
use Rattle.std.proofs.Common.{◌≡◌, Bool, Result, Ok, Err, refl, sym, ap, ◌∙◌, subst}
use Rattle.std.specs.Prelude.{IfErr, OnOk}
use Rattle.bc_disk.specs.Disk.{DiskFacts, IsKept}
use Rattle.bc_started.specs.bc_hand.Seats.{View}
use Rattle.bc_loaded.specs.declared.loading.Loaded.{Loaded}
use Rattle.bc_started.specs.bc_machine.declared.part.CorePart.{CorePart}
use Rattle.bc_open.specs.Idle.{HasIdled, MayBeLeft}
use Rattle.bc_open.specs.Left.{ChangesState, LeavesThePair}
use Rattle.bc_open.specs.Open.{HasFailed}
use Rattle.bc_parts.specs.Seat.{PartsView}
use Rattle.bc_recover.specs.Read.{IsReadOf}
use Rattle.bc_replay.specs.Causes.{OfHeld}
use Rattle.bc_replay.specs.declared.error.OpenError.{OpenError}
use Rattle.bc_replay.specs.declared.held.Survey.{Survey}
use Rattle.bc_super.specs.Reading.{ReadsSuper}
use Rattle.bc_super.specs.declared.backing.BackingSuper.{BackingSuper}
use Rattle.bc_session.specs.Close.{HasClosed, Outcome}
use Rattle.bc_session.specs.Idle.{IsIdleStop, IsOutcomeOf, Tells}
use Rattle.bc_session.specs.Open.{IsRunOver}
use Rattle.bc_session.specs.declared.closing.CloseError.{CloseError}
use Rattle.bc_session.specs.declared.closing.CloseError.TheVariants as closings
use Rattle.bc_session.specs.declared.closing.Closed.{Closed}
use Rattle.bc_session.specs.declared.idle.Idled.{Idled}
use Rattle.bc_session.proofs.Ended.{entry_faults, idle_cause, idle_left, idle_state, idled}
use Rattle.bc_session.proofs.Ended as ended
use Rattle.bc_session.proofs.Stops.{close_stop, left_back}
use Rattle.bc_session.proofs.Stops as stops

module _ {C B : Type 0} (cache_facts : C → DiskFacts) (backing_facts : B → DiskFacts)
    (s : Survey) (b : BackingSuper) (before cache : C) (backing : B)
    (kept : IsKept (cache_facts before) (cache_facts cache))
    (good : (cache_facts cache).faults ≡ (cache_facts before).faults)
    (loaded : Loaded) (parts : PartsView (CorePart C B)) (seat : View cache_facts backing_facts)
    (over : IsRunOver cache_facts backing_facts s b cache backing loaded parts seat) (dirty : Bool)
    (r : Closed C B) (closed : HasClosed cache_facts backing_facts b dirty seat r)
    (marks : Tells dirty loaded.buckets) (m : Idled C B) (same_cache : m.cache ≡ r.cache)
    (same : m.backing ≡ r.backing) (outcome : IsOutcomeOf r.result m.result) where
  abbrev Idle : C → B → Type 0
  Idle c d = HasIdled cache_facts s b before c (backing_facts backing) (backing_facts d)

  ok_by : (x : Outcome) (y : Result (Unit {0}) OpenError) → IsOutcomeOf x y
      → OnOk x (Idle r.cache r.backing) → OnOk y (Idle m.cache m.backing)
  ok_by (Ok u) y is has = subst (λ (z : Result (Unit {0}) OpenError). OnOk z (Idle m.cache m.backing))
      (sym is) (subst (λ (c : C). Idle c m.backing) (sym same_cache)
      (subst (λ (d : B). Idle r.cache d) (sym same) has))
  ok_by (Err why) y (e, is, closing) has =
      subst (λ (z : Result (Unit {0}) OpenError). OnOk z (Idle m.cache m.backing)) (sym is) tt

  pub final_ok : OnOk m.result (Idle m.cache m.backing)
  final_ok = ok_by r.result m.result outcome (idled cache_facts backing_facts s b cache backing loaded
      parts seat over dirty r closed marks before kept good)

  cause_on : (why : CloseError)
      → ended.CausedBy cache_facts backing_facts s b cache backing loaded parts seat over dirty r closed
      marks why
      → stops.CausedBy cache_facts backing_facts s b before cache backing kept m good why
  cause_on closings.Fault cause = subst (λ (d : B). HasFailed 5 (backing_facts backing)
      (backing_facts d)) (sym same) cause
  cause_on (closings.Halted d) cause = cause
  cause_on closings.Memory cause =
      subst (λ (d : B). (backing_facts d).faults ≡ (backing_facts backing).faults) (sym same) cause

  abbrev Stop : OpenError → Type 0
  Stop e = IsIdleStop cache_facts backing_facts s before backing m e

  cause_by : (x : Outcome) (y : Result (Unit {0}) OpenError) → r.result ≡ x → IsOutcomeOf x y
      → IfErr y Stop
  cause_by (Ok u) y was is = subst (λ (z : Result (Unit {0}) OpenError). IfErr z Stop) (sym is) tt
  cause_by (Err why) y was (e, is, closing) =
      subst (λ (z : Result (Unit {0}) OpenError). IfErr z Stop) (sym is)
      (close_stop cache_facts backing_facts s b before cache backing kept m good why e
      (ap (λ (c : C). (cache_facts c).faults) same_cache
      ∙ entry_faults cache_facts backing_facts s b cache backing loaded parts seat over dirty r closed marks)
      (cause_on why (idle_cause cache_facts backing_facts s b cache backing loaded parts seat over dirty r
      closed marks why was)) closing)

  pub final_cause : IfErr m.result Stop
  final_cause = cause_by r.result m.result refl outcome

  pub final_state : ChangesState (MayBeLeft s) b (backing_facts backing) (backing_facts m.backing)
  final_state = subst (λ (d : B). ChangesState (MayBeLeft s) b (backing_facts backing)
      (backing_facts d)) (sym same) (idle_state cache_facts backing_facts s b cache backing loaded parts
      seat over dirty r closed marks)

  pub final_left : OfHeld (IsReadOf s) (cache_facts cache) (backing_facts backing)
      → ReadsSuper (backing_facts backing) b
      → LeavesThePair (cache_facts before) (cache_facts m.cache) (backing_facts backing)
      (backing_facts m.backing)
  final_left read reads =
      subst (λ (c : C). LeavesThePair (cache_facts before) (cache_facts c) (backing_facts backing)
      (backing_facts m.backing)) (sym same_cache)
      (subst (λ (d : B). LeavesThePair (cache_facts before) (cache_facts r.cache)
      (backing_facts backing) (backing_facts d)) (sym same)
      (left_back (cache_facts before) (cache_facts cache) kept (cache_facts r.cache)
      (backing_facts backing) (backing_facts r.backing)
      (idle_left cache_facts backing_facts s b cache backing loaded parts seat over dirty r closed marks
      read reads)))
