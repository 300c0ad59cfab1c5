-- What holds in each state of a run.
use Rattle.std.proofs.Common.{sym, subst}
use Rattle.std.specs.Prelude.{List}
use Rattle.bc_events.specs.Run.{State}
use Rattle.bc_events.specs.declared.event.Event.{Event}
use Rattle.bc_place.specs.bc_machine.Standing.{oldest_first, replay_is, replay_runs}
use Rattle.bc_place.specs.bc_machine.World.{IsCourseOf, Origin, replay}
use Rattle.bc_known.proofs.Law.{At, inv_at}
use Rattle.bc_known.specs.Laws.{IsSound}
use Rattle.bc_shares.proofs.Law.{at_state}
use Rattle.bc_whole.proofs.Kept.{Inv}

pub at_course : (o : Origin) → IsSound o.opening.machine o.parts → (es : List Event)
    → IsCourseOf o es → At o.opening.machine o.parts (replay o es).machine
at_course o sound es on = subst (λ (st : State). At o.opening.machine o.parts st.machine)
    (sym (replay_is o es))
    (at_state o.opening o.parts o.next_seq (oldest_first es) sound (replay_runs o es on))

pub inv_course : (o : Origin) → IsSound o.opening.machine o.parts → (es : List Event)
    → IsCourseOf o es → Inv o.opening.machine (replay o es).machine.whole
inv_course o sound es on = inv_at o.opening.machine o.parts (replay o es).machine.whole sound
    (at_course o sound es on).at
