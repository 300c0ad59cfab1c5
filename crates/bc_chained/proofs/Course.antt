-- A state of a run.
use Rattle.std.proofs.Common.{List, sym, subst}
use Rattle.bc_books.specs.Invariant.{IsInOrder}
use Rattle.bc_events.specs.Run.{State}
use Rattle.bc_events.specs.declared.event.Event.{Event}
use Rattle.bc_known.proofs.Law.{At, order_at}
use Rattle.bc_known.specs.Laws.{IsSound}
use Rattle.bc_chains.specs.bc_machine.Standing.{oldest_first, replay_is, replay_runs}
use Rattle.bc_chains.specs.bc_machine.World.{IsCourseOf, Origin, replay}
use Rattle.bc_shares.proofs.Law.{at_state}
use Rattle.bc_shares.specs.Shares.{books_of}

pub at_course : (o : Origin) → IsSound o.opening.machine o.parts → (es : List Event)
    → IsCourseOf o es → At o.opening.machine o.parts (replay o es).machine
at_course o sound es on = subst (λ (st : State). At o.opening.machine o.parts st.machine)
    (sym (replay_is o es))
    (at_state o.opening o.parts o.next_seq (oldest_first es) sound (replay_runs o es on))

pub order_course : (o : Origin) → IsSound o.opening.machine o.parts → (es : List Event)
    → IsCourseOf o es → IsInOrder o.opening.machine.flow.books (books_of (replay o es).machine)
order_course o sound es on = order_at o.opening.machine o.parts (replay o es).machine.whole sound
    (at_course o sound es on).at
