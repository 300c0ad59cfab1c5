-- The laws on what is never given up.
use Rattle.std.proofs.Common.{ℕ, List, sym, subst}
use Rattle.bc_books.specs.Invariant.{IsInOrder}
use Rattle.bc_books.proofs.Known.{newest}
use Rattle.bc_books.proofs.Safety.{unneeded_at}
use Rattle.bc_books.proofs.Broken as broken
use Rattle.bc_leaves.specs.Parts as parts
use Rattle.bc_known.specs.Acts as known
use Rattle.bc_known.specs.Laws.{IsSound}
use Rattle.bc_known.proofs.Law.{At, at_end, order_at}
use Rattle.bc_events.specs.Run.{Opening, start, IsRun, run, machine_events}
use Rattle.bc_events.specs.declared.event.Event.{Event}
use Rattle.bc_events.proofs.Machine.{law_machine}
use Rattle.bc_always.specs.Raise.{LawRaised, LawRefused, LawDirty}

-- a state of a run of events is one of the machine's
pub at_state : (w : Opening) (x : parts.State) (n : ℕ) (es : List Event) → IsSound w.machine x
    → IsRun w (start w x n) es → At w.machine x (run w (start w x n) es).machine
at_state w x n es sound on =
    let m = law_machine w (start w x n) es on in
    subst (λ (y : known.State). At w.machine x y) (sym m.last)
    (at_end w.machine x n (machine_events w (start w x n) es) sound m.course)

in_order : (w : Opening) (x : parts.State) (n : ℕ) (es : List Event) → IsSound w.machine x
    → IsRun w (start w x n) es
    → IsInOrder w.machine.flow.books (run w (start w x n) es).machine.whole.flow.books
in_order w x n es sound on = order_at w.machine x (run w (start w x n) es).machine.whole sound
    (at_state w x n es sound on).at

pub law_raised : LawRaised
law_raised w x n es sound on b can = unneeded_at w.machine.flow.books
    (run w (start w x n) es).machine.whole.flow.books (in_order w x n es sound on) b can

pub law_refused : LawRefused
law_refused w x n es sound on i b dirty raise =
    let k = (run w (start w x n) es).machine.whole.flow.books in
    let order = in_order w x n es sound on in
    let none = law_raised w x n es sound on b raise.course.0.data_allows.0.steps.0 in
    none.no_dirty k.index.count dirty.0 dirty.1.0 (newest w.machine.flow.books k order)
    dirty.1.1.0.0 dirty.1.1.1 dirty.1.1.2

pub law_dirty : LawDirty
law_dirty = let tooth = broken.law_teeth_mark in record {
  run = tooth.run;
  dirty = tooth.lost;
  loose = tooth.loose;
  unpinned = tooth.unpinned;
  not_held = tooth.not_held;
  near = tooth.near;
  refused = λ can. let free = can.0.free in absurd (cc);
}
