use Rattle.std.proofs.Common.{List, sym, ap, ◌∙◌}
use Rattle.bc_events.specs.declared.event.Event.{Event}
use Rattle.bc_events.specs.Columns.{halt_of}
use Rattle.bc_book.proofs.Growing.{same}
use Rattle.bc_book.proofs.book.Book.reserve.Goals as goal

pub invariant_of-self : goal.invariant_of-self
invariant_of-self c =
    let s = same _ _ c.self.invariant.0 c.make_room.ensures.kept c.make_room.ensures.records in (
      s.kept,
      c.make_room.ensures.before c.self.inside.room c.self.invariant.1,
      c.self.invariant.2 ∙ sym (ap (λ (l : List Event). halt_of l) s.events),
    )

pub invariant_of-self-2 : goal.invariant_of-self-2
invariant_of-self-2 c =
    let s = same _ _ c.self.invariant.0 c.make_room.ensures.kept c.make_room.ensures.records in (
      s.kept,
      c.in_ok-make_room.ensures.room,
      c.self.invariant.2 ∙ sym (ap (λ (l : List Event). halt_of l) s.events),
    )
