use Rattle.std.proofs.Common.{◌≡◌, ◌+◌, ◌-◌, ◌<◌, List, [], ◌∷◌, ◌++◌, sym, ap, ◌∙◌, subst, arith}
use Rattle.std.specs.Prelude.{Option}
use Rattle.bc_disk.specs.declared.disk.Device.{Device}
use Rattle.bc_events.specs.declared.event.Event.{Event}
use Rattle.bc_events.specs.Columns.{halt_after, halt_of}
use Rattle.bc_book.specs.Book.{BookView}
use Rattle.bc_book.specs.Pass.{events_in}
use Rattle.bc_book.specs.Filed.{HasRoom}
use Rattle.bc_book.proofs.Growing.{Grown, grown, halt_more}
use Rattle.bc_book.proofs.book.Book.put_event.Goals as goal

grown_pass : (c : goal.After-halted-1) → Grown c.self.inside.pass c.put_apart.new.pass c.args.event
grown_pass c = let f = c.put_apart.ensures.filed in grown _ _ f.1 c.args.event f.0 c.self.invariant.0 f.2 f.3 f.4 f.5

pub invariant_of-self : goal.invariant_of-self
invariant_of-self c =
    let g = grown_pass c in
    let some : 0 < c.self.inside.room =
    subst (λ (b : BookView). 0 < b.room) (sym c.self.view_is) c.requires in
    let more : c.self.inside.room ≡ (c.self.inside.room - 1) + 1 = omega arith in (
      g.kept,
      c.put_apart.ensures.room (c.self.inside.room - 1)
          (subst (λ n. HasRoom c.self.inside.pass n) more c.self.invariant.1),
      c.halted_after-halted.ensures
          ∙ ap (λ (h : Option Device). halt_after h c.args.event) c.self.invariant.2
          ∙ sym (halt_more (events_in c.self.inside.pass) c.args.event)
          ∙ sym (ap (λ (l : List Event). halt_of l) g.events),
    )

pub returns-clause-events : goal.returns-clause-events
returns-clause-events c =
    (grown_pass c).events
    ∙ ap (λ (b : BookView). b.events ++ c.args.event ∷ []) c.self.view_is
