use Rattle.std.proofs.Common.{ap, ◌∙◌, subst}
use Rattle.bc_flight.specs.Candidates.{AreNumbered, first_of}
use Rattle.bc_flight.specs.Flight.{InFlight}
use Rattle.bc_flight.specs.declared.candidate.Wanted.TheVariants.{Due}
use Rattle.bc_insert.proofs.Putting.{one_some}
use Rattle.bc_settle.proofs.due.due_in.Goals as goal

pub returns : goal.returns
returns g c flight at =
    let same = one_some c.args.hand.now.flight c.in-Some.flight flight c.in-Some.is at in (
      c.first_due.ensures ∙ ap (first_of (Due c.args.before)) c.candidates.ensures.value
          ∙ ap (λ (f : InFlight). first_of (Due c.args.before) f.candidates) same,
      subst (λ (f : InFlight). AreNumbered 0 f.next f.candidates) same
          c.candidates.ensures.numbered,
    )
