use Rattle.std.proofs.Common.{refl, sym, ◌∙◌, subst}
use Rattle.bc_flight.specs.Flight.{InFlight}
use Rattle.bc_insert.proofs.Putting.{one_some}
use Rattle.bc_settle.specs.Next.{HasTakenDue}
use Rattle.bc_settle.proofs.due.take_due.Goals as goal

pub returns : goal.returns
returns g c flight at =
    let same = one_some c.args.hand.now.flight c.in-Some.flight flight
    (sym c.take.ensures.value ∙ c.in-Some.is) at in (
      c.take_from.new.flight,
      subst (λ (f : InFlight). HasTakenDue c.args.before f c.take_from.new.flight) same
          c.take_from.ensures,
      refl,
    )
