use Rattle.std.proofs.Common.{List, sym, subst}
use Rattle.std.specs.Prelude.{All}
use Rattle.bc_flight.specs.declared.claim.Claim.{Claim}
use Rattle.bc_flight.specs.Flight.{IsRanged}
use Rattle.bc_flight.proofs.Ordered.{ranged}
use Rattle.bc_plain_rows.proofs.flights.claim.Goals as goal

pub is_taken-taken-requires-clause-claims : goal.is_taken-taken-requires-clause-claims
is_taken-taken-requires-clause-claims c =
    subst (λ (cs : List Claim). All IsRanged cs) (sym c.claims.ensures.value) (ranged c.args.flight.now.seats c.args.flight.now.claims c.claims.ensures.in_order)
