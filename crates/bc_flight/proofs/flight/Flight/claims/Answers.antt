use Rattle.std.proofs.Common.{◌≡◌, ◌≤◌, length, subst}
use Rattle.std.specs.Prelude.{All, Some}
use Rattle.bc_flight.specs.Flight.{InFlight, claim_of}
use Rattle.bc_flight.specs.declared.claim.Claim.{Claim}
use Rattle.bc_flight.proofs.Ordered.{at_most, stand}
use Rattle.bc_flight.proofs.flight.Flight.claims.Goals as goal

pub returns-clause-few : goal.returns-clause-few
returns-clause-few c = subst (λ (f : InFlight). length f.claims ≤ f.seats) c.self.view_is (at_most c.self.inside.seats c.self.inside.claims.items c.self.invariant.0)

pub returns-clause-stand : goal.returns-clause-stand
returns-clause-stand c = subst (λ (f : InFlight). All (λ (x : Claim). claim_of x.seat f.claims ≡ Some x) f.claims) c.self.view_is (stand c.self.inside.seats c.self.inside.claims.items c.self.invariant.0)
