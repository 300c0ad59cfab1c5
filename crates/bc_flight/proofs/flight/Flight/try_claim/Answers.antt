use Rattle.std.proofs.Common.{◌≡◌, List, ◌<◌, sym, ◌∙◌, subst, arith}
use Rattle.std.specs.Prelude.{All, None}
use Rattle.bc_flight.specs.declared.claim.Claim.{Claim}
use Rattle.bc_flight.specs.Claims.{conflicts_any}
use Rattle.bc_flight.specs.Flight.{InFlight, IsRanged, IsInOrder, HasConflict, claim_at, claim_of}
use Rattle.bc_flight.proofs.Ordered.{ranged, room_for, in_order_more, taken}
use Rattle.bc_flight.proofs.flight.Flight.try_claim.Goals as goal

pub conflicts_with-requires-clause-claims : goal.conflicts_with-requires-clause-claims
conflicts_with-requires-clause-claims c = subst (λ (cs : List Claim). All IsRanged cs) (sym c.deref.ensures.value) (ranged c.self.inside.seats c.self.inside.claims.items c.self.invariant.0)

pub unreachable-requires : goal.unreachable-requires
unreachable-requires c =
    let inside = subst (λ (f : InFlight). c.args.seat < f.seats) (sym c.self.view_is) c.requires.seat in
    let none = subst (λ (f : InFlight). claim_of c.args.seat f.claims ≡ None) (sym c.self.view_is) c.requires.none in
    let room = room_for c.self.inside.seats c.self.inside.claims.items (claim_at c.args.seat c.args.first c.args.count c.args.share) c.self.invariant.0 inside none in
    let full = c.in_default.ensures.full in
    let some = c.self.invariant.1 in
    omega arith

pub invariant_of-self : goal.invariant_of-self
invariant_of-self c =
    let inside = subst (λ (f : InFlight). c.args.seat < f.seats) (sym c.self.view_is) c.requires.seat in
    let none = subst (λ (f : InFlight). claim_of c.args.seat f.claims ≡ None) (sym c.self.view_is) c.requires.none in
    let free = subst (λ (cs : List Claim). c.conflicts_with.result ≡ conflicts_any (claim_at c.args.seat c.args.first c.args.count c.args.share) cs) c.deref.ensures.value c.conflicts_with.ensures in
    let some = c.self.invariant.1 in
    let same = c.in-Ok.ensures.capacity in (
      subst (λ (cs : List Claim). IsInOrder c.self.inside.seats cs) (sym c.in-Ok.ensures.items)
          (in_order_more c.self.inside.seats c.self.inside.claims.items (claim_at c.args.seat c.args.first c.args.count c.args.share) c.self.invariant.0 inside c.requires.range none (sym free ∙ c.if-conflicts_with.false)),
      omega arith,
    )

pub returns-then-conflicts_with-clause-taken : goal.returns-then-conflicts_with-clause-taken
returns-then-conflicts_with-clause-taken c =
    let claim = claim_at c.args.seat c.args.first c.args.count c.args.share in
    let found = subst (λ (cs : List Claim). c.conflicts_with.result ≡ conflicts_any claim cs) c.deref.ensures.value c.conflicts_with.ensures in
    subst (λ (f : InFlight). HasConflict claim f.claims) c.self.view_is (taken c.self.inside.seats claim c.self.inside.claims.items c.self.invariant.0 (sym found ∙ c.if-conflicts_with.true))
