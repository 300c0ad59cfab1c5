use Rattle.std.proofs.Common.{◌≡◌, List, ◌<◌, sym, ap, ◌∙◌, subst, arith, length}
use Rattle.std.specs.Prelude.{IfSome, slice_get}
use Rattle.bc_flight.specs.declared.claim.Claim.{Claim}
use Rattle.bc_flight.specs.Flight.{InFlight, IsInOrder, without}
use Rattle.bc_flight.proofs.Ordered.{removed, in_order_without}
use Rattle.bc_flight.proofs.flight.Flight.release.Goals as goal

gone : (c : goal.After-remove) → c.remove.new.self.items ≡ without c.args.claim.seat c.self.inside.claims.items
gone c =
    let P : List Claim → Type 0 = λ cs. (c.in-Some.place < length cs) × IfSome (slice_get cs c.in-Some.place) (λ (x : Claim). x.seat ≡ c.args.claim.seat) in
    let there = subst P c.deref.ensures.value c.in-Some.ensures.some in
    c.remove.ensures.items ∙ removed c.self.inside.seats c.args.claim.seat c.self.inside.claims.items c.in-Some.place c.self.invariant.0 there.0 there.1

pub invariant_of-self : goal.invariant_of-self
invariant_of-self c =
    let some = c.self.invariant.1 in
    let same = c.remove.ensures.capacity in (
      subst (λ (cs : List Claim). IsInOrder c.self.inside.seats cs) (sym (gone c)) (in_order_without c.self.inside.seats c.args.claim.seat c.self.inside.claims.items c.self.invariant.0),
      omega arith,
    )

pub returns-clause-claims : goal.returns-clause-claims
returns-clause-claims c = gone c ∙ ap (λ (f : InFlight). without c.args.claim.seat f.claims) c.self.view_is
