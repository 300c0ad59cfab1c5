-- Claims and candidates that a step had from the hand, or from their slot, and that came back.
use Rattle.std.proofs.Common.{◌≡◌, Bool, Option, Some, None, sym, ap, ◌∙◌, subst}
use Rattle.std.specs.Prelude.{is_none, IfSome, if◌then◌else◌}
use Rattle.bc_flight.specs.Flight.{InFlight}
use Rattle.bc_place.specs.bc_hand.declared.hand.Hand.{Hand}
use Rattle.bc_candidate.specs.Noted.{TiesFlight}

-- where they went back to
came_back : (o : Option InFlight) (given left : InFlight) (taken : Bool)
    → IfSome o (λ f. f ≡ given) → taken ≡ is_none o → left ≡ given
    → (if taken then None else Some left) ≡ o
came_back None given left taken these says same = ap (λ b. if b then None else Some left) says
came_back (Some f) given left taken these says same =
    ap (λ b. if b then None else Some left) says ∙ ap (λ g. Some g) (same ∙ sym these)

module _ {C B : Type 0} (old lent new : Hand C B) (given left : InFlight) (taken : Bool)
    (these : IfSome old.flight (λ f. f ≡ given)) (says : taken ≡ is_none old.flight)
    (back : new ≡ record lent { flight = if taken then None else Some left }) where
  pub tied : (tie : InFlight → InFlight → Type 0) → tie given left → TiesFlight old new tie
  tied tie h f is = (
    left,
    ap (λ (k : Hand C B). k.flight) back
        ∙ ap (λ b. if b then None else Some left)
        (says ∙ ap (λ (o : Option InFlight). is_none o) is),
    subst (λ (g : InFlight). tie g left)
        (sym (subst (λ (o : Option InFlight). IfSome o (λ g. g ≡ given)) is these)) h,
  )

  pub same_hand : lent ≡ record old { flight = None } → left ≡ given → new ≡ old
  same_hand out same = back
      ∙ ap (λ (k : Hand C B). record k { flight = if taken then None else Some left }) out
      ∙ ap (λ (o : Option InFlight). record old { flight = o })
      (came_back old.flight given left taken these says same)
