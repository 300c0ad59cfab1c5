-- Buckets that a step had from the hand, or from their slot, and that came back.
use Rattle.std.proofs.Common.{◌≡◌, Bool, Option, Some, None, sym, ap, ◌∙◌, subst}
use Rattle.std.specs.Prelude.{is_none, IfSome, if◌then◌else◌}
use Rattle.bc_held.specs.Taken.{TiesBuckets}
use Rattle.bc_place.specs.bc_hand.declared.hand.Hand.{Hand}
use Rattle.bc_place.specs.bc_machine.declared.part.BucketsPart.{BucketsPart}

-- where they went back to
came_back : (o : Option BucketsPart) (given left : BucketsPart) (taken : Bool)
    → IfSome o (λ p. p ≡ given) → taken ≡ is_none o → left ≡ given
    → (if taken then None else Some left) ≡ o
came_back None given left taken these says same = ap (λ b. if b then None else Some left) says
came_back (Some p) given left taken these says same =
    ap (λ b. if b then None else Some left) says ∙ ap (λ q. Some q) (same ∙ sym these)

-- seen by another name
pub these_as : (o : Option BucketsPart) (a b : BucketsPart) → b ≡ a → IfSome o (λ p. p ≡ a)
    → IfSome o (λ p. p ≡ b)
these_as o a b same these = subst (λ (x : BucketsPart). IfSome o (λ p. p ≡ x)) (sym same) these

module _ {C B : Type 0} (old lent new : Hand C B) (given left : BucketsPart) (taken : Bool)
    (these : IfSome old.buckets (λ p. p ≡ given)) (says : taken ≡ is_none old.buckets)
    (back : new ≡ record lent { buckets = if taken then None else Some left }) where
  pub tied : (tie : BucketsPart → BucketsPart → Type 0) → tie given left
      → TiesBuckets old new tie
  tied tie h p is = (
    left,
    ap (λ (k : Hand C B). k.buckets) back
        ∙ ap (λ b. if b then None else Some left)
        (says ∙ ap (λ (o : Option BucketsPart). is_none o) is),
    subst (λ (q : BucketsPart). tie q left)
        (sym (subst (λ (o : Option BucketsPart). IfSome o (λ q. q ≡ given)) is these)) h,
  )

  pub same_hand : lent ≡ record old { buckets = None } → left ≡ given → new ≡ old
  same_hand out same = back
      ∙ ap (λ (k : Hand C B). record k { buckets = if taken then None else Some left }) out
      ∙ ap (λ (o : Option BucketsPart). record old { buckets = o })
      (came_back old.buckets given left taken these says same)
