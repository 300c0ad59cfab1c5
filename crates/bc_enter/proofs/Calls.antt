-- A barrier, a write and a barrier: what they leave and count, one after another.
use Rattle.std.proofs.Common.{◌≡◌, ◌⊎◌, inl, inr, ℕ, List, Option, Some, None, ap, ◌∙◌, lit<, lit≤}
use Rattle.std.specs.Prelude.{Result, Ok, Err, IsErr}
use Rattle.bc_model.specs.Sector.{Value, Image}
use Rattle.bc_disk.specs.Disk.{BothTold, DiskFacts, IfTold, IsCounted, IsFailedWrite, IsSettled, Torn}
use Rattle.bc_disk.specs.Device.{next_count}
use Rattle.bc_disk.proofs.Stands.{CountsFault, CountsGood}
use Rattle.bc_super.specs.Writing.{AreCounted}
use Rattle.bc_enter.specs.Written.{IsPartly}

-- the first succeeded, and the second did not
pub second_fails : {E : Type 0} (r : Result (Unit {0}) E) (old mid new : DiskFacts) → IsErr r → CountsGood old mid → CountsFault mid new → AreCounted 3 r old new
second_fails (Ok u) old mid new fails first second = absurd (cc)
second_fails (Err e) old mid new fails first second = ((2, lit< tt, lit≤ tt, second.0 ∙ ap next_count first.0), second.1 ∙ ap next_count first.1)

-- two succeeded, and the third did or not
pub then_third : {E : Type 0} (r : Result (Unit {0}) E) (old one two new : DiskFacts) → CountsGood old one → CountsGood one two → IsCounted r two new → AreCounted 3 r old new
then_third (Ok u) old one two new first second third =
    (third.0 ∙ ap next_count (second.0 ∙ ap next_count first.0), third.1 ∙ second.1 ∙ first.1)
then_third (Err e) old one two new first second third =
    ((3, lit< tt, lit≤ tt, third.0 ∙ ap next_count (second.0 ∙ ap next_count first.0)), third.1 ∙ ap next_count (second.1 ∙ first.1))

module _ (at : ℕ) (values : List Value) where
  -- what holds of a torn write over an image holds over each image that reads the same
  torn_same : (a b image : Image) → ((s : ℕ) → b s ≡ a s) → Torn at values b image → Torn at values a image
  torn_same a b image same torn s = elim (torn s) [ inl e ↦ inl (e ∙ same s) | inr given ↦ inr given ]

  pub partly : (old mid new : DiskFacts) → IsSettled old mid → IsFailedWrite at values mid new → IsPartly at values old new
  partly old mid new one two = record {
    sectors = two.sectors ∙ one.sectors;
    holds = go old.holds mid.holds new.holds one.holds two.holds;
    leaves = left old.holds mid.holds one.holds one.leaves;
  }
    where
      go : (a b c : Option Image) → BothTold (λ (x y : Image). (s : ℕ) → y s ≡ x s) a b → BothTold (Torn at values) b c → BothTold (Torn at values) a c
      go None None None same torn = tt
      go None None (Some c) same torn = elim torn [ ]
      go None (Some b) c same torn = elim same [ ]
      go (Some a) None c same torn = elim same [ ]
      go (Some a) (Some b) None same torn = elim torn [ ]
      go (Some a) (Some b) (Some c) same torn = torn_same a b c same torn

      left : (a b : Option Image) → BothTold (λ (x y : Image). (s : ℕ) → y s ≡ x s) a b
          → IfTold b (λ held. (image : Image) → mid.may_leave image → (s : ℕ) → image s ≡ held s)
          → IfTold a (λ held. (image : Image) → new.may_leave image → old.may_leave image ⊎ Torn at values held image)
      left None b same only = tt
      left (Some a) None same only = elim same [ ]
      left (Some a) (Some b) same only = λ image may.
          let from = two.leaves.adds image may in
          inr (torn_same a from.0 image (λ s. only from.0 from.1 s ∙ same s) from.2)
