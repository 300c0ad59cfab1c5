-- What a few calls leave and count, one after another.
use Rattle.std.proofs.Common.{◌≡◌, inl, inr, ℕ, zero, suc, ◌+◌, Bool, true, false, List, [], ◌∷◌, Option, Some, None, refl, sym, ap, ◌∙◌, lit<, lit≤, arith}
use Rattle.std.specs.Prelude.{Result, Ok, Err, IsErr, ◌==◌, if◌then◌else◌}
use Rattle.bc_model.specs.Sector.{Value, Image, at_run, unless}
use Rattle.bc_disk.specs.Disk.{DiskFacts, IfTold, BothTold, Overwritten, Torn, IsFailedWrite, IsCounted}
use Rattle.bc_disk.specs.Device.{next_count}
use Rattle.bc_disk.proofs.Stands.{CountsGood, CountsFault}
use Rattle.bc_super.specs.Writing.{IsStored, LastTorn, IsLastTorn, AreCounted, count_after}

-- the first of two failed
pub first_fails : {E : Type 0} (r : Result (Unit {0}) E) (old new : DiskFacts) → IsErr r → CountsFault old new → AreCounted 2 r old new
first_fails (Ok u) old new fails counts = absurd (cc)
first_fails (Err e) old new fails counts = ((1, lit< tt, lit≤ tt, counts.0), counts.1)

-- the first succeeded, and the second did or not
pub then_second : {E : Type 0} (r : Result (Unit {0}) E) (old mid new : DiskFacts) → CountsGood old mid → IsCounted r mid new → AreCounted 2 r old new
then_second (Ok u) old mid new first second = (second.0 ∙ ap next_count first.0, second.1 ∙ first.1)
then_second (Err e) old mid new first second = ((2, lit< tt, lit≤ tt, second.0 ∙ ap next_count first.0), second.1 ∙ ap next_count first.1)

-- ---- two stores, each of two calls

counts_on : (n count : ℕ) → count_after n (count_after 2 count) ≡ count_after (n + 2) count
counts_on zero count = refl
counts_on (suc n) count = let more : suc n + 2 ≡ suc (n + 2) = omega arith in ap next_count (counts_on n count) ∙ ap (λ k. count_after k count) (sym more)

pub then_second_store : {E : Type 0} (r : Result (Unit {0}) E) (old mid new : DiskFacts) → (mid.calls ≡ count_after 2 old.calls) × (mid.faults ≡ old.faults) → AreCounted 2 r mid new → AreCounted 4 r old new
then_second_store (Ok u) old mid new first second = (second.0 ∙ ap (count_after 2) first.0, second.1 ∙ first.1)
then_second_store (Err e) old mid new first second =
    let (k, some, few, calls) = second.0 in
    ((k + 2, omega arith, omega arith, calls ∙ ap (count_after k) first.0 ∙ counts_on k old.calls), second.1 ∙ ap next_count first.1)

-- the sectors behind the first one, and then the first one
module _ (at : ℕ) (first : Value) (rest : List Value) where
  over_both : (before mid after : Image) → Overwritten (suc at) rest before mid → Overwritten at (first ∷ []) mid after → Overwritten at (first ∷ rest) before after
  over_both before mid after over last s = go (at == s) (last s)
    where
      go : (here : Bool) → after s ≡ unless (if here then Some first else None) (mid s) → after s ≡ unless (if here then Some first else at_run (suc at) rest s) (before s)
      go true is = is
      go false is = is ∙ over s

  pub stored_both : (old mid new : DiskFacts) → IsStored (suc at) rest old mid → IsStored at (first ∷ []) mid new → IsStored at (first ∷ rest) old new
  stored_both old mid new one two = record {
    sectors = two.sectors ∙ one.sectors;
    holds = go old.holds mid.holds new.holds one.holds two.holds;
    leaves = two.leaves;
  }
    where
      go : (a b c : Option Image) → BothTold (Overwritten (suc at) rest) a b → BothTold (Overwritten at (first ∷ [])) b c → BothTold (Overwritten at (first ∷ rest)) a c
      go None None None over last = tt
      go None None (Some c) over last = elim last [ ]
      go None (Some b) c over last = elim over [ ]
      go (Some a) None c over last = elim over [ ]
      go (Some a) (Some b) None over last = elim last [ ]
      go (Some a) (Some b) (Some c) over last = over_both a b c over last

  torn_last : (before mid after : Image) → Overwritten (suc at) rest before mid → Torn at (first ∷ []) mid after → LastTorn at rest first before after
  torn_last before mid after over last s = elim (last s) [ inl e ↦ inl (e ∙ over s) | inr given ↦ inr given ]

  pub last_torn : (old mid new : DiskFacts) → IsStored (suc at) rest old mid → IsFailedWrite at (first ∷ []) mid new → IsLastTorn at rest first old new
  last_torn old mid new one two = record {
    sectors = two.sectors ∙ one.sectors;
    holds = go old.holds mid.holds new.holds one.holds two.holds;
    leaves = left old.holds mid.holds one.holds one.leaves;
  }
    where
      go : (a b c : Option Image) → BothTold (Overwritten (suc at) rest) a b → BothTold (Torn at (first ∷ [])) b c → BothTold (LastTorn at rest first) a c
      go None None None over last = tt
      go None None (Some c) over last = elim last [ ]
      go None (Some b) c over last = elim over [ ]
      go (Some a) None c over last = elim over [ ]
      go (Some a) (Some b) None over last = elim last [ ]
      go (Some a) (Some b) (Some c) over last = torn_last a b c over last

      left : (a b : Option Image) → BothTold (Overwritten (suc at) rest) a b → IfTold b (λ held. (image : Image) → mid.may_leave image → (s : ℕ) → image s ≡ held s) → IfTold a (λ held. (image : Image) → new.may_leave image → LastTorn at rest first held image)
      left None b over only = tt
      left (Some a) None over only = elim over [ ]
      left (Some a) (Some b) over only = λ image may.
          let from = two.leaves.adds image may in
          torn_last a from.0 image (λ s. only from.0 from.1 s ∙ over s) from.2
