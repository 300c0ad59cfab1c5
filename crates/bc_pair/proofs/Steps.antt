-- What steps leave, one after another.
use Rattle.std.proofs.Common.{◌≡◌, inl, inr, ℕ, zero, suc, ◌+◌, ◌<◌, ◌≤◌, List, [], ◌∷◌, length, refl, ap, ◌∙◌, arith}
use Rattle.std.specs.Prelude.{Option, Some, None, Result, Ok, Err, IsErr}
use Rattle.bc_model.specs.Sector.{Value, Image, at_run, unless}
use Rattle.bc_model.proofs.Runs.{at_miss}
use Rattle.bc_disk.specs.Device.{next_count}
use Rattle.bc_disk.specs.Disk.{DiskFacts, IfTold, BothTold, Overwritten, Torn, IsHonest, IsKept, IsWritten, IsFailedWrite, IsSettled, IsCounted}
use Rattle.bc_super.specs.Writing.{AreCounted, IsBackingStored, IsBackingTorn, IsStored, count_after}
use Rattle.bc_super.specs.declared.backing.BackingSuper.{BackingSuper}
use Rattle.bc_pair.specs.Causes.{KeepsOthers}
use Rattle.bc_pair.specs.Steps.{WritesOnly}

-- ---- what is told

pub if_told : (h : Option Image) (P : Type 0) → P → IfTold h (λ _. P)
if_told None P p = tt
if_told (Some image) P p = p

-- told before where it is told after, and the other way round
pub told_before : (R : Image → Image → Type 0) (P : Type 0) (a b : Option Image) → BothTold R a b → IfTold b (λ _. P) → IfTold a (λ _. P)
told_before R P None b both is = tt
told_before R P (Some a) None both is = elim both [ ]
told_before R P (Some a) (Some b) both is = is

pub told_after : (R : Image → Image → Type 0) (P : Type 0) (a b : Option Image) → BothTold R a b → IfTold a (λ _. P) → IfTold b (λ _. P)
told_after R P a None both is = tt
told_after R P None (Some b) both is = elim both [ ]
told_after R P (Some a) (Some b) both is = is

pub told_both : (P Q R : Type 0) (h : Option Image) → (P → Q → R) → IfTold h (λ _. P) → IfTold h (λ _. Q) → IfTold h (λ _. R)
told_both P Q R None step p q = tt
told_both P Q R (Some image) step p q = step p q

pub both_joined : (R S T : Image → Image → Type 0) (a b c : Option Image) → ((x y z : Image) → R x y → S y z → T x z) → BothTold R a b → BothTold S b c → BothTold T a c
both_joined R S T None None None step one two = tt
both_joined R S T None None (Some z) step one two = elim two [ ]
both_joined R S T None (Some y) c step one two = elim one [ ]
both_joined R S T (Some x) None c step one two = elim one [ ]
both_joined R S T (Some x) (Some y) None step one two = elim two [ ]
both_joined R S T (Some x) (Some y) (Some z) step one two = step x y z one two

pub both_weaker : (R S : Image → Image → Type 0) (a b : Option Image) → ((x y : Image) → R x y → S x y) → BothTold R a b → BothTold S a b
both_weaker R S None None step is = tt
both_weaker R S None (Some y) step is = elim is [ ]
both_weaker R S (Some x) None step is = elim is [ ]
both_weaker R S (Some x) (Some y) step is = step x y is

pub both_same : (R : Image → Image → Type 0) (a : Option Image) → ((x : Image) → R x x) → BothTold R a a
both_same R None step = tt
both_same R (Some x) step = step x

-- ---- no sectors but those of which P holds

abbrev pub Same : Image → Image → Type 0
Same a z = (s : ℕ) → z s ≡ a s

abbrev pub SameBut : (ℕ → Type 0) → Image → Image → Type 0
SameBut P a z = (s : ℕ) → (P s → ⊥) → z s ≡ a s

-- whatever is left might have been left, but for such sectors
abbrev pub LeftBut : (ℕ → Type 0) → DiskFacts → DiskFacts → Type 0
LeftBut P old new = (image : Image) → new.may_leave image → (before : Image) × old.may_leave before × SameBut P before image

left_joined : (P : ℕ → Type 0) (old mid new : DiskFacts) → LeftBut P old mid → LeftBut P mid new → LeftBut P old new
left_joined P old mid new one two image may =
    let last = two image may in
    let first = one last.0 last.1 in
    (first.0, first.1, λ s out. last.2 s out ∙ first.2 s out)

module _ (P : ℕ → Type 0) where
  pub only_none : (d : DiskFacts) → WritesOnly P d d
  only_none d = record {
    sectors = refl;
    holds = both_same (SameBut P) d.holds (λ x s out. refl);
    leaves = if_told d.holds (LeftBut P d d) (λ image may. (image, may, λ s out. refl));
  }

  pub only_joined : (old mid new : DiskFacts) → WritesOnly P old mid → WritesOnly P mid new → WritesOnly P old new
  only_joined old mid new one two = record {
    sectors = two.sectors ∙ one.sectors;
    holds = both_joined (SameBut P) (SameBut P) (SameBut P) old.holds mid.holds new.holds (λ x y z before after s out. after s out ∙ before s out) one.holds two.holds;
    leaves = told_both (LeftBut P old mid) (LeftBut P mid new) (LeftBut P old new) old.holds (left_joined P old mid new) one.leaves (told_before (SameBut P) (LeftBut P mid new) old.holds mid.holds one.holds two.leaves);
  }

  pub only_kept : (old new : DiskFacts) → IsKept old new → WritesOnly P old new
  only_kept old new is = record {
    sectors = is.sectors;
    holds = both_weaker Same (SameBut P) old.holds new.holds (λ x y same s out. same s) is.holds;
    leaves = if_told old.holds (LeftBut P old new) (λ image may. (image, (is.leaves image).0 may, λ s out. refl));
  }

  -- what is all that a crash leaves is what it might have left, but for such sectors
  only_held : (old new : DiskFacts) → BothTold (SameBut P) old.holds new.holds → IfTold old.holds old.may_leave
      → IfTold new.holds (λ held. (image : Image) → new.may_leave image → (s : ℕ) → image s ≡ held s) → IfTold old.holds (λ _. LeftBut P old new)
  only_held old new = go old.holds new.holds
    where
      go : (a b : Option Image) → BothTold (SameBut P) a b → IfTold a old.may_leave → IfTold b (λ held. (image : Image) → new.may_leave image → (s : ℕ) → image s ≡ held s) → IfTold a (λ _. LeftBut P old new)
      go None b both possible is = tt
      go (Some a) None both possible is = elim both [ ]
      go (Some a) (Some b) both possible is = λ image may. (a, possible, λ s out. is image may s ∙ both s out)

  pub only_settled : (old new : DiskFacts) → IsHonest old → IsSettled old new → WritesOnly P old new
  only_settled old new honest is =
      let holds = both_weaker Same (SameBut P) old.holds new.holds (λ x y same s out. same s) is.holds in
      record { sectors = is.sectors; holds = holds; leaves = only_held old new holds honest.possible is.leaves }

  -- of a run that stands in such sectors
  module _ (at : ℕ) (values : List Value) (inside : (s : ℕ) → at ≤ s → s < at + length values → P s) where
    missed : (s : ℕ) → (P s → ⊥) → at_run at values s ≡ None
    missed s out = at_miss at values s (λ range. out (inside s range.0 range.1))

    over_missed : (a z : Image) → Overwritten at values a z → SameBut P a z
    over_missed a z over s out = over s ∙ ap (λ (o : Option Value). unless o (a s)) (missed s out)

    torn_missed : (a z : Image) → Torn at values a z → SameBut P a z
    torn_missed a z torn s out = elim (torn s) [ inl same ↦ same | inr given ↦ absurd (let none = missed s out in cc) ]

    pub only_written : (old new : DiskFacts) → IsWritten at values old new → WritesOnly P old new
    only_written old new is = record {
      sectors = is.sectors;
      holds = both_weaker (Overwritten at values) (SameBut P) old.holds new.holds over_missed is.holds;
      leaves = if_told old.holds (LeftBut P old new) (λ image may. let from = (is.leaves image).0 may in (from.0, from.1, torn_missed from.0 image from.2));
    }

    pub only_failed : (old new : DiskFacts) → IsFailedWrite at values old new → WritesOnly P old new
    only_failed old new is = record {
      sectors = is.sectors;
      holds = both_weaker (Torn at values) (SameBut P) old.holds new.holds torn_missed is.holds;
      leaves = if_told old.holds (LeftBut P old new) (λ image may. let from = is.leaves.adds image may in (from.0, from.1, torn_missed from.0 image from.2));
    }

    pub only_stored : (old new : DiskFacts) → IsHonest old → IsStored at values old new → WritesOnly P old new
    only_stored old new honest is =
        let holds = both_weaker (Overwritten at values) (SameBut P) old.holds new.holds over_missed is.holds in
        record { sectors = is.sectors; holds = holds; leaves = only_held old new holds honest.possible is.leaves }

pub only_weaker : (P Q : ℕ → Type 0) → ((s : ℕ) → P s → Q s) → (old new : DiskFacts) → WritesOnly P old new → WritesOnly Q old new
only_weaker P Q more old new is = record {
  sectors = is.sectors;
  holds = both_weaker (SameBut P) (SameBut Q) old.holds new.holds (λ x y same s out. same s (λ p. out (more s p))) is.holds;
  leaves = go old.holds is.leaves;
}
  where
    go : (a : Option Image) → IfTold a (λ _. LeftBut P old new) → IfTold a (λ _. LeftBut Q old new)
    go None left = tt
    go (Some held) left = λ image may. let from = left image may in (from.0, from.1, λ s out. from.2 s (λ p. out (more s p)))

-- ---- counts

pub counts_joined : (m n count : ℕ) → count_after m (count_after n count) ≡ count_after (n + m) count
counts_joined zero n count = let none : n ≡ n + 0 = omega arith in ap (λ k. count_after k count) none
counts_joined (suc m) n count = let more : suc (n + m) ≡ n + suc m = omega arith in ap next_count (counts_joined m n count) ∙ ap (λ k. count_after k count) more

-- so many good calls, and then these
pub counted_behind : {E : Type 0} (n m : ℕ) (r : Result (Unit {0}) E) (old mid new : DiskFacts) → mid.calls ≡ count_after n old.calls → mid.faults ≡ old.faults → AreCounted m r mid new → AreCounted (n + m) r old new
counted_behind n m (Ok u) old mid new calls faults is = (is.0 ∙ ap (count_after m) calls ∙ counts_joined m n old.calls, is.1 ∙ faults)
counted_behind n m (Err e) old mid new calls faults is =
    let (k, some, few, more) = is.0 in
    ((n + k, omega arith, omega arith, more ∙ ap (count_after k) calls ∙ counts_joined k n old.calls), is.1 ∙ ap next_count faults)

-- a failed call among fewer
pub counted_sooner : {D E : Type 0} (n m : ℕ) (r : Result (Unit {0}) D) (q : Result (Unit {0}) E) (old new : DiskFacts) → n ≤ m → IsErr r → IsErr q → AreCounted n r old new → AreCounted m q old new
counted_sooner n m (Ok u) q old new few failed fails is = absurd (cc)
counted_sooner n m (Err e) (Ok u) old new few failed fails is = absurd (cc)
counted_sooner n m (Err e) (Err d) old new few failed fails is =
    let (k, some, less, calls) = is.0 in
    ((k, some, omega arith, calls), is.1)

pub counted_once : {E : Type 0} (r : Result (Unit {0}) E) (old new : DiskFacts) → IsCounted r old new → AreCounted 1 r old new
counted_once (Ok u) old new is = is
counted_once (Err e) old new is = ((1, omega arith, omega arith, is.0), is.1)

-- so many good calls, and then one that failed
pub counted_fails : {E : Type 0} (n m : ℕ) (r : Result (Unit {0}) E) (old mid new : DiskFacts) → n < m → IsErr r → mid.calls ≡ count_after n old.calls → mid.faults ≡ old.faults → (new.calls ≡ next_count mid.calls) × (new.faults ≡ next_count mid.faults) → AreCounted m r old new
counted_fails n m (Ok u) old mid new few fails calls faults failed = absurd (cc)
counted_fails n m (Err e) old mid new few fails calls faults failed = ((suc n, omega arith, omega arith, failed.0 ∙ ap next_count calls), failed.1 ∙ ap next_count faults)

-- one more good call
pub one_more : (n mid new count : ℕ) → mid ≡ count_after n count → new ≡ next_count mid → new ≡ count_after (n + 1) count
one_more n mid new count calls next = let one : suc n ≡ n + 1 = omega arith in next ∙ ap next_count calls ∙ ap (λ k. count_after k count) one

-- ---- the backing device

first_is_8 : (value : Value) (s : ℕ) → 8 ≤ s → s < 8 + length (value ∷ []) → s ≡ 8
first_is_8 value s low high = omega arith

-- where no sector but the first of the superblock was written
pub keeps_others : (old new : DiskFacts) → WritesOnly (λ s. s ≡ 8) old new → KeepsOthers old new
keeps_others old new is = record {
  sectors = is.sectors;
  holds = is.holds;
  leaves = told_after (SameBut (λ s. s ≡ 8)) (LeftBut (λ s. s ≡ 8) old new) old.holds new.holds is.holds is.leaves;
}

pub stored_keeps : (b : BackingSuper) (old new : DiskFacts) → IsHonest old → IsBackingStored b old new → KeepsOthers old new
stored_keeps b old new honest (bytes, is, stored) = keeps_others old new (only_stored (λ s. s ≡ 8) 8 (bytes ∷ []) (first_is_8 bytes) old new honest stored)

pub torn_keeps : (b : BackingSuper) (old new : DiskFacts) → IsBackingTorn b old new → KeepsOthers old new
torn_keeps b old new (bytes, is, torn) = keeps_others old new (only_failed (λ s. s ≡ 8) 8 (bytes ∷ []) (first_is_8 bytes) old new torn)

pub kept_keeps : (old new : DiskFacts) → IsKept old new → KeepsOthers old new
kept_keeps old new is = keeps_others old new (only_kept (λ s. s ≡ 8) old new is)

pub others_joined : (old mid new : DiskFacts) → KeepsOthers old mid → KeepsOthers mid new → KeepsOthers old new
others_joined old mid new one two =
    keeps_others old new (only_joined (λ s. s ≡ 8) old mid new (only_one old mid one) (only_one mid new two))
  where
    only_one : (old new : DiskFacts) → KeepsOthers old new → WritesOnly (λ s. s ≡ 8) old new
    only_one old new is = record { sectors = is.sectors; holds = is.holds; leaves = told_before (SameBut (λ s. s ≡ 8)) (LeftBut (λ s. s ≡ 8) old new) old.holds new.holds is.holds is.leaves }
