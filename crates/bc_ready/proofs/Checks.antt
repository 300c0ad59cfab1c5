-- What holds of each bucket of a list, found one by one.
use Rattle.std.proofs.Common.{◌≡◌, ◌≢◌, ◌⊎◌, inl, inr, ℕ, ◌+◌, ◌<◌, ◌≤◌, false, List, [], length, get_or, take, refl, sym, ◌∙◌, subst, arith}
use Rattle.std.proofs.lemmas.Bool.{cases_eq, cases_lt}
use Rattle.std.specs.Prelude.{IsTrue}
use Rattle.std.proofs.lemmas.List.{get_or-map, length-map, take_all}
use Rattle.bc_alloc.proofs.Loops.{there, times_more}
use Rattle.bc_alloc.proofs.Times.{times_other}
use Rattle.bc_alloc.specs.Buckets.{AreLoose}
use Rattle.bc_alloc.specs.Reserve.{IsDistinct, times}
use Rattle.bc_fill.specs.Fill.{bucket_numbers}
use Rattle.bc_fill.specs.declared.fill.Open as fill
use Rattle.bc_raise.specs.bc_machine.declared.part.BucketsPart.{BucketsPart}
use Rattle.bc_raise.specs.bc_renew.Ready.{AreTaken}
use Rattle.bc_ready.specs.Free.{IsLooseOnce, IsTakenOnce}

-- so it is of each of these
abbrev pub EachIs : (ℕ → Type 0) → List ℕ → Type 0
EachIs P ks = (j : ℕ) → 0 < times j ks → P j

pub none_yet : (P : ℕ → Type 0) (ks : List ℕ) → EachIs P (take 0 ks)
none_yet P ks j some = absurd (let none : times j [] ≡ 0 = refl in omega (arith, some, none))

-- of one more
pub one_more : (P : ℕ → Type 0) (ks : List ℕ) (i : ℕ) → i < length ks → P (get_or ks i 0)
    → EachIs P (take i ks) → EachIs P (take (i + 1) ks)
one_more P ks i within its before j some = go (cases_eq j (get_or ks i 0))
  where
    go : (j ≡ get_or ks i 0) ⊎ (j ≢ get_or ks i 0) → P j
    go (inl e) = subst P (sym e) its
    go (inr ne) = before j (let more = times_more ks i j within in
        let none = times_other j (get_or ks i 0) (λ e. ne (sym e)) in
        omega (arith, some, more, none))

pub all_are : (P : ℕ → Type 0) (ks : List ℕ) (i : ℕ) → length ks ≤ i → EachIs P (take i ks)
    → EachIs P ks
all_are P ks i all h = subst (EachIs P) (take_all i ks all) h

-- what stands there once wherever it does is there once
pub distinct_by : (ks : List ℕ) → EachIs (λ k. times k ks ≤ 1) ks → IsDistinct ks
distinct_by ks once k = go (cases_lt 0 (times k ks))
  where
    go : (0 < times k ks) ⊎ (times k ks ≤ 0) → times k ks ≤ 1
    go (inl some) = once k some
    go (inr none) = omega (arith, none)

pub loose_by : (p : BucketsPart) (ks : List ℕ) → EachIs (IsLooseOnce p ks) ks
    → IsDistinct ks × AreLoose p.reserves p.buckets ks
loose_by p ks h = (
  distinct_by ks (λ k some. (h k some).once),
  λ k some. ((h k some).there, (h k some).listed, (h k some).not_held),
)

pub loose_once : (p : BucketsPart) (ks : List ℕ)
    → IsDistinct ks × AreLoose p.reserves p.buckets ks → (k : ℕ) → 0 < times k ks
    → IsLooseOnce p ks k
loose_once p ks h k some = record {
  once = h.0 k;
  there = (h.1 k some).0;
  listed = (h.1 k some).1;
  not_held = (h.1 k some).2;
}

pub taken_by : (p : BucketsPart) (ks : List ℕ) → EachIs (IsTakenOnce p ks) ks → AreTaken p ks
taken_by p ks h = record {
  distinct = distinct_by ks (λ k some. (h k some).once);
  each = λ k some. (h k some).taken;
}

pub taken_once : (p : BucketsPart) (ks : List ℕ) → AreTaken p ks → (k : ℕ) → 0 < times k ks
    → IsTakenOnce p ks k
taken_once p ks h k some = record { once = h.distinct k; taken = h.each k some }

pub not_true : IsTrue false → ⊥
not_true e = cc

-- one of the open ones
pub open_there : (fs : List fill.Open) (i k : ℕ) (d : fill.Open) → i < length fs
    → (get_or fs i d).bucket ≡ k → 0 < times k (bucket_numbers fs)
open_there fs i k d within is = subst (λ (n : ℕ). 0 < times n (bucket_numbers fs))
    (get_or-map (λ (o : fill.Open). o.bucket) fs i d 0 within ∙ is)
    (there (bucket_numbers fs) i
    (let same = length-map fs (λ (o : fill.Open). o.bucket) in omega (arith, within, same)))
