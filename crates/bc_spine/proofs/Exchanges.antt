-- Exchanges of leaves.
use Rattle.std.proofs.Common.{◌≡◌, ℕ, zero, suc, ◌%◌, ◌<◌, List, [], ◌∷◌, ◌++◌, length, get_or, take, drop, ap, ◌∙◌, subst, arith}
use Rattle.std.specs.Prelude.{All, AllPairs, Some, slice_get}
use Rattle.std.proofs.lemmas.List.Elements.{All-cons, All-nil, Contains-get_or}
use Rattle.std.proofs.lemmas.List.Kept.{AllPairs-cons}
use Rattle.bc_spine.specs.declared.leaf.LeafRange.{LeafRange}
use Rattle.bc_spine.specs.Leaves.{IsRow, EndsAtCut, HaveTwoNumbers, AreLeaves, CanReplace}
use Rattle.bc_spine.specs.Numbers.{HasNumber, IsLeastFree}
use Rattle.bc_spine.proofs.Lists.{AllPairs-append}

pub one_there : (xs : List LeafRange) (n : ℕ) (x : LeafRange) → slice_get xs n ≡ Some x → take 1 (drop n xs) ≡ x ∷ []
one_there [] n x is = absurd (cc)
one_there (y ∷ xs) zero x is = let e : y ≡ x = cc in ap (λ (v : LeafRange). v ∷ []) e
one_there (y ∷ xs) (suc n) x is = one_there xs n x is

pub two_there : (xs : List LeafRange) (n : ℕ) (x y : LeafRange) → slice_get xs n ≡ Some x → slice_get xs (suc n) ≡ Some y → take 2 (drop n xs) ≡ x ∷ y ∷ []
two_there [] n x y is next = absurd (cc)
two_there (z ∷ []) zero x y is next = absurd (cc)
two_there (z ∷ w ∷ xs) zero x y is next = let e : z ≡ x = cc in let f : w ≡ y = cc in cc
two_there (z ∷ xs) (suc n) x y is next = two_there xs n x y is next

-- a leaf that comes has a number that none of these has
pub unlike : (xs : List LeafRange) (x : LeafRange) → ¬ (HasNumber xs x.number) → All (λ y. HaveTwoNumbers y x) xs
unlike xs x free k d inside same = free (get_or xs k d, Contains-get_or xs k d inside, same)

pub fresh : (xs : List LeafRange) (n : ℕ) (x : LeafRange) → IsLeastFree xs n x.number → All (λ y. HaveTwoNumbers y x) xs
fresh xs n x least k d inside same = least.free (get_or xs k d, Contains-get_or xs k d inside, same)

pub one_comes : (xs : List LeafRange) (x : LeafRange) → AllPairs HaveTwoNumbers xs → ¬ (HasNumber xs x.number) → AllPairs HaveTwoNumbers (xs ++ x ∷ [])
one_comes xs x all free =
    AllPairs-append HaveTwoNumbers xs (x ∷ []) all (λ i j d before inside. absurd (omega arith))
    (λ k d inside. All-cons (HaveTwoNumbers (get_or xs k d)) x [] (unlike xs x free k d inside) (All-nil (HaveTwoNumbers (get_or xs k d))))

pub two_come : (xs : List LeafRange) (x y : LeafRange) → AllPairs HaveTwoNumbers xs → IsLeastFree xs 0 x.number → IsLeastFree xs (suc x.number) y.number → AllPairs HaveTwoNumbers (xs ++ x ∷ y ∷ [])
two_come xs x y all first second =
    AllPairs-append HaveTwoNumbers xs (x ∷ y ∷ []) all
    (AllPairs-cons HaveTwoNumbers x (y ∷ []) (All-cons (HaveTwoNumbers x) y [] (λ same. omega (arith, second.from, same)) (All-nil (HaveTwoNumbers x))) (λ i j d before inside. absurd (omega arith)))
    (λ k d inside. All-cons (HaveTwoNumbers (get_or xs k d)) x (y ∷ []) (fresh xs 0 x first k d inside)
    (All-cons (HaveTwoNumbers (get_or xs k d)) y [] (fresh xs (suc x.number) y second k d inside) (All-nil (HaveTwoNumbers (get_or xs k d)))))

-- what stands at a place
pub is_there : (xs : List LeafRange) (n : ℕ) (x : LeafRange) → slice_get xs n ≡ Some x → (n < length xs) × (get_or xs n x ≡ x)
is_there [] n x is = absurd (cc)
is_there (y ∷ xs) zero x is = (omega arith, cc)
is_there (y ∷ xs) (suc n) x is = let rest = is_there xs n x is in (omega (arith, rest.0), rest.1)

-- the end of a leaf at a place is a multiple of 256
cut_there : (xs : List LeafRange) (n : ℕ) (x : LeafRange) → All EndsAtCut xs → slice_get xs n ≡ Some x → EndsAtCut x
cut_there xs n x all is = let there = is_there xs n x is in subst EndsAtCut there.1 (all n x there.0)

-- one leaf gives way to two
pub split_fits : (xs : List LeafRange) (end n : ℕ) (x low high : LeafRange) → AreLeaves xs end → slice_get xs n ≡ Some x → low.from ≡ x.from → low.from < low.end → high.from ≡ low.end → high.from < high.end → high.end ≡ x.end
    → EndsAtCut low → IsLeastFree xs 0 low.number → IsLeastFree xs (suc low.number) high.number → CanReplace xs (take 1 (drop n xs)) (low ∷ high ∷ [])
split_fits xs end n x low high all is begins some meets more ends cut first second = record {
  same_range = λ a b row. let old = subst (λ (ys : List LeafRange). IsRow a ys b) (one_there xs n x is) row in
      (begins ∙ old.0, omega (arith, begins, old.0), (meets, omega (arith, meets), ends ∙ old.2));
  cuts = All-cons EndsAtCut low (high ∷ []) cut (All-cons EndsAtCut high [] (ap (λ m. m % 256) ends ∙ cut_there xs n x all.cuts is) (All-nil EndsAtCut));
  numbers = two_come xs low high all.numbers first second;
}

-- one leaf gives way to one
pub move_fits : (xs : List LeafRange) (end n : ℕ) (x new : LeafRange) → AreLeaves xs end → slice_get xs n ≡ Some x → new.from ≡ x.from → new.end ≡ x.end → ¬ (HasNumber xs new.number) → CanReplace xs (take 1 (drop n xs)) (new ∷ [])
move_fits xs end n x new all is begins ends first = record {
  same_range = λ a b row. let old = subst (λ (ys : List LeafRange). IsRow a ys b) (one_there xs n x is) row in
      (begins ∙ old.0, omega (arith, old.1, ends), ends ∙ old.2);
  cuts = All-cons EndsAtCut new [] (ap (λ m. m % 256) ends ∙ cut_there xs n x all.cuts is) (All-nil EndsAtCut);
  numbers = one_comes xs new all.numbers first;
}

-- two leaves give way to one
pub merge_fits : (xs : List LeafRange) (end n : ℕ) (x y new : LeafRange) → AreLeaves xs end → slice_get xs n ≡ Some x → slice_get xs (suc n) ≡ Some y → new.from ≡ x.from → new.end ≡ y.end → IsLeastFree xs 0 new.number → CanReplace xs (take 2 (drop n xs)) (new ∷ [])
merge_fits xs end n x y new all is next begins ends first = record {
  same_range = λ a b row. let old = subst (λ (ys : List LeafRange). IsRow a ys b) (two_there xs n x y is next) row in
      (begins ∙ old.0, omega (arith, old.1, old.2.1, ends), ends ∙ old.2.2);
  cuts = All-cons EndsAtCut new [] (ap (λ m. m % 256) ends ∙ cut_there xs (suc n) y all.cuts next) (All-nil EndsAtCut);
  numbers = one_comes xs new all.numbers first.free;
}
