-- Numbers and parts of bytes that are the same up to a place, or from a place on.
use Rattle.std.proofs.Common.{◌≡◌, inl, inr, ℕ, ◌+◌, ◌-◌, ◌≤◌, List, length, take, drop, slice_range, sym, ap, ◌∙◌, arith}
use Rattle.std.proofs.lemmas.List.{take-take, drop-take, drop-drop}
use Rattle.std.proofs.lemmas.Slice.{between_is, take-put_mid_below, drop-put_mid}
use Rattle.byteorder.specs.Endian.{little_number}
use Rattle.byteorder.specs.Numbers.{little_from-take}
use borrow.Rule.Slice.PartMut.{put_mid}
use Rattle.bc_bytes.specs.Fields.{number_at, SameOutside}

pub number_of_front : (n k m : ℕ) (xs : List ℕ) → k + n ≤ m → number_at n (take m xs) k ≡ number_at n xs k
unfolding number_at
number_of_front n k m xs low =
    let split : k + (m - k) ≡ m = omega arith in
    ap (λ j. little_number n (drop k (take j xs))) (sym split) ∙ ap (little_number n) (drop-take k (m - k) xs) ∙ little_from-take 0 n (m - k) (drop k xs) (omega arith)

pub part_of_front : (i j m : ℕ) (xs : List ℕ) → j ≤ m → slice_range (take m xs) i j ≡ slice_range xs i j
part_of_front i j m xs low = between_is (take m xs) i j ∙ ap (drop i) (take-take j m xs low) ∙ sym (between_is xs i j)

same_back : (k m : ℕ) (xs ys : List ℕ) → m ≤ k → drop m xs ≡ drop m ys → drop k xs ≡ drop k ys
same_back k m xs ys low same =
    let split : m + (k - m) ≡ k = omega arith in
    ap (λ j. drop j xs) (sym split) ∙ sym (drop-drop (k - m) m xs) ∙ ap (drop (k - m)) same ∙ drop-drop (k - m) m ys ∙ ap (λ j. drop j ys) split

-- what stands outside a part that was written is as it was
pub outside_put : (bytes ys : List ℕ) (at k n : ℕ) → n ≡ k → length ys ≡ k → at + k ≤ length bytes → SameOutside n bytes (put_mid at k bytes ys) at
unfolding number_at
outside_put bytes ys at k n same long fits = record {
  numbers = λ m i apart. elim apart [
    | inl before ↦
        sym (number_of_front m i at new before) ∙ ap (λ xs. number_at m xs i) front ∙ number_of_front m i at bytes before
    | inr behind ↦ ap (little_number m) (same_back i (at + k) new bytes (omega arith) back)
  ];
  parts = λ i j apart. elim apart [
    | inl before ↦
        sym (part_of_front i j at new before) ∙ ap (λ xs. slice_range xs i j) front ∙ part_of_front i j at bytes before
    | inr behind ↦ ap (take (j - i)) (same_back i (at + k) new bytes (omega arith) back)
  ];
}
  where
    new : List ℕ
    new = put_mid at k bytes ys

    front : take at new ≡ take at bytes
    front = take-put_mid_below at k bytes ys at (omega arith) (omega arith)

    back : drop (at + k) new ≡ drop (at + k) bytes
    back = drop-put_mid at k bytes ys (at + k) (omega arith) (omega arith) long
