-- Words in bytes.
use Rattle.std.proofs.Common.{◌≡◌, ◌⊎◌, inl, inr, ℕ, zero, suc, ◌+◌, ◌-◌, ◌*◌, ◌<◌, ◌≤◌, List, [], ◌∷◌, ◌++◌, length, take, drop, slice_index, slice_range, refl, sym, ap, ◌∙◌, arith}
use Rattle.std.proofs.Math.Nat.{suc-add, zero-add}
use Rattle.std.proofs.lemmas.List.{drop_at, drop-take, length-take, length-take-le, take_at, take_more}
use Rattle.byteorder.specs.Endian.{little_number}
use Rattle.byteorder.specs.Numbers.{little_from-take}
use Rattle.bc_bytes.specs.Fields.{number_at, SameOutside}
use Rattle.bc_keys.specs.Spelling.{words_at}

pub length-words_at : (n : ℕ) (bytes : List ℕ) (at : ℕ) → length (words_at n bytes at) ≡ n
unfolding words_at
length-words_at zero bytes at = refl
length-words_at (suc n) bytes at = ap suc (length-words_at n bytes (at + 8))

pub get_or-words_at : (n : ℕ) (bytes : List ℕ) (at i : ℕ) → i < n → slice_index (words_at n bytes at) i ≡ number_at 8 bytes (at + 8 * i)
unfolding words_at
get_or-words_at zero bytes at i h = absurd (omega arith)
get_or-words_at (suc n) bytes at zero h = let here : at ≡ at + 8 * 0 = omega arith in ap (number_at 8 bytes) here
get_or-words_at (suc n) bytes at (suc i) h =
    let here : at + 8 + 8 * i ≡ at + 8 * suc i = omega arith in
    get_or-words_at n bytes (at + 8) i (omega arith) ∙ ap (number_at 8 bytes) here

-- n words, and m behind them
pub words_at-add : (n m : ℕ) (bytes : List ℕ) (at : ℕ) → words_at (n + m) bytes at ≡ words_at n bytes at ++ words_at m bytes (at + 8 * n)
unfolding words_at
words_at-add zero m bytes at =
    let here : at ≡ at + 8 * 0 = omega arith in
    ap (λ k. words_at k bytes at) (zero-add m) ∙ ap (words_at m bytes) here
words_at-add (suc n) m bytes at =
    let here : at + 8 + 8 * n ≡ at + 8 * suc n = omega arith in
    ap (λ k. words_at k bytes at) (suc-add n m)
    ∙ ap (λ ws. number_at 8 bytes at ∷ ws) (words_at-add n m bytes (at + 8) ∙ ap (λ p. words_at n bytes (at + 8) ++ words_at m bytes p) here)

pub words_at_more : (n : ℕ) (bytes : List ℕ) (at : ℕ) → words_at (n + 1) bytes at ≡ words_at n bytes at ++ number_at 8 bytes (at + 8 * n) ∷ []
unfolding words_at
words_at_more n bytes at = words_at-add n 1 bytes at

pub drop-words_at : (k n : ℕ) (bytes : List ℕ) (at : ℕ) → k ≤ n → drop k (words_at n bytes at) ≡ words_at (n - k) bytes (at + 8 * k)
drop-words_at k n bytes at h =
    let split : n ≡ k + (n - k) = omega arith in
    ap (λ m. drop k (words_at m bytes at)) split
    ∙ ap (drop k) (words_at-add k (n - k) bytes at)
    ∙ drop_at (words_at k bytes at) (words_at (n - k) bytes (at + 8 * k)) k (length-words_at k bytes at)

pub no_words : (bytes : List ℕ) (at n : ℕ) → n ≡ 0 → words_at n bytes at ≡ []
unfolding words_at
no_words bytes at n e = ap (λ m. words_at m bytes at) e

-- ---- writes

pub SameOutside-none : (bytes : List ℕ) (at n : ℕ) → n ≡ 0 → SameOutside n bytes bytes at
SameOutside-none bytes at n e = record { numbers = λ m k apart. refl; parts = λ i j apart. refl }

-- a write, and one behind it
pub SameOutside-then : (m n k : ℕ) (old mid new : List ℕ) (at next : ℕ) → next ≡ at + m → k ≡ m + n → SameOutside m old mid at → SameOutside n mid new next → SameOutside k old new at
SameOutside-then m n k old mid new at next here both first second = record {
  numbers = λ w p apart. elim apart [
    | inl before ↦ second.numbers w p (inl (omega arith)) ∙ first.numbers w p (inl before)
    | inr behind ↦ second.numbers w p (inr (omega arith)) ∙ first.numbers w p (inr (omega arith))
  ];
  parts = λ i j apart. elim apart [
    | inl before ↦ second.parts i j (inl (omega arith)) ∙ first.parts i j (inl before)
    | inr behind ↦ second.parts i j (inr (omega arith)) ∙ first.parts i j (inr (omega arith))
  ];
}

-- words that a write doesn't touch
pub words_at-kept : (n m : ℕ) (old new : List ℕ) (at place : ℕ) → SameOutside m old new place → (at + 8 * n ≤ place) ⊎ (place + m ≤ at) → words_at n new at ≡ words_at n old at
unfolding words_at
words_at-kept zero m old new at place same apart = refl
words_at-kept (suc n) m old new at place same apart =
    let first : (at + 8 ≤ place) ⊎ (place + m ≤ at) = elim apart [ inl before ↦ inl (omega arith) | inr behind ↦ inr behind ] in
    let rest : (at + 8 + 8 * n ≤ place) ⊎ (place + m ≤ at + 8) = elim apart [ inl before ↦ inl (omega arith) | inr behind ↦ inr (omega arith) ] in
    ap (λ w. w ∷ words_at n new (at + 8)) (same.numbers 8 at first)
    ∙ ap (λ ws. number_at 8 old at ∷ ws) (words_at-kept n m old new (at + 8) place same rest)

-- one more word read
pub words_read : (i at word : ℕ) (bytes words old : List ℕ) → take i old ≡ words_at i bytes at → take (i + 1) words ≡ take i old ++ word ∷ [] → word ≡ number_at 8 bytes (at + 8 * i) → take (i + 1) words ≡ words_at (i + 1) bytes at
words_read i at word bytes words old so_far more is =
    more ∙ ap (λ ws. ws ++ word ∷ []) so_far ∙ ap (λ w. words_at i bytes at ++ w ∷ []) is ∙ sym (words_at_more i bytes at)

-- one more word written
pub words_written : (i at : ℕ) (mid new words : List ℕ) → i < length words → words_at i mid at ≡ take i words → number_at 8 new (at + 8 * i) ≡ slice_index words i → SameOutside 8 mid new (at + 8 * i) → words_at (i + 1) new at ≡ take (i + 1) words
words_written i at mid new words inside so_far field same =
    words_at_more i new at
    ∙ ap (λ ws. ws ++ number_at 8 new (at + 8 * i) ∷ []) (words_at-kept i 8 mid new at (at + 8 * i) same (inl (omega arith)) ∙ so_far)
    ∙ ap (λ w. take i words ++ w ∷ []) field
    ∙ sym (take_more words i 0 inside)

-- ---- fronts

-- a number within the front of bytes
pub number_at-take : (n : ℕ) (bytes : List ℕ) (at m : ℕ) → at + n ≤ m → number_at n (take m bytes) at ≡ number_at n bytes at
unfolding number_at
number_at-take n bytes at m h =
    let split : m ≡ at + (m - at) = omega arith in
    ap (λ k. little_number n (drop at (take k bytes))) split
    ∙ ap (little_number n) (drop-take at (m - at) bytes)
    ∙ little_from-take 0 n (m - at) (drop at bytes) (omega arith)

-- bytes with the same front
pub number_at-front : (n : ℕ) (a b : List ℕ) (at m : ℕ) → take m a ≡ take m b → at + n ≤ m → number_at n a at ≡ number_at n b at
number_at-front n a b at m same h =
    sym (number_at-take n a at m h) ∙ ap (λ xs. number_at n xs at) same ∙ number_at-take n b at m h

pub words_at-front : (n : ℕ) (a b : List ℕ) (at m : ℕ) → take m a ≡ take m b → at + 8 * n ≤ m → words_at n a at ≡ words_at n b at
unfolding words_at
words_at-front zero a b at m same h = refl
words_at-front (suc n) a b at m same h =
    ap (λ w. w ∷ words_at n a (at + 8)) (number_at-front 8 a b at m same (omega arith))
    ∙ ap (λ ws. number_at 8 b at ∷ ws) (words_at-front n a b (at + 8) m same (omega arith))

-- the part of bytes that ends a front
pub slice_range-front : (a b : List ℕ) (i m : ℕ) → take m a ≡ take m b → i ≤ m → slice_range a i m ≡ slice_range b i m
slice_range-front a b i m same h =
    let split : m ≡ i + (m - i) = omega arith in
    let part : (xs : List ℕ) → drop i (take m xs) ≡ slice_range xs i m = λ xs. ap (λ k. drop i (take k xs)) split ∙ drop-take i (m - i) xs in
    sym (part a) ∙ ap (drop i) same ∙ part b

-- the part of so many bytes from a place on
pub slice_range-take : (bytes : List ℕ) (place m : ℕ) → slice_range bytes place (place + m) ≡ take m (drop place bytes)
slice_range-take bytes place m = let width : place + m - place ≡ m = omega arith in ap (λ n. take n (drop place bytes)) width

-- a front of m bytes is whole in bytes that begin with it
pub front_fits : (a b : List ℕ) (m : ℕ) → take m a ≡ take m b → m ≤ length b → m ≤ length a
front_fits a b m same h =
    let lengths = ap (λ (xs : List ℕ). length xs) same in
    omega (arith, lengths, length-take m a, length-take m b)

-- a front stands in front of anything
pub take-front : (bytes rest : List ℕ) (m : ℕ) → m ≤ length bytes → take m (take m bytes ++ rest) ≡ take m bytes
take-front bytes rest m h = take_at (take m bytes) rest m (length-take-le m bytes h)

-- a write within a range leaves what is outside of the range
pub SameOutside-within : (n m : ℕ) (old new : List ℕ) (at place : ℕ) → place ≤ at → at + n ≤ place + m → SameOutside n old new at → SameOutside m old new place
SameOutside-within n m old new at place low high same = record {
  numbers = λ w p apart. same.numbers w p (elim apart [ inl before ↦ inl (omega arith) | inr behind ↦ inr (omega arith) ]);
  parts = λ i j apart. same.parts i j (elim apart [ inl before ↦ inl (omega arith) | inr behind ↦ inr (omega arith) ]);
}

-- two writes within one range
pub SameOutside-both : (m : ℕ) (old mid new : List ℕ) (at : ℕ) → SameOutside m old mid at → SameOutside m mid new at → SameOutside m old new at
SameOutside-both m old mid new at first second = record {
  numbers = λ w p apart. second.numbers w p apart ∙ first.numbers w p apart;
  parts = λ i j apart. second.parts i j apart ∙ first.parts i j apart;
}
