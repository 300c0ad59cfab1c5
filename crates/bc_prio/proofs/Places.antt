-- Numbers and bytes at places of a list of bytes, and what a change elsewhere leaves of them.
use Rattle.std.proofs.Common.{◌≡◌, ◌⊎◌, inl, inr, ℕ, zero, suc, ◌+◌, ◌*◌, ◌%◌, ◌<◌, ◌≤◌, List, ◌∷◌, ◌++◌, [], length, take, drop, replicate, slice_index, slice_set, refl, sym, ap, ◌∙◌, subst, arith}
use Rattle.std.proofs.Math.Nat.{mod-eq_of_lt}
use Rattle.std.proofs.lemmas.List.{get_or-drop, append_assoc, get_or-replicate, get_or_past, length-replicate}
use Rattle.std.proofs.lemmas.Bool.{cases_lt}
use Rattle.bc_bytes.specs.Fields.{number_at, with_number, SameOutside}
use Rattle.bc_bytes.proofs.FieldLaws.{SameOutside-with_number, number_at-with_number_same}
use Rattle.bc_disk.specs.declared.gens.BucketRecord.{BucketRecord}
use Rattle.bc_prio.specs.Set.{IsRecord}

pub byte_at : (xs : List ℕ) (k : ℕ) → number_at 1 xs k ≡ slice_index xs k
unfolding number_at
byte_at xs k = let moved : k + 0 ≡ k = omega arith in omega (arith, get_or-drop k xs 0 0 ∙ ap (slice_index xs) moved)

pub byte_kept : (n : ℕ) (old new : List ℕ) (at k : ℕ) → SameOutside n old new at → (k < at) ⊎ (at + n ≤ k) → slice_index new k ≡ slice_index old k
byte_kept n old new at k same apart =
    let side : (k + 1 ≤ at) ⊎ (at + n ≤ k) = elim apart [ inl before ↦ inl (omega arith) | inr behind ↦ inr behind ] in
    sym (byte_at new k) ∙ same.numbers 1 k side ∙ byte_at old k

-- each byte of zeros is 0, and so is what is read past their end
pub byte_of_zeros : (n : ℕ) (xs : List ℕ) (k : ℕ) → xs ≡ replicate n 0 → slice_index xs k ≡ 0
byte_of_zeros n xs k is = ap (λ (ys : List ℕ). slice_index ys k) is ∙ go (cases_lt k n)
  where
    go : (k < n) ⊎ (n ≤ k) → slice_index (replicate n 0) k ≡ 0
    go (inl inside) = get_or-replicate n k 0 0 inside
    go (inr past) = get_or_past (replicate n 0) k 0 (let long : length (replicate n 0) ≡ n = length-replicate {A = ℕ} n 0 in omega arith)

-- nothing has changed
pub same_none : (bytes : List ℕ) (at : ℕ) → SameOutside 0 bytes bytes at
same_none bytes at = record { numbers = λ m k apart. refl; parts = λ i j apart. refl }

-- two changes within a window
pub same_within : (n a b : ℕ) (old mid new : List ℕ) (at x y : ℕ) → SameOutside a old mid x → SameOutside b mid new y
    → at ≤ x → x + a ≤ at + n → at ≤ y → y + b ≤ at + n → SameOutside n old new at
same_within n a b old mid new at x y first then low high from to = record {
  numbers = λ m k apart.
      then.numbers m k (elim apart [ inl before ↦ inl (omega arith) | inr behind ↦ inr (omega arith) ])
      ∙ first.numbers m k (elim apart [ inl before ↦ inl (omega arith) | inr behind ↦ inr (omega arith) ]);
  parts = λ i j apart.
      then.parts i j (elim apart [ inl before ↦ inl (omega arith) | inr behind ↦ inr (omega arith) ])
      ∙ first.parts i j (elim apart [ inl before ↦ inl (omega arith) | inr behind ↦ inr (omega arith) ]);
}

-- a byte that is written is a number of one byte
set_cut : (xs : List ℕ) (at value : ℕ) → at < length xs → slice_set xs at value ≡ take at xs ++ (value ∷ drop (at + 1) xs)
set_cut [] at value inside = absurd (omega arith)
set_cut (x ∷ xs) zero value inside = refl
set_cut (x ∷ xs) (suc at) value inside =
    let moved : suc (at + 1) ≡ suc at + 1 = omega arith in
    ap (λ (ys : List ℕ). x ∷ ys) (set_cut xs at value (omega arith)) ∙ ap (λ k. x ∷ (take at xs ++ (value ∷ drop k (x ∷ xs)))) moved

set_number : (xs : List ℕ) (at value : ℕ) → at < length xs → value < 256 → slice_set xs at value ≡ with_number 1 xs at value
unfolding with_number
set_number xs at value inside small =
    set_cut xs at value inside
    ∙ ap (λ v. take at xs ++ (v ∷ drop (at + 1) xs)) (sym (mod-eq_of_lt small))
    ∙ sym (append_assoc (take at xs) (value % 256 ∷ []) (drop (at + 1) xs))

-- a record whose priority was written, and then its generation
module _ (old mid : List ℕ) (i : ℕ) (entry : BucketRecord) (same : SameOutside 2 old mid (40 + 3 * i)) (inside : 43 + 3 * i ≤ length mid) (small : entry.generation < 256) where
  last_byte : SameOutside 1 mid (slice_set mid (40 + 3 * i + 2) entry.generation) (40 + 3 * i + 2)
  last_byte =
      let is = set_number mid (40 + 3 * i + 2) entry.generation (omega arith) small in
      subst (λ (xs : List ℕ). SameOutside 1 mid xs (40 + 3 * i + 2)) (sym is) (SameOutside-with_number 1 mid (40 + 3 * i + 2) entry.generation (omega arith))

  pub record_written : number_at 2 mid (40 + 3 * i) ≡ entry.priority → IsRecord (slice_set mid (40 + 3 * i + 2) entry.generation) i entry
  record_written priority =
      let is = set_number mid (40 + 3 * i + 2) entry.generation (omega arith) small in
      let place : 42 + 3 * i ≡ 40 + 3 * i + 2 = omega arith in (
        last_byte.numbers 2 (40 + 3 * i) (inl (omega arith)) ∙ priority,
        ap (slice_index (slice_set mid (40 + 3 * i + 2) entry.generation)) place
            ∙ sym (byte_at (slice_set mid (40 + 3 * i + 2) entry.generation) (40 + 3 * i + 2))
            ∙ ap (λ (xs : List ℕ). number_at 1 xs (40 + 3 * i + 2)) is
            ∙ number_at-with_number_same 1 mid (40 + 3 * i + 2) entry.generation (omega arith) small,
      )

  pub record_others : SameOutside 3 old (slice_set mid (40 + 3 * i + 2) entry.generation) (40 + 3 * i)
  record_others = same_within 3 2 1 old mid (slice_set mid (40 + 3 * i + 2) entry.generation) (40 + 3 * i) (40 + 3 * i) (40 + 3 * i + 2) same last_byte (omega arith) (omega arith) (omega arith) (omega arith)
