-- Words are some keys' or no keys'.
use Rattle.std.proofs.Common.{subst, ◌≡◌, ◌≢◌, ◌⊎◌, inl, inr, ℕ, zero, suc, ◌+◌, ◌*◌, ◌/◌, ◌%◌, ◌^◌, ◌<◌, ◌≤◌, Bool, true, false, List, [], ◌∷◌, length, drop, slice_index, slice_index_or, refl, sym, ap, ◌∙◌, arith, ◌==◌}
use Rattle.std.specs.Prelude.{All}
use Rattle.std.proofs.lemmas.Bool.{cases_lt}
use Rattle.std.proofs.lemmas.Bool.Decides.{eqb_tells}
use Rattle.std.proofs.lemmas.List.{length-drop}
use Rattle.bc_key.specs.declared.key.Key.{Key}
use Rattle.bc_key.specs.declared.ptr.Ptr.{Ptr}
use Rattle.bc_key.specs.Ptr.{no_ptr, IsZero, IsZeroFrom}
use Rattle.bc_key.specs.Key.{ptr_at, IsExtent}
use Rattle.bc_key.specs.Words.{bit_of, ReadsAsPtr, ReadsAsHigh, Spells}
use Rattle.bc_key.proofs.KeyLaws.{one_key}
use Rattle.bc_keys.specs.Spelling.{SpellThen, SpellKeys}

-- it holds, or it doesn't
abbrev pub IsOrNot : Type 0 → Type 0
IsOrNot A = A ⊎ (A → ⊥)

pub given : {A B : Type 0} → IsOrNot A → (B → A) → (A → IsOrNot B) → IsOrNot B
given (inl a) need next = next a
given (inr nope) need next = inr (λ b. nope (need b))

pub equal : (a b : ℕ) → IsOrNot (a ≡ b)
equal a b = elim (eqb_tells a b) [ inl t ↦ inl t.1 | inr t ↦ inr t.1 ]

pub at_most : (a b : ℕ) → IsOrNot (a ≤ b)
at_most a b = elim (cases_lt b a) [ inl lt ↦ inr (λ le. absurd (omega arith)) | inr le ↦ inl le ]

pub below : (a b : ℕ) → IsOrNot (a < b)
below a b = elim (cases_lt a b) [ inl lt ↦ inl lt | inr le ↦ inr (λ lt. absurd (omega arith)) ]

abbrev ptr_in : ℕ → Ptr
ptr_in word = record {
  dev = word / 2 ^ 51 % 2 ^ 12;
  offset = word / 2 ^ 8 % 2 ^ 43;
  generation = word % 2 ^ 8;
  dev_fits = omega arith;
  offset_fits = omega arith;
  generation_fits = omega arith;
}

ptr_reads : (word : ℕ) → ReadsAsPtr word (ptr_in word)
ptr_reads word = record { generation = refl; offset = refl; dev = refl }

-- a place for a pointer holds one, or zeros
place_of : (i n word : ℕ) → (ptr : Ptr) × ((i < n → ReadsAsPtr word ptr) × (n ≤ i → IsZero ptr))
place_of i n word = elim (cases_lt i n) [
  | inl lt ↦ (ptr_in word, ((λ _. ptr_reads word), (λ le. absurd (omega arith))))
  | inr le ↦ (no_ptr, ((λ lt. absurd (omega arith)), (λ _. (refl, refl, refl))))
]

bit_in : (n : ℕ) → (b : Bool) × (n % 2 ≡ bit_of b)
bit_in n = elim (equal (n % 2) 0) [ inl e ↦ (false, e) | inr ne ↦ (true, omega arith) ]

module _ (words : List ℕ) (n : ℕ) (few : n ≤ 6) where
  at : (i : ℕ) → (ptr : Ptr) × ((i < n → ReadsAsPtr (slice_index words (2 + i)) ptr) × (n ≤ i → IsZero ptr))
  at i = place_of i n (slice_index words (2 + i))

  six : (ps : List Ptr) × (length ps ≡ 6) × ((i : ℕ) → i < n → ReadsAsPtr (slice_index words (2 + i)) (slice_index_or ps i no_ptr)) × IsZeroFrom n ps
  six = ((at 0).0 ∷ (at 1).0 ∷ (at 2).0 ∷ (at 3).0 ∷ (at 4).0 ∷ (at 5).0 ∷ [], refl, reads, zeros)
    where
      reads : (i : ℕ) → i < n → ReadsAsPtr (slice_index words (2 + i)) (slice_index_or ((at 0).0 ∷ (at 1).0 ∷ (at 2).0 ∷ (at 3).0 ∷ (at 4).0 ∷ (at 5).0 ∷ []) i no_ptr)
      reads zero lt = (at 0).1.0 lt
      reads (suc zero) lt = (at 1).1.0 lt
      reads (suc (suc zero)) lt = (at 2).1.0 lt
      reads (suc (suc (suc zero))) lt = (at 3).1.0 lt
      reads (suc (suc (suc (suc zero)))) lt = (at 4).1.0 lt
      reads (suc (suc (suc (suc (suc zero))))) lt = (at 5).1.0 lt
      reads (suc (suc (suc (suc (suc (suc i)))))) lt = absurd (omega arith)

      zeros : (i : ℕ) (d : Ptr) → n ≤ i → i < 6 → IsZero (slice_index_or ((at 0).0 ∷ (at 1).0 ∷ (at 2).0 ∷ (at 3).0 ∷ (at 4).0 ∷ (at 5).0 ∷ []) i d)
      zeros zero d le lt = (at 0).1.1 le
      zeros (suc zero) d le lt = (at 1).1.1 le
      zeros (suc (suc zero)) d le lt = (at 2).1.1 le
      zeros (suc (suc (suc zero))) d le lt = (at 3).1.1 le
      zeros (suc (suc (suc (suc zero)))) d le lt = (at 4).1.1 le
      zeros (suc (suc (suc (suc (suc zero))))) d le lt = (at 5).1.1 le
      zeros (suc (suc (suc (suc (suc (suc i)))))) d le lt = absurd (omega arith)

key_in : (words : List ℕ) (w0 n : ℕ) → w0 ≡ slice_index words 0 → n ≡ w0 / 2 ^ 60 % 2 ^ 3 → n ≤ 6 → 2 + n ≤ length words → slice_index words 1 < 2 ^ 64 → (key : Key) × Spells words key
key_in words w0 n is count few long fits =
    let ps = six words n few in
    let bit = bit_in (w0 / 2 ^ 36) in
    let key : Key = record {
      inode = w0 % 2 ^ 20;
      end = slice_index words 1;
      size = w0 / 2 ^ 20 % 2 ^ 16;
      dirty = bit.0;
      csum = w0 / 2 ^ 56 % 2 ^ 2;
      count = n;
      ptrs = ps.0;
      inode_fits = omega arith;
      end_fits = fits;
      size_fits = omega arith;
      csum_fits = omega arith;
      count_fits = few;
      six_places = ps.1;
      no_more_ptrs = ps.3;
    } in
    (key, record { long = long; high = subst (λ w. ReadsAsHigh w key) is (record { inode = refl; size = refl; dirty = bit.1; csum = refl; count = sym count }); end = refl; ptrs = ps.2 })

pub key_or_none : (words : List ℕ) → IsOrNot ((key : Key) × Spells words key)
key_or_none words =
    let n = slice_index words 0 / 2 ^ 60 % 2 ^ 3 in
    given (at_most (slice_index words 0 / 2 ^ 60 % 2 ^ 3) 6) (λ k. let is = k.1.high.count in let fits = k.0.count_fits in omega (arith, is, fits)) (λ few.
    given (at_most (2 + slice_index words 0 / 2 ^ 60 % 2 ^ 3) (length words)) (λ k. let is = k.1.high.count in let long = k.1.long in omega (arith, is, long)) (λ long.
    given (below (slice_index words 1) (2 ^ 64)) (λ k. let is = k.1.end in let fits = k.0.end_fits in omega (arith, is, fits)) (λ fits.
    inl (key_in words (slice_index words 0) (slice_index words 0 / 2 ^ 60 % 2 ^ 3) refl refl few long fits))))

some_word : (words : List ℕ) (key : Key) → Spells words key → words ≡ [] → ⊥
some_word words key spelled none = omega (arith, spelled.long, ap (λ (ws : List ℕ). length ws) none)

pub keys_or_none : (fuel : ℕ) (words : List ℕ) → length words ≤ fuel → IsOrNot ((keys : List Key) × SpellKeys words keys)
keys_or_none fuel [] le = inl ([], refl)
keys_or_none zero (x ∷ xs) le = absurd (omega arith)
keys_or_none (suc n) (x ∷ xs) le = go (λ ws few. keys_or_none n ws few) (key_or_none (x ∷ xs))
  where
    on : (key : Key) → Spells (x ∷ xs) key → IsOrNot ((keys : List Key) × SpellKeys (drop (2 + key.count) (x ∷ xs)) keys) → IsOrNot ((keys : List Key) × SpellKeys (x ∷ xs) keys)
    on key spelled (inl rest) = inl (key ∷ rest.0, (spelled, rest.1))
    on key spelled (inr nope) = inr (λ k. none k.0 k.1)
      where
        none : (keys : List Key) → SpellKeys (x ∷ xs) keys → ⊥
        none [] p = some_word (x ∷ xs) key spelled p
        none (k ∷ ks) p = nope (ks, subst (λ (j : Key). SpellKeys (drop (2 + j.count) (x ∷ xs)) ks) (one_key (x ∷ xs) k key p.0 spelled) p.1)

    go : ((ws : List ℕ) → length ws ≤ n → IsOrNot ((keys : List Key) × SpellKeys ws keys)) → IsOrNot ((key : Key) × Spells (x ∷ xs) key) → IsOrNot ((keys : List Key) × SpellKeys (x ∷ xs) keys)
    go ih (inl k) = on k.0 k.1 (ih (drop (2 + k.0.count) (x ∷ xs)) (let l = length-drop (2 + k.0.count) (x ∷ xs) in omega (arith, l, le)))
    go ih (inr nope) = inr (λ k. none k.0 k.1)
      where
        none : (keys : List Key) → SpellKeys (x ∷ xs) keys → ⊥
        none [] p = absurd (omega (arith, ap (λ (ws : List ℕ). length ws) p))
        none (k ∷ ks) p = nope (k, p.0)

pub all_or_none : {A : Type 0} → (P : A → Type 0) → ((x : A) → IsOrNot (P x)) → (xs : List A) → IsOrNot (All P xs)
all_or_none P each [] = inl (λ k d lt. absurd (omega arith))
all_or_none {A} P each (x ∷ xs) = go (each x) (all_or_none P each xs)
  where
    both : P x → All P xs → (k : ℕ) (d : A) → k < length (x ∷ xs) → P (slice_index_or (x ∷ xs) k d)
    both p ps zero d lt = p
    both p ps (suc k) d lt = ps k d (omega arith)

    go : IsOrNot (P x) → IsOrNot (All P xs) → IsOrNot (All P (x ∷ xs))
    go (inr nope) r = inr (λ h. nope (h 0 x (omega arith)))
    go (inl p) (inr nope) = inr (λ h. nope (λ k d lt. h (suc k) d (omega arith)))
    go (inl p) (inl ps) = inl (both p ps)

pub keys_are_or_not : (words : List ℕ) → IsOrNot ((keys : List Key) × SpellKeys words keys)
keys_are_or_not words = keys_or_none (length words) words (omega arith)
