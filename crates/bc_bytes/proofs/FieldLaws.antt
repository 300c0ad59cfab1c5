-- What a number written into bytes leaves to be read.
use Rattle.std.proofs.Common.{min, slice_range, subst, ◌≡◌, ℕ, zero, suc, ◌+◌, ◌-◌, ◌^◌, ◌<◌, ◌≤◌, ◌⊎◌, List, ◌++◌, length, take, drop, get_or, slice_index, refl, sym, ap, ◌∙◌, inl, inr, arith}
use Rattle.std.proofs.lemmas.List.{ext_get_or, length-take, append-nil, append_assoc, drop-drop, take_rest, drop_all, drop_at, length-drop, length-take-le, length-append, get_or-drop, get_or-append_right, get_or_append_left, get_or-take}
use borrow.Rule.Slice.PartMut.{put_mid}
use Rattle.byteorder.specs.Endian.{little_from, little_number, little_bytes}
use Rattle.byteorder.specs.Numbers.{little_number-reads_back, length-bytes_low_first}
use Rattle.bc_bytes.specs.Fields.{number_at, with_number, SameOutside}

-- the number reads the bytes of its places alone
little_from_same : (n i : ℕ) (xs ys : List ℕ) → ((j : ℕ) → i ≤ j → j < i + n → slice_index xs j ≡ slice_index ys j) → little_from i n xs ≡ little_from i n ys
little_from_same zero i xs ys h = refl
little_from_same (suc n) i xs ys h =
    let here : slice_index xs i ≡ slice_index ys i = h i (omega arith) (omega arith) in
    let rest = little_from_same n (suc i) xs ys (λ j low high. h j (omega arith) (omega arith)) in
    rw (here, rest) refl

module _ (n : ℕ) (bytes : List ℕ) (at value : ℕ) (fits : at + n ≤ length bytes) where
  front_length : length (take at bytes) ≡ at
  front_length = length-take-le at bytes (omega arith)

  -- the number itself is read again
  pub number_at-with_number_same : value < 256 ^ n → number_at n (with_number n bytes at value) at ≡ value
  unfolding number_at with_number
  number_at-with_number_same small =
      let front = front_length in
      ap (λ xs. little_number n (drop at xs)) (append_assoc (take at bytes) (little_bytes n value) (drop (at + n) bytes))
      ∙ ap (little_number n) (drop_at (take at bytes) (little_bytes n value ++ drop (at + n) bytes) at front)
      ∙ little_number-reads_back n value (drop (at + n) bytes) small

  byte_before : (k : ℕ) → k < at → slice_index (with_number n bytes at value) k ≡ slice_index bytes k
  unfolding with_number
  byte_before k h =
      let front = front_length in
      ap (λ xs. get_or xs k 0) (append_assoc (take at bytes) (little_bytes n value) (drop (at + n) bytes))
      ∙ get_or_append_left (take at bytes) (little_bytes n value ++ drop (at + n) bytes) 0 k (omega arith)
      ∙ get_or-take at bytes k 0 h

  byte_behind : (k : ℕ) → at + n ≤ k → slice_index (with_number n bytes at value) k ≡ slice_index bytes k
  unfolding with_number
  byte_behind k h =
      let front = front_length in
      let written : length (take at bytes ++ little_bytes n value) ≡ at + n = omega (arith, length-append (take at bytes) (little_bytes n value), length-bytes_low_first 0 n value) in
      let moved : at + n + (k - (at + n)) ≡ k = omega arith in
      get_or-append_right (take at bytes ++ little_bytes n value) (drop (at + n) bytes) (at + n) k 0 written h
      ∙ get_or-drop (at + n) bytes (k - (at + n)) 0
      ∙ ap (slice_index bytes) moved

  -- each byte elsewhere stays
  byte_outside : (k : ℕ) → (k < at) ⊎ (at + n ≤ k) → slice_index (with_number n bytes at value) k ≡ slice_index bytes k
  byte_outside k (inl before) = byte_before k before
  byte_outside k (inr behind) = byte_behind k behind

  length-with_number : length (with_number n bytes at value) ≡ length bytes
  unfolding with_number
  length-with_number =
      let front = front_length in
      omega (arith, length-append (take at bytes ++ little_bytes n value) (drop (at + n) bytes), length-append (take at bytes) (little_bytes n value), length-bytes_low_first 0 n value, length-drop (at + n) bytes)

  numbers_outside : (m k : ℕ) → (k + m ≤ at) ⊎ (at + n ≤ k) → number_at m (with_number n bytes at value) k ≡ number_at m bytes k
  unfolding number_at
  numbers_outside m k apart =
      let byte : (j : ℕ) → j < m → (k + j < at) ⊎ (at + n ≤ k + j) = λ j h. elim apart [ inl before ↦ inl (omega arith) | inr behind ↦ inr (omega arith) ] in
      little_from_same m 0 _ _ (λ j low high. get_or-drop k (with_number n bytes at value) j 0 ∙ byte_outside (k + j) (byte j (omega arith)) ∙ sym (get_or-drop k bytes j 0))

  parts_outside : (i j : ℕ) → (j ≤ at) ⊎ (at + n ≤ i) → slice_range (with_number n bytes at value) i j ≡ slice_range bytes i j
  parts_outside i j apart =
      let new = with_number n bytes at value in
      let byte : (k : ℕ) → k < j - i → (i + k < at) ⊎ (at + n ≤ i + k) = λ k h. elim apart [ inl before ↦ inl (omega arith) | inr behind ↦ inr (omega arith) ] in
      let long = length-with_number in
      let new_length : length (slice_range new i j) ≡ min (j - i) (length new - i) = length-take (j - i) (drop i new) ∙ ap (min (j - i)) (length-drop i new) in
      let old_length : length (slice_range bytes i j) ≡ min (j - i) (length bytes - i) = length-take (j - i) (drop i bytes) ∙ ap (min (j - i)) (length-drop i bytes) in
      ext_get_or 0 _ _ (new_length ∙ ap (λ l. min (j - i) (l - i)) long ∙ sym old_length) (λ k h.
      let inside : k < j - i = omega arith in
      get_or-take (j - i) (drop i new) k 0 inside ∙ get_or-drop i new k 0
      ∙ byte_outside (i + k) (byte k inside)
      ∙ sym (get_or-take (j - i) (drop i bytes) k 0 inside ∙ get_or-drop i bytes k 0))

  -- what stands elsewhere is read as before
  pub SameOutside-with_number : SameOutside n bytes (with_number n bytes at value) at
  SameOutside-with_number = record { numbers = numbers_outside; parts = parts_outside }

  -- what a write into the part of the slice from the place leaves of the whole
  pub written_part : (part : List ℕ) → part ≡ little_bytes n value ++ drop n (take (length bytes - at) (drop at bytes)) → put_mid at (length bytes - at) bytes part ≡ with_number n bytes at value
  unfolding with_number
  written_part part e =
      let none = drop_all (length bytes - at) (drop at bytes) (omega (arith, length-drop at bytes)) in
      ap (λ rest. take at bytes ++ (part ++ rest)) none
      ∙ ap (λ xs. take at bytes ++ xs) (append-nil part ∙ e ∙ ap (λ rest. little_bytes n value ++ rest) (ap (drop n) (take_rest bytes at) ∙ drop-drop n at bytes))
      ∙ sym (append_assoc (take at bytes) (little_bytes n value) (drop (at + n) bytes))

  pub record Puts (new : List ℕ) : Type 0 where
    pub written : new ≡ with_number n bytes at value
    pub field : number_at n new at ≡ value
    pub others : SameOutside n bytes new at

  -- what holds of that whole
  pub puts : (part : List ℕ) → value < 256 ^ n → part ≡ little_bytes n value ++ drop n (take (length bytes - at) (drop at bytes)) → Puts (put_mid at (length bytes - at) bytes part)
  puts part small e =
      let is = written_part part e in
      record {
        written = is;
        field = ap (λ xs. number_at n xs at) is ∙ number_at-with_number_same small;
        others = subst (λ xs. SameOutside n bytes xs at) (sym is) SameOutside-with_number;
      }
