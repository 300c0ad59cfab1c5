-- A piece of bytes that was written into others.
use Rattle.std.proofs.Common.{◌≡◌, ◌⊎◌, inl, inr, ℕ, ◌+◌, ◌-◌, ◌*◌, ◌<◌, ◌≤◌, List, ◌++◌, length, take, drop, get_or, slice_index, slice_index_or, slice_range, min, replicate, sym, subst, ap, ◌∙◌, arith}
use Rattle.std.proofs.lemmas.Bool.{cases_lt}
use Rattle.std.proofs.lemmas.List.{ext_get_or, get_or-drop, get_or-take, length-take, length-drop, length-append, get_or-append_right, get_or-replicate, get_or_past, length-replicate, get_or_default, take-append-le, take_all}
use Rattle.std.proofs.lemmas.Slice.{take-put_mid_below, drop-put_mid, between-put_mid}
use borrow.Rule.Slice.PartMut.{put_mid}
use Rattle.bc_uuid.specs.declared.entry.UuidEntry.{UuidEntry}
use Rattle.bc_uuid.specs.Entry.{IsWrittenEntry}
use Rattle.bc_uuid.specs.Table.{entry_bytes}

-- parts of lists of one length with the same bytes
part_same : (xs ys : List ℕ) (i j : ℕ) → length xs ≡ length ys → ((k : ℕ) → i ≤ k → k < j → slice_index xs k ≡ slice_index ys k) → slice_range xs i j ≡ slice_range ys i j
part_same xs ys i j long same =
    let left : length (slice_range xs i j) ≡ min (j - i) (length xs - i) = length-take (j - i) (drop i xs) ∙ ap (min (j - i)) (length-drop i xs) in
    let right : length (slice_range ys i j) ≡ min (j - i) (length ys - i) = length-take (j - i) (drop i ys) ∙ ap (min (j - i)) (length-drop i ys) in
    ext_get_or 0 (slice_range xs i j) (slice_range ys i j) (left ∙ ap (λ (l : ℕ). min (j - i) (l - i)) long ∙ sym right) (λ k h.
    let inside : k < j - i = omega arith in
    get_or-take (j - i) (drop i xs) k 0 inside ∙ get_or-drop i xs k 0 ∙ same (i + k) (omega arith) (omega arith) ∙ sym (get_or-take (j - i) (drop i ys) k 0 inside ∙ get_or-drop i ys k 0))

module _ (a n : ℕ) (xs ys : List ℕ) (room : a + n ≤ length xs) (whole : length ys ≡ n) where
  pub put_below : (k : ℕ) → k < a → slice_index (put_mid a n xs ys) k ≡ slice_index xs k
  put_below k h =
      sym (get_or-take a (put_mid a n xs ys) k 0 h) ∙ ap (λ (zs : List ℕ). slice_index zs k) (take-put_mid_below a n xs ys a (omega arith) (omega arith)) ∙ get_or-take a xs k 0 h

  pub put_above : (k : ℕ) → a + n ≤ k → slice_index (put_mid a n xs ys) k ≡ slice_index xs k
  put_above k h =
      let moved : a + n + (k - (a + n)) ≡ k = omega arith in
      ap (slice_index (put_mid a n xs ys)) (sym moved) ∙ sym (get_or-drop (a + n) (put_mid a n xs ys) (k - (a + n)) 0)
      ∙ ap (λ (zs : List ℕ). slice_index zs (k - (a + n))) (drop-put_mid a n xs ys (a + n) (omega arith) (omega arith) whole)
      ∙ get_or-drop (a + n) xs (k - (a + n)) 0 ∙ ap (slice_index xs) moved

  put_length : length (put_mid a n xs ys) ≡ length xs
  put_length =
      omega (arith, length-append (take a xs) (ys ++ drop n (drop a xs)), length-append ys (drop n (drop a xs)), length-take a xs, length-drop n (drop a xs), length-drop a xs)

  pub part_below : (i j : ℕ) → j ≤ a → slice_range (put_mid a n xs ys) i j ≡ slice_range xs i j
  part_below i j h = part_same (put_mid a n xs ys) xs i j put_length (λ k low high. put_below k (omega arith))

-- each byte of zeros is 0, and so is what is read past their end
pub byte_of_zeros : (n : ℕ) (xs : List ℕ) (k : ℕ) → xs ≡ replicate n 0 → slice_index xs k ≡ 0
byte_of_zeros n xs k is = ap (λ (ys : List ℕ). slice_index ys k) is ∙ go (cases_lt k n)
  where
    go : (k < n) ⊎ (n ≤ k) → slice_index (replicate n 0) k ≡ 0
    go (inl inside) = get_or-replicate n k 0 0 inside
    go (inr past) = get_or_past (replicate n 0) k 0 (let long : length (replicate n 0) ≡ n = length-replicate {A = ℕ} n 0 in omega arith)

-- two names at the front of zeros
module _ (n : ℕ) (zeros uuid label first second : List ℕ) (blank : zeros ≡ replicate n 0) (long : length zeros ≡ 128) (one : first ≡ uuid) (two : second ≡ label) (sixteen : length uuid ≡ 16) (more : length label ≡ 32) where
  named : length (first ++ drop 16 zeros) ≡ 128
  named = omega (arith, length-append first (drop 16 zeros), length-drop 16 zeros, ap (λ (zs : List ℕ). length zs) one)

  width : length second ≡ 32
  width = ap (λ (zs : List ℕ). length zs) two ∙ more

  pub names_uuid : slice_range (put_mid 16 32 (first ++ drop 16 zeros) second) 0 16 ≡ uuid
  names_uuid =
      let front = named in
      let same : length first ≡ 16 = ap (λ (zs : List ℕ). length zs) one ∙ sixteen in
      part_below 16 32 (first ++ drop 16 zeros) second (omega arith) width 0 16 (omega arith)
      ∙ take-append-le 16 first (drop 16 zeros) (omega arith) ∙ take_all 16 first (omega arith) ∙ one

  pub names_label : slice_range (put_mid 16 32 (first ++ drop 16 zeros) second) 16 48 ≡ label
  names_label = let front = named in let wide = width in between-put_mid 16 32 (first ++ drop 16 zeros) second 48 (omega arith) (omega arith) ∙ two

  pub names_rest : (k : ℕ) → 48 ≤ k → slice_index (put_mid 16 32 (first ++ drop 16 zeros) second) k ≡ 0
  names_rest k h =
      let front = named in
      let same : length first ≡ 16 = ap (λ (zs : List ℕ). length zs) one ∙ sixteen in
      put_above 16 32 (first ++ drop 16 zeros) second (omega arith) width k (omega arith)
      ∙ get_or-append_right first (drop 16 zeros) 16 k 0 same (omega arith) ∙ get_or-drop 16 zeros (k - 16) 0 ∙ byte_of_zeros n zeros (16 + (k - 16)) blank

-- one more entry was written
pub entries_more : (i n : ℕ) (entries : List UuidEntry) (old piece : List ℕ) (entry : UuidEntry) → n ≡ 128 → 128 * i + 128 ≤ length old → length piece ≡ n → i < length entries
    → ((k : ℕ) → k < i → (d : UuidEntry) → IsWrittenEntry (entry_bytes old k) (slice_index_or entries k d)) → IsWrittenEntry piece entry → entry ≡ get_or entries i entry
    → (k : ℕ) → k < i + 1 → (d : UuidEntry) → IsWrittenEntry (entry_bytes (put_mid (128 * i) n old piece) k) (slice_index_or entries k d)
entries_more i n entries old piece entry size room whole inside before written is k low d = go (cases_lt k i)
  where
    go : (k < i) ⊎ (i ≤ k) → IsWrittenEntry (entry_bytes (put_mid (128 * i) n old piece) k) (slice_index_or entries k d)
    go (inl less) =
        let same = part_below (128 * i) n old piece (omega arith) whole (128 * k) (128 * k + 128) (omega arith) in
        subst (λ (bs : List ℕ). IsWrittenEntry bs (slice_index_or entries k d)) (sym same) (before k less d)
    go (inr last) =
        let here : i ≡ k = omega arith in
        let same : slice_range (put_mid (128 * i) n old piece) (128 * i) (128 * i + 128) ≡ piece = between-put_mid (128 * i) n old piece (128 * i + 128) (omega arith) (omega arith) in
        let found : entry ≡ get_or entries i d = is ∙ get_or_default entries i entry d inside in
        subst (λ (m : ℕ). IsWrittenEntry (entry_bytes (put_mid (128 * i) n old piece) m) (slice_index_or entries m d)) here
        (subst (λ (bs : List ℕ). IsWrittenEntry bs (get_or entries i d)) (sym same) (subst (λ (e : UuidEntry). IsWrittenEntry piece e) found written))
