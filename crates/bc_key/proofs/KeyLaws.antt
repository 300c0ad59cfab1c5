-- One key is spelled by words, and words are spelled by one key.
use Rattle.std.proofs.Common.{subst, set, ◌≡◌, ℕ, zero, suc, ◌+◌, ◌/◌, ◌^◌, ◌<◌, ◌≤◌, Bool, true, false, List, [], ◌∷◌, ◌++◌, length, map, take, drop, get_or, slice_index, slice_index_or, refl, sym, ap, ◌∙◌, inl, inr, arith}
use Rattle.std.proofs.Props.{props}
use Rattle.std.proofs.Math.Bridge.{le_prop}
use Rattle.std.proofs.lemmas.Bool.{cases_lt}
use Rattle.std.proofs.lemmas.List.{append-nil, ext_get_or, append_assoc, drop_more, map_more, set_at, same_lists, get_or_default, get_or-map, get_or-take, get_or_append_left, length-map, length-take-le, length-append}
use mathlib.Core.HLevel.{is_prop→PathP}
use Rattle.bc_key.specs.declared.key.Key.{Key}
use Rattle.bc_key.specs.declared.ptr.Ptr.{Ptr}
use Rattle.bc_key.specs.Ptr.{no_ptr, IsZero, IsZeroFrom}
use Rattle.bc_key.specs.Key.{ptr_at}
use Rattle.bc_key.proofs.WordLaws.{bit_small}
use Rattle.bc_key.specs.Words.{HasPlainBits, bit_of, ReadsAsPtr, ReadsAsHigh, Spells, ptr_word, high_word, words_of}

-- ---- equal fields make equal values

pub same_ptr : (a b : Ptr) → a.dev ≡ b.dev → a.offset ≡ b.offset → a.generation ≡ b.generation → a ≡ b
same_ptr a b dev offset generation = λ i. record {
  dev = dev i;
  offset = offset i;
  generation = generation i;
  dev_fits = is_prop→PathP (λ j. dev j < 2 ^ 12) (λ j. le_prop) a.dev_fits b.dev_fits i;
  offset_fits = is_prop→PathP (λ j. offset j < 2 ^ 43) (λ j. le_prop) a.offset_fits b.offset_fits i;
  generation_fits = is_prop→PathP (λ j. generation j < 2 ^ 8) (λ j. le_prop) a.generation_fits b.generation_fits i;
}

IsZeroFrom-prop : (count : ℕ) (ptrs : List Ptr) → IsProp (IsZeroFrom count ptrs)
IsZeroFrom-prop count ptrs = hlevel props

length-prop : (ptrs : List Ptr) → IsProp (length ptrs ≡ 6)
length-prop ptrs = hlevel props

pub same_key : (a b : Key) → a.inode ≡ b.inode → a.end ≡ b.end → a.size ≡ b.size → a.dirty ≡ b.dirty → a.csum ≡ b.csum → a.count ≡ b.count → a.ptrs ≡ b.ptrs → a ≡ b
same_key a b inode end size dirty csum count ptrs = λ i. record {
  inode = inode i;
  end = end i;
  size = size i;
  dirty = dirty i;
  csum = csum i;
  count = count i;
  ptrs = ptrs i;
  inode_fits = is_prop→PathP (λ j. inode j < 2 ^ 20) (λ j. le_prop) a.inode_fits b.inode_fits i;
  end_fits = is_prop→PathP (λ j. end j < 2 ^ 64) (λ j. le_prop) a.end_fits b.end_fits i;
  size_fits = is_prop→PathP (λ j. size j < 2 ^ 16) (λ j. le_prop) a.size_fits b.size_fits i;
  csum_fits = is_prop→PathP (λ j. csum j < 4) (λ j. le_prop) a.csum_fits b.csum_fits i;
  count_fits = is_prop→PathP (λ j. count j ≤ 6) (λ j. le_prop) a.count_fits b.count_fits i;
  six_places = is_prop→PathP (λ j. length (ptrs j) ≡ 6) (λ j. length-prop (ptrs j)) a.six_places b.six_places i;
  no_more_ptrs = is_prop→PathP (λ j. IsZeroFrom (count j) (ptrs j)) (λ j. IsZeroFrom-prop (count j) (ptrs j)) a.no_more_ptrs b.no_more_ptrs i;
}

-- ---- words tell the key

one_ptr : (word : ℕ) (a b : Ptr) → ReadsAsPtr word a → ReadsAsPtr word b → a ≡ b
one_ptr word a b p q = same_ptr a b (sym p.dev ∙ q.dev) (sym p.offset ∙ q.offset) (sym p.generation ∙ q.generation)

zero_ptrs : (a b : Ptr) → IsZero a → IsZero b → a ≡ b
zero_ptrs a b p q = same_ptr a b (p.0 ∙ sym q.0) (p.1 ∙ sym q.1) (p.2 ∙ sym q.2)

one_bit : (a b : Bool) → bit_of a ≡ bit_of b → a ≡ b
one_bit true true h = refl
one_bit false false h = refl
one_bit true false h = absurd (omega arith)
one_bit false true h = absurd (omega arith)

module _ (words : List ℕ) (a b : Key) (p : Spells words a) (q : Spells words b) where
  same_count : a.count ≡ b.count
  same_count = sym p.high.count ∙ q.high.count

  same_at : (i : ℕ) (d : Ptr) → i < length a.ptrs → slice_index_or a.ptrs i d ≡ slice_index_or b.ptrs i d
  same_at i d h =
      let n = same_count in
      let a_six = a.six_places in
      let b_six = b.six_places in
      elim (cases_lt i a.count) [
        | inl below ↦
            get_or_default a.ptrs i d no_ptr h
            ∙ one_ptr (slice_index words (2 + i)) (ptr_at a i) (ptr_at b i) (p.ptrs i below) (q.ptrs i (omega arith))
            ∙ get_or_default b.ptrs i no_ptr d (omega arith)
        | inr above ↦ zero_ptrs _ _ (a.no_more_ptrs i d above (omega arith)) (b.no_more_ptrs i d (omega arith) (omega arith))
      ]

  pub one_key : a ≡ b
  one_key = same_key a b
      (sym p.high.inode ∙ q.high.inode)
      (sym p.end ∙ q.end)
      (sym p.high.size ∙ q.high.size)
      (one_bit a.dirty b.dirty (sym p.high.dirty ∙ q.high.dirty))
      (sym p.high.csum ∙ q.high.csum)
      same_count
      (same_lists a.ptrs b.ptrs (a.six_places ∙ sym b.six_places) same_at)

-- ---- a key's words tell it

pub ReadsAsPtr-ptr_word : (ptr : Ptr) → ReadsAsPtr (ptr_word ptr) ptr
ReadsAsPtr-ptr_word ptr = record { generation = omega arith; offset = omega arith; dev = omega arith }

pub ReadsAsHigh-high_word : (key : Key) → ReadsAsHigh (high_word key) key
ReadsAsHigh-high_word key =
    let bit = bit_small key.dirty in
    record {
      inode = omega arith;
      size = omega arith;
      dirty = omega arith;
      csum = omega arith;
      count = omega arith;
    }

-- the words of the first n pointers
abbrev pub ptr_words : List Ptr → ℕ → List ℕ
ptr_words ptrs n = map ptr_word (take n ptrs)

length-ptr_words : (key : Key) (n : ℕ) → n ≤ 6 → length (ptr_words key.ptrs n) ≡ n
length-ptr_words key n h =
    let six = key.six_places in
    length-map (take n key.ptrs) ptr_word ∙ length-take-le n key.ptrs (omega arith)

word_of-ptr : (key : Key) (rest : List ℕ) (i : ℕ) → i < key.count → slice_index (words_of key ++ rest) (2 + i) ≡ ptr_word (ptr_at key i)
unfolding words_of
word_of-ptr key rest i h =
    let many = length-ptr_words key key.count key.count_fits in
    let six = key.six_places in
    let taken = length-take-le key.count key.ptrs (omega (arith, key.count_fits)) in
    let moved : 2 + i ≡ suc (suc i) = omega arith in
    ap (slice_index (words_of key ++ rest)) moved
    ∙ get_or_append_left (ptr_words key.ptrs key.count) rest 0 i (omega arith)
    ∙ get_or-map ptr_word (take key.count key.ptrs) i no_ptr 0 (omega arith)
    ∙ ap ptr_word (get_or-take key.count key.ptrs i no_ptr h)

-- what is written is read again, whatever follows it
pub Spells-words_of : (key : Key) (rest : List ℕ) → Spells (words_of key ++ rest) key
unfolding words_of
Spells-words_of key rest = record {
  long =
      let many = length-ptr_words key key.count key.count_fits in
      let all = length-append (ptr_words key.ptrs key.count) rest in
      omega arith;
  high = ReadsAsHigh-high_word key;
  end = refl;
  ptrs = λ i h. subst (λ w. ReadsAsPtr w (ptr_at key i)) (sym (word_of-ptr key rest i h)) (ReadsAsPtr-ptr_word (ptr_at key i));
}

-- ---- the loop that writes the pointers

next_set : (front old : List ℕ) (n w : ℕ) → length front ≡ n → n < length old → set (front ++ drop n old) n w ≡ (front ++ w ∷ []) ++ drop (n + 1) old
next_set front old n w e h =
    ap (λ rest. set (front ++ rest) n w) (drop_more old n 0 h)
    ∙ set_at front (get_or old n 0) (drop (n + 1) old) w n e
    ∙ sym (append_assoc front (w ∷ []) (drop (n + 1) old))

-- one more pointer written
pub ptr_written : (key : Key) (old : List ℕ) (i : ℕ) (d : Ptr) → i < key.count → 2 + key.count ≤ length old
    → set ((high_word key ∷ key.end ∷ ptr_words key.ptrs i) ++ drop (2 + i) old) (2 + i) (ptr_word (slice_index_or key.ptrs i d))
    ≡ (high_word key ∷ key.end ∷ ptr_words key.ptrs (i + 1)) ++ drop (2 + (i + 1)) old
ptr_written key old i d h room =
    let six = key.six_places in
    let few = key.count_fits in
    let front = length-ptr_words key i (omega arith) in
    let word = ptr_word (slice_index_or key.ptrs i d) in
    let moved : 2 + i + 1 ≡ 2 + (i + 1) = omega arith in
    next_set (high_word key ∷ key.end ∷ ptr_words key.ptrs i) old (2 + i) word (omega arith) (omega arith)
    ∙ ap (λ n. (high_word key ∷ key.end ∷ (ptr_words key.ptrs i ++ word ∷ [])) ++ drop n old) moved
    ∙ ap (λ ws. (high_word key ∷ key.end ∷ ws) ++ drop (2 + (i + 1)) old) (sym (map_more ptr_word key.ptrs i d (omega arith)))

-- ---- words without free bits are the key's own

plain_ptr : (word : ℕ) (ptr : Ptr) → ReadsAsPtr word ptr → word / 2 ^ 63 ≡ 0 → word ≡ ptr_word ptr
plain_ptr word ptr p top =
    let g = p.generation in
    let o = p.offset in
    let d = p.dev in
    omega arith

plain_high : (words : List ℕ) (key : Key) → ReadsAsHigh (slice_index words 0) key → HasPlainBits words key.count → slice_index words 0 ≡ high_word key
plain_high words key p q =
    let a = p.inode in
    let b = p.size in
    let c = p.dirty in
    let d = p.csum in
    let e = p.count in
    let f = q.top in
    let g = q.upper in
    let h = q.lower in
    omega arith

plain_word : (words : List ℕ) (key : Key) → Spells words key → HasPlainBits words key.count → (k : ℕ) → k < 2 + key.count → slice_index words k ≡ slice_index (words_of key ++ []) k
unfolding words_of
plain_word words key p q zero h = plain_high words key p.high q
plain_word words key p q (suc zero) h = p.end
plain_word words key p q (suc (suc i)) h =
    let moved : suc (suc i) ≡ 2 + i = omega arith in
    let inside : i < key.count = omega arith in
    ap (slice_index words) moved ∙ plain_ptr (slice_index words (2 + i)) (ptr_at key i) (p.ptrs i inside) (q.ptrs i inside)
    ∙ sym (word_of-ptr key [] i inside) ∙ ap (slice_index (words_of key ++ [])) (sym moved)

length-words_of : (key : Key) → length (words_of key) ≡ 2 + key.count
unfolding words_of
length-words_of key =
    let many = length-ptr_words key key.count key.count_fits in
    omega arith

pub take-words_of : (words : List ℕ) (key : Key) → Spells words key → HasPlainBits words key.count → take (2 + key.count) words ≡ words_of key
take-words_of words key p q =
    let taken = length-take-le (2 + key.count) words p.long in
    ext_get_or 0 (take (2 + key.count) words) (words_of key) (taken ∙ sym (length-words_of key)) (λ k h.
    let below : k < 2 + key.count = omega arith in
    get_or-take (2 + key.count) words k 0 below ∙ plain_word words key p q k below
    ∙ ap (λ ws. slice_index ws k) (append-nil (words_of key)))

-- the words of a key and others behind them spell it
pub Spells-front : (words : List ℕ) (key : Key) (rest : List ℕ) → words ≡ words_of key ++ rest → Spells words key
Spells-front words key rest is = subst (λ ws. Spells ws key) (sym is) (Spells-words_of key rest)
