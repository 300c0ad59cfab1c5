-- The numbers below one that pass a test.
use Rattle.std.proofs.Common.{◌≡◌, ◌≢◌, ◌⊎◌, inl, inr, ℕ, zero, suc, ◌+◌, ◌<◌, ◌≤◌, List, [], ◌∷◌, ◌++◌, Bool, true, false, cond, length, take, drop, Some, refl, sym, ap, ◌∙◌, subst, arith, zero-add, length-append}
use Rattle.std.specs.Prelude.{slice_get}
use Rattle.std.specs.List.{filter, range_with_len}
use Rattle.std.proofs.lemmas.Bool.{cases_eq}
use Rattle.std.proofs.lemmas.List.{append-nil, take_all, take-append-drop}
use Rattle.std.proofs.lemmas.List.Elements.{filter-append, filter_more}
use Rattle.std.proofs.lemmas.List.FromFn.{get_or-range_with_len, length-range_with_len}
use Rattle.std.proofs.lemmas.List.Sums.{count_by-le-length, length-filter}

abbrev pub passed : (ℕ → Bool) → ℕ → ℕ → List ℕ
passed p n i = filter p (take i (range_with_len 0 n))

-- ---- one more

passed_more : (p : ℕ → Bool) (n i : ℕ) → i < n → passed p n (i + 1) ≡ passed p n i ++ cond (p i) (i ∷ []) []
passed_more p n i low =
    let long : i < length (range_with_len 0 n) = subst (λ k. i < k) (sym (length-range_with_len 0 n)) low in
    subst (λ k. passed p n (i + 1) ≡ passed p n i ++ cond (p k) (k ∷ []) []) (get_or-range_with_len 0 n i 0 low ∙ zero-add i) (filter_more p (range_with_len 0 n) i 0 long)

pub passed_yes : (p : ℕ → Bool) (n i : ℕ) → i < n → p i ≡ true → passed p n (i + 1) ≡ passed p n i ++ i ∷ []
passed_yes p n i low passes = subst (λ b. passed p n (i + 1) ≡ passed p n i ++ cond b (i ∷ []) []) passes (passed_more p n i low)

pub passed_no : (p : ℕ → Bool) (n i : ℕ) → i < n → p i ≡ false → passed p n (i + 1) ≡ passed p n i
passed_no p n i low fails = subst (λ b. passed p n (i + 1) ≡ passed p n i ++ cond b (i ∷ []) []) fails (passed_more p n i low) ∙ append-nil (passed p n i)

pub passed_all : (p : ℕ → Bool) (n i : ℕ) → n ≤ i → passed p n i ≡ filter p (range_with_len 0 n)
passed_all p n i all = ap (filter p) (take_all i (range_with_len 0 n) (subst (λ k. k ≤ i) (sym (length-range_with_len 0 n)) all))

-- ---- how many

pub passed_few : (p : ℕ → Bool) (n i : ℕ) → length (passed p n i) ≤ length (filter p (range_with_len 0 n))
passed_few p n i =
    let xs = range_with_len 0 n in
    let parts : filter p xs ≡ filter p (take i xs) ++ filter p (drop i xs) = ap (filter p) (sym (take-append-drop i xs)) ∙ filter-append p (take i xs) (drop i xs) in
    let sum = ap length parts ∙ length-append (filter p (take i xs)) (filter p (drop i xs)) in
    omega (arith, sum)

length_take : (i : ℕ) (xs : List ℕ) → length (take i xs) ≤ i
length_take zero xs = omega arith
length_take (suc i) [] = omega arith
length_take (suc i) (x ∷ xs) = let rest = length_take i xs in omega (arith, rest)

pub passed_below : (p : ℕ → Bool) (n i : ℕ) → length (passed p n i) ≤ i
passed_below p n i =
    let xs = take i (range_with_len 0 n) in
    let same = length-filter p xs in
    let few = count_by-le-length p xs in
    let short = length_take i (range_with_len 0 n) in
    omega (arith, same, few, short)

-- ---- which

filter_each : (p : ℕ → Bool) (xs : List ℕ) (k j : ℕ) → slice_get (filter p xs) k ≡ Some j → (p j ≡ true) × ((m : ℕ) × (slice_get xs m ≡ Some j))
filter_each p [] zero j at = absurd (cc)
filter_each p [] (suc k) j at = absurd (cc)
filter_each p (x ∷ xs) k j at = go (p x) refl k (filter_each p xs) at
  where
    later : (k : ℕ) → ((k j : ℕ) → slice_get (filter p xs) k ≡ Some j → (p j ≡ true) × ((m : ℕ) × (slice_get xs m ≡ Some j))) → slice_get (filter p xs) k ≡ Some j → (p j ≡ true) × ((m : ℕ) × (slice_get (x ∷ xs) m ≡ Some j))
    later k all at = let h = all k j at in (h.0, (suc h.1.0, h.1.1))

    first : x ≡ j → p x ≡ true → (p j ≡ true) × ((m : ℕ) × (slice_get (x ∷ xs) m ≡ Some j))
    first same passes = (subst (λ y. p y ≡ true) same passes, (0, ap Some same))

    some_same : (a b : ℕ) → Some a ≡ Some b → a ≡ b
    some_same a b e = cc

    go : (b : Bool) → p x ≡ b → (k : ℕ) → ((k j : ℕ) → slice_get (filter p xs) k ≡ Some j → (p j ≡ true) × ((m : ℕ) × (slice_get xs m ≡ Some j)))
        → slice_get (cond b (x ∷ filter p xs) (filter p xs)) k ≡ Some j → (p j ≡ true) × ((m : ℕ) × (slice_get (x ∷ xs) m ≡ Some j))
    go true passes zero all at = first (some_same x j at) passes
    go true passes (suc k) all at = later k all at
    go false fails k all at = later k all at

range_each : (a n i m j : ℕ) → slice_get (take i (range_with_len a n)) m ≡ Some j → (a ≤ j) × (j < a + i) × (j < a + n)
range_each a zero zero zero j at = absurd (cc)
range_each a zero zero (suc m) j at = absurd (cc)
range_each a zero (suc i) zero j at = absurd (cc)
range_each a zero (suc i) (suc m) j at = absurd (cc)
range_each a (suc n) zero zero j at = absurd (cc)
range_each a (suc n) zero (suc m) j at = absurd (cc)
range_each a (suc n) (suc i) zero j at = let same : a ≡ j = cc in (omega (arith, same), omega (arith, same), omega (arith, same))
range_each a (suc n) (suc i) (suc m) j at = let h = range_each (a + 1) n i m j at in (omega (arith, h.0), omega (arith, h.1), omega (arith, h.2))

-- each of them passes, and lies below
pub passed_each : (p : ℕ → Bool) (n i k j : ℕ) → slice_get (passed p n i) k ≡ Some j → (p j ≡ true) × (j < i)
passed_each p n i k j at =
    let h = filter_each p (take i (range_with_len 0 n)) k j at in
    let low = range_each 0 n i h.1.0 j h.1.1 in
    (h.0, omega (arith, low.1))

-- ---- of all

whole_each : (p : ℕ → Bool) (a n k j : ℕ) → slice_get (filter p (range_with_len a n)) k ≡ Some j → a ≤ j
whole_each p a n k j at =
    let h = filter_each p (range_with_len a n) k j at in
    let all : take n (range_with_len a n) ≡ range_with_len a n = take_all n (range_with_len a n) (let long = length-range_with_len a n in omega (arith, long)) in
    (range_each a n n h.1.0 j (subst (λ (xs : List ℕ). slice_get xs h.1.0 ≡ Some j) (sym all) h.1.1)).0

-- a number is one of them once at most
pub once : (p : ℕ → Bool) (a n k m j : ℕ) → slice_get (filter p (range_with_len a n)) k ≡ Some j → slice_get (filter p (range_with_len a n)) m ≡ Some j → k ≡ m
once p a zero zero m j at other = absurd (cc)
once p a zero (suc k) m j at other = absurd (cc)
once p a (suc n) k m j at other = go (p a) k m (λ k m. once p (a + 1) n k m j) at other
  where
    some_same : (x y : ℕ) → Some x ≡ Some y → x ≡ y
    some_same x y e = cc

    apart : (k : ℕ) → Some a ≡ Some j → slice_get (filter p (range_with_len (a + 1) n)) k ≡ Some j → ⊥
    apart k here later = let same = some_same a j here in let low = whole_each p (a + 1) n k j later in absurd (omega (arith, same, low))

    go : (b : Bool) (k m : ℕ) → ((k m : ℕ) → slice_get (filter p (range_with_len (a + 1) n)) k ≡ Some j → slice_get (filter p (range_with_len (a + 1) n)) m ≡ Some j → k ≡ m)
        → slice_get (cond b (a ∷ filter p (range_with_len (a + 1) n)) (filter p (range_with_len (a + 1) n))) k ≡ Some j
        → slice_get (cond b (a ∷ filter p (range_with_len (a + 1) n)) (filter p (range_with_len (a + 1) n))) m ≡ Some j → k ≡ m
    go true zero zero all x y = refl
    go true zero (suc m) all x y = absurd (apart m x y)
    go true (suc k) zero all x y = absurd (apart k y x)
    go true (suc k) (suc m) all x y = ap suc (all k m x y)
    go false k m all x y = all k m x y

-- one that passes is among them
Has : (p : ℕ → Bool) (a n j : ℕ) → Bool → Type 0
Has p a n j b = (k : ℕ) × (slice_get (cond b (a ∷ filter p (range_with_len (a + 1) n)) (filter p (range_with_len (a + 1) n))) k ≡ Some j)

here : (p : ℕ → Bool) (a n j : ℕ) → j ≡ a → Has p a n j true
unfolding Has
here p a n j same = (0, ap Some (sym same))

later : (p : ℕ → Bool) (a n j : ℕ) (b : Bool) → (k : ℕ) × (slice_get (filter p (range_with_len (a + 1) n)) k ≡ Some j) → Has p a n j b
unfolding Has
later p a n j true h = (suc h.0, h.1)
later p a n j false h = h

pub found : (p : ℕ → Bool) (a n j : ℕ) → a ≤ j → j < a + n → p j ≡ true → (k : ℕ) × (slice_get (filter p (range_with_len a n)) k ≡ Some j)
unfolding Has
found p a zero j from low passes = absurd (omega (arith, from, low))
found p a (suc n) j from low passes = go (cases_eq j a) (λ above. found p (a + 1) n j above (omega (arith, low)) passes)
  where
    go : (j ≡ a) ⊎ (j ≢ a) → (a + 1 ≤ j → (k : ℕ) × (slice_get (filter p (range_with_len (a + 1) n)) k ≡ Some j)) → Has p a n j (p a)
    go (inl same) rest = subst (Has p a n j) (sym (subst (λ x. p x ≡ true) same passes)) (here p a n j same)
    go (inr other) rest = later p a n j (p a) (rest (omega (arith, from, other)))

-- where none passes there are none
pub none : (p : ℕ → Bool) (a n : ℕ) → ((j : ℕ) → p j ≡ false) → filter p (range_with_len a n) ≡ []
none p a zero fails = refl
none p a (suc n) fails = subst (λ b. cond b (a ∷ filter p (range_with_len (a + 1) n)) (filter p (range_with_len (a + 1) n)) ≡ []) (sym (fails a)) (none p (a + 1) n fails)
