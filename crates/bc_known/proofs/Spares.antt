-- As many buckets as a chain has are among those for chains.
use Rattle.std.proofs.Common.{◌≡◌, ◌≢◌, ◌⊎◌, inl, inr, ℕ, zero, suc, ◌<◌, ◌≤◌, true, List, [], ◌∷◌, length, refl, sym, ap, ◌∙◌, subst, arith, if◌then◌else◌, ◌==◌}
use Rattle.bc_books.specs.Shelves.{Shelf}
use Rattle.bc_books.specs.Chains.{Many}
use Rattle.bc_collect.specs.Spare.{IsForChain}
use Rattle.bc_meta.specs.Facts.{In}
use Rattle.bc_meta.specs.Chain.{Distinct}
use Rattle.bc_meta.proofs.Lists.{by_test}
use Rattle.bc_books.proofs.Cases.{by_bool}
use Rattle.bc_known.specs.Acts.{is_for_chain, for_chain, first}

pub for_chain_true : (x : Shelf) → IsForChain x → is_for_chain x ≡ true
for_chain_true x (inl e) = ap is_for_chain e
for_chain_true x (inr h) = ap is_for_chain h.1

-- ---- how many there are

-- either one of the first so many is at n, or none is
find : (at : ℕ → ℕ) (n count : ℕ) → ((i : ℕ) × (i < count) × (at i ≡ n))
    ⊎ ((i : ℕ) → i < count → at i ≢ n)
find at n zero = inr (λ i lt. absurd (omega arith))
find at n (suc count) = by_test (at count) n
    (λ t. ((i : ℕ) × (i < suc count) × (at i ≡ n)) ⊎ ((i : ℕ) → i < suc count → at i ≢ n))
    (λ e. inl (count, omega arith, e))
    (λ ne. elim (find at n count) [
      | inl h ↦ inl (h.0, (let lt = h.1 in omega (arith, lt)), h.2)
      | inr off ↦ inr (λ i lt. by_test i count (λ t. at i ≢ n)
          (λ e. λ is. ne (ap at (sym e) ∙ is)) (λ other. off i (omega (arith, lt, other))))
    ])

-- the last of them in the place of one
swap : (ℕ → ℕ) → ℕ → ℕ → ℕ → ℕ
swap at i last j = if j == i then at last else at j

-- different buckets, each below n and for chains
record Spots (shelf : ℕ → Shelf) (n count : ℕ) (at : ℕ → ℕ) : Type 0 where
  other : (i j : ℕ) → i < count → j < count → at i ≡ at j → i ≡ j
  below : (i : ℕ) → i < count → at i < n
  good : (i : ℕ) → i < count → is_for_chain (shelf (at i)) ≡ true

swapped : (shelf : ℕ → Shelf) (n count : ℕ) (at : ℕ → ℕ) (k : ℕ) → k < suc count → at k ≡ n
    → Spots shelf (suc n) (suc count) at → Spots shelf n count (swap at k count)
unfolding swap
swapped shelf n count at k lt is h = record {
  other = λ i j a b e. by_test i k (λ t. (if t then at count else at i) ≡ swap at k count j → i ≡ j)
      (λ ik. by_test j k (λ t. at count ≡ (if t then at count else at j) → i ≡ j)
      (λ jk _. ik ∙ sym jk)
      (λ _ q. let x = h.other count j (omega arith) (omega (arith, b)) q in
      absurd (omega (arith, x, b))))
      (λ ni. by_test j k (λ t. at i ≡ (if t then at count else at j) → i ≡ j)
      (λ _ q. let x = h.other i count (omega (arith, a)) (omega arith) q in
      absurd (omega (arith, x, a)))
      (λ _ q. h.other i j (omega (arith, a)) (omega (arith, b)) q)) e;
  below = λ i a. by_test i k (λ t. (if t then at count else at i) < n)
      (λ ik. let l = h.below count (omega arith) in
      let ne : at count ≢ n = λ e. (let x = h.other count k (omega arith) lt (e ∙ sym is) in
      absurd (omega (arith, x, ik, a))) in omega (arith, l, ne))
      (λ ni. let l = h.below i (omega (arith, a)) in
      let ne : at i ≢ n = λ e. ni (h.other i k (omega (arith, a)) lt (e ∙ sym is)) in
      omega (arith, l, ne));
  good = λ i a. by_test i k (λ t. is_for_chain (shelf (if t then at count else at i)) ≡ true)
      (λ _. h.good count (omega arith)) (λ _. h.good i (omega (arith, a)));
}

many_length : (shelf : ℕ → Shelf) (n count : ℕ) (at : ℕ → ℕ) → Spots shelf n count at
    → count ≤ length (for_chain shelf n)
many_length shelf zero zero at h = omega arith
many_length shelf zero (suc count) at h =
    let l = h.below 0 (omega arith) in absurd (omega (arith, l))
many_length shelf (suc n) zero at h = omega arith
many_length shelf (suc n) (suc count) at h = elim (find at n (suc count)) [
  | inl x ↦ (let ih = many_length shelf n count (swap at x.0 count)
      (swapped shelf n count at x.0 x.1 x.2 h) in
      let yes = ap (λ q. is_for_chain (shelf q)) (sym x.2) ∙ h.good x.0 x.1 in
      subst (λ t. suc count
      ≤ length (if t then n ∷ for_chain shelf n else for_chain shelf n)) (sym yes)
      (omega (arith, ih)))
  | inr off ↦ (let ih = many_length shelf n (suc count) at (record {
    other = h.other;
    below = λ i a. let l = h.below i a in let ne = off i a in omega (arith, l, ne);
    good = h.good;
  }) in by_bool (is_for_chain (shelf n)) (λ t. suc count
      ≤ length (if t then n ∷ for_chain shelf n else for_chain shelf n))
      (λ _. omega (arith, ih)) (λ _. ih))
]

-- ---- which they are

pub in_for_chain : (shelf : ℕ → Shelf) (n q : ℕ) → In q (for_chain shelf n)
    → (is_for_chain (shelf q) ≡ true) × (q < n)
in_for_chain shelf zero q i = absurd i
in_for_chain shelf (suc n) q i0 = by_bool (is_for_chain (shelf n))
    (λ t. In q (if t then n ∷ for_chain shelf n else for_chain shelf n)
    → (is_for_chain (shelf q) ≡ true) × (q < suc n))
    (λ yes i. elim i [
      | inl e ↦ (subst (λ x. is_for_chain (shelf x) ≡ true) (sym e) yes, omega (arith, e))
      | inr j ↦ (let h = in_for_chain shelf n q j in let lt = h.1 in (h.0, omega (arith, lt)))
    ])
    (λ _ i. let h = in_for_chain shelf n q i in let lt = h.1 in (h.0, omega (arith, lt))) i0

distinct_for_chain : (shelf : ℕ → Shelf) (n : ℕ) → Distinct (for_chain shelf n)
distinct_for_chain shelf zero = tt
distinct_for_chain shelf (suc n) = by_bool (is_for_chain (shelf n))
    (λ t. Distinct (if t then n ∷ for_chain shelf n else for_chain shelf n))
    (λ _. (
      (λ i. (let lt = (in_for_chain shelf n n i).1 in absurd (omega (arith, lt)))),
      distinct_for_chain shelf n,
    )) (λ _. distinct_for_chain shelf n)

pub in_first : (n : ℕ) (xs : List ℕ) (q : ℕ) → In q (first n xs) → In q xs
in_first zero xs q i = absurd i
in_first (suc n) [] q i = absurd i
in_first (suc n) (x ∷ xs) q i = elim i [ inl e ↦ inl e | inr j ↦ inr (in_first n xs q j) ]

distinct_first : (n : ℕ) (xs : List ℕ) → Distinct xs → Distinct (first n xs)
distinct_first zero xs d = tt
distinct_first (suc n) [] d = tt
distinct_first (suc n) (x ∷ xs) d = (λ i. d.0 (in_first n xs x i), distinct_first n xs d.1)

length_first : (n : ℕ) (xs : List ℕ) → n ≤ length xs → length (first n xs) ≡ n
length_first zero xs le = refl
length_first (suc n) [] le = absurd (omega (arith, le))
length_first (suc n) (x ∷ xs) le = ap suc (length_first n xs (omega (arith, le)))

-- those that are kept are so many, each another one
pub kept_many : (shelf : ℕ → Shelf) (n count : ℕ) → Many count (λ b. IsForChain (shelf b))
    → ((b : ℕ) → IsForChain (shelf b) → b < n)
    → Distinct (first count (for_chain shelf n))
    × (length (first count (for_chain shelf n)) ≡ count)
kept_many shelf n count many low = (
  distinct_first count (for_chain shelf n) (distinct_for_chain shelf n),
  length_first count (for_chain shelf n) (many_length shelf n count many.0 (record {
    other = many.1;
    below = λ i lt. low (many.0 i) (many.2 i lt);
    good = λ i lt. for_chain_true (shelf (many.0 i)) (many.2 i lt);
  })),
)
