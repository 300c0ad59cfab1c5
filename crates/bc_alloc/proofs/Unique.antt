-- One list alone has the first ones in order.
use Rattle.std.proofs.Common.{◌≡◌, ◌≢◌, ◌⊎◌, inl, inr, ℕ, zero, suc, ◌<◌, ◌≤◌, List, [], ◌∷◌, length, get_or, refl, sym, ◌∙◌, subst, arith}
use Rattle.std.proofs.lemmas.Bool.{cases_eq, cases_lt}
use Rattle.bc_bucket.specs.declared.bucket.Bucket.{Bucket}
use Rattle.bc_alloc.specs.Reserve.{times}
use Rattle.bc_alloc.specs.Victims.{AreFirst, IsBefore}
use Rattle.bc_alloc.proofs.Raising.{place_in}

pub never_both : (records : List Bucket) (j k : ℕ) → IsBefore records j k → IsBefore records k j → ⊥
never_both records j k (inl a) (inl b) = omega arith
never_both records j k (inl a) (inr b) = let e = b.0 in omega arith
never_both records j k (inr a) (inl b) = let e = a.0 in omega arith
never_both records j k (inr a) (inr b) = let x = a.1 in let y = b.1 in omega arith

-- where the first list has another bucket than the second one, and before that the same ones, its
-- bucket comes before
earlier : (P : ℕ → Type 0) (records : List Bucket) (most : ℕ) (vs ws : List ℕ) (i : ℕ) → AreFirst P records most vs → AreFirst P records most ws → ((j : ℕ) → j < i → get_or vs j 0 ≡ get_or ws j 0) → i < length vs → i < length ws → get_or vs i 0 ≢ get_or ws i 0 → IsBefore records (get_or vs i 0) (get_or ws i 0)
earlier P records most vs ws i one two same iv iw ne = go (cases_lt 0 (times (get_or ws i 0) vs))
  where
    at : (k : ℕ) → k < length vs → get_or vs k 0 ≡ get_or ws i 0 → (i < k) ⊎ (k ≤ i) → IsBefore records (get_or vs i 0) (get_or ws i 0)
    at k lt is (inl behind) = subst (λ w. IsBefore records (get_or vs i 0) w) is (one.ordered i k behind lt)
    at k lt is (inr le) = before (cases_eq k i)
      where
        before : (k ≡ i) ⊎ (k ≢ i) → IsBefore records (get_or vs i 0) (get_or ws i 0)
        before (inl e) = absurd (ne (subst (λ n. get_or vs n 0 ≡ get_or ws i 0) e is))
        before (inr other) =
            let less : k < i = omega (arith, other) in
            let twice : IsBefore records (get_or ws i 0) (get_or ws i 0) = subst (λ w. IsBefore records w (get_or ws i 0)) (sym (same k less) ∙ is) (two.ordered k i less iw) in
            absurd (never_both records (get_or ws i 0) (get_or ws i 0) twice twice)

    go : (0 < times (get_or ws i 0) vs) ⊎ (times (get_or ws i 0) vs ≤ 0) → IsBefore records (get_or vs i 0) (get_or ws i 0)
    go (inl there) = let p = place_in (get_or ws i 0) vs there in at p.0 p.1 p.2 (cases_lt i p.0)
    go (inr none) = one.first (get_or ws i 0) (two.chosen i iw) (omega arith) i iv

-- the second list has the bucket of the first one's place i there too, if it has the ones before
step : (P : ℕ → Type 0) (records : List Bucket) (most : ℕ) (vs ws : List ℕ) (i : ℕ) → AreFirst P records most vs → AreFirst P records most ws → ((j : ℕ) → j < i → get_or vs j 0 ≡ get_or ws j 0) → i < length vs → (i < length ws) × (get_or vs i 0 ≡ get_or ws i 0)
step P records most vs ws i one two same iv = go (cases_lt i (length ws))
  where
    meet : i < length ws → (get_or vs i 0 ≡ get_or ws i 0) ⊎ (get_or vs i 0 ≢ get_or ws i 0) → get_or vs i 0 ≡ get_or ws i 0
    meet iw (inl e) = e
    meet iw (inr ne) =
        absurd (never_both records (get_or vs i 0) (get_or ws i 0)
        (earlier P records most vs ws i one two same iv iw ne)
        (earlier P records most ws vs i two one (λ j lt. sym (same j lt)) iw iv (λ e. ne (sym e))))

    short : length ws ≤ i → ⊥
    short le =
        let few = one.few in
        let p = place_in (get_or vs i 0) ws (two.enough (omega arith) (get_or vs i 0) (one.chosen i iv)) in
        let within = p.1 in
        let less : p.0 < i = omega arith in
        let twice : IsBefore records (get_or vs i 0) (get_or vs i 0) = subst (λ v. IsBefore records v (get_or vs i 0)) (same p.0 less ∙ p.2) (one.ordered p.0 i less iv) in
        never_both records (get_or vs i 0) (get_or vs i 0) twice twice

    go : (i < length ws) ⊎ (length ws ≤ i) → (i < length ws) × (get_or vs i 0 ≡ get_or ws i 0)
    go (inl iw) = (iw, meet iw (cases_eq (get_or vs i 0) (get_or ws i 0)))
    go (inr le) = absurd (short le)

each : (P : ℕ → Type 0) (records : List Bucket) (most : ℕ) (vs ws : List ℕ) (n : ℕ) → AreFirst P records most vs → AreFirst P records most ws → (i : ℕ) → i < n → i < length vs → (i < length ws) × (get_or vs i 0 ≡ get_or ws i 0)
each P records most vs ws zero one two i lt iv = absurd (omega arith)
each P records most vs ws (suc n) one two i lt iv =
    step P records most vs ws i one two (λ j less. (each P records most vs ws n one two j (omega arith) (omega arith)).1) iv

shorter : (P : ℕ → Type 0) (records : List Bucket) (most : ℕ) (vs ws : List ℕ) → AreFirst P records most vs → AreFirst P records most ws → length vs ≤ length ws
shorter P records most vs ws one two = go (cases_lt (length ws) (length vs))
  where
    go : (length ws < length vs) ⊎ (length vs ≤ length ws) → length vs ≤ length ws
    go (inl lt) = absurd (let more = (each P records most vs ws (length vs) one two (length ws) lt lt).0 in omega arith)
    go (inr le) = le

same_list : (xs ys : List ℕ) → length xs ≡ length ys → ((i : ℕ) → i < length xs → get_or xs i 0 ≡ get_or ys i 0) → xs ≡ ys
same_list [] [] e h = refl
same_list [] (y ∷ ys) e h = absurd (omega arith)
same_list (x ∷ xs) [] e h = absurd (omega arith)
same_list (x ∷ xs) (y ∷ ys) e h =
    let first : x ≡ y = h 0 (omega arith) in
    let rest : xs ≡ ys = same_list xs ys (omega arith) (λ i lt. h (suc i) (omega arith)) in
    cc

pub one_list : (P : ℕ → Type 0) (records : List Bucket) (most : ℕ) (vs ws : List ℕ) → AreFirst P records most vs → AreFirst P records most ws → vs ≡ ws
one_list P records most vs ws one two =
    let le = shorter P records most vs ws one two in
    let ge = shorter P records most ws vs two one in
    same_list vs ws (omega arith) (λ i lt. (each P records most vs ws (length vs) one two i lt lt).1)
