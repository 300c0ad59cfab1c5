-- Numbers in order, one more at a time.
use Rattle.std.proofs.Common.{◌≡◌, ◌≢◌, ◌⊎◌, inl, inr, ℕ, zero, suc, ◌+◌, ◌<◌, ◌≤◌, List, [], ◌∷◌, ◌++◌, length, get_or, refl, sym, subst, arith}
use Rattle.std.specs.Prelude.{All, AllPairs, Contains}
use Rattle.std.proofs.lemmas.Bool.{cases_eq}
use Rattle.std.proofs.lemmas.List.Elements.{All-nil, All-cons, All-append, All-weaker, All-head, All-tail, Contains-push}
use Rattle.std.proofs.lemmas.List.Quantifiers.{all_pairs_push}
use Rattle.bc_alloc.specs.Reserve.{times}
use Rattle.bc_alloc.proofs.Times.{times-cons, times_one, times_other}
use Rattle.bc_recover.specs.Spare.{AreThose}

pub none_yet : (P : ℕ → Type 0) → AreThose P 0 []
none_yet P = record { order = λ i j d before inside. absurd (omega arith); each = All-nil (λ k. (k < 0) × P k); all = λ k low p. absurd (omega arith) }

Contains_more : (ks : List ℕ) (k n : ℕ) → Contains ks k → Contains (ks ++ n ∷ []) k
Contains_more [] k n has = absurd (let low = has.1 in omega arith)
Contains_more (x ∷ ks) k n has = go has.0 has.1 has.2 (Contains_more ks k n)
  where
    go : (i : ℕ) → i < length (x ∷ ks) → get_or (x ∷ ks) i k ≡ k → (Contains ks k → Contains (ks ++ n ∷ []) k) → Contains (x ∷ (ks ++ n ∷ [])) k
    go zero low is later = (0, omega arith, is)
    go (suc i) low is later = let rest = later (i, omega arith, is) in let more = rest.1 in (suc rest.0, omega arith, rest.2)

pub one_there : (P : ℕ → Type 0) (n : ℕ) (ks : List ℕ) → AreThose P n ks → P n → AreThose P (n + 1) (ks ++ n ∷ [])
one_there P n ks are p = record {
  order = all_pairs_push (λ a b. a < b) ks n are.order (λ k d inside. (are.each k d inside).0);
  each = All-append (λ k. (k < n + 1) × P k) ks (n ∷ [])
      (All-weaker (λ k. (k < n) × P k) (λ k. (k < n + 1) × P k) (λ k h. (let low = h.0 in omega arith, h.1)) ks are.each)
      (All-cons (λ k. (k < n + 1) × P k) n [] (omega arith, p) (All-nil (λ k. (k < n + 1) × P k)));
  all = λ k low q. there k low q (cases_eq k n);
}
  where
    there : (k : ℕ) → k < n + 1 → P k → (k ≡ n) ⊎ (k ≢ n) → Contains (ks ++ n ∷ []) k
    there k low q (inl same) = subst (λ m. Contains (ks ++ n ∷ []) m) (sym same) (Contains-push ks n)
    there k low q (inr other) = Contains_more ks k n (are.all k (omega (arith, other)) q)

pub one_missing : (P : ℕ → Type 0) (n : ℕ) (ks : List ℕ) → AreThose P n ks → ¬ (P n) → AreThose P (n + 1) ks
one_missing P n ks are not = record {
  order = are.order;
  each = All-weaker (λ k. (k < n) × P k) (λ k. (k < n + 1) × P k) (λ k h. (let low = h.0 in omega arith, h.1)) ks are.each;
  all = λ k low q. there k low q (cases_eq k n);
}
  where
    there : (k : ℕ) → k < n + 1 → P k → (k ≡ n) ⊎ (k ≢ n) → Contains ks k
    there k low q (inl same) = absurd (not (subst P same q))
    there k low q (inr other) = are.all k (omega (arith, other)) q

-- ---- how often a number stands among them

none_above : (k : ℕ) (ks : List ℕ) → All (λ x. k < x) ks → times k ks ≡ 0
none_above k [] all = refl
none_above k (x ∷ ks) all =
    let more = none_above k ks (All-tail (λ y. k < y) x ks all) in
    let low : k < x = All-head (λ y. k < y) x ks all in
    let other = times_other k x (λ e. omega arith) in
    let sum = times-cons k x ks in
    omega arith

pub in_order_once : (ks : List ℕ) → AllPairs (λ a b. a < b) ks → (k : ℕ) → times k ks ≤ 1
in_order_once [] order k = omega arith
in_order_once (x ∷ ks) order k = go (cases_eq x k) (in_order_once ks (λ i j d before inside. order (suc i) (suc j) d (omega arith) (omega arith)) k)
  where
    above : All (λ y. x < y) ks
    above = λ i d inside. order 0 (suc i) d (omega arith) (omega arith)

    go : (x ≡ k) ⊎ (x ≢ k) → times k ks ≤ 1 → times k (x ∷ ks) ≤ 1
    go (inl same) rest =
        let none = none_above k ks (subst (λ n. All (λ y. n < y) ks) same above) in
        let sum = times-cons k x ks in
        let one = times_one k x in
        omega arith
    go (inr other) rest =
        let none = times_other k x other in
        let sum = times-cons k x ks in
        omega arith

pub once_in : (P : ℕ → Type 0) (ks : List ℕ) → All P ks → (k : ℕ) → 0 < times k ks → P k
once_in P [] all k some = absurd (omega arith)
once_in P (x ∷ ks) all k some = go (cases_eq x k) (once_in P ks (All-tail P x ks all) k)
  where
    go : (x ≡ k) ⊎ (x ≢ k) → (0 < times k ks → P k) → P k
    go (inl same) later = subst P same (All-head P x ks all)
    go (inr other) later =
        let none = times_other k x other in
        let sum = times-cons k x ks in
        later (omega arith)
