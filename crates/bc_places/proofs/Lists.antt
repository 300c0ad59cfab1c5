-- Buckets in lists, by the core's numbers.
use Rattle.std.proofs.Common.{◌≡◌, ◌≢◌, ◌⊎◌, inl, inr, ℕ, ◌+◌, ◌-◌, ◌<◌, ◌≤◌, List, [], ◌∷◌, refl, sym, subst, arith}
use Rattle.std.proofs.lemmas.Bool.{cases_eq, cases_lt}
use Rattle.bc_alloc.specs.Reserve.{times}
use Rattle.bc_alloc.proofs.Times.{times-cons, times_other, times_same}
use Rattle.bc_places.specs.Stands.{AreJust}

-- the core's number of a bucket that isn't one of those before
pub counted : (before n : ℕ) → before ≤ n → before + (n - before) ≡ n
counted before n le = omega arith

pub other : (before n q : ℕ) → before ≤ n → q ≢ n - before → before + q ≢ n
other before n q le ne e = ne (omega arith)

-- of a bucket that is in the list
pub there : (before n : ℕ) (ks : List ℕ) (P : ℕ → Type 0) → AreJust before ks P → 0 < times n ks → P (n - before)
there before n ks P h some = h.each (n - before) (subst (λ (j : ℕ). 0 < times j ks) (sym (counted before n (h.behind n some))) some)

-- of one that isn't so
pub not_there : (before n : ℕ) (ks : List ℕ) (P : ℕ → Type 0) → AreJust before ks P → (P (n - before) → ⊥) → times n ks ≡ 0
not_there before n ks P h wrong = go (cases_lt 0 (times n ks))
  where
    go : (0 < times n ks) ⊎ (times n ks ≤ 0) → times n ks ≡ 0
    go (inl some) = absurd (wrong (there before n ks P h some))
    go (inr none) = omega arith

pub none_in : (k : ℕ) → 0 < times k [] → ⊥
none_in k some = let none : times k [] ≡ 0 = refl in omega arith

pub in_one : (j n : ℕ) → 0 < times j (n ∷ []) → j ≡ n
in_one j n some = go (cases_eq j n)
  where
    go : (j ≡ n) ⊎ (j ≢ n) → j ≡ n
    go (inl e) = e
    go (inr ne) = absurd (let z = times_other j n (λ e. ne (sym e)) in omega arith)

pub one_there : (j n : ℕ) → j ≡ n → 0 < times j (n ∷ [])
one_there j n e = let one = subst (λ (x : ℕ). times j (x ∷ []) ≡ 1) e (times_same j) in omega arith

-- one bucket less, which no list has then
pub without : (before n : ℕ) (ks ls : List ℕ) (P Q : ℕ → Type 0) → before ≤ n → AreJust before ks P
    → ((j : ℕ) → j ≢ n → times j ls ≡ times j ks) → times n ls ≡ 0
    → ((q : ℕ) → q ≢ n - before → P q → Q q) → ((q : ℕ) → q ≢ n - before → Q q → P q)
    → (Q (n - before) → ⊥) → AreJust before ls Q
without before n ks ls P Q low h same none on back wrong = record {
  behind = λ j some. behind j some (cases_eq j n);
  each = λ q some. each q some (cases_eq q (n - before));
  all = λ q is. all q is (cases_eq q (n - before));
}
  where
    behind : (j : ℕ) → 0 < times j ls → (j ≡ n) ⊎ (j ≢ n) → before ≤ j
    behind j some (inl e) = omega (arith, e, low)
    behind j some (inr ne) = h.behind j (let s = same j ne in omega arith)

    each : (q : ℕ) → 0 < times (before + q) ls → (q ≡ n - before) ⊎ (q ≢ n - before) → Q q
    each q some (inl e) =
        let is : before + q ≡ n = omega (arith, e, low) in
        let zero_times = subst (λ (j : ℕ). times j ls ≡ 0) (sym is) none in absurd (omega arith)
    each q some (inr ne) =
        on q ne (h.each q (let s = same (before + q) (other before n q low ne) in omega arith))

    all : (q : ℕ) → Q q → (q ≡ n - before) ⊎ (q ≢ n - before) → 0 < times (before + q) ls
    all q is (inl e) = absurd (wrong (subst Q e is))
    all q is (inr ne) =
        let some = h.all q (back q ne is) in
        let s = same (before + q) (other before n q low ne) in omega arith

-- a list that has none of it before and behind
pub apart : (before n : ℕ) (ks : List ℕ) (P Q : ℕ → Type 0) → before ≤ n → AreJust before ks P
    → (P (n - before) → ⊥) → ((q : ℕ) → q ≢ n - before → P q → Q q)
    → ((q : ℕ) → q ≢ n - before → Q q → P q) → (Q (n - before) → ⊥) → AreJust before ks Q
apart before n ks P Q low h never on back wrong =
    without before n ks ks P Q low h (λ j ne. omega arith) (not_there before n ks P h never) on back wrong

-- the same list, of which the same is known
pub same : (before : ℕ) (ks : List ℕ) (P Q : ℕ → Type 0) → AreJust before ks P
    → ((q : ℕ) → P q → Q q) → ((q : ℕ) → Q q → P q) → AreJust before ks Q
same before ks P Q h on back = record {
  behind = h.behind;
  each = λ q some. on q (h.each q some);
  all = λ q is. h.all q (back q is);
}

-- the first one is taken out
pub drop_first : (n j : ℕ) (ks : List ℕ) → j ≢ n → times j ks ≡ times j (n ∷ ks)
drop_first n j ks ne =
    let c = times-cons j n ks in
    let z = times_other j n (λ e. ne (sym e)) in omega arith

pub first_in : (n : ℕ) (ks : List ℕ) → 0 < times n (n ∷ ks)
first_in n ks = let c = times-cons n n ks in let one = times_same n in omega arith
