-- The first of the buckets that may be given up, in order, out of a heap of as many as are asked for.
use Rattle.std.proofs.Common.{◌≡◌, ◌≢◌, ◌⊎◌, inl, inr, ℕ, suc, ◌+◌, ◌-◌, ◌^◌, ◌<◌, ◌≤◌, ◌==◌, Bool, cond, List, [], ◌∷◌, ◌++◌, length, reverse, get_or, sym, ap, ◌∙◌, subst, arith}
use Rattle.std.specs.Prelude.{All}
use Rattle.std.specs.List.Sorted.{IsPermutation}
use Rattle.std.proofs.lemmas.Bool.{cases_eq, cases_lt}
use Rattle.std.proofs.lemmas.List.{get_or-reverse, get_or_append_left, get_or_push, length-reverse, length_push}
use Rattle.std.proofs.lemmas.List.Sorted.{length_permutation, IsPermutation-reverse, sum_by-IsPermutation}
use Rattle.bc_bucket.specs.declared.bucket.Bucket.{Bucket}
use Rattle.bc_alloc.specs.Reserve.{times}
use Rattle.bc_alloc.specs.Victims.{AreFirst, IsBefore, IsOpen, priority_of}
use Rattle.bc_alloc.specs.Choice.{AreChosen, IsBehind, number_of, rank_at, rank_of}
use Rattle.bc_alloc.proofs.Times.{times-append, times-cons, times_other, times_same}

number : (p k : ℕ) → k < 2 ^ 32 → number_of (rank_of p k) ≡ k
number p k kf = omega arith

before : (records : List Bucket) (j k : ℕ) → j < 2 ^ 32 → k < 2 ^ 32 → rank_at records j < rank_at records k → IsBefore records j k
before records j k js ks lt = go (cases_lt (priority_of records j) (priority_of records k))
  where
    go : (priority_of records j < priority_of records k) ⊎ (priority_of records k ≤ priority_of records j) → IsBefore records j k
    go (inl less) = inl less
    go (inr le) = inr (omega arith, omega arith)

same_times : (x : ℕ) (xs ys : List ℕ) → IsPermutation xs ys → times x ys ≡ times x xs
same_times x xs ys p = sum_by-IsPermutation (λ (y : ℕ). cond {A = ℕ} (y == x) 1 0) xs ys p

same_bucket : (records : List Bucket) (j k : ℕ) → j < 2 ^ 32 → k < 2 ^ 32 → rank_at records j ≡ rank_at records k → j ≡ k
same_bucket records j k js ks e = sym (number (priority_of records j) j js) ∙ ap (λ u. number_of u) e ∙ number (priority_of records k) k ks

-- the rank of a bucket that wasn't looked at yet
unseen : (records : List Bucket) (listed : List Bool) (n most u : ℕ) (kept : List ℕ) → n < 2 ^ 32 → AreChosen records listed n most kept [] → u ≡ rank_at records n → times u kept ≡ 0
unseen records listed n most u kept small h is = go (cases_lt 0 (times u kept))
  where
    go : (0 < times u kept) ⊎ (times u kept ≤ 0) → times u kept ≡ 0
    go (inl some) =
        let o = h.only u some in
        let same = same_bucket records o.0 n (let lt = o.1 in omega arith) small (sym o.3 ∙ is) in
        absurd (let lt = o.1 in omega arith)
    go (inr none) = omega arith

all_times : (u x : ℕ) (ys : List ℕ) → All (λ y. y ≤ u) ys → 0 < times x ys → x ≤ u
all_times u x [] h some = absurd (omega arith)
all_times u x (y ∷ ys) h some = at (cases_eq y x) (all_times u x ys (λ k d lt. h (suc k) d (omega arith)))
  where
    at : (y ≡ x) ⊎ (y ≢ x) → (0 < times x ys → x ≤ u) → x ≤ u
    at (inl e) later = let first = h 0 0 (omega arith) in omega arith
    at (inr ne) later = later (let c = times-cons x y ys in let z = times_other x y ne in omega arith)

pub nothing_yet : (records : List Bucket) (listed : List Bool) (most : ℕ) → AreChosen records listed 0 most [] []
nothing_yet records listed most =
    record {
      small = omega arith;
      few = omega arith;
      chosen = λ i lt. absurd (omega arith);
      ordered = λ i j ij lt. absurd (omega arith);
      below = λ x some i lt. absurd (omega arith);
      only = λ x some. absurd (omega arith);
      all = λ j lt o. absurd (omega arith);
      once = λ x. omega arith;
    }

pub one_skipped : (records : List Bucket) (listed : List Bool) (n most : ℕ) (kept : List ℕ) → n < 2 ^ 32 → AreChosen records listed n most kept [] → (IsOpen records listed n → ⊥) → AreChosen records listed (n + 1) most kept []
one_skipped records listed n most kept fits h shut =
    record {
      small = omega arith;
      few = h.few;
      chosen = λ i lt. absurd (omega arith);
      ordered = λ i j ij lt. absurd (omega arith);
      below = λ x some i lt. absurd (omega arith);
      only = λ x some. let o = h.only x some in (o.0, let lt = o.1 in omega arith, o.2, o.3);
      all = λ j lt o. h.all j (low j lt o) o;
      once = h.once;
    }
  where
    low : (j : ℕ) → j < n + 1 → IsOpen records listed j → j < n
    low j lt o = go (cases_eq j n)
      where
        go : (j ≡ n) ⊎ (j ≢ n) → j < n
        go (inl e) = absurd (shut (subst (λ (i : ℕ). IsOpen records listed i) e o))
        go (inr ne) = omega (arith, ne)

-- one that comes behind as many as are asked for
pub one_left_out : (records : List Bucket) (listed : List Bool) (n most u : ℕ) (kept : List ℕ) → n < 2 ^ 32 → AreChosen records listed n most kept [] → u ≡ rank_at records n → most ≤ length kept → All (λ y. y ≤ u) kept → AreChosen records listed (n + 1) most kept []
one_left_out records listed n most u kept fits h is full most_of =
    record {
      small = omega arith;
      few = h.few;
      chosen = λ i lt. absurd (omega arith);
      ordered = λ i j ij lt. absurd (omega arith);
      below = λ x some i lt. absurd (omega arith);
      only = λ x some. let o = h.only x some in (o.0, let lt = o.1 in omega arith, o.2, o.3);
      all = λ j lt o. all j lt o (cases_eq j n);
      once = h.once;
    }
  where
    behind : IsBehind records most kept [] n
    behind =
        record {
          enough = omega arith;
          above_kept = λ x some. lower x some (cases_eq x u);
          above_taken = λ i lt. absurd (omega arith);
        }
      where
        lower : (x : ℕ) → 0 < times x kept → (x ≡ u) ⊎ (x ≢ u) → x < rank_at records n
        lower x some (inl e) = absurd (let z = unseen records listed n most u kept fits h is in let s = subst (λ (y : ℕ). 0 < times y kept) e some in omega arith)
        lower x some (inr ne) = let le = all_times u x kept most_of some in omega (arith, ne)

    all : (j : ℕ) → j < n + 1 → IsOpen records listed j → (j ≡ n) ⊎ (j ≢ n) → (0 < times (rank_at records j) kept) ⊎ (0 < times j []) ⊎ IsBehind records most kept [] j
    all j lt o (inl e) = inr (inr (subst (λ (i : ℕ). IsBehind records most kept [] i) (sym e) behind))
    all j lt o (inr ne) = h.all j (omega (arith, ne)) o

-- one is put into what is kept; what comes behind all that was kept then comes behind it too
pub one_put : (records : List Bucket) (listed : List Bool) (n most u : ℕ) (kept more : List ℕ) → n < 2 ^ 32 → AreChosen records listed n most kept [] → IsOpen records listed n → u ≡ rank_at records n → IsPermutation (u ∷ kept) more → length kept < most → AreChosen records listed (n + 1) most more []
one_put records listed n most u kept more small h free is moved room =
    record {
      small = omega arith;
      few = let l = length_permutation (u ∷ kept) more moved in omega arith;
      chosen = λ i lt. absurd (omega arith);
      ordered = λ i j ij lt. absurd (omega arith);
      below = λ x some i lt. absurd (omega arith);
      only = λ x some. only x some (cases_eq x u);
      all = λ j lt o. all j lt o (cases_eq j n);
      once = λ x. once x (cases_eq x u);
    }
  where
    counts : (x : ℕ) → times x more ≡ times x (u ∷ []) + times x kept
    counts x = same_times x (u ∷ kept) more moved ∙ times-cons x u kept

    only : (x : ℕ) → 0 < times x more → (x ≡ u) ⊎ (x ≢ u) → (j : ℕ) × (j < n + 1) × IsOpen records listed j × (x ≡ rank_at records j)
    only x some (inl e) = (n, omega arith, free, e ∙ is)
    only x some (inr ne) =
        let c = counts x in
        let z = times_other x u (λ e. ne (sym e)) in
        let o = h.only x (omega arith) in
        (o.0, let lt = o.1 in omega arith, o.2, o.3)

    all : (j : ℕ) → j < n + 1 → IsOpen records listed j → (j ≡ n) ⊎ (j ≢ n) → (0 < times (rank_at records j) more) ⊎ (0 < times j []) ⊎ IsBehind records most more [] j
    all j lt o (inl e) =
        let c = counts u in
        let one = times_same u in
        inl (subst (λ (x : ℕ). 0 < times x more) (is ∙ ap (λ i. rank_at records i) (sym e)) (omega arith))
    all j lt o (inr ne) = go (h.all j (omega (arith, ne)) o)
      where
        go : (0 < times (rank_at records j) kept) ⊎ (0 < times j []) ⊎ IsBehind records most kept [] j → (0 < times (rank_at records j) more) ⊎ (0 < times j []) ⊎ IsBehind records most more [] j
        go (inl some) = let c = counts (rank_at records j) in inl (omega arith)
        go (inr (inl some)) = absurd (omega arith)
        go (inr (inr b)) = absurd (let e = b.enough in omega arith)

    once : (x : ℕ) → (x ≡ u) ⊎ (x ≢ u) → times x more ≤ 1
    once x (inl e) = subst (λ (y : ℕ). times y more ≤ 1) (sym e) (let c = counts u in let one = times_same u in let z = unseen records listed n most u kept small h is in omega arith)
    once x (inr ne) = let c = counts x in let z = times_other x u (λ e. ne (sym e)) in let o = h.once x in omega arith

-- one takes the place of the last one that is kept
pub one_replaced : (records : List Bucket) (listed : List Bool) (n most u top : ℕ) (kept rest more : List ℕ) → n < 2 ^ 32 → AreChosen records listed n most kept [] → IsOpen records listed n → u ≡ rank_at records n → most ≤ length kept → u < top → IsPermutation kept (top ∷ rest) → All (λ y. y ≤ top) rest → IsPermutation (u ∷ rest) more → AreChosen records listed (n + 1) most more []
one_replaced records listed n most u top kept rest more small h free is full less out last moved =
    record {
      small = omega arith;
      few = let l = lengths in let f = h.few in omega arith;
      chosen = λ i lt. absurd (omega arith);
      ordered = λ i j ij lt. absurd (omega arith);
      below = λ x some i lt. absurd (omega arith);
      only = λ x some. only x some (cases_eq x u);
      all = λ j lt o. all j lt o (cases_eq j n);
      once = λ x. once x (cases_eq x u);
    }
  where
    lengths : length more ≡ length kept
    lengths = let a = length_permutation (u ∷ rest) more moved in let b = length_permutation kept (top ∷ rest) out in omega arith

    before_it : (x : ℕ) → times x kept ≡ times x (top ∷ []) + times x rest
    before_it x = sym (same_times x kept (top ∷ rest) out) ∙ times-cons x top rest

    counts : (x : ℕ) → times x more ≡ times x (u ∷ []) + times x rest
    counts x = same_times x (u ∷ rest) more moved ∙ times-cons x u rest

    kept_too : (x : ℕ) → 0 < times x more → x ≢ u → 0 < times x rest
    kept_too x some ne = let c = counts x in let z = times_other x u (λ e. ne (sym e)) in omega arith

    only : (x : ℕ) → 0 < times x more → (x ≡ u) ⊎ (x ≢ u) → (j : ℕ) × (j < n + 1) × IsOpen records listed j × (x ≡ rank_at records j)
    only x some (inl e) = (n, omega arith, free, e ∙ is)
    only x some (inr ne) =
        let b = before_it x in
        let r = kept_too x some ne in
        let o = h.only x (omega arith) in
        (o.0, let lt = o.1 in omega arith, o.2, o.3)

    under : (x : ℕ) → 0 < times x more → (x ≡ u) ⊎ (x ≢ u) → (x ≡ top) ⊎ (x ≢ top) → x < top
    under x some (inl e) d = omega arith
    under x some (inr ne) (inl e) =
        absurd (let r = subst (λ (y : ℕ). 0 < times y rest) e (kept_too x some ne) in let b = before_it top in let one = times_same top in let o = h.once top in omega arith)
    under x some (inr ne) (inr other) = let le = all_times top x rest last (kept_too x some ne) in omega (arith, other)

    top_kept : 0 < times top kept
    top_kept = let b = before_it top in let one = times_same top in omega arith

    behind : (j : ℕ) → top ≤ rank_at records j → IsBehind records most more [] j
    behind j le =
        record {
          enough = let l = lengths in omega arith;
          above_kept = λ x some. let lt = under x some (cases_eq x u) (cases_eq x top) in omega arith;
          above_taken = λ i lt. absurd (omega arith);
        }

    all : (j : ℕ) → j < n + 1 → IsOpen records listed j → (j ≡ n) ⊎ (j ≢ n) → (0 < times (rank_at records j) more) ⊎ (0 < times j []) ⊎ IsBehind records most more [] j
    all j lt o (inl e) =
        let c = counts u in
        let one = times_same u in
        inl (subst (λ (x : ℕ). 0 < times x more) (is ∙ ap (λ i. rank_at records i) (sym e)) (omega arith))
    all j lt o (inr ne) = go (h.all j (omega (arith, ne)) o) (cases_eq (rank_at records j) top)
      where
        go : (0 < times (rank_at records j) kept) ⊎ (0 < times j []) ⊎ IsBehind records most kept [] j → (rank_at records j ≡ top) ⊎ (rank_at records j ≢ top) → (0 < times (rank_at records j) more) ⊎ (0 < times j []) ⊎ IsBehind records most more [] j
        go (inl some) (inl e) = inr (inr (behind j (omega arith)))
        go (inl some) (inr other) =
            let b = before_it (rank_at records j) in
            let z = times_other (rank_at records j) top (λ e. other (sym e)) in
            let c = counts (rank_at records j) in
            inl (omega arith)
        go (inr (inl some)) d = absurd (omega arith)
        go (inr (inr b)) d = inr (inr (behind j (let lt = b.above_kept top top_kept in omega arith)))

    once : (x : ℕ) → (x ≡ u) ⊎ (x ≢ u) → times x more ≤ 1
    once x (inl e) =
        subst (λ (y : ℕ). times y more ≤ 1) (sym e) (let c = counts u in let one = times_same u in let z = unseen records listed n most u kept small h is in let b = before_it u in omega arith)
    once x (inr ne) = let c = counts x in let z = times_other x u (λ e. ne (sym e)) in let o = h.once x in let b = before_it x in omega arith

pub one_taken : (records : List Bucket) (listed : List Bool) (n most u : ℕ) (kept rest taken : List ℕ) → AreChosen records listed n most kept taken → IsPermutation kept (u ∷ rest) → All (λ y. y ≤ u) rest → AreChosen records listed n most rest (taken ++ number_of u ∷ [])
one_taken records listed n most u kept rest taken h moved last_one =
    record {
      small = h.small;
      few = let a = lengths in let b = h.few in omega arith;
      chosen = λ i lt. chosen i (cases_lt i (length taken)) lt;
      ordered = λ i j ij lt. ordered i j ij lt (cases_lt j (length taken));
      below = λ x some i lt. below x some i lt (cases_lt i (length taken));
      only = λ x some. h.only x (let c = counts x in omega arith);
      all = all;
      once = λ x. let c = counts x in let o = h.once x in omega arith;
    }
  where
    lengths : length rest + length (taken ++ number_of u ∷ []) ≡ length kept + length taken
    lengths = let a = length_push taken (number_of u) in let b = length_permutation kept (u ∷ rest) moved in omega arith

    counts : (x : ℕ) → times x kept ≡ times x (u ∷ []) + times x rest
    counts x = sym (same_times x kept (u ∷ rest) moved) ∙ times-cons x u rest

    there : 0 < times u kept
    there = let c = counts u in let one = times_same u in omega arith

    own : (j : ℕ) × (j < n) × IsOpen records listed j × (u ≡ rank_at records j)
    own = h.only u there

    own_small : own.0 < 2 ^ 32
    own_small = let lt = own.1 in let s = h.small in omega arith

    is : number_of u ≡ own.0
    is = ap (λ x. number_of x) own.3 ∙ number (priority_of records own.0) own.0 own_small

    old : (i : ℕ) → i < length taken → get_or (taken ++ number_of u ∷ []) i 0 ≡ get_or taken i 0
    old i lt = get_or_append_left taken (number_of u ∷ []) 0 i lt

    new : (i : ℕ) → length taken ≡ i → get_or (taken ++ number_of u ∷ []) i 0 ≡ own.0
    new i e = get_or_push taken (number_of u) 0 i e ∙ is

    last : (i : ℕ) → length taken ≤ i → i < length (taken ++ number_of u ∷ []) → length taken ≡ i
    last i le lt = let l = length_push taken (number_of u) in omega arith

    chosen : (i : ℕ) → (i < length taken) ⊎ (length taken ≤ i) → i < length (taken ++ number_of u ∷ []) → IsOpen records listed (get_or (taken ++ number_of u ∷ []) i 0) × (get_or (taken ++ number_of u ∷ []) i 0 < n)
    chosen i (inl lt) within = subst (λ (k : ℕ). IsOpen records listed k × (k < n)) (sym (old i lt)) (h.chosen i lt)
    chosen i (inr le) within = subst (λ (k : ℕ). IsOpen records listed k × (k < n)) (sym (new i (last i le within))) (own.2, own.1)

    ordered : (i j : ℕ) → i < j → j < length (taken ++ number_of u ∷ []) → (j < length taken) ⊎ (length taken ≤ j) → IsBefore records (get_or (taken ++ number_of u ∷ []) j 0) (get_or (taken ++ number_of u ∷ []) i 0)
    ordered i j ij within (inl lt) =
        subst (λ (k : ℕ). IsBefore records (get_or (taken ++ number_of u ∷ []) j 0) k) (sym (old i (omega arith)))
        (subst (λ (k : ℕ). IsBefore records k (get_or taken i 0)) (sym (old j lt)) (h.ordered i j ij lt))
    ordered i j ij within (inr le) =
        let e = last j le within in
        let low : i < length taken = omega arith in
        let c = h.chosen i low in
        let s = h.small in
        subst (λ (k : ℕ). IsBefore records (get_or (taken ++ number_of u ∷ []) j 0) k) (sym (old i low))
        (subst (λ (k : ℕ). IsBefore records k (get_or taken i 0)) (sym (new j e))
        (before records own.0 (get_or taken i 0) own_small (let lt = c.1 in omega arith)
        (subst (λ (x : ℕ). x < rank_at records (get_or taken i 0)) own.3 (h.below u there i low))))

    under : (x : ℕ) → 0 < times x rest → x < u
    under x some =
        let le = all_times u x rest last_one some in
        go (cases_eq x u) le
      where
        go : (x ≡ u) ⊎ (x ≢ u) → x ≤ u → x < u
        go (inl e) le = absurd (let c = counts u in let one = times_same u in let o = h.once u in let s = subst (λ (y : ℕ). 0 < times y rest) e some in omega arith)
        go (inr ne) le = omega (arith, ne)

    below : (x : ℕ) → 0 < times x rest → (i : ℕ) → i < length (taken ++ number_of u ∷ []) → (i < length taken) ⊎ (length taken ≤ i) → x < rank_at records (get_or (taken ++ number_of u ∷ []) i 0)
    below x some i within (inl lt) = subst (λ (k : ℕ). x < rank_at records k) (sym (old i lt)) (h.below x (let c = counts x in omega arith) i lt)
    below x some i within (inr le) = subst (λ (k : ℕ). x < rank_at records k) (sym (new i (last i le within))) (subst (λ (y : ℕ). x < y) own.3 (under x some))

    behind : (j : ℕ) → j < n → IsBehind records most kept taken j → IsBehind records most rest (taken ++ number_of u ∷ []) j
    behind j jn b =
        record {
          enough = let a = lengths in let e = b.enough in omega arith;
          above_kept = λ x some. b.above_kept x (let c = counts x in omega arith);
          above_taken = λ i within. go i within (cases_lt i (length taken));
        }
      where
        go : (i : ℕ) → i < length (taken ++ number_of u ∷ []) → (i < length taken) ⊎ (length taken ≤ i) → IsBefore records (get_or (taken ++ number_of u ∷ []) i 0) j
        go i within (inl lt) = subst (λ (k : ℕ). IsBefore records k j) (sym (old i lt)) (b.above_taken i lt)
        go i within (inr le) =
            subst (λ (k : ℕ). IsBefore records k j) (sym (new i (last i le within)))
            (before records own.0 j own_small (let s = h.small in omega arith) (subst (λ (x : ℕ). x < rank_at records j) own.3 (b.above_kept u there)))

    all : (j : ℕ) → j < n → IsOpen records listed j → (0 < times (rank_at records j) rest) ⊎ (0 < times j (taken ++ number_of u ∷ [])) ⊎ IsBehind records most rest (taken ++ number_of u ∷ []) j
    all j lt o = go (h.all j lt o) (cases_eq (rank_at records j) u)
      where
        c : times j (taken ++ number_of u ∷ []) ≡ times j taken + times j (number_of u ∷ [])
        c = times-append j taken (number_of u ∷ [])

        go : (0 < times (rank_at records j) kept) ⊎ (0 < times j taken) ⊎ IsBehind records most kept taken j → (rank_at records j ≡ u) ⊎ (rank_at records j ≢ u) → (0 < times (rank_at records j) rest) ⊎ (0 < times j (taken ++ number_of u ∷ [])) ⊎ IsBehind records most rest (taken ++ number_of u ∷ []) j
        go (inr (inl some)) k = inr (inl (let e = c in omega arith))
        go (inr (inr b)) k = inr (inr (behind j lt b))
        go (inl some) (inl e) =
            let same : number_of u ≡ j = ap (λ x. number_of x) (sym e) ∙ number (priority_of records j) j (let s = h.small in omega arith) in
            let one = subst (λ (i : ℕ). times j (i ∷ []) ≡ 1) (sym same) (times_same j) in
            inr (inl (let e2 = c in omega arith))
        go (inl some) (inr ne) = inl (let d = counts (rank_at records j) in let z = times_other (rank_at records j) u (λ e. ne (sym e)) in omega arith)

pub all_taken : (records : List Bucket) (listed : List Bool) (most : ℕ) (taken : List ℕ) → AreChosen records listed (length records) most [] taken → AreFirst (IsOpen records listed) records most (reverse taken)
all_taken records listed most taken h =
    record {
      chosen = λ i lt. subst (λ (k : ℕ). IsOpen records listed k) (sym (at i (low i lt))) (h.chosen (length taken - 1 - i) (omega (arith, low i lt))).0;
      ordered = λ i j ij lt. ordered i j ij (low j lt);
      first = λ k o none i lt. first k none i (low i lt) (h.all k o.there o);
      few = let l = length-reverse taken in let f = h.few in omega arith;
      enough = λ less k o. enough k (let l = length-reverse taken in omega arith) (h.all k o.there o);
    }
  where
    low : (i : ℕ) → i < length (reverse taken) → i < length taken
    low i lt = let l = length-reverse taken in omega arith

    at : (i : ℕ) → i < length taken → get_or (reverse taken) i 0 ≡ get_or taken (length taken - 1 - i) 0
    at i lt = get_or-reverse taken i 0 lt

    ordered : (i j : ℕ) → i < j → j < length taken → IsBefore records (get_or (reverse taken) i 0) (get_or (reverse taken) j 0)
    ordered i j ij lt =
        subst (λ (k : ℕ). IsBefore records k (get_or (reverse taken) j 0)) (sym (at i (omega arith)))
        (subst (λ (k : ℕ). IsBefore records (get_or taken (length taken - 1 - i) 0) k) (sym (at j lt)) (h.ordered (length taken - 1 - j) (length taken - 1 - i) (omega arith) (omega arith)))

    turned : (k : ℕ) → times k (reverse taken) ≡ times k taken
    turned k = same_times k taken (reverse taken) (IsPermutation-reverse taken)

    first : (k : ℕ) → times k (reverse taken) ≡ 0 → (i : ℕ) → i < length taken → (0 < times (rank_at records k) []) ⊎ (0 < times k taken) ⊎ IsBehind records most [] taken k → IsBefore records (get_or (reverse taken) i 0) k
    first k none i lt (inl some) = absurd (omega arith)
    first k none i lt (inr (inl some)) = absurd (let t = turned k in omega arith)
    first k none i lt (inr (inr b)) = subst (λ (j : ℕ). IsBefore records j k) (sym (at i lt)) (b.above_taken (length taken - 1 - i) (omega arith))

    enough : (k : ℕ) → length taken < most → (0 < times (rank_at records k) []) ⊎ (0 < times k taken) ⊎ IsBehind records most [] taken k → 0 < times k (reverse taken)
    enough k less (inl some) = absurd (omega arith)
    enough k less (inr (inl some)) = let t = turned k in omega arith
    enough k less (inr (inr b)) = absurd (let e = b.enough in omega arith)
