-- How many slots each part gets.
use Rattle.std.proofs.Common.{◌≡◌, ◌≢◌, ◌⊎◌, inl, inr, ℕ, zero, suc, ◌+◌, ◌%◌, ◌<◌, ◌≤◌, ◌^◌, List, [], ◌∷◌, ◌++◌, true, false, length, replicate, get_or, set, refl, sym, ap, ◌∙◌, subst, arith, get_or-set_same, get_or-set_other, length-set, length-append}
use Rattle.std.specs.Prelude.{◌==◌}
use Rattle.std.proofs.lemmas.Bool.{cases_eq}
use Rattle.std.proofs.lemmas.List.{get_or_default}
use Rattle.bc_cache.specs.Slots.{NodeCache}
use Rattle.bc_disk.specs.declared.geometry.Geometry.{Geometry}
use Rattle.bc_pending.specs.declared.numbered.Numbered.{Numbered}
use Rattle.bc_slots.specs.Filling.{AreCounts, AreEmpty, ArePrepared, IsEmpty}
use Rattle.bc_slots.specs.Places.{has_keys, is_in, numbers_in}
use Rattle.bc_slots.proofs.Passed.{passed, passed_all, passed_below, passed_no, passed_yes}
use Rattle.bc_slots.proofs.Steps.{elsewhere, in_part, keyless, zeros}

pub none_of : (keys : List Numbered) → (length keys == 0) ≡ true → keys ≡ []
none_of [] e = refl
none_of (k ∷ ks) e = absurd (grind arith)

pub some_of : (keys : List Numbered) → (length keys == 0) ≡ false → has_keys keys ≡ true
some_of [] e = absurd (cc)
some_of (k ∷ ks) e = refl

-- the counts of the first i leaves
pub record AreCountedTo (pending : List (List Numbered)) (count i : ℕ) (counts : List ℕ) : Type 0 where
  pub each : length counts ≡ count
  pub count_is : (p : ℕ) → p < count → get_or counts p 0 ≡ length (passed (is_in pending count p) (length pending) i)

length_zeros : (n : ℕ) → length (replicate {A = ℕ} n 0) ≡ n
length_zeros zero = refl
length_zeros (suc n) = let rest = length_zeros n in omega (arith, rest)

module _ (pending : List (List Numbered)) (count : ℕ) where
  pub counts_begin : (counts : List ℕ) → counts ≡ replicate count 0 → AreCountedTo pending count 0 counts
  counts_begin counts none = record {
    each = ap length none ∙ length_zeros count;
    count_is = λ p low. ap (λ (xs : List ℕ). get_or xs p 0) none ∙ zeros count p;
  }

  pub counts_stay : (i : ℕ) (counts : List ℕ) → i < length pending → get_or pending i [] ≡ [] → AreCountedTo pending count i counts → AreCountedTo pending count (i + 1) counts
  counts_stay i counts low none so = record {
    each = so.each;
    count_is = λ p below. so.count_is p below ∙ ap length (sym (passed_no (is_in pending count p) (length pending) i low (keyless pending count p i (ap has_keys none))));
  }

  pub counts_more : (i at n : ℕ) (counts : List ℕ) → i < length pending → has_keys (get_or pending i []) ≡ true → i % count ≡ at → at < count → n ≡ get_or counts at 0 + 1 → AreCountedTo pending count i counts → AreCountedTo pending count (i + 1) (set counts at n)
  counts_more i at n counts low keys same inside n_is so = record {
    each = length-set counts at n ∙ so.each;
    count_is = λ p below. go p below (cases_eq p at);
  }
    where
      here : get_or (set counts at n) at 0 ≡ length (passed (is_in pending count at) (length pending) (i + 1))
      here =
          let p = is_in pending count at in
          let each : at < length counts = let e = so.each in omega (arith, inside, e) in
          let set_is = get_or-set_same counts at n 0 each in
          let was = so.count_is at inside in
          let more = ap length (passed_yes p (length pending) i low (in_part pending count at i keys same)) ∙ length-append (passed p (length pending) i) (i ∷ []) in
          omega (arith, set_is, was, more, n_is)

      go : (p : ℕ) → p < count → (p ≡ at) ⊎ (p ≢ at) → get_or (set counts at n) p 0 ≡ length (passed (is_in pending count p) (length pending) (i + 1))
      go p below (inl e) = subst (λ q. get_or (set counts at n) q 0 ≡ length (passed (is_in pending count q) (length pending) (i + 1))) (sym e) here
      go p below (inr other) =
          get_or-set_other counts at p n 0 other ∙ so.count_is p below
          ∙ ap length (sym (passed_no (is_in pending count p) (length pending) i low (elsewhere pending count p i (λ e. other (sym e ∙ same)))))

  pub here_keys : (i : ℕ) (item keys : List Numbered) → i < length pending → item ≡ get_or pending i item → keys ≡ item → (length keys == 0) ≡ false → has_keys (get_or pending i []) ≡ true
  here_keys i item keys low at is some = subst (λ (ks : List Numbered). has_keys ks ≡ true) (is ∙ at ∙ get_or_default pending i item [] low) (some_of keys some)

  pub here_none : (i : ℕ) (item keys : List Numbered) → i < length pending → item ≡ get_or pending i item → keys ≡ item → (length keys == 0) ≡ true → get_or pending i [] ≡ []
  here_none i item keys low at is none = subst (λ (ks : List Numbered). ks ≡ []) (is ∙ at ∙ get_or_default pending i item [] low) (none_of keys none)

  pub counts_end : (i : ℕ) (counts : List ℕ) → length pending ≤ i → AreCountedTo pending count i counts → AreCounts pending count counts
  counts_end i counts all so = record {
    each = so.each;
    count_is = λ p below. so.count_is p below ∙ ap length (passed_all (is_in pending count p) (length pending) i all);
  }

  pub few_counted : (i p : ℕ) (counts : List ℕ) → p < count → AreCountedTo pending count i counts → get_or counts p 0 ≤ i
  few_counted i p counts below so =
      let is = so.count_is p below in let low = passed_below (is_in pending count p) (length pending) i in omega (arith, is, low)

  pub few_counts : (p : ℕ) (counts : List ℕ) → p < length counts → AreCounts pending count counts → get_or counts p 0 ≤ length pending
  few_counts p counts below so =
      let each = so.each in
      let is = so.count_is p (omega (arith, below, each)) in
      let whole = ap length (passed_all (is_in pending count p) (length pending) (length pending) (omega arith)) in
      let low = passed_below (is_in pending count p) (length pending) (length pending) in
      omega (arith, is, whole, low)

-- ---- parts without leaves

pub empty_push : (g : Geometry) (counts : List ℕ) (parts : List NodeCache) (cache : NodeCache) (i : ℕ) → i < length counts → length parts ≡ i
    → ((p : ℕ) (c : NodeCache) → p < i → IsEmpty g (get_or counts p 0) (get_or parts p c)) → IsEmpty g (get_or counts i 0) cache
    → (p : ℕ) (c : NodeCache) → p < i + 1 → IsEmpty g (get_or counts p 0) (get_or (parts ++ cache ∷ []) p c)
empty_push g counts parts cache i low long so new p c below = go (cases_eq p i)
  where
    at_end : (xs : List NodeCache) (x d : NodeCache) → get_or (xs ++ x ∷ []) (length xs) d ≡ x
    at_end [] x d = refl
    at_end (y ∷ ys) x d = at_end ys x d

    before : (xs : List NodeCache) (x d : NodeCache) (k : ℕ) → k < length xs → get_or (xs ++ x ∷ []) k d ≡ get_or xs k d
    before [] x d k less = absurd (omega (arith, less))
    before (y ∷ ys) x d zero less = refl
    before (y ∷ ys) x d (suc k) less = before ys x d k (omega (arith, less))

    go : (p ≡ i) ⊎ (p ≢ i) → IsEmpty g (get_or counts p 0) (get_or (parts ++ cache ∷ []) p c)
    go (inl e) =
        subst (λ n. IsEmpty g (get_or counts n 0) (get_or (parts ++ cache ∷ []) n c)) (sym e)
        (subst (λ (x : NodeCache). IsEmpty g (get_or counts i 0) x) (sym (subst (λ n. get_or (parts ++ cache ∷ []) n c ≡ cache) long (at_end parts cache c))) new)
    go (inr other) = subst (λ (x : NodeCache). IsEmpty g (get_or counts p 0) x) (sym (before parts cache c p (omega (arith, below, other, long)))) (so p c (omega (arith, below, other)))

pub prepared : (g : Geometry) (pending : List (List Numbered)) (count : ℕ) (counts : List ℕ) (parts : List NodeCache) → AreCounts pending count counts → AreEmpty g counts parts → ArePrepared g pending parts
prepared g pending count counts parts are empty p cache below =
    let many : count ≡ length parts = sym (empty.each ∙ are.each) in
    let low : p < length counts = let e = empty.each in omega (arith, below, e) in
    let is : get_or counts p 0 ≡ length (numbers_in pending (length parts) p) =
    subst (λ n. get_or counts p 0 ≡ length (numbers_in pending n p)) many (are.count_is p (omega (arith, below, many))) in
    subst (λ n. IsEmpty g n (get_or parts p cache)) is (empty.part p cache low)

pub room_for_four : (pending : List (List Numbered)) (count : ℕ) (counts : List ℕ) → AreCounts pending count counts → length pending + 4 < 2 ^ 32 → (p : ℕ) → p < length counts → get_or counts p 0 + 4 < 2 ^ 32
room_for_four pending count counts are few p below = let low = few_counts pending count p counts below are in omega (arith, low, few)
