-- As many buckets on a list as a chain has, where that list is full.
use Rattle.std.proofs.Common.{◌≡◌, ◌⊎◌, inl, inr, ℕ, zero, suc, ◌-◌, ◌<◌, ◌≤◌, true, false, List, [], ◌∷◌, length, get_or, refl, sym, ap, ◌∙◌, subst, arith}
use Rattle.std.specs.Prelude.{slice_index_or, sum_by}
use Rattle.std.proofs.lemmas.Bool.{cases_lt, lt-ltb}
use Rattle.std.proofs.lemmas.List.Sums.{sum_by-cons}
use Rattle.bc_alloc.proofs.Loops.{there}
use Rattle.bc_alloc.proofs.Times.{times-cons, times_same}
use Rattle.bc_alloc.specs.Reserve.{IsDistinct, Reserve, has_room, no_reserve, times}
use Rattle.bc_alloc.specs.Reserves.{IsInOrder, Reserves, list_of}
use Rattle.bc_alloc.specs.declared.purpose.Purpose.TheVariants as list
use Rattle.bc_books.specs.Chains.{Many}
use Rattle.bc_places.proofs.Lists.{counted}
use Rattle.bc_places.specs.Stands.{AreJust}

-- what is further back on a list of different ones is another one
rest_distinct : (n : ℕ) (ks : List ℕ) → IsDistinct (n ∷ ks) → IsDistinct ks × (times n ks ≡ 0)
rest_distinct n ks distinct = (
  λ j. let all = distinct j in let more = times-cons j n ks in omega (arith, all, more),
  let all = distinct n in
      let more = times-cons n n ks in
      let one = times_same n in omega (arith, all, more, one),
)

-- different ones at different places
places_apart : (ks : List ℕ) (i j : ℕ) → IsDistinct ks → i < length ks → j < length ks
    → get_or ks i 0 ≡ get_or ks j 0 → i ≡ j
places_apart [] i j distinct below other e = absurd (omega (arith, below))
places_apart (k ∷ ks) zero zero distinct below other e = refl
places_apart (k ∷ ks) zero (suc j) distinct below other e =
    absurd (let none = (rest_distinct k ks distinct).1 in
    let some = there ks j (omega (arith, other)) in
    let same = ap (λ n. times n ks) e in omega (arith, none, some, same))
places_apart (k ∷ ks) (suc i) zero distinct below other e =
    absurd (let none = (rest_distinct k ks distinct).1 in
    let some = there ks i (omega (arith, below)) in
    let same = ap (λ n. times n ks) e in omega (arith, none, some, same))
places_apart (k ∷ ks) (suc i) (suc j) distinct below other e = ap suc
    (places_apart ks i j (rest_distinct k ks distinct).0 (omega (arith, below))
    (omega (arith, other)) e)

pub many_on : (count before : ℕ) (ks : List ℕ) (P : ℕ → Type 0) → AreJust before ks P
    → IsDistinct ks → count ≤ length ks → Many count P
many_on count before ks P are distinct long = (
  λ j. get_or ks j 0 - before,
  λ i j below other e. places_apart ks i j distinct (omega (arith, below, long))
      (omega (arith, other, long))
      (let low = are.behind (get_or ks i 0) (there ks i (omega (arith, below, long))) in
      let high = are.behind (get_or ks j 0) (there ks j (omega (arith, other, long))) in
      omega (arith, e, low, high)),
  λ j below. are.each (get_or ks j 0 - before)
      (subst (λ n. 0 < times n ks)
      (sym (counted before (get_or ks j 0)
      (are.behind (get_or ks j 0) (there ks j (omega (arith, below, long))))))
      (there ks j (omega (arith, below, long)))),
)

-- a full list
pub no_room : (l : Reserve) → has_room l ≡ false → l.room ≤ length l.buckets
no_room l full = go (cases_lt (length l.buckets) l.room)
  where
    go : (length l.buckets < l.room) ⊎ (l.room ≤ length l.buckets) → l.room ≤ length l.buckets
    go (inl less) = absurd (let x : true ≡ false
        = sym (lt-ltb (length l.buckets) l.room less) ∙ full in cc)
    go (inr all) = all

first_on : (ls : List Reserve) (j : ℕ) → times j (slice_index_or ls 0 no_reserve).buckets
    ≤ sum_by (λ (l : Reserve). times j l.buckets) ls
first_on [] j = let none : times j [] ≡ 0 = refl in omega (arith, none)
first_on (l ∷ ls) j = let all = sum_by-cons (λ (k : Reserve). times j k.buckets) l ls in
    omega (arith, all)

-- no bucket is twice on the list for priority sets
pub once_listed : (r : Reserves) → IsInOrder r → IsDistinct (list_of list.Priorities r).buckets
once_listed r order j = let one = order.once j in
    let here = first_on r.lists j in omega (arith, one, here)
