-- How often a bucket stands on the lists.
use Rattle.std.proofs.Common.{if◌then◌else◌, ◌≡◌, ◌≢◌, ◌⊎◌, inl, inr, ℕ, zero, suc, ◌+◌, ◌<◌, ◌≤◌, ◌==◌, Bool, true, false, cond, List, [], ◌∷◌, ◌++◌, length, get_or, set, refl, sym, ap, ◌∙◌, subst, arith, get_or-set_same, get_or-set_other, length-set}
use Rattle.std.specs.Prelude.{sum_by}
use Rattle.std.proofs.lemmas.Bool.{cases_eq, cases_lt}
use Rattle.std.proofs.lemmas.Bool.Decides.{eqb_tells}
use Rattle.std.proofs.lemmas.List.{get_or_default, get_or_past, length_push}
use borrow.Author.Tests.{ltb-true}
use Rattle.std.proofs.lemmas.List.Sums.{sum_by-cons, sum_by-append, sum_by-set}
use Rattle.bc_alloc.specs.Reserve.{Reserve, appended, flag, has_room, no_reserve, times}
use Rattle.bc_disk.specs.declared.geometry.Geometry.{Geometry}
use Rattle.std.specs.Prelude.{replicate}
use Rattle.std.proofs.lemmas.List.{length-replicate}
use Rattle.bc_alloc.specs.Reserves.{Reserves, IsInOrder, TakesFirst, empty, list_of, place_of, times_listed}
use Rattle.bc_alloc.specs.declared.purpose.Purpose.{Purpose}
use Rattle.bc_alloc.specs.Inside.{IsFlagged}

pub by_test : (a b : ℕ) (P : Bool → Type 0) → (a ≡ b → P true) → (a ≢ b → P false) → P (a == b)
by_test a b P same other = go (eqb_tells a b)
  where
    go : (((a == b) ≡ true) × (a ≡ b)) ⊎ (((a == b) ≡ false) × (a ≢ b)) → P (a == b)
    go (inl t) = subst P (sym t.0) (same t.1)
    go (inr t) = subst P (sym t.0) (other t.1)

pub times-append : (k : ℕ) (xs ys : List ℕ) → times k (xs ++ ys) ≡ times k xs + times k ys
times-append k xs ys = sum_by-append (λ x. cond (x == k) 1 0) xs ys

pub times-cons : (k x : ℕ) (xs : List ℕ) → times k (x ∷ xs) ≡ times k (x ∷ []) + times k xs
times-cons k x xs = omega (arith, sum_by-cons (λ (y : ℕ). cond {A = ℕ} (y == k) 1 0) x xs)

pub times_same : (k : ℕ) → times k (k ∷ []) ≡ 1
times_same k = by_test k k (λ b. 0 + cond {A = ℕ} b 1 0 ≡ 1) (λ _. refl) (λ ne. absurd (ne refl))

pub times_other : (k x : ℕ) → x ≢ k → times k (x ∷ []) ≡ 0
times_other k x ne = by_test x k (λ b. 0 + cond {A = ℕ} b 1 0 ≡ 0) (λ e. absurd (ne e)) (λ _. refl)

pub times_one : (k x : ℕ) → times k (x ∷ []) ≤ 1
times_one k x = by_test x k (λ b. 0 + cond {A = ℕ} b 1 0 ≤ 1) (λ _. omega arith) (λ _. omega arith)

-- one list has become another, so that each bucket stands there so much more often
pub sum_of_lists : (ls : List Reserve) (i : ℕ) (l : Reserve) (k : ℕ) → i < length ls → sum_by (λ (x : Reserve). times k x.buckets) (set ls i l) + times k (get_or ls i no_reserve).buckets ≡ sum_by (λ (x : Reserve). times k x.buckets) ls + times k l.buckets
sum_of_lists ls i l k within = sum_by-set (λ (x : Reserve). times k x.buckets) ls i l no_reserve within

-- flags after one bucket came or went
pub flag_set : (listed : List Bool) (t u : ℕ → ℕ) (k : ℕ) → ((j : ℕ) → t j ≡ flag (get_or listed j false)) → k < length listed → t k ≡ 0 → ((j : ℕ) → u j ≡ t j + times j (k ∷ [])) → (j : ℕ) → u j ≡ flag (get_or (set listed k true) j false)
flag_set listed t u k flags within none more j = go (cases_eq j k)
  where
    go : (j ≡ k) ⊎ (j ≢ k) → u j ≡ flag (get_or (set listed k true) j false)
    go (inl e) =
        let now = get_or-set_same listed k true false within in
        let one = more k in
        let same = times_same k in
        subst (λ i. u i ≡ flag (get_or (set listed k true) i false)) (sym e) (let u1 : u k ≡ 1 = omega arith in u1 ∙ ap (λ b. flag b) (sym now))
    go (inr ne) =
        let zero_ = times_other j k (λ e. ne (sym e)) in
        let one = more j in
        let u1 : u j ≡ t j = omega arith in
        u1 ∙ flags j ∙ ap (λ b. flag b) (sym (get_or-set_other listed k j true false ne))

pub flag_clear : (listed : List Bool) (t u : ℕ → ℕ) (k : ℕ) → ((j : ℕ) → t j ≡ flag (get_or listed j false)) → k < length listed → ((j : ℕ) → u j + times j (k ∷ []) ≡ t j) → (j : ℕ) → u j ≡ flag (get_or (set listed k false) j false)
flag_clear listed t u k flags within less j = go (cases_eq j k)
  where
    small : (b : Bool) → flag b ≤ 1
    small true = omega arith
    small false = omega arith

    go : (j ≡ k) ⊎ (j ≢ k) → u j ≡ flag (get_or (set listed k false) j false)
    go (inl e) =
        let now = get_or-set_same listed k false false within in
        let one = less k in
        let same = times_same k in
        let most = small (get_or listed k false) in
        let was = flags k in
        subst (λ i. u i ≡ flag (get_or (set listed k false) i false)) (sym e) (let u1 : u k ≡ 0 = omega arith in u1 ∙ ap (λ b. flag b) (sym now))
    go (inr ne) =
        let zero_ = times_other j k (λ e. ne (sym e)) in
        let one = less j in
        let u1 : u j ≡ t j = omega arith in
        u1 ∙ flags j ∙ ap (λ b. flag b) (sym (get_or-set_other listed k j false false ne))

pub flag_small : (b : Bool) → flag b ≤ 1
flag_small true = omega arith
flag_small false = omega arith

-- what is listed is a bucket of the device
pub listed_below : (r : Reserves) (listed : List Bool) (k : ℕ) → IsFlagged r listed → 0 < times_listed r k → k < length listed
listed_below r listed k h some = go (cases_lt k (length listed))
  where
    go : (k < length listed) ⊎ (length listed ≤ k) → k < length listed
    go (inl lt) = lt
    go (inr le) = absurd (let none = h.each k ∙ ap (λ b. flag b) (get_or_past listed k false le) in omega arith)

pub in_order : (r : Reserves) (listed : List Bool) → length r.lists ≡ 4 → ((i : ℕ) → length (get_or r.lists i no_reserve).buckets ≤ (get_or r.lists i no_reserve).room) → IsFlagged r listed → IsInOrder r
in_order r listed four short h =
    record {
      four = four;
      short = short;
      once = λ k. let e = h.each k in let s = flag_small (get_or listed k false) in omega arith;
      below = λ k le. h.each k ∙ ap (λ b. flag b) (get_or_past listed k false (let a = h.all in omega arith));
    }

-- a bucket came onto a list, or went from it
pub times_put : (r : Reserves) (place : ℕ) (l : Reserve) (k : ℕ) → place < length r.lists → ((j : ℕ) → times j l.buckets ≡ times j (get_or r.lists place no_reserve).buckets + times j (k ∷ [])) → (j : ℕ) → times_listed (record r { lists = set r.lists place l }) j ≡ times_listed r j + times j (k ∷ [])
times_put r place l k within more j = let s = sum_of_lists r.lists place l j within in let m = more j in omega arith

pub times_got : (r : Reserves) (place : ℕ) (l : Reserve) (k : ℕ) → place < length r.lists → ((j : ℕ) → times j l.buckets + times j (k ∷ []) ≡ times j (get_or r.lists place no_reserve).buckets) → (j : ℕ) → times_listed (record r { lists = set r.lists place l }) j + times j (k ∷ []) ≡ times_listed r j
times_got r place l k within less j = let s = sum_of_lists r.lists place l j within in let m = less j in omega arith

abbrev pub AreShort : List Reserve → Type 0
AreShort ls = (i : ℕ) → length (get_or ls i no_reserve).buckets ≤ (get_or ls i no_reserve).room

pub short_set : (ls : List Reserve) (place : ℕ) (l : Reserve) → AreShort ls → place < length ls → length l.buckets ≤ l.room → AreShort (set ls place l)
short_set ls place l short within fits i = go (cases_eq i place)
  where
    go : (i ≡ place) ⊎ (i ≢ place) → length (get_or (set ls place l) i no_reserve).buckets ≤ (get_or (set ls place l) i no_reserve).room
    go (inl e) = subst (λ j. length (get_or (set ls place l) j no_reserve).buckets ≤ (get_or (set ls place l) j no_reserve).room) (sym e)
        (subst (λ (x : Reserve). length x.buckets ≤ x.room) (sym (get_or-set_same ls place l no_reserve within)) fits)
    go (inr ne) = subst (λ (x : Reserve). length x.buckets ≤ x.room) (sym (get_or-set_other ls place i l no_reserve ne)) (short i)

pub flagged_put : (r : Reserves) (listed : List Bool) (place : ℕ) (l : Reserve) (k : ℕ) → IsFlagged r listed → place < length r.lists → k < r.count → times_listed r k ≡ 0 → ((j : ℕ) → times j l.buckets ≡ times j (get_or r.lists place no_reserve).buckets + times j (k ∷ [])) → IsFlagged (record r { lists = set r.lists place l }) (set listed k true)
flagged_put r listed place l k h within there none more =
    record {
      all = length-set listed k true ∙ h.all;
      each = flag_set listed (times_listed r) (times_listed (record r { lists = set r.lists place l })) k h.each (let a = h.all in omega arith) none (times_put r place l k within more);
    }

pub flagged_got : (r : Reserves) (listed : List Bool) (place : ℕ) (l : Reserve) (k : ℕ) → IsFlagged r listed → place < length r.lists → k < length listed → ((j : ℕ) → times j l.buckets + times j (k ∷ []) ≡ times j (get_or r.lists place no_reserve).buckets) → IsFlagged (record r { lists = set r.lists place l }) (set listed k false)
flagged_got r listed place l k h within there less =
    record {
      all = length-set listed k false ∙ h.all;
      each = flag_clear listed (times_listed r) (times_listed (record r { lists = set r.lists place l })) k h.each there (times_got r place l k within less);
    }

-- the first of a list
pub times_first : (l m : List ℕ) (k : ℕ) → m ≡ k ∷ l → (j : ℕ) → times j l + times j (k ∷ []) ≡ times j m
times_first l m k e j = let c = times-cons j k l in let s = ap (λ ks. times j ks) e in omega arith

pub first_is_listed : (r : Reserves) (listed : List Bool) (place : ℕ) (l : Reserve) (k : ℕ) → IsFlagged r listed → place < length r.lists → (get_or r.lists place no_reserve).buckets ≡ k ∷ l.buckets → k < length listed
first_is_listed r listed place l k h within e =
    let got = times_got r place l k within (times_first l.buckets (get_or r.lists place no_reserve).buckets k e) k in
    let one = times_same k in
    listed_below r listed k h (omega arith)

pub empty_short : (g : Geometry) → AreShort (empty g).lists
empty_short g zero = omega arith
empty_short g (suc zero) = omega arith
empty_short g (suc (suc zero)) = omega arith
empty_short g (suc (suc (suc zero))) = omega arith
empty_short g (suc (suc (suc (suc i)))) = omega arith

all_free : (g : Geometry) (listed : List Bool) → listed ≡ replicate g.nbuckets false → IsFlagged (empty g) listed
all_free g listed e =
    record {
      all = ap (λ (bs : List Bool). length bs) e ∙ length-replicate g.nbuckets false;
      each = λ k. subst (λ (bs : List Bool). times_listed (empty g) k ≡ flag (get_or bs k false)) (sym e) (ap (λ b. flag b) (sym (none g.nbuckets k)));
    }
  where
    none : (n k : ℕ) → get_or (replicate n false) k false ≡ false
    none zero k = refl
    none (suc n) zero = refl
    none (suc n) (suc k) = none n k

pub empty_flagged : (g : Geometry) (lists : List Reserve) (raised : List ℕ) (listed : List Bool) → lists ≡ (empty g).lists → raised ≡ [] → listed ≡ replicate g.nbuckets false → IsFlagged (record { count = g.nbuckets; lists = lists; raised = raised }) listed
empty_flagged g lists raised listed same none_raised e =
    subst (λ (ls : List Reserve). IsFlagged (record { count = g.nbuckets; lists = ls; raised = raised }) listed) (sym same)
    (subst (λ (ks : List ℕ). IsFlagged (record { count = g.nbuckets; lists = (empty g).lists; raised = ks }) listed) (sym none_raised) (all_free g listed e))

pub list_there : (ls : List Reserve) (i : ℕ) (l : Reserve) → i < length ls → l ≡ get_or ls i l → get_or ls i no_reserve ≡ l
list_there ls i l within e = get_or_default ls i no_reserve l within ∙ sym e

pub appended_fits : (l m : Reserve) (k : ℕ) → l ≡ appended k m → has_room m ≡ true → length l.buckets ≤ l.room
appended_fits l m k e room = subst (λ (x : Reserve). length x.buckets ≤ x.room) (sym e) (let lt : length m.buckets < m.room = ltb-true (length m.buckets) m.room room in let n = length_push m.buckets k in omega arith)

pub first_fits : (ls : List Reserve) (i : ℕ) (l : Reserve) (k : ℕ) → AreShort ls → (get_or ls i no_reserve).buckets ≡ k ∷ l.buckets → l.room ≡ (get_or ls i no_reserve).room → length l.buckets ≤ l.room
first_fits ls i l k short first room = let s = short i in let n = ap (λ ks. length ks) first in omega arith

without : ℕ → List ℕ → List ℕ
without n [] = []
without n (x ∷ xs) = if x == n then without n xs else x ∷ without n xs

without_length : (n : ℕ) (xs : List ℕ) → length xs ≡ length (without n xs) + times n xs
unfolding without
without_length n [] = refl
without_length n (x ∷ xs) =
    let c = times-cons n x xs in
    let rest = without_length n xs in
    by_test x n (λ b. suc (length xs) ≡ length (if b then without n xs else x ∷ without n xs) + times n (x ∷ xs))
    (λ e. let one = subst (λ (y : ℕ). times n (y ∷ []) ≡ 1) (sym e) (times_same n) in omega arith)
    (λ ne. let none = times_other n x ne in omega arith)

without_times : (n k : ℕ) (xs : List ℕ) → times k (without n xs) ≤ times k xs
unfolding without
without_times n k [] = omega arith
without_times n k (x ∷ xs) =
    let c = times-cons k x xs in
    let rest = without_times n k xs in
    by_test x n (λ b. times k (if b then without n xs else x ∷ without n xs) ≤ times k (x ∷ xs))
    (λ e. omega arith) (λ ne. let d = times-cons k x (without n xs) in omega arith)

without_none : (n : ℕ) (xs : List ℕ) → times n (without n xs) ≡ 0
unfolding without
without_none n [] = refl
without_none n (x ∷ xs) =
    by_test x n (λ b. times n (if b then without n xs else x ∷ without n xs) ≡ 0)
    (λ e. without_none n xs) (λ ne. let d = times-cons n x (without n xs) in let none = times_other n x ne in let rest = without_none n xs in omega arith)

-- different numbers below n are at most n
pub few : (n : ℕ) (xs : List ℕ) → ((k : ℕ) → times k xs ≤ 1) → ((k : ℕ) → n ≤ k → times k xs ≡ 0) → length xs ≤ n
few zero [] once below = omega arith
few zero (x ∷ xs) once below = absurd (let none = below x (omega arith) in let c = times-cons x x xs in let one = times_same x in omega arith)
few (suc n) xs once below =
    let one = once n in
    let split = without_length n xs in
    let rest = few n (without n xs) (λ k. let l = without_times n k xs in let o = once k in omega arith) (λ k le. low k le (cases_eq k n)) in
    omega arith
  where
    low : (k : ℕ) → n ≤ k → (k ≡ n) ⊎ (k ≢ n) → times k (without n xs) ≡ 0
    low k le (inl e) = subst (λ (j : ℕ). times j (without n xs) ≡ 0) (sym e) (without_none n xs)
    low k le (inr ne) = let l = without_times n k xs in let b = below k (omega (arith, ne)) in omega arith

-- there is room among the raised ones for a bucket that isn't listed
pub raised_room : (r : Reserves) (listed : List Bool) (k : ℕ) → IsFlagged r listed → k < r.count → times_listed r k ≡ 0 → length r.raised < r.count
raised_room r listed k h within loose =
    let most = few r.count (k ∷ r.raised)
    (λ j. let c = times-cons j k r.raised in let one = times_one j k in let e = h.each j in let s = flag_small (get_or listed j false) in at j (cases_eq j k))
    (λ j le. let c = times-cons j k r.raised in let none = times_other j k (λ e. omega arith) in let e = h.each j in let past = ap (λ b. flag b) (get_or_past listed j false (let a = h.all in omega arith)) in omega arith) in
    omega arith
  where
    at : (j : ℕ) → (j ≡ k) ⊎ (j ≢ k) → times j (k ∷ r.raised) ≤ 1
    at j (inl e) = let c = times-cons j k r.raised in let one = times_one j k in let l = subst (λ (i : ℕ). times_listed r i ≡ 0) (sym e) loose in omega arith
    at j (inr ne) = let c = times-cons j k r.raised in let none = times_other j k (λ e. ne (sym e)) in let e = h.each j in let s = flag_small (get_or listed j false) in omega arith

pub takes_first : (r : Reserves) (p : Purpose) (l : Reserve) (k : ℕ) → place_of p < length r.lists → (list_of p r).buckets ≡ k ∷ l.buckets → l.room ≡ (list_of p r).room → TakesFirst p k r (record r { lists = set r.lists (place_of p) l })
takes_first r p l k within first room =
    let now = get_or-set_same r.lists (place_of p) l no_reserve within in
    record {
      first = first ∙ ap (λ (x : Reserve). k ∷ x.buckets) (sym now);
      others = ap (λ (x : Reserve). record r { lists = set r.lists (place_of p) x }) (same l (list_of p r) room ∙ ap (λ (x : Reserve). record (list_of p r) { buckets = x.buckets }) (sym now));
    }
  where
    same : (l m : Reserve) → l.room ≡ m.room → l ≡ record m { buckets = l.buckets }
    same l m e = ap (λ n. record l { room = n }) e

pub raised_first : (r : Reserves) (listed : List Bool) (rest : List ℕ) (k : ℕ) → IsFlagged r listed → r.raised ≡ k ∷ rest → k < length listed
raised_first r listed rest k h first =
    let c = times-cons k k rest in
    let one = times_same k in
    let e = ap (λ ks. times k ks) first in
    listed_below r listed k h (omega arith)

-- a bucket that was taken off stands nowhere else
pub got_loose : (r s : Reserves) (listed : List Bool) (k : ℕ) → IsFlagged r listed → times_listed s k + times k (k ∷ []) ≡ times_listed r k → times_listed s k ≡ 0
got_loose r s listed k h less =
    let one = times_same k in
    let e = h.each k in
    let small = flag_small (get_or listed k false) in
    omega arith
