-- Lists of buckets, and of their numbers.
use Rattle.std.proofs.Common.{◌≡◌, ◌≢◌, ◌⊎◌, inl, inr, ℕ, zero, suc, ◌<◌, ◌≤◌, List, [], ◌∷◌, ◌++◌, length, get_or, Some, refl, sym, ap, ◌∙◌, subst, arith}
use Rattle.std.proofs.lemmas.List.Elements.{All-cons, All-head, All-nil, All-tail}
use Rattle.std.specs.Prelude.{All, slice_get}
use Rattle.bc_alloc.proofs.Times.{by_test, times-cons, times_one, times_other, times_same}
use Rattle.bc_alloc.specs.Reserve.{IsDistinct, times}
use Rattle.bc_refill.specs.Taken.{numbers_of}
use Rattle.bc_new_chain.specs.bc_held.declared.held.HeldBucket.{HeldBucket}

-- ---- one more at the end

pub last_or_before : {X : Type 0} (xs : List X) (y b : X) (k : ℕ)
    → slice_get (xs ++ y ∷ []) k ≡ Some b
    → (slice_get xs k ≡ Some b) ⊎ ((k ≡ length xs) × (b ≡ y))
last_or_before [] y b zero is = let e : y ≡ b = cc in inr (refl, sym e)
last_or_before [] y b (suc k) is = absurd (cc)
last_or_before (x ∷ xs) y b zero is = inl is
last_or_before (x ∷ xs) y b (suc k) is = elim (last_or_before xs y b k is) [
  | inl before ↦ inl before
  | inr last ↦ inr (ap suc last.0, last.1)
]

pub still_there : {X : Type 0} (xs ys : List X) (b : X) (k : ℕ) → slice_get xs k ≡ Some b
    → slice_get (xs ++ ys) k ≡ Some b
still_there [] ys b k is = absurd (cc)
still_there (x ∷ xs) ys b zero is = is
still_there (x ∷ xs) ys b (suc k) is = still_there xs ys b k is

pub last_there : {X : Type 0} (xs : List X) (y : X)
    → slice_get (xs ++ y ∷ []) (length xs) ≡ Some y
last_there [] y = refl
last_there (x ∷ xs) y = last_there xs y

pub numbers_more : (bs : List HeldBucket) (b : HeldBucket)
    → numbers_of (bs ++ b ∷ []) ≡ numbers_of bs ++ b.bucket ∷ []
numbers_more [] b = refl
numbers_more (a ∷ bs) b = ap (λ (l : List ℕ). a.bucket ∷ l) (numbers_more bs b)

pub last_of : {X : Type 0} (P : X → Type 0) (xs : List X) (x : X) → All P (xs ++ x ∷ []) → P x
last_of P [] x all = All-head P x [] all
last_of P (y ∷ ys) x all = last_of P ys x (All-tail P y (ys ++ x ∷ []) all)

pub front_of : {X : Type 0} (P : X → Type 0) (xs ys : List X) → All P (xs ++ ys) → All P xs
front_of P [] ys all = All-nil P
front_of P (x ∷ xs) ys all = All-cons P x xs (All-head P x (xs ++ ys) all)
    (front_of P xs ys (All-tail P x (xs ++ ys) all))

-- ---- numbers

-- none of these buckets has it
pub none_in : (n : ℕ) (bs : List HeldBucket)
    → ((k : ℕ) (b : HeldBucket) → slice_get bs k ≡ Some b → b.bucket ≢ n)
    → times n (numbers_of bs) ≡ 0
none_in n [] none = refl
none_in n (b ∷ bs) none = let one = times_other n b.bucket (none 0 b refl) in
    let rest = none_in n bs (λ k a is. none (suc k) a is) in
    omega (arith, times-cons n b.bucket (numbers_of bs), one, rest)

-- one of them has
pub one_in : (bs : List HeldBucket) (k : ℕ) (b : HeldBucket) → slice_get bs k ≡ Some b
    → 0 < times b.bucket (numbers_of bs)
one_in [] k b is = absurd (cc)
one_in (a ∷ bs) zero b is = let e : a ≡ b = cc in
    subst (λ (x : HeldBucket). 0 < times x.bucket (numbers_of (a ∷ bs))) e
    (omega (arith, times-cons a.bucket a.bucket (numbers_of bs), times_same a.bucket))
one_in (a ∷ bs) (suc k) b is =
    omega (arith, times-cons b.bucket a.bucket (numbers_of bs), one_in bs k b is)

pub which_in : (n : ℕ) (bs : List HeldBucket) → 0 < times n (numbers_of bs)
    → (k : ℕ) × (b : HeldBucket) × (slice_get bs k ≡ Some b) × (b.bucket ≡ n)
which_in n [] some = absurd (omega (arith, some))
which_in n (b ∷ bs) some = by_test b.bucket n
    (λ t. (k : ℕ) × (a : HeldBucket) × (slice_get (b ∷ bs) k ≡ Some a) × (a.bucket ≡ n))
    (λ same. (0, b, refl, same))
    (λ no. let rest = which_in n bs
    (omega (arith, times-cons n b.bucket (numbers_of bs), times_other n b.bucket no, some)) in
    (suc rest.0, rest.1, rest.2, rest.3))

-- they are all different
pub distinct : (bs : List HeldBucket)
    → ((j k : ℕ) (a b : HeldBucket) → j < k → slice_get bs j ≡ Some a → slice_get bs k ≡ Some b
    → a.bucket ≢ b.bucket) → IsDistinct (numbers_of bs)
distinct [] apart n = omega arith
distinct (b ∷ bs) apart n = by_test b.bucket n (λ t. times n (b.bucket ∷ numbers_of bs) ≤ 1)
    (λ same. let none = none_in n bs (λ k a is there. apart 0 (suc k) b a (omega arith) refl is
    (same ∙ sym there)) in
    omega (arith, times-cons n b.bucket (numbers_of bs), times_one n b.bucket, none))
    (λ no. let rest = distinct bs (λ j k a c below first second.
    apart (suc j) (suc k) a c (omega (arith, below)) first second) n in
    omega (arith, times-cons n b.bucket (numbers_of bs), times_other n b.bucket no, rest))

pub times_there : (ns : List ℕ) (k : ℕ) → k < length ns → 0 < times (get_or ns k 0) ns
times_there [] k below = absurd (omega (arith, below))
times_there (n ∷ ns) zero below = omega (arith, times-cons n n ns, times_same n)
times_there (n ∷ ns) (suc k) below = let rest = times_there ns k (omega (arith, below)) in
    omega (arith, times-cons (get_or ns k 0) n ns, rest)

pub differ : (ns : List ℕ) (j k : ℕ) → IsDistinct ns → j < k → k < length ns
    → get_or ns j 0 ≢ get_or ns k 0
differ [] j k once below inside same = omega (arith, inside)
differ (n ∷ ns) j zero once below inside same = omega (arith, below)
differ (n ∷ ns) zero (suc k) once below inside same =
    let rest = times_there ns k (omega (arith, inside)) in
    let here = subst (λ m. 0 < times m ns) (sym same) rest in
    let most = once n in
    omega (arith, times-cons n n ns, times_same n, here, most)
differ (n ∷ ns) (suc j) (suc k) once below inside same =
    differ ns j k (λ m. let most = once m in omega (arith, times-cons m n ns, most))
    (omega (arith, below)) (omega (arith, inside)) same
