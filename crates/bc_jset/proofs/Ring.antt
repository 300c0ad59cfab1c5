-- Where the ring goes on.
use Rattle.std.proofs.Common.{◌≡◌, ◌≢◌, ◌⊎◌, ◌==◌, inl, inr, ℕ, suc, ◌+◌, ◌<◌, ◌≤◌, List, [], ◌∷◌, ◌++◌, length, true, false, max, if◌then◌else◌, refl, sym, subst, ap, ◌∙◌, arith}
use Rattle.std.specs.Prelude.{All, Any}
use Rattle.std.proofs.lemmas.Bool.{cases_lt}
use Rattle.std.proofs.lemmas.Bool.Decides.{eqb_tells}
use Rattle.std.proofs.lemmas.List.Elements.{All-head, All-tail, All-nil, All-cons, All-weaker, All-contains, Contains-push}
use Rattle.bc_model.specs.Sector.{Image}
use Rattle.bc_disk.specs.declared.geometry.Geometry.{Geometry}
use Rattle.bc_record.specs.Places.{end_of}
use Rattle.bc_jset.specs.Records.{entry_kind}
use Rattle.bc_jset.specs.Entries.{FoundEntry, AreEntries}
use Rattle.bc_jset.specs.Ring.{bucket_of, IsNextPlace, greatest_in}
use Rattle.bc_jset.proofs.Entries.{count_up, newest_is_last}

any_head : {X : Type 0} → (P : X → Type 0) (x : X) (xs : List X) → P x → Any P (x ∷ xs)
any_head P x xs p = (0, x, omega arith, refl, p)

any_tail : {X : Type 0} → (P : X → Type 0) (x : X) (xs : List X) → Any P xs → Any P (x ∷ xs)
any_tail P x xs a = (suc a.0, a.1, (let inside = a.2 in omega (arith, inside)), a.3, a.4)

any_weaker : {X : Type 0} → (P Q : X → Type 0) → ((x : X) → P x → Q x) → (xs : List X) → Any P xs → Any Q xs
any_weaker P Q f xs a = (a.0, a.1, a.2, a.3, f a.1 a.4)

-- two numbers are the same, and the test says so, or neither
abbrev SameOrNot : ℕ → ℕ → Type 0
SameOrNot a b = ((a ≡ b) × ((a == b) ≡ true)) ⊎ ((a ≢ b) × ((a == b) ≡ false))

same_or_not : (a b : ℕ) → SameOrNot a b
same_or_not a b = elim (eqb_tells a b) [ inl t ↦ inl (t.1, t.0) | inr t ↦ inr (t.1, t.0) ]

-- what holds of all and of one
both : {X A : Type 0} → (P Q : X → Type 0) (xs : List X) → All P xs → Any Q xs → ((x : X) → P x → Q x → A) → A
both P Q xs all any f = f any.1 (subst P any.3 (all any.0 any.1 any.2)) any.4

abbrev IsLast : Geometry → ℕ → ℕ → FoundEntry → Type 0
IsLast g bucket next e = (bucket_of g e ≡ bucket) × (end_of (entry_kind g) e ≡ next)

abbrev IsBefore : Geometry → ℕ → ℕ → FoundEntry → Type 0
IsBefore g bucket next e = bucket_of g e ≡ bucket → end_of (entry_kind g) e ≤ next

abbrev NextOf : Geometry → ℕ → List FoundEntry → Type 0
NextOf g bucket es = (next : ℕ) × Any (IsLast g bucket next) es × All (IsBefore g bucket next) es

next_or_none : (g : Geometry) (bucket : ℕ) (es : List FoundEntry) → NextOf g bucket es ⊎ All (λ e. bucket_of g e ≢ bucket) es
next_or_none g bucket [] = inr (All-nil (λ (e : FoundEntry). bucket_of g e ≢ bucket))
next_or_none g bucket (e ∷ es) = go (same_or_not (bucket_of g e) bucket) (next_or_none g bucket es)
  where
    go : SameOrNot (bucket_of g e) bucket → NextOf g bucket es ⊎ All (λ d. bucket_of g d ≢ bucket) es → NextOf g bucket (e ∷ es) ⊎ All (λ d. bucket_of g d ≢ bucket) (e ∷ es)
    go (inr other) (inr none) = inr (All-cons (λ (d : FoundEntry). bucket_of g d ≢ bucket) e es other.0 none)
    go (inr other) (inl next) = inl (next.0, any_tail (IsLast g bucket next.0) e es next.1, All-cons (IsBefore g bucket next.0) e es (λ same. absurd (other.0 same)) next.2)
    go (inl same) (inr none) =
        inl (
          end_of (entry_kind g) e,
          any_head (IsLast g bucket (end_of (entry_kind g) e)) e es (same.0, refl),
          All-cons (IsBefore g bucket (end_of (entry_kind g) e)) e es (λ _. omega arith) (All-weaker (λ (d : FoundEntry). bucket_of g d ≢ bucket) (IsBefore g bucket (end_of (entry_kind g) e)) (λ d differs is. absurd (differs is)) es none),
        )
    go (inl same) (inl next) = elim (cases_lt (end_of (entry_kind g) e) next.0) [
      | inl less ↦ inl (next.0, any_tail (IsLast g bucket next.0) e es next.1, All-cons (IsBefore g bucket next.0) e es (λ _. omega (arith, less)) next.2)
      | inr more ↦
          inl (
            end_of (entry_kind g) e,
            any_head (IsLast g bucket (end_of (entry_kind g) e)) e es (same.0, refl),
            All-cons (IsBefore g bucket (end_of (entry_kind g) e)) e es (λ _. omega arith) (All-weaker (IsBefore g bucket next.0) (IsBefore g bucket (end_of (entry_kind g) e)) (λ d before is. (let le = before is in omega (arith, le, more))) es next.2),
          )
    ]

pub next_exists : (g : Geometry) (image : Image) (es : List FoundEntry) (a : AreEntries g image es) → (next : ℕ) × IsNextPlace g es a.newest next
next_exists g image es a = go (next_or_none g (bucket_of g a.newest) es)
  where
    go : NextOf g (bucket_of g a.newest) es ⊎ All (λ e. bucket_of g e ≢ bucket_of g a.newest) es → (next : ℕ) × IsNextPlace g es a.newest next
    go (inl next) = (next.0, record { last = next.1; behind = next.2 })
    go (inr none) =
        let last = newest_is_last g image es a in
        absurd (All-contains (λ (e : FoundEntry). bucket_of g e ≢ bucket_of g a.newest) (last.0 ++ a.newest ∷ []) a.newest
        (subst (λ (xs : List FoundEntry). All (λ (e : FoundEntry). bucket_of g e ≢ bucket_of g a.newest) xs) last.1 none) (Contains-push last.0 a.newest) refl)

not_above : (g : Geometry) (es : List FoundEntry) (newest : FoundEntry) (m n : ℕ) → IsNextPlace g es newest m → IsNextPlace g es newest n → m ≤ n
not_above g es newest m n p q =
    both (IsBefore g (bucket_of g newest) n) (IsLast g (bucket_of g newest) m) es q.behind p.last (λ e before last. (let le = before last.0 in let is = last.1 in omega (arith, le, is)))

pub one_next : (g : Geometry) (es : List FoundEntry) (newest : FoundEntry) (m n : ℕ) → IsNextPlace g es newest m → IsNextPlace g es newest n → m ≡ n
one_next g es newest m n p q = let low = not_above g es newest m n p q in let high = not_above g es newest n m q p in omega (arith, low, high)

-- ---- the greatest number of a bucket

abbrev UpTo : Geometry → ℕ → ℕ → FoundEntry → Type 0
UpTo g bucket n e = bucket_of g e ≡ bucket → e.item.seq ≤ n

pub greatest_above : (g : Geometry) (bucket : ℕ) (all : List FoundEntry) → All (UpTo g bucket (greatest_in g bucket all)) all
greatest_above g bucket [] = All-nil (UpTo g bucket 0)
greatest_above g bucket (e ∷ es) =
    All-cons (UpTo g bucket (greatest_in g bucket (e ∷ es))) e es
    (λ same. elim (same_or_not (bucket_of g e) bucket) [
      | inl is ↦ let test = is.1 in let this : (if bucket_of g e == bucket then e.item.seq else 0) ≡ e.item.seq = rw test refl in omega (arith, this)
      | inr differs ↦ absurd (differs.0 same)
    ])
    (All-weaker (UpTo g bucket (greatest_in g bucket es)) (UpTo g bucket (greatest_in g bucket (e ∷ es))) (λ d up same. (let le = up same in omega (arith, le))) es (greatest_above g bucket es))

abbrev IsGreatest : Geometry → ℕ → ℕ → FoundEntry → Type 0
IsGreatest g bucket n e = (bucket_of g e ≡ bucket) × (e.item.seq ≡ n)

pub greatest_found : (g : Geometry) (bucket : ℕ) (all : List FoundEntry) → (greatest_in g bucket all ≡ 0) ⊎ Any (IsGreatest g bucket (greatest_in g bucket all)) all
greatest_found g bucket [] = inl refl
greatest_found g bucket (e ∷ es) = go (same_or_not (bucket_of g e) bucket) (greatest_found g bucket es)
  where
    go : SameOrNot (bucket_of g e) bucket → (greatest_in g bucket es ≡ 0) ⊎ Any (IsGreatest g bucket (greatest_in g bucket es)) es
        → (greatest_in g bucket (e ∷ es) ≡ 0) ⊎ Any (IsGreatest g bucket (greatest_in g bucket (e ∷ es))) (e ∷ es)
    go (inr other) rest =
        let this : (if bucket_of g e == bucket then e.item.seq else 0) ≡ 0 = (let test = other.1 in rw test refl) in
        let same : greatest_in g bucket (e ∷ es) ≡ greatest_in g bucket es = omega (arith, this) in
        elim rest [
          | inl none ↦ inl (same ∙ none)
          | inr some ↦ inr (any_tail (IsGreatest g bucket (greatest_in g bucket (e ∷ es))) e es (any_weaker (IsGreatest g bucket (greatest_in g bucket es)) (IsGreatest g bucket (greatest_in g bucket (e ∷ es))) (λ d is. (is.0, is.1 ∙ sym same)) es some))
        ]
    go (inl here) rest =
        let this : (if bucket_of g e == bucket then e.item.seq else 0) ≡ e.item.seq = (let test = here.1 in rw test refl) in
        elim (cases_lt e.item.seq (greatest_in g bucket es)) [
          | inr most ↦ inr (any_head (IsGreatest g bucket (greatest_in g bucket (e ∷ es))) e es (here.0, omega (arith, this, most)))
          | inl less ↦
              let same : greatest_in g bucket (e ∷ es) ≡ greatest_in g bucket es = omega (arith, this, less) in
              elim rest [
                | inl none ↦ inl (same ∙ none)
                | inr some ↦ inr (any_tail (IsGreatest g bucket (greatest_in g bucket (e ∷ es))) e es (any_weaker (IsGreatest g bucket (greatest_in g bucket es)) (IsGreatest g bucket (greatest_in g bucket (e ∷ es))) (λ d is. (is.0, is.1 ∙ sym same)) es some))
              ]
        ]
