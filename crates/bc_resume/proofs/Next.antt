-- The place behind the newest entry, entry after entry.
use Rattle.std.proofs.Common.{◌≡◌, ◌≢◌, inl, inr, ℕ, zero, suc, ◌+◌, ◌-◌, ◌≤◌, List, [], ◌∷◌, ◌++◌, max, length, take, refl, sym, ap, ◌∙◌, subst, arith}
use Rattle.std.specs.Prelude.{All, Any, Contains, Err, IfOk, Ok, Result, Some, slice_get}
use Rattle.std.proofs.Math.Nat.{le-max_left, le-max_right}
use Rattle.std.proofs.lemmas.Bool.{cases_lt}
use Rattle.std.proofs.lemmas.List.{take_all}
use Rattle.std.proofs.lemmas.List.Elements.{All-nil, All-cons, All-append, All-weaker}
use Rattle.std.proofs.lemmas.Option.{slice_get_within, get_or_from_slice_get}
use Rattle.bc_disk.specs.declared.geometry.Geometry.{Geometry}
use Rattle.bc_record.specs.Places.{end_of}
use Rattle.bc_jset.specs.Entries.{FoundEntry}
use Rattle.bc_jset.specs.Records.{entry_kind}
use Rattle.bc_jset.specs.Ring.{IsNextPlace, bucket_of}

abbrev pub EndsAt : Geometry → FoundEntry → ℕ → FoundEntry → Type 0
EndsAt g newest next e = (bucket_of g e ≡ bucket_of g newest) × (end_of (entry_kind g) e ≡ next)

abbrev pub EndsBefore : Geometry → FoundEntry → ℕ → FoundEntry → Type 0
EndsBefore g newest next e = bucket_of g e ≡ bucket_of g newest → end_of (entry_kind g) e ≤ next

-- of the first i entries none ends behind this place, and one of all ends there
pub record NextSoFar (g : Geometry) (es : List FoundEntry) (newest : FoundEntry) (next i : ℕ) : Type 0 where
  pub last : Any (EndsAt g newest next) es
  pub behind : All (EndsBefore g newest next) (take i es)

some_same : (a b : FoundEntry) → Some a ≡ Some b → a ≡ b
some_same a b e = cc

pub taken_next : (es : List FoundEntry) (i : ℕ) (e : FoundEntry) → slice_get es i ≡ Some e → take (i + 1) es ≡ take i es ++ e ∷ []
taken_next es i e is = ap (λ n. take n es) one ∙ go es i is
  where
    one : i + 1 ≡ suc i
    one = omega arith

    go : (xs : List FoundEntry) (k : ℕ) → slice_get xs k ≡ Some e → take (suc k) xs ≡ take k xs ++ e ∷ []
    go [] k here = absurd (cc)
    go (x ∷ xs) zero here = ap (λ (y : FoundEntry). y ∷ []) (some_same x e here)
    go (x ∷ xs) (suc k) here = ap (λ (ys : List FoundEntry). x ∷ ys) (go xs k here)

pub contained : (es : List FoundEntry) (i : ℕ) (e : FoundEntry) → slice_get es i ≡ Some e → Contains es e
contained es i e is = (i, slice_get_within es i e is, get_or_from_slice_get es i e e is)

pub any_at : (P : FoundEntry → Type 0) (es : List FoundEntry) (e : FoundEntry) → Contains es e → P e → Any P es
any_at P es e has p = (has.0, e, has.1, has.2, p)

pub next_first : (g : Geometry) (es : List FoundEntry) (newest : FoundEntry) (end : ℕ) → Contains es newest → end ≡ end_of (entry_kind g) newest → NextSoFar g es newest end 0
next_first g es newest end has is = record {
  last = any_at (EndsAt g newest end) es newest has (refl, sym is);
  behind = All-nil (EndsBefore g newest end);
}

one_more : (g : Geometry) (es : List FoundEntry) (newest : FoundEntry) (next new i : ℕ) (e : FoundEntry) → slice_get es i ≡ Some e
    → All (EndsBefore g newest next) (take i es) → next ≤ new → EndsBefore g newest new e → All (EndsBefore g newest new) (take (i + 1) es)
one_more g es newest next new i e here so up last =
    let P = EndsBefore g newest new in
    let weaker = All-weaker (EndsBefore g newest next) P (λ (x : FoundEntry) below same. (let le = below same in omega (arith, le, up))) (take i es) so in
    subst (λ (xs : List FoundEntry). All P xs) (sym (taken_next es i e here)) (All-append P (take i es) (e ∷ []) weaker (All-cons P e [] last (All-nil P)))

pub next_higher : (g : Geometry) (es : List FoundEntry) (newest : FoundEntry) (next new end i : ℕ) (e : FoundEntry) → NextSoFar g es newest next i → slice_get es i ≡ Some e
    → bucket_of g e ≡ bucket_of g newest → end ≡ end_of (entry_kind g) e → new ≡ max next end → NextSoFar g es newest new (i + 1)
next_higher g es newest next new end i e so here same far most =
    let low : next ≤ new = subst (λ n. next ≤ n) (sym most) (le-max_left next end) in
    let high : end ≤ new = subst (λ n. end ≤ n) (sym most) (le-max_right next end) in
    elim (cases_lt next end) [
      | inl above ↦
          let what : new ≡ end = most ∙ (omega arith) in
          record {
            last = any_at (EndsAt g newest new) es e (contained es i e here) (same, sym far ∙ sym what);
            behind = one_more g es newest next new i e here so.behind low (λ _. omega (arith, far, high));
          }
      | inr below ↦
          let what : new ≡ next = most ∙ (omega arith) in
          record {
            last = subst (λ n. Any (EndsAt g newest n) es) (sym what) so.last;
            behind = one_more g es newest next new i e here so.behind low (λ _. omega (arith, far, high));
          }
    ]

pub next_kept : (g : Geometry) (es : List FoundEntry) (newest : FoundEntry) (next new i : ℕ) (e : FoundEntry) → NextSoFar g es newest next i → slice_get es i ≡ Some e
    → bucket_of g e ≢ bucket_of g newest → new ≡ next → NextSoFar g es newest new (i + 1)
next_kept g es newest next new i e so here other same =
    subst (λ n. NextSoFar g es newest n (i + 1)) (sym same)
    (record { last = so.last; behind = one_more g es newest next next i e here so.behind (omega arith) (λ equal. absurd (other equal)) })

pub next_is : (g : Geometry) (es : List FoundEntry) (newest : FoundEntry) (next i : ℕ) → length es ≤ i → NextSoFar g es newest next i → IsNextPlace g es newest next
next_is g es newest next i done so = record { last = so.last; behind = subst (λ (xs : List FoundEntry). All (EndsBefore g newest next) xs) (take_all i es done) so.behind }

pub last_is : (es : List FoundEntry) (n : ℕ) (e : FoundEntry) → n ≡ length es → ¬ (n ≡ 0) → slice_get es (n - 1) ≡ Some e → (older : List FoundEntry) × (es ≡ older ++ e ∷ [])
last_is es n e is some at =
    let up : n - 1 + 1 ≡ n = omega (arith, some) in
    (take (n - 1) es, sym (take_all n es (omega (arith, is))) ∙ ap (λ k. take k es) (sym up) ∙ taken_next es (n - 1) e at)

pub if_ok : {A E : Type 0} (P Q : A → Type 0) (r : Result A E) → ((a : A) → P a → Q a) → IfOk r P → IfOk r Q
if_ok P Q (Ok a) f p = f a p
if_ok P Q (Err e) f p = tt
