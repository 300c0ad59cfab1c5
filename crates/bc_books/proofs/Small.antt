-- The small opening is sound, and what its steps ask for.
use Rattle.std.proofs.Common.{◌≡◌, ◌≢◌, ◌⊎◌, inl, inr, ℕ, suc, ◌<◌, ◌≤◌, Bool, true, false, List, [], ◌∷◌, ◌++◌, Option, Some, None, if◌then◌else◌, ◌==◌, ◌||◌, nat_le, refl, sym, ap, ◌∙◌, subst, arith}
use Rattle.bc_books.specs.Index.{Kind, Pointer, Key, Index, latest, within, run_place, pointer_of, first_hit, hit}
use Rattle.bc_books.specs.Shelves.{Priorities, Moving, Tree, Plain, Owner, WasPinned}
use Rattle.bc_books.specs.Marks.{Unmarked, Metadata}
use Rattle.bc_books.specs.Books.{Setup, Books, Step, IsSound}
use Rattle.bc_books.specs.Enabled.{IsLawful, CanPut}
use Rattle.bc_books.specs.After.{IsRun, fold, after}
use Rattle.bc_books.specs.Example.{small, small_list, key, gap}
use Rattle.bc_model.proofs.Cases.{by_test, by_le}
use Rattle.bc_books.proofs.Cases.{by_bool, by_within, some_number}

pub in_one : (a t : ℕ) (P : ℕ → Type 0) → P a → within a 1 t ≡ true → P t
in_one a t P h e = subst P (by_within a 1 t (λ b. b ≡ true → a ≡ t) (λ r _. let r0 = r.0 in let r1 = r.1 in omega arith) (λ out x. absurd (cc)) e) h

pub in_two : (a t : ℕ) (P : ℕ → Type 0) → P a → P (suc a) → within a 2 t ≡ true → P t
in_two a t P h g e = go (by_within a 2 t (λ b. b ≡ true → (a ≡ t) ⊎ (suc a ≡ t)) (λ r _. let r0 = r.0 in let r1 = r.1 in by_test a t (λ _. (a ≡ t) ⊎ (suc a ≡ t)) (λ is. inl is) (λ ne. inr (omega arith))) (λ out x. absurd (cc)) e)
  where
    go : (a ≡ t) ⊎ (suc a ≡ t) → P t
    go (inl is) = subst P is h
    go (inr is) = subst P is g

place_one : (a p s q : ℕ) (P : ℕ → Type 0) → P p → run_place a p 1 s ≡ Some q → P q
place_one a p s q P h e = by_test a s (λ b. (if b then Some p else None) ≡ Some q
    → P q) (λ is z. subst P (some_number _ _ z) h) (λ ne z. absurd (cc)) e

place_two : (a p s q : ℕ) (P : ℕ → Type 0) → P p → P (suc p) → run_place a p 2 s ≡ Some q → P q
place_two a p s q P h g e = by_test a s (λ b. (if b then Some p else run_place (suc a) (suc p) 1 s) ≡ Some q
    → P q) (λ is z. subst P (some_number _ _ z) h) (λ ne z. place_one (suc a) (suc p) s q P g z) e

some_pointer : (a b : Option Pointer) → Some a ≡ Some b → a ≡ b
some_pointer a b e = cc

hit_one : (a : ℕ) (kind : Option Kind) (p v s : ℕ) (o : Option Pointer) (P : ℕ → Option Pointer → Type 0)
    → P a (pointer_of kind p v)
    → hit (record { first = a; count = 1; kind = kind; place = p; version = v } ∷ []) s ≡ Some o → P s o
hit_one a kind p v s o P h e = by_test a s (λ b. first_hit (record { first = a; count = 1; kind = kind; place = p; version = v }) (if b then Some p else None) None ≡ Some o → P s o)
    (λ is z. subst (λ n. P n o) is (subst (λ y. P a y) (some_pointer _ _ z) h)) (λ ne z. absurd (cc)) e

hit_two : (a : ℕ) (kind : Option Kind) (p v s : ℕ) (o : Option Pointer) (P : ℕ → Option Pointer → Type 0)
    → P a (pointer_of kind p v) → P (suc a) (pointer_of kind (suc p) v)
    → hit (record { first = a; count = 2; kind = kind; place = p; version = v } ∷ []) s ≡ Some o → P s o
hit_two a kind p v s o P h g e = by_test a s (λ b. first_hit (record { first = a; count = 2; kind = kind; place = p; version = v }) (if b then Some p else run_place (suc a) (suc p) 1 s) None ≡ Some o → P s o)
    (λ is z. subst (λ n. P n o) is (subst (λ y. P a y) (some_pointer _ _ z) h)) (λ ne z. hit_one (suc a) kind (suc p) v s o P g z) e

named : (p n t : ℕ) (keys : List Key) → (within p n t || false) ≡ true → within p n t ≡ true
named p n t keys e = by_bool (within p n t) (λ b. (b || false) ≡ true → b ≡ true) (λ _ _. refl) (λ _ x. absurd (cc)) e

module _ (w : Setup) (index : Index) (version : ℕ → ℕ) (owner : ℕ → Owner) (leaf : ℕ) where
  abbrev Lawful : ℕ → Kind → ℕ → Type 0
  Lawful s kind place = IsLawful w.bucket version owner (latest index s) (Some (record { kind = kind; place = place; version = 300 }))

  -- a key of one sector, or of two
  pub put_one : (first : ℕ) (kind : Kind) (place : ℕ) → (first < w.size) × (index.leaf first ≡ leaf)
      → Lawful first kind place → WasPinned (owner place)
      → CanPut w index version owner leaf (key first 1 kind place ∷ [])
  put_one first kind place at lawful taken = record {
    whole = (omega arith, (λ s p e. place_one first place s p (λ p. w.bucket p ≡ w.bucket place) refl e), tt);
    inside = λ s o h. hit_one first (Some kind) place 300 s o (λ s o. (s < w.size) × (index.leaf s ≡ leaf)) at h;
    lawful = λ s o h. hit_one first (Some kind) place 300 s o (λ s o. IsLawful w.bucket version owner (latest index s) o) lawful h;
    named = λ t n. in_one place t (λ t. WasPinned (owner t)) taken (named place 1 t [] n);
  }

  pub put_two : (first : ℕ) (kind : Kind) (place : ℕ) → w.bucket (suc place) ≡ w.bucket place → (first < w.size)
      × (index.leaf first ≡ leaf) → (suc first < w.size) × (index.leaf (suc first) ≡ leaf)
      → Lawful first kind place → Lawful (suc first) kind (suc place) → WasPinned (owner place)
      → WasPinned (owner (suc place)) → CanPut w index version owner leaf (key first 2 kind place ∷ [])
  put_two first kind place same at next lawful then_lawful taken then_taken = record {
    whole = (omega arith, (λ s p e. place_two first place s p (λ p. w.bucket p ≡ w.bucket place) refl same e), tt);
    inside = λ s o h. hit_two first (Some kind) place 300 s o (λ s o. (s < w.size) × (index.leaf s ≡ leaf)) at next h;
    lawful = λ s o h. hit_two first (Some kind) place 300 s o (λ s o. IsLawful w.bucket version owner (latest index s) o) lawful then_lawful h;
    named = λ t n. in_two place t (λ t. WasPinned (owner t)) taken then_taken (named place 2 t [] n);
  }

  -- one without a pointer
  pub put_gap : (first : ℕ) → (first < w.size) × (index.leaf first ≡ leaf) → w.bucket 0 ≡ 0
      → CanPut w index version owner leaf (gap first 1 ∷ [])
  put_gap first at zero_bucket = record {
    whole = (omega arith, (λ s p e. place_one first 0 s p (λ p. w.bucket p ≡ w.bucket 0) refl e), tt);
    inside = λ s o h. hit_one first None 0 0 s o (λ s o. (s < w.size) × (index.leaf s ≡ leaf)) at h;
    lawful = λ s o h. hit_one first None 0 0 s o (λ s o. IsLawful w.bucket version owner (latest index s) o) tt h;
    named = λ t n. absurd (cc);
  }

-- the places of bucket 0, and of each from 2 on
pub in_zero : (P : ℕ → Type 0) → P 0 → P 1 → (t : ℕ) → small.bucket t ≡ 0 → P t
in_zero P a b t e = by_le 2 t (λ z. (if z then t else 0) ≡ 0
    → P t) (λ le is. absurd (omega arith)) (λ lt _. by_test 0 t (λ _. P t) (λ is. subst P is a) (λ ne. subst P (omega arith) b)) e

pub in_bucket : (P : ℕ → Type 0) (b t : ℕ) → 2 ≤ b → P b → small.bucket t ≡ b → P t
in_bucket P b t low h e = by_le 2 t (λ z. (if z then t else 0) ≡ b
    → P t) (λ le is. subst P (sym is) h) (λ lt is. absurd (omega arith)) e

pub run_both : (w : Setup) (k : Books) (xs ys : List Step) → IsRun w k xs → IsRun w (fold w k xs) ys
    → IsRun w k (xs ++ ys)
run_both w k [] ys a b = b
run_both w k (x ∷ xs) ys a b = (a.0, run_both w (after w k x) xs ys a.1 b)

-- four sectors
pub in_four : (P : ℕ → Type 0) → P 0 → P 1 → P 2 → P 3 → (s : ℕ) → s < 4 → P s
in_four P a b c d s lt = by_test 0 s (λ _. P s) (λ is. subst P is a) (λ n0. by_test 1 s (λ _. P s) (λ is. subst P is b) (λ n1. by_test 2 s (λ _. P s) (λ is. subst P is c) (λ n2. subst P (omega arith) d)))

list_none : (b : ℕ) → b ≢ 0 → b ≢ 2 → b ≢ 8 → b ≢ 4 → b ≢ 5 → b ≢ 6 → small_list b ≡ None
list_none b n0 n2 n8 n4 n5 n6 = cc_all (b == 0) (b == 2) (b == 8) (b == 4) (b == 5) (b == 6) (miss b 0 n0) (miss b 2 n2) (miss b 8 n8) (miss b 4 n4) (miss b 5 n5) (miss b 6 n6)
  where
    miss : (a c : ℕ) → a ≢ c → (a == c) ≡ false
    miss a c ne = by_test a c (λ z. z ≡ false) (λ is. absurd (ne is)) (λ _. refl)

    cc_all : (x y z u v t : Bool) → x ≡ false → y ≡ false → z ≡ false → u ≡ false → v ≡ false → t ≡ false
        → (if x || (y || z) then Some Plain else (if u then Some Tree else (if v then Some Moving else (if t then Some Priorities else None)))) ≡ None
    cc_all x y z u v t a b c d e f = cc

-- what is from 9 on, or one of two
is_of : (b c : ℕ) (P : ℕ → Type 0) → P c → (b == c) ≡ true → P b
is_of b c P h e = by_test b c (λ z. z ≡ true → P b) (λ is _. subst P (sym is) h) (λ _ x. absurd (cc)) e

from_nine : (b : ℕ) (P : Type 0) → (9 ≤ b → P) → nat_le 9 b ≡ true → P
from_nine b P h e = by_le 9 b (λ z. z ≡ true → P) (λ le _. h le) (λ _ x. absurd (cc)) e

apart : (a c : ℕ) → a ≢ c → (a == c) ≡ false
apart a c ne = by_test a c (λ z. z ≡ false) (λ is. absurd (ne is)) (λ _. refl)

unmarked : (x y z : Bool) → x ≡ false → y ≡ false → z ≡ false
    → (if x || (y || z) then Metadata else Unmarked) ≡ Metadata → ⊥
unmarked x y z a b c e = let h : Unmarked ≡ Metadata = sym (ap (λ (q : Bool). if q || (y || z) then Metadata else Unmarked) a ∙ ap (λ (q : Bool). if q || z then Metadata else Unmarked) b ∙ ap (λ (q : Bool). if q then Metadata else Unmarked) c) ∙ e in cc

pub sound_small : IsSound small
sound_small = record {
  window = λ b. (omega arith, omega arith);
  inside = λ s r e. absurd (cc);
  dirty = λ s r e. absurd (cc);
  spare = λ s r e. absurd (cc);
  fixed = λ b e. from_nine b ((small.listed b ≡ None) × ((b == 7) ≡ false) × ((b == 3) ≡ false)
      × (small.mark b ≡ Metadata))
      (λ le. (list_none b (λ x. omega arith) (λ x. omega arith) (λ x. omega arith) (λ x. omega arith) (λ x. omega arith) (λ x. omega arith), apart b 7 (λ x. omega arith), apart b 3 (λ x. omega arith), ap (λ (z : Bool). if z || ((b == 3) || (b == 7)) then Metadata else Unmarked) e)) e;
  node = λ b. is_of b 3 (λ b. (small.listed b ≡ None) × (small.chain b ≡ false)
      × (small.mark b ≡ Metadata)) (refl, refl, refl);
  chain = λ b. is_of b 7 (λ b. (small.listed b ≡ None) × (small.mark b ≡ Metadata)) (refl, refl);
  plain = λ b x y z. unmarked (nat_le 9 b) (b == 3) (b == 7) x y z;
  sets = ((λ j. 7), (λ i j x y e. omega arith), λ j lt. refl);
  next = ((λ j. 6), (λ i j x y e. omega arith), λ j lt. refl);
}
