-- Cases on tests and look-ups, and what the folds of a walk say.
use Rattle.std.proofs.Common.{◌≡◌, ◌≢◌, ℕ, zero, suc, ◌+◌, ◌<◌, ◌≤◌, Bool, true, false, List, [], ◌∷◌, Option, Some, None, if◌then◌else◌, ◌==◌, ◌||◌, ◌&&◌, nat_le, refl, sym, ap, ◌∙◌, subst, arith}
use Rattle.bc_model.proofs.Cases.{by_test, by_le}
use Rattle.bc_books.specs.Index.{Kind, Clean, Dirty, Key, Pointer, within, put, run_place, pointer_of, first_hit, hit, over, is_dirty, if_points, if_dirty, names, dirties, touches, AreWhole}
use Rattle.bc_books.specs.Shelves.{Owner, put_run}
use Rattle.bc_books.specs.Marks.{dirty_in, any, older, oldest, unless}

pub some_ref : (a b : Pointer) → Some a ≡ Some b → a ≡ b
some_ref a b e = cc

pub put_kept : {A : Type 0} → (f : ℕ → A) (i j : ℕ) (x : A) (P : A → Type 0) → P (f j) → P x → P (put f i x j)
put_kept f i j x P old new = by_test j i (λ b. P (if b then x else f j)) (λ e. new) (λ ne. old)

pub put_cases : {A : Type 0} → (f : ℕ → A) (i j : ℕ) (x : A) (P : A → Type 0) → (j ≢ i → P (f j)) → (j ≡ i → P x)
    → P (put f i x j)
put_cases f i j x P old new = by_test j i (λ b. P (if b then x else f j)) new old

-- a sector that some key covers, or none
pub by_hit : (h : Option (Option Pointer)) (old : Option Pointer) (P : Option Pointer → Type 0)
    → ((o : Option Pointer) → h ≡ Some o → P o) → (h ≡ None → P old) → P (over h old)
by_hit None old P new same = same refl
by_hit (Some o) old P new same = new o refl

pub by_within : (first count s : ℕ) (P : Bool → Type 0) → ((first ≤ s) × (s < first + count) → P true)
    → (((first ≤ s) × (s < first + count) → ⊥) → P false) → P (within first count s)
by_within first count s P yes_ no_ =
    by_le first s (λ b. P (b && nat_le (suc s) (first + count)))
    (λ a. by_le (suc s) (first + count) P (λ b. yes_ (a, omega arith)) (λ b. no_ (λ r. let r1 = r.1 in omega arith)))
    (λ a. no_ (λ r. let r0 = r.0 in omega arith))

pub put_run_cases : (owner : ℕ → Owner) (place count t : ℕ) (x : Owner) (P : Owner → Type 0)
    → (within place count t ≡ false → P (owner t)) → (within place count t ≡ true → P x)
    → P (put_run owner place count x t)
put_run_cases owner place count t x P old new = go (within place count t) old new
  where
    go : (b : Bool) → (b ≡ false → P (owner t)) → (b ≡ true → P x) → P (if b then x else owner t)
    go true old new = new refl
    go false old new = old refl

pub by_bool : (b : Bool) (P : Bool → Type 0) → (b ≡ true → P true) → (b ≡ false → P false) → P b
by_bool true P yes_ no_ = yes_ refl
by_bool false P yes_ no_ = no_ refl

pub or_left : (a b : Bool) → a ≡ true → (a || b) ≡ true
or_left a b e = subst (λ z. (z || b) ≡ true) (sym e) refl

pub or_right : (a b : Bool) → b ≡ true → (a || b) ≡ true
or_right true b e = refl
or_right false b e = e

pub place_range : (first place n s p : ℕ) → run_place first place n s ≡ Some p → (place ≤ p) × (p < place + n)
place_range first place zero s p e = absurd (cc)
place_range first place (suc n) s p e =
    by_test first s (λ b. (if b then Some place else run_place (suc first) (suc place) n s) ≡ Some p → (place ≤ p)
    × (p < place + suc n))
    (λ _ h. let is : place ≡ p = some_number _ _ h in (omega arith, omega arith))
    (λ _ h. let r = place_range (suc first) (suc place) n s p h in let r0 = r.0 in let r1 = r.1 in (omega arith, omega arith)) e
  where
    some_number : (a b : ℕ) → Some a ≡ Some b → a ≡ b
    some_number a b e = cc

pub in_place : (first place n s p : ℕ) → run_place first place n s ≡ Some p → within place n p ≡ true
in_place first place n s p e = let r = place_range first place n s p e in by_within place n p (λ b. b ≡ true) (λ _. refl) (λ no. absurd (no r))

some_some : (a b : Option Pointer) → Some a ≡ Some b → a ≡ b
some_some a b e = cc

-- one key's part of a hit
hit_key : (k : Key) (o : Option ℕ) (later : Option (Option Pointer)) (r : Pointer) (P : Type 0)
    → first_hit k o later ≡ Some (Some r) → ((p : ℕ) → o ≡ Some p → pointer_of k.kind p k.version ≡ Some r → P)
    → (later ≡ Some (Some r) → P) → P
hit_key k None later r P e here there = there e
hit_key k (Some p) later r P e here there = here p refl (some_some _ _ e)

points_at : (k : Option Kind) (p v : ℕ) (r : Pointer) (b : Bool) → pointer_of k p v ≡ Some r → b ≡ true
    → if_points k b ≡ true
points_at None p v r b e h = absurd (cc)
points_at (Some k) p v r b e h = h

points_dirty : (k : Option Kind) (p v : ℕ) (r : Pointer) (b : Bool) → pointer_of k p v ≡ Some r → r.kind ≡ Dirty
    → b ≡ true → if_dirty k b ≡ true
points_dirty None p v r b e d h = absurd (cc)
points_dirty (Some k) p v r b e d h = go k (ap (λ (x : Pointer). x.kind) (some_ref _ r e) ∙ d)
  where
    go : (k : Kind) → k ≡ Dirty → (is_dirty k && b) ≡ true
    go Clean x = absurd (cc)
    go Dirty x = h

points_place : (k : Option Kind) (p v : ℕ) (r : Pointer) → pointer_of k p v ≡ Some r → p ≡ r.place
points_place None p v r e = absurd (cc)
points_place (Some k) p v r e = ap (λ (x : Pointer). x.place) (some_ref _ r e)

test_true : (a b : ℕ) → a ≡ b → (a == b) ≡ true
test_true a b e = by_test a b (λ z. z ≡ true) (λ _. refl) (λ ne. absurd (ne e))

pub names_there : (keys : List Key) (s : ℕ) (r : Pointer) → hit keys s ≡ Some (Some r) → names keys r.place ≡ true
names_there [] s r e = absurd (cc)
names_there (k ∷ ks) s r e =
    hit_key k (run_place k.first k.place k.count s) (hit ks s) r (names (k ∷ ks) r.place ≡ true) e
    (λ p is h. or_left _ _ (points_at k.kind p k.version r _ h (subst (λ x. within k.place k.count x ≡ true) (points_place k.kind p k.version r h) (in_place k.first k.place k.count s p is))))
    (λ h. or_right _ _ (names_there ks s r h))

pub dirties_there : (bucket : ℕ → ℕ) (keys : List Key) (s : ℕ) (r : Pointer) → AreWhole bucket keys
    → hit keys s ≡ Some (Some r) → r.kind ≡ Dirty → dirties bucket keys (bucket r.place) ≡ true
dirties_there bucket [] s r whole e d = absurd (cc)
dirties_there bucket (k ∷ ks) s r whole e d =
    hit_key k (run_place k.first k.place k.count s) (hit ks s) r (dirties bucket (k ∷ ks) (bucket r.place) ≡ true) e
    (λ p is h. or_left _ _ (points_dirty k.kind p k.version r _ h d (test_true _ _ (sym (whole.1 s p is) ∙ ap bucket (points_place k.kind p k.version r h)))))
    (λ h. or_right _ _ (dirties_there bucket ks s r whole.2 h d))

pub touches_there : (bucket : ℕ → ℕ) (keys : List Key) (s : ℕ) (r : Pointer) → AreWhole bucket keys
    → hit keys s ≡ Some (Some r) → touches bucket keys (bucket r.place) ≡ true
touches_there bucket [] s r whole e = absurd (cc)
touches_there bucket (k ∷ ks) s r whole e =
    hit_key k (run_place k.first k.place k.count s) (hit ks s) r (touches bucket (k ∷ ks) (bucket r.place) ≡ true) e
    (λ p is h. or_left _ _ (points_at k.kind p k.version r _ h (test_true _ _ (sym (whole.1 s p is) ∙ ap bucket (points_place k.kind p k.version r h)))))
    (λ h. or_right _ _ (touches_there bucket ks s r whole.2 h))

-- what a walk finds
pub and_left : (a b : Bool) → (a && b) ≡ true → a ≡ true
and_left true b e = refl
and_left false b e = absurd (cc)

pub both_true : (a b : Bool) → a ≡ true → b ≡ true → (a && b) ≡ true
both_true true b e h = h
both_true false b e h = absurd (cc)

pub any_at : (n : ℕ) (f : ℕ → Bool) (s : ℕ) → s < n → f s ≡ true → any n f ≡ true
any_at zero f s lt h = absurd (omega arith)
any_at (suc n) f s lt h = go (f n) (any n f) (λ x. any_at n f s x h) (λ e. sym (ap f e) ∙ h)
  where
    go : (a b : Bool) → (s < n → b ≡ true) → (s ≡ n → a ≡ true) → (a || b) ≡ true
    go true b x y = refl
    go false b x y = x (by_test s n (λ t. s < n) (λ e. let h2 = y e in absurd (cc)) (λ ne. omega arith))

pub any_from : (n : ℕ) (f : ℕ → Bool) (P : Type 0) → ((s : ℕ) → s < n → f s ≡ true → P) → any n f ≡ true → P
any_from zero f P go h = absurd (cc)
any_from (suc n) f P go h = step (f n) (any n f) refl (any_from n f P (λ s lt e. go s (omega arith) e)) h
  where
    step : (a b : Bool) → f n ≡ a → (b ≡ true → P) → (a || b) ≡ true → P
    step true b is ih e = go n (omega arith) is
    step false b is ih e = ih e

pub any_same : (n : ℕ) (f g : ℕ → Bool) → ((s : ℕ) → s < n → f s ≡ g s) → any n f ≡ any n g
any_same zero f g same = refl
any_same (suc n) f g same = let a = same n (omega arith) in let b = any_same n f g (λ s lt. same s (omega arith)) in cc

pub older_low : (bucket : ℕ → ℕ) (b : ℕ) (o : Option Pointer) (x : ℕ) → older bucket b o x ≤ x
older_low bucket b None x = omega arith
older_low bucket b (Some r) x = by_test (bucket r.place) b (λ t. (if t then (if nat_le r.version x then r.version else x) else x) ≤ x) (λ e. by_le r.version x (λ t. (if t then r.version else x) ≤ x) (λ le. le) (λ lt. omega arith)) (λ ne. omega arith)

pub older_key : (bucket : ℕ → ℕ) (b : ℕ) (o : Option Pointer) (x : ℕ) (r : Pointer) → o ≡ Some r → bucket r.place ≡ b
    → older bucket b o x ≤ r.version
older_key bucket b None x r e is = absurd (cc)
older_key bucket b (Some q) x r e is =
    by_test (bucket q.place) b (λ t. (if t then (if nat_le q.version x then q.version else x) else x) ≤ r.version)
    (λ _. by_le q.version x (λ t. (if t then q.version else x) ≤ r.version) (λ le. let h : q.version ≡ r.version = ap (λ (y : Pointer). y.version) (some_ref q r e) in omega arith) (λ lt. let h : q.version ≡ r.version = ap (λ (y : Pointer). y.version) (some_ref q r e) in omega arith))
    (λ ne. absurd (ne (ap (λ (y : Pointer). bucket y.place) (some_ref q r e) ∙ is)))

pub oldest_low : (bucket : ℕ → ℕ) (b own : ℕ) (seen : ℕ → Option Pointer) (n s : ℕ) (r : Pointer) → s < n
    → seen s ≡ Some r → bucket r.place ≡ b → oldest bucket b own seen n ≤ r.version
oldest_low bucket b own seen zero s r lt e is = absurd (omega arith)
oldest_low bucket b own seen (suc n) s r lt e is =
    by_test s n (λ t. oldest bucket b own seen (suc n) ≤ r.version)
    (λ same. older_key bucket b (seen n) (oldest bucket b own seen n) r (sym (ap seen same) ∙ e) is)
    (λ ne. let ih = oldest_low bucket b own seen n s r (omega arith) e is in let l = older_low bucket b (seen n) (oldest bucket b own seen n) in omega arith)

pub oldest_from : (bucket : ℕ → ℕ) (b own : ℕ) (seen : ℕ → Option Pointer) (n : ℕ) (P : ℕ → Type 0) → P own
    → ((s : ℕ) (r : Pointer) → s < n → seen s ≡ Some r → bucket r.place ≡ b → P r.version)
    → P (oldest bucket b own seen n)
oldest_from bucket b own seen zero P base key = base
oldest_from bucket b own seen (suc n) P base key = go (seen n) refl (oldest_from bucket b own seen n P base (λ s r lt. key s r (omega arith)))
  where
    go : (o : Option Pointer) → seen n ≡ o → P (oldest bucket b own seen n)
        → P (older bucket b o (oldest bucket b own seen n))
    go None is h = h
    go (Some r) is h = by_test (bucket r.place) b (λ t. P (if t then (if nat_le r.version (oldest bucket b own seen n) then r.version else (oldest bucket b own seen n)) else (oldest bucket b own seen n)))
        (λ e. by_le r.version (oldest bucket b own seen n) (λ t. P (if t then r.version else (oldest bucket b own seen n))) (λ le. key n r (omega arith) is e) (λ lt. h)) (λ ne. h)

pub oldest_same : (bucket : ℕ → ℕ) (b own : ℕ) (f g : ℕ → Option Pointer) (n : ℕ) → ((s : ℕ) → s < n → f s ≡ g s)
    → oldest bucket b own f n ≡ oldest bucket b own g n
oldest_same bucket b own f g zero same = refl
oldest_same bucket b own f g (suc n) same = let a = same n (omega arith) in let c = oldest_same bucket b own f g n (λ s lt. same s (omega arith)) in ap (λ (o : Option Pointer). older bucket b o (oldest bucket b own f n)) a ∙ ap (λ (x : ℕ). older bucket b (g n) x) c

pub dirty_at : (bucket : ℕ → ℕ) (b : ℕ) (o : Option Pointer) (r : Pointer) → o ≡ Some r → r.kind ≡ Dirty
    → bucket r.place ≡ b → dirty_in bucket b o ≡ true
dirty_at bucket b None r e d is = absurd (cc)
dirty_at bucket b (Some q) r e d is = go q.kind (ap (λ (x : Pointer). x.kind) (some_ref q r e) ∙ d)
  where
    go : (k : Kind) → k ≡ Dirty → (is_dirty k && (bucket q.place == b)) ≡ true
    go Clean x = absurd (cc)
    go Dirty x = by_test (bucket q.place) b (λ t. t ≡ true) (λ _. refl) (λ ne. absurd (ne (ap (λ (y : Pointer). bucket y.place) (some_ref q r e) ∙ is)))

pub dirty_from : (bucket : ℕ → ℕ) (b : ℕ) (o : Option Pointer) → dirty_in bucket b o ≡ true → (r : Pointer)
    × (o ≡ Some r) × (r.kind ≡ Dirty) × (bucket r.place ≡ b)
dirty_from bucket b None h = absurd (cc)
dirty_from bucket b (Some r) h = (r, refl, go r.kind (bucket r.place == b) h, by_test (bucket r.place) b (λ t. (is_dirty r.kind && t) ≡ true → bucket r.place ≡ b) (λ e _. e) (λ ne x. absurd (no r.kind x)) h)
  where
    go : (k : Kind) (t : Bool) → (is_dirty k && t) ≡ true → k ≡ Dirty
    go Clean t e = absurd (cc)
    go Dirty t e = refl

    no : (k : Kind) → (is_dirty k && false) ≡ true → ⊥
    no Clean e = cc
    no Dirty e = cc

pub by_unless : {A : Type 0} → (t : Bool) (old new : A) (P : A → Type 0) → (t ≡ true → P old) → (t ≡ false → P new)
    → P (unless t old new)
by_unless true old new P a b = a refl
by_unless false old new P a b = b refl

-- a dirty key's bucket has a place that the keys name
pub dirties_named : (bucket : ℕ → ℕ) (keys : List Key) (b : ℕ) (P : Type 0) → AreWhole bucket keys
    → dirties bucket keys b ≡ true → ((t : ℕ) → names keys t ≡ true → bucket t ≡ b → P) → P
dirties_named bucket [] b P whole e go = absurd (cc)
dirties_named bucket (k ∷ ks) b P whole e go =
    by_bool (if_dirty k.kind (bucket k.place == b)) (λ z. (z || dirties bucket ks b) ≡ true → P)
    (λ is _. let h = dirty_here k.kind is in go k.place (or_left _ _ (by_within k.place k.count k.place (λ z. if_points k.kind z ≡ true) (λ _. h.0) (λ no. absurd (no (let n = whole.0 in (omega arith, omega arith)))))) h.1)
    (λ _ h. dirties_named bucket ks b P whole.2 h (λ t n is. go t (or_right (if_points k.kind (within k.place k.count t)) _ n) is)) e
  where
    dirty_here : (o : Option Kind) → if_dirty o (bucket k.place == b) ≡ true → (if_points o true ≡ true)
        × (bucket k.place ≡ b)
    dirty_here None h = absurd (cc)
    dirty_here (Some Clean) h = absurd (cc)
    dirty_here (Some Dirty) h = (refl, by_test (bucket k.place) b (λ z. z ≡ true → bucket k.place ≡ b) (λ is _. is) (λ _ x. absurd (cc)) h)

pub not_both : (a : Bool) → a ≡ true → a ≡ false → ⊥
not_both a x y = absurd (cc)

pub some_number : (a b : ℕ) → Some a ≡ Some b → a ≡ b
some_number a b e = cc

pub off : (a : Bool) → (a ≡ true → ⊥) → a ≡ false
off true h = absurd (h refl)
off false h = refl

pub none : {A : Type 0} → (o : Option A) → ((a : A) → o ≡ Some a → ⊥) → o ≡ None
none None h = refl
none (Some a) h = absurd (h a refl)
