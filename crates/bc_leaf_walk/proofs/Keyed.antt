-- The keys of a leaf are counted: then the walk has what is seen of all its sectors.
use Rattle.std.proofs.Common.{◌≡◌, ℕ, zero, suc, ◌<◌, ◌≤◌, Bool, true, false, List, [], ◌∷◌, length, Option, Some, None, refl, sym, ap, ◌∙◌, subst, arith}
use Rattle.std.specs.Prelude.{◌&&◌, All, AllPairs, if◌then◌else◌, nat_le, nat_lt}
use Rattle.bc_books.specs.Books.{Setup}
use Rattle.bc_books.specs.Index.{Pointer}
use Rattle.bc_bucket.specs.Buckets.{Buckets}
use Rattle.bc_bucket.specs.declared.walk.Found.{Found}
use Rattle.bc_extent.specs.Extents.{IsRange}
use Rattle.bc_key.specs.Key.{pointer_of, start_of}
use Rattle.bc_key.specs.declared.key.Key.{Key}
use Rattle.bc_key.specs.declared.ptr.Ptr.{Ptr}
use Rattle.bc_leaf_walk.proofs.Sights.{Ground, IsSaid, key_stands, up, up_gap}
use Rattle.bc_leaf_walk.specs.Pieces.{AreKeysCounted, IsPointedCounted}
use Rattle.bc_leaves.specs.Keys.{last_said, ref_said}
use Rattle.bc_mark.specs.bc_rounds.Rows.{AreFound, Sight}
use Rattle.bc_meta.proofs.Lists.{by_le}
use Rattle.bc_meta.specs.Keys.{Ref, covers, ref_by}
use Rattle.bc_whole.specs.Together.{ref_of}

-- ---- what keys say

covers_yes : (key : Key) (s : ℕ) → start_of key ≤ s → s < key.end → covers key s ≡ true
covers_yes key s low high = by_le (start_of key) s (λ b. (b && nat_lt s key.end) ≡ true)
    (λ le. by_le (suc s) key.end (λ b. b ≡ true) (λ lt. refl)
    (λ lt. absurd (omega (arith, high, lt)))) (λ lt. absurd (omega (arith, low, lt)))

covers_behind : (key : Key) (s : ℕ) → key.end ≤ s → covers key s ≡ false
covers_behind key s high = by_le (suc s) key.end (λ b. (nat_le (start_of key) s && b) ≡ false)
    (λ lt. absurd (omega (arith, high, lt))) (λ lt. off (nat_le (start_of key) s))
  where
    off : (b : Bool) → (b && false) ≡ false
    off true = refl
    off false = refl

covers_before : (key : Key) (s : ℕ) → s < start_of key → covers key s ≡ false
covers_before key s low = by_le (start_of key) s (λ b. (b && nat_lt s key.end) ≡ false)
    (λ le. absurd (omega (arith, low, le))) (λ lt. refl)

said_here : (key : Key) (keys : List Key) (s : ℕ) → start_of key ≤ s → s < key.end
    → last_said (key ∷ keys) s ≡ Some (ref_by key s (pointer_of key))
said_here key keys s low high =
    ap (λ b. if b then Some (ref_by key s (pointer_of key)) else last_said keys s)
    (covers_yes key s low high)

said_later : (key : Key) (keys : List Key) (s : ℕ) → key.end ≤ s
    → last_said (key ∷ keys) s ≡ last_said keys s
said_later key keys s far =
    ap (λ b. if b then Some (ref_by key s (pointer_of key)) else last_said keys s)
    (covers_behind key s far)

said_none : (keys : List Key) (s : ℕ) → All (λ key. s < start_of key) keys
    → last_said keys s ≡ None
said_none [] s all = refl
said_none (key ∷ keys) s all =
    ap (λ b. if b then Some (ref_by key s (pointer_of key)) else last_said keys s)
    (covers_before key s (all 0 key (omega arith)))
    ∙ said_none keys s (λ k d lt. all (suc k) d (omega (arith, lt)))

all_tail : {A : Type 0} (P : A → Type 0) (x : A) (xs : List A) → All P (x ∷ xs) → All P xs
all_tail P x xs all k d lt = all (suc k) d (omega (arith, lt))

pairs_tail : {A : Type 0} (R : A → A → Type 0) (x : A) (xs : List A) → AllPairs R (x ∷ xs)
    → AllPairs R xs
pairs_tail R x xs all i j d lt high =
    all (suc i) (suc j) d (omega (arith, lt)) (omega (arith, high))

-- ---- what is said, and where a sector points

none_there : (o : Option Pointer) → ref_of o ≡ None → o ≡ None
none_there None is = refl
none_there (Some p) is = absurd (cc)

abbrev place_in : Option Ref → ℕ
place_in None = 0
place_in (Some r) = r.place

abbrev dirty_in : Option Ref → Bool
dirty_in None = false
dirty_in (Some r) = r.dirty

abbrev byte_in : Option Ref → ℕ
byte_in None = 0
byte_in (Some r) = r.generation

said_pointer : (latest : ℕ → Option Pointer) (key : Key) (ptr : Ptr) (s : ℕ) (o : Option Pointer)
    → latest s ≡ o → ref_of o ≡ ref_by key s (Some ptr) → IsSaid latest key ptr s
said_pointer latest key ptr s None at is = absurd (cc)
said_pointer latest key ptr s (Some p) at is = record {
  pointer = p;
  is = at;
  place = ap place_in is;
  dirty = ap dirty_in is;
  version = ap byte_in is;
}

-- ---- all keys

-- a list of keys in order, from a sector up to another, that say where each of these points
pub record IsList (latest : ℕ → Option Pointer) (e end : ℕ) (keys : List Key) : Type 0 where
  pub more : e ≤ end
  pub ranges : All IsRange keys
  pub order : AllPairs (λ a b. a.end ≤ start_of b) keys
  pub from : All (λ key. e ≤ start_of key) keys
  pub to : All (λ key. key.end ≤ end) keys
  pub said : (s : ℕ) → e ≤ s → s < end → ref_of (latest s) ≡ ref_said (last_said keys s)

list_tail : (latest : ℕ → Option Pointer) (e end : ℕ) (key : Key) (keys : List Key)
    → IsList latest e end (key ∷ keys) → IsList latest key.end end keys
list_tail latest e end key keys h = record {
  more = h.to 0 key (omega arith);
  ranges = all_tail IsRange key keys h.ranges;
  order = pairs_tail (λ (a b : Key). a.end ≤ start_of b) key keys h.order;
  from = λ k d lt. h.order 0 (suc k) d (omega arith) (omega (arith, lt));
  to = all_tail (λ (k : Key). k.end ≤ end) key keys h.to;
  said = λ s low high. h.said s (let first = h.from 0 key (omega arith) in
      let range = (h.ranges 0 key (omega arith)).0 in omega (arith, low, first, range)) high
      ∙ ap ref_said (said_later key keys s low);
}

module _ (w : Setup) (before size buckets from : ℕ) (b : Buckets) (latest : ℕ → Option Pointer)
    (version : ℕ → ℕ) (x : Sight) (g : Ground w before size buckets from b latest version x) where
  abbrev Has : ℕ → List Found → Type 0
  Has e walk = AreFound w before (length b.records)
      (up w before size buckets from b latest version x g e) walk

  abbrev gap : (e f : ℕ) (walk : List Found) → from ≤ e → e ≤ f
      → ((s : ℕ) → e ≤ s → s < f → latest s ≡ None) → Has e walk → Has f walk
  gap = up_gap w before size buckets from b latest version x g (length b.records)

  -- one key, with or without a pointer
  one_key : (key : Key) (o : Option Ptr) (e end : ℕ) (keys : List Key) (old new : List Found)
      → pointer_of key ≡ o → IsList latest e end (key ∷ keys) → from ≤ e
      → IsPointedCounted b before key o old new → length old ≡ length b.records
      → Has (start_of key) old → Has key.end new × (length new ≡ length b.records)
  one_key key None e end keys old new at h later is long has =
      let first = h.from 0 key (omega arith) in
      let last = h.to 0 key (omega arith) in (
        subst (Has key.end) (sym is) (gap (start_of key) key.end old (omega (arith, later, first))
            (omega arith) (λ s low high. none_there (latest s)
            (h.said s (omega (arith, first, low)) (omega (arith, last, high))
            ∙ ap ref_said (said_here key keys s low high)
            ∙ ap (λ p. ref_by key s p) at)) has),
        ap (λ (l : List Found). length l) is ∙ long,
      )
  one_key key (Some ptr) e end keys old new at h later is long has =
      let first = h.from 0 key (omega arith) in
      let last = h.to 0 key (omega arith) in
      let stands = key_stands w before size buckets from b latest version x g key ptr (start_of key)
      is.pieces key.end old is.cut (omega (arith, later, first)) (λ s low high. said_pointer latest
      key ptr s (latest s) refl (h.said s (omega (arith, first, low)) (omega (arith, last, high))
      ∙ ap ref_said (said_here key keys s low high) ∙ ap (λ p. ref_by key s p) at)) long has in (
        subst (Has key.end) (sym is.is) stands.0,
        ap (λ (l : List Found). length l) is.is ∙ stands.1,
      )

  pub keys_stand : (keys : List Key) (e end : ℕ) (old new : List Found)
      → IsList latest e end keys → from ≤ e → AreKeysCounted b before keys old new
      → length old ≡ length b.records → Has e old
      → Has end new × (length new ≡ length b.records)
  keys_stand [] e end old new h later is long has = (
    subst (Has end) (sym is) (gap e end old later h.more
        (λ s low high. none_there (latest s) (h.said s low high)) has),
    ap (λ (l : List Found). length l) is ∙ long,
  )
  keys_stand (key ∷ keys) e end old new h later is long has =
      let first = h.from 0 key (omega arith) in
      let begins : start_of key ≤ key.end = omega arith in
      let last = h.to 0 key (omega arith) in
      let start = gap e (start_of key) old later first (λ s low high. none_there (latest s)
      (h.said s low (omega (arith, high, begins, last))
      ∙ ap ref_said (said_none (key ∷ keys) s (each_later s high)))) has in
      let one = one_key key (pointer_of key) e end keys old is.0 refl h later is.1 long start in
      keys_stand keys key.end end is.0 new (list_tail latest e end key keys h)
      (omega (arith, later, first, begins)) is.2 one.1 one.0
    where
      each_later : (s : ℕ) → s < start_of key → All (λ k. s < start_of k) (key ∷ keys)
      each_later s low zero d lt = low
      each_later s low (suc k) d lt =
          let behind = h.order 0 (suc k) d (omega arith) lt in
          omega (arith, low, behind)
