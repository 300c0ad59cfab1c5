-- Pieces of a key, one behind the other.
use Rattle.std.proofs.Common.{◌≡◌, ℕ, zero, suc, ◌+◌, ◌-◌, ◌*◌, ◌/◌, ◌%◌, ◌^◌, ◌<◌, ◌≤◌, List, [], ◌∷◌, ◌++◌, length, max, Option, Some, None, refl, sym, ap, ◌∙◌, subst, arith, take}
use Rattle.std.specs.Prelude.{if◌then◌else◌, slice_get}
use Rattle.std.proofs.Math.Nat.{mod-eq_of_lt, mul-add-mod_self_left, div-add-mod}
use Rattle.std.proofs.lemmas.Nat.{div-add-mod'}
use Rattle.bc_bucket.specs.Buckets.{Buckets}
use Rattle.bc_bucket.specs.declared.walk.Found.{Found}
use Rattle.bc_key.specs.Key.{Covers, place_at, place_by, pointer_of, ptr_at, start_of}
use Rattle.bc_key.specs.declared.key.Key.{Key}
use Rattle.bc_key.specs.declared.ptr.Ptr.{Ptr}
use Rattle.bc_meta.proofs.Lists.{by_le}
use Rattle.bc_leaf_walk.specs.Pieces.{AreCut, AreKeysCounted, IsCountedTo, IsKeyCounted, IsPointedCounted, LiesInOne, Piece, all_counted, counted_at, reference_of}

-- ---- a piece

-- further places, as far as they don't go round
further : (n d m : ℕ) → n % m + d < m → (n + d) % m ≡ n % m + d
further n d m low =
    let parts = div-add-mod n m in
    ap (λ k. k % m) (let is : n + d ≡ m * (n / m) + (n % m + d) = omega (arith, parts) in is)
    ∙ mul-add-mod_self_left m (n / m) (n % m + d) ∙ mod-eq_of_lt low

-- a sector of a key lies as far behind another one as their places do
place_further : (ptr : Ptr) (start a s : ℕ) → start ≤ a → a ≤ s
    → place_by ptr start a + (s - a) < 2 ^ 43
    → place_by ptr start s ≡ place_by ptr start a + (s - a)
place_further ptr start a s from later low =
    ap (λ k. k % 2 ^ 43) (let is : ptr.offset + (s - start) ≡ ptr.offset + (a - start) + (s - a)
    = omega (arith, from, later) in is)
    ∙ further (ptr.offset + (a - start)) (s - a) (2 ^ 43) low

module _ (size before : ℕ) (key : Key) (ptr : Ptr) (a place count : ℕ)
    (place_is : place ≡ place_by ptr (start_of key) a) (from : start_of key ≤ a) (some : 0 < count)
    (fits : place % size + count ≤ size) (around : place + count ≤ 2 ^ 43) where
  lies_at : (s : ℕ) → a ≤ s → s < a + count
      → (place / size * size ≤ place_by ptr (start_of key) s)
      × (place_by ptr (start_of key) s < place / size * size + size)
  lies_at s low high =
      let is = place_further ptr (start_of key) a s from low (omega (arith, place_is, around, low, high))
      in
      let parts = div-add-mod' place size in (
        omega (arith, is, place_is, parts),
        omega (arith, is, place_is, parts, fits, low, high),
      )

  pub one_piece : (bucket : ℕ) → bucket ≡ max (place / size) before
      → LiesInOne size before key ptr (record { first = a; count = count; bucket = bucket })
  one_piece bucket is =
      record { some = some; own = place / size; bucket = is; each = lies_at }

first_ptr : (key : Key) (ptr : Ptr) → pointer_of key ≡ Some ptr → ptr_at key 0 ≡ ptr
first_ptr key ptr = by_le 1 key.count (λ b. (if b then Some (ptr_at key 0) else None) ≡ Some ptr
    → ptr_at key 0 ≡ ptr) (λ le is. cc) (λ lt is. absurd (cc))

pub piece_is : (mine size before : ℕ) (key : Key) (ptr : Ptr) (a place count bucket : ℕ)
    → mine ≡ size → pointer_of key ≡ Some ptr → place ≡ place_at key 0 a → Covers key a
    → 0 < count → place % mine + count ≤ mine → place + count ≤ 2 ^ 43
    → bucket ≡ max (place / mine) before
    → LiesInOne size before key ptr (record { first = a; count = count; bucket = bucket })
piece_is mine size before key ptr a place count bucket same at is covers some fits around in_bucket =
    subst (λ n. LiesInOne n before key ptr (record { first = a; count = count; bucket = bucket })) same
    (one_piece mine before key ptr a place count
    (is ∙ ap (λ p. place_by p (start_of key) a) (first_ptr key ptr at)) covers.0 some fits around bucket
    in_bucket)

-- ---- one more piece

cut_more : (size before : ℕ) (key : Key) (ptr : Ptr) (from : ℕ) (ps : List Piece) (to : ℕ) (p : Piece)
    → AreCut size before key ptr from ps to → p.first ≡ to → LiesInOne size before key ptr p
    → AreCut size before key ptr from (ps ++ p ∷ []) (to + p.count)
cut_more size before key ptr from [] to p cut first lies =
    (first ∙ sym cut, lies, ap (λ n. n + p.count) cut)
cut_more size before key ptr from (q ∷ ps) to p cut first lies =
    (cut.0, cut.1, cut_more size before key ptr (from + q.count) ps to p cut.2 first lies)

counted_more : (b : Buckets) (key : Key) (ptr : Ptr) (ps : List Piece) (p : Piece)
    (walk : List Found) → all_counted b key ptr (ps ++ p ∷ []) walk
    ≡ counted_at b p.bucket (reference_of key ptr p.count) (all_counted b key ptr ps walk)
counted_more b key ptr [] p walk = refl
counted_more b key ptr (q ∷ ps) p walk =
    counted_more b key ptr ps p (counted_at b q.bucket (reference_of key ptr q.count) walk)

pub counted_first : (b : Buckets) (before : ℕ) (key : Key) (ptr : Ptr) (from : ℕ)
    (walk : List Found) → IsCountedTo b before key ptr from from walk walk
counted_first b before key ptr from walk = record { pieces = []; cut = refl; is = refl }

pub counted_next : (b : Buckets) (before : ℕ) (key : Key) (ptr : Ptr) (from to next : ℕ)
    (old mid new : List Found) → IsCountedTo b before key ptr from to old mid
    → (p : Piece) → p.first ≡ to → next ≡ to + p.count → LiesInOne b.size before key ptr p
    → new ≡ counted_at b p.bucket (reference_of key ptr p.count) mid
    → IsCountedTo b before key ptr from next old new
counted_next b before key ptr from to next old mid new h p first next_is lies is = record {
  pieces = h.pieces ++ p ∷ [];
  cut = subst (AreCut b.size before key ptr from (h.pieces ++ p ∷ [])) (sym next_is)
      (cut_more b.size before key ptr from h.pieces to p h.cut first lies);
  is = is ∙ ap (counted_at b p.bucket (reference_of key ptr p.count)) h.is
      ∙ sym (counted_more b key ptr h.pieces p old);
}

pub counted_to_end : (b : Buckets) (before : ℕ) (key : Key) (ptr : Ptr) (from to end : ℕ)
    (old new : List Found) → to ≡ end → IsCountedTo b before key ptr from to old new
    → IsCountedTo b before key ptr from end old new
counted_to_end b before key ptr from to end old new same h =
    subst (λ n. IsCountedTo b before key ptr from n old new) same h

-- ---- one more key

next_key : (b : Buckets) (before : ℕ) (keys : List Key) (i : ℕ) (key : Key)
    (old mid new : List Found) → slice_get keys i ≡ Some key
    → AreKeysCounted b before (take i keys) old mid → IsKeyCounted b before key mid new
    → AreKeysCounted b before (take (suc i) keys) old new
next_key b before [] i key old mid new at h one = absurd (cc)
next_key b before (k ∷ ks) zero key old mid new at h one =
    let same : k ≡ key = cc in (
      new,
      subst (λ (x : Key). IsKeyCounted b before x old new) (sym same)
          (subst (λ w. IsKeyCounted b before key w new) h one),
      refl,
    )
next_key b before (k ∷ ks) (suc i) key old mid new at h one =
    (h.0, h.1, next_key b before ks i key h.0 mid new at h.2 one)

pub keys_next : (b : Buckets) (before : ℕ) (keys all : List Key) (i : ℕ) (key : Key)
    (old mid new : List Found) → all ≡ keys → slice_get all i ≡ Some key
    → AreKeysCounted b before (take i keys) old mid → IsKeyCounted b before key mid new
    → AreKeysCounted b before (take (i + 1) keys) old new
keys_next b before keys all i key old mid new same at h one =
    subst (λ n. AreKeysCounted b before (take n keys) old new)
    (let is : suc i ≡ i + 1 = omega arith in is)
    (next_key b before keys i key old mid new
    (subst (λ (ks : List Key). slice_get ks i ≡ Some key) same at) h one)

pub keys_all : (b : Buckets) (before : ℕ) (keys : List Key) (i : ℕ) (old new : List Found)
    → length keys ≤ i → AreKeysCounted b before (take i keys) old new
    → AreKeysCounted b before keys old new
keys_all b before keys i old new out h =
    subst (λ (ks : List Key). AreKeysCounted b before ks old new) (take_all keys i out) h
  where
    take_all : (keys : List Key) (i : ℕ) → length keys ≤ i → take i keys ≡ keys
    take_all [] zero out = refl
    take_all [] (suc i) out = refl
    take_all (k ∷ ks) zero out = absurd (omega (arith, out))
    take_all (k ∷ ks) (suc i) out =
        ap (λ (l : List Key). k ∷ l) (take_all ks i (omega (arith, out)))

-- a key without a pointer
pub counted_none : (b : Buckets) (before : ℕ) (key : Key) (o : Option Ptr) (walk : List Found)
    → o ≡ pointer_of key → o ≡ None → IsKeyCounted b before key walk walk
counted_none b before key o walk is none =
    subst (λ p. IsPointedCounted b before key p walk walk) (sym none ∙ is) refl

pub counted_some : (b : Buckets) (before : ℕ) (key : Key) (o : Option Ptr) (ptr : Ptr)
    (old new : List Found) → o ≡ pointer_of key → o ≡ Some ptr
    → IsCountedTo b before key ptr (start_of key) key.end old new → IsKeyCounted b before key old new
counted_some b before key o ptr old new is some h =
    subst (λ p. IsPointedCounted b before key p old new) (sym some ∙ is) h
