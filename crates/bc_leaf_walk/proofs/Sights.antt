-- What a round sees of the sectors of a leaf that are walked up to one, and what the walk has then.
use Rattle.std.proofs.Common.{◌≡◌, ◌≢◌, ◌⊎◌, inl, inr, ℕ, suc, ◌+◌, ◌-◌, ◌*◌, ◌%◌, ◌<◌, ◌≤◌, Bool, true, false, List, [], ◌∷◌, length, max, Option, Some, None, refl, sym, ap, ◌∙◌, subst, arith, length-set}
use Rattle.std.specs.Prelude.{◌==◌, ◌&&◌, MatchOption, if◌then◌else◌, nat_le, nat_lt}
use Rattle.std.proofs.lemmas.Bool.{cases_lt}
use Rattle.std.proofs.Math.Nat.{max-eq_left, max-eq_right, mul-le-mul_right}
use Rattle.bc_books.proofs.Cases.{any_same}
use Rattle.bc_books.specs.Books.{Setup}
use Rattle.bc_books.specs.Index.{Pointer, is_dirty}
use Rattle.bc_books.specs.Marks.{any, dirty_in, is_live, mark_by, points_into}
use Rattle.bc_bucket.specs.Buckets.{Buckets, bucket_of}
use Rattle.bc_bucket.specs.Walk.{found_at, walked}
use Rattle.bc_bucket.specs.declared.walk.Found.{Found}
use Rattle.bc_key.specs.Key.{place_by, start_of}
use Rattle.bc_key.specs.declared.key.Key.{Key}
use Rattle.bc_key.specs.declared.ptr.Ptr.{Ptr}
use Rattle.bc_leaf_walk.specs.Pieces.{AreCut, LiesInOne, Piece, all_counted, counted_at, reference_of}
use Rattle.bc_mark.proofs.of_bc_rounds.Rows.{law_alike, law_row}
use Rattle.bc_mark.specs.bc_machine.Containers.{IsFoundFor, IsOldestSeen, IsSeenIn}
use Rattle.bc_mark.specs.bc_rounds.Rows.{AreFound, IsNear, IsRowIn, Sight}
use Rattle.bc_meta.proofs.Lists.{by_le, by_test}

-- ---- a sector between two

abbrev pub between : (from e s : ℕ) → Bool
between from e s = nat_le from s && nat_lt s e

pub by_between : (from e s : ℕ) (P : Bool → Type 0) → (from ≤ s → s < e → P true)
    → ((s < from) ⊎ (e ≤ s) → P false) → P (between from e s)
by_between from e s P yes_ no_ = by_le from s (λ t. P (t && nat_lt s e))
    (λ low. by_le (suc s) e P (λ high. yes_ low high) (λ far. no_ (inr (omega (arith, far)))))
    (λ less. no_ (inl less))

in_between : (from e s : ℕ) → between from e s ≡ true → (from ≤ s) × (s < e)
in_between from e s = by_between from e s (λ b. b ≡ true → (from ≤ s) × (s < e))
    (λ low high is. (low, high)) (λ out is. absurd (cc))

is_between : (from e s : ℕ) → from ≤ s → s < e → between from e s ≡ true
is_between from e s low high = by_between from e s (λ b. b ≡ true) (λ _ _. refl)
    (λ out. absurd (elim out [
      | inl less ↦ omega (arith, less, low)
      | inr far ↦ omega (arith, far, high)
    ]))

not_between : (from e s : ℕ) → (s < from) ⊎ (e ≤ s) → between from e s ≡ false
not_between from e s out = by_between from e s (λ b. b ≡ false)
    (λ low high. absurd (elim out [
      | inl less ↦ omega (arith, less, low)
      | inr far ↦ omega (arith, far, high)
    ])) (λ _. refl)

-- ---- what a bucket has that no sector points into which is new

some_same : (r t : Pointer) → Some r ≡ Some t → r ≡ t
some_same r t e = cc

none_some : (r : Pointer) → None ≡ Some r → ⊥
none_some r e = cc

module _ (w : Setup) (x y : Sight) (on : ℕ → Bool) (j : ℕ)
    (new : (s : ℕ) → on s ≡ true → (r : Pointer) × (y.seen s ≡ Some r) × (w.bucket r.place ≢ j))
    (unseen : (s : ℕ) → on s ≡ true → x.seen s ≡ None)
    (others : (s : ℕ) → on s ≡ false → (y.seen s ≡ x.seen s) × (y.live s ≡ x.live s)) where
  by_on : (s : ℕ) {A : Type 0} → (on s ≡ true → A) → (on s ≡ false → A) → A
  by_on s if_on if_off = go (on s) if_on if_off
    where
      go : (b : Bool) {A : Type 0} → (b ≡ true → A) → (b ≡ false → A) → A
      go true if_on if_off = if_on refl
      go false if_on if_off = if_off refl

  and_false : (b : Bool) → (b && false) ≡ false
  and_false true = refl
  and_false false = refl

  off_points : (s : ℕ) → on s ≡ true → points_into w.bucket j (y.seen s) ≡ false
  off_points s is = let one = new s is in ap (λ o. points_into w.bucket j o) one.1
      ∙ by_test (w.bucket one.0.place) j (λ b. b ≡ false) (λ e. absurd (one.2 e)) (λ _. refl)

  off_dirty : (s : ℕ) → on s ≡ true → dirty_in w.bucket j (y.seen s) ≡ false
  off_dirty s is = let one = new s is in ap (λ o. dirty_in w.bucket j o) one.1
      ∙ ap (λ b. is_dirty one.0.kind && b) (by_test (w.bucket one.0.place) j (λ b. b ≡ false)
      (λ e. absurd (one.2 e)) (λ _. refl)) ∙ and_false (is_dirty one.0.kind)

  same_dirty : (s : ℕ) → dirty_in w.bucket j (x.seen s) ≡ dirty_in w.bucket j (y.seen s)
  same_dirty s = by_on s
      (λ is. ap (λ o. dirty_in w.bucket j o) (unseen s is) ∙ sym (off_dirty s is))
      (λ off. ap (λ o. dirty_in w.bucket j o) (sym (others s off).0))

  same_live : (s : ℕ) → (x.live s && points_into w.bucket j (x.seen s))
      ≡ (y.live s && points_into w.bucket j (y.seen s))
  same_live s = by_on s
      (λ is. ap (λ o. x.live s && points_into w.bucket j o) (unseen s is) ∙ and_false (x.live s)
      ∙ sym (ap (λ b. y.live s && b) (off_points s is) ∙ and_false (y.live s)))
      (λ off. ap (λ b. b && points_into w.bucket j (x.seen s)) (sym (others s off).1)
      ∙ ap (λ o. y.live s && points_into w.bucket j o) (sym (others s off).0))

  to_y : (s : ℕ) (r : Pointer) → IsSeenIn w x.seen j s r → IsSeenIn w y.seen j s r
  to_y s r seen = by_on s (λ is. absurd (none_some r (sym (unseen s is) ∙ seen.saw)))
      (λ off. record {
        within = seen.within;
        saw = (others s off).0 ∙ seen.saw;
        bucket = seen.bucket;
      })

  to_x : (s : ℕ) (r : Pointer) → IsSeenIn w y.seen j s r → IsSeenIn w x.seen j s r
  to_x s r seen = by_on s
      (λ is. absurd (let one = new s is in one.2 (ap (λ (t : Pointer). w.bucket t.place)
      (some_same one.0 r (sym one.1 ∙ seen.saw)) ∙ seen.bucket)))
      (λ off. record {
        within = seen.within;
        saw = sym (others s off).0 ∙ seen.saw;
        bucket = seen.bucket;
      })

  oldest_same : (o : Option ℕ)
      → MatchOption o ((s : ℕ) (r : Pointer) → IsSeenIn w x.seen j s r → ⊥)
      (λ g. IsOldestSeen w x.seen j g)
      → MatchOption o ((s : ℕ) (r : Pointer) → IsSeenIn w y.seen j s r → ⊥)
      (λ g. IsOldestSeen w y.seen j g)
  oldest_same None none = λ s r seen. none s r (to_x s r seen)
  oldest_same (Some g) one = record {
    sector = one.sector;
    pointer = one.pointer;
    one = to_y one.sector one.pointer one.one;
    byte = one.byte;
    none_older = λ s r seen. one.none_older s r (to_x s r seen);
  }

  pub elsewhere : (f : Found) → IsFoundFor w x.seen x.live j f → IsFoundFor w y.seen y.live j f
  elsewhere f was = record {
    mark = was.mark
        ∙ ap (λ a. mark_by a (any w.size (λ s. x.live s && points_into w.bucket j (x.seen s))))
        (any_same w.size (λ s. dirty_in w.bucket j (x.seen s))
        (λ s. dirty_in w.bucket j (y.seen s)) (λ s less. same_dirty s))
        ∙ ap (mark_by (any w.size (λ s. dirty_in w.bucket j (y.seen s))))
        (any_same w.size (λ s. x.live s && points_into w.bucket j (x.seen s))
        (λ s. y.live s && points_into w.bucket j (y.seen s)) (λ s less. same_live s));
    oldest = oldest_same f.last_gc was.oldest;
  }

-- ---- where a leaf is walked

-- What is known of the device, of the index and of a round that has come to a sector.
pub record Ground (w : Setup) (before size buckets from : ℕ) (b : Buckets)
    (latest : ℕ → Option Pointer) (version : ℕ → ℕ) (x : Sight) : Type 0 where
  pub size_is : b.size ≡ size
  pub count : length b.records ≡ before + buckets
  pub sector : (q t : ℕ) → q < buckets → (before + q) * size ≤ t → t < (before + q) * size + size
      → w.bucket t ≡ q
  pub ahead : (t : ℕ) → 0 < buckets → t < before * size → w.bucket t ≡ 0
  pub behind : (q t : ℕ) → q < buckets → (before + q) * size + size ≤ t → q < w.bucket t
  pub near : (s : ℕ) (r : Pointer) → latest s ≡ Some r → IsNear (version (w.bucket r.place)) r.version
  pub dirty : (s : ℕ) (r : Pointer) → latest s ≡ Some r → is_dirty r.kind ≡ true
      → version (w.bucket r.place) ≡ r.version
  pub inside : (s : ℕ) (r : Pointer) → latest s ≡ Some r → s < w.size
  pub own : (q : ℕ) → before + q < length b.records
      → (bucket_of b (before + q)).generation ≡ version q % 256
  pub seen_near : (s : ℕ) (r : Pointer) → x.seen s ≡ Some r
      → IsNear (version (w.bucket r.place)) r.version
  pub unseen : (s : ℕ) → from ≤ s → x.seen s ≡ None

-- this is said of a sector of a key, which has a pointer
pub record IsSaid (latest : ℕ → Option Pointer) (key : Key) (ptr : Ptr) (s : ℕ) : Type 0 where
  pub pointer : Pointer
  pub is : latest s ≡ Some pointer
  pub place : pointer.place ≡ place_by ptr (start_of key) s
  pub dirty : is_dirty pointer.kind ≡ key.dirty
  pub version : pointer.version % 256 ≡ ptr.generation

same_version : (now a b : ℕ) → IsNear now a → IsNear now b → a % 256 ≡ b % 256 → a ≡ b
same_version now a b x y same =
    let p = x.past in
    let q = x.near in
    let r = y.past in
    let t = y.near in
    omega (arith, p, q, r, t, same)

dirty_test : (b c : Bool) → b ≡ c → c ≡ true → b ≡ true
dirty_test b c is on = is ∙ on

module _ (w : Setup) (before size buckets from : ℕ) (b : Buckets) (latest : ℕ → Option Pointer)
    (version : ℕ → ℕ) (x : Sight) (g : Ground w before size buckets from b latest version x) where
  -- the sectors from the leaf's first one up to this one are seen as they are now
  abbrev pub up : ℕ → Sight
  up e = record {
    seen = λ s. if between from e s then latest s else x.seen s;
    live = λ s. if between from e s then is_live w.bucket version (latest s) else x.live s;
  }

  up_in : (e s : ℕ) → from ≤ s → s < e → (up e).seen s ≡ latest s
  up_in e s low high = ap (λ t. if t then latest s else x.seen s) (is_between from e s low high)

  up_live : (e s : ℕ) → from ≤ s → s < e
      → (up e).live s ≡ is_live w.bucket version (latest s)
  up_live e s low high = ap (λ t. if t then is_live w.bucket version (latest s) else x.live s)
      (is_between from e s low high)

  up_out : (e s : ℕ) → (s < from) ⊎ (e ≤ s) → (up e).seen s ≡ x.seen s
  up_out e s out = ap (λ t. if t then latest s else x.seen s) (not_between from e s out)

  up_behind : (e s : ℕ) → from ≤ s → e ≤ s → (up e).seen s ≡ None
  up_behind e s low far = up_out e s (inr far) ∙ g.unseen s low

  up_near : (e s : ℕ) (r : Pointer) → (up e).seen s ≡ Some r
      → IsNear (version (w.bucket r.place)) r.version
  up_near e s r = by_between from e s (λ t. (if t then latest s else x.seen s) ≡ Some r
      → IsNear (version (w.bucket r.place)) r.version) (λ _ _ is. g.near s r is)
      (λ _ is. g.seen_near s r is)

  -- at the leaf's first sector nothing is seen of it yet
  pub up_first : (count : ℕ) (walk : List Found) → AreFound w before count x walk
      → AreFound w before count (up from) walk
  up_first count walk h = law_alike w before count x (up from) walk
      (λ s. ap (λ t. if t then latest s else x.seen s) (none s))
      (λ s. inl (ap (λ t. if t then is_live w.bucket version (latest s) else x.live s) (none s))) h
    where
      none : (s : ℕ) → between from from s ≡ false
      none s = not_between from from s (cases_lt s from)

  -- and at its end it is what a round sees that has walked it
  pub up_last : (count e : ℕ) (its : ℕ → Bool) (walk : List Found)
      → ((s : ℕ) → its s ≡ between from e s) → AreFound w before count (up e) walk
      → AreFound w before count (record {
        seen = λ s. if its s then latest s else x.seen s;
        live = λ s. if its s then is_live w.bucket version (latest s) else x.live s;
      }) walk
  up_last count e its walk same h = law_alike w before count (up e) (record {
    seen = λ s. if its s then latest s else x.seen s;
    live = λ s. if its s then is_live w.bucket version (latest s) else x.live s;
  }) walk (λ s. ap (λ t. if t then latest s else x.seen s) (same s))
      (λ s. inl (ap (λ t. if t then is_live w.bucket version (latest s) else x.live s) (same s))) h

  -- where nothing is said of the sectors in between, it is as far as that
  pub up_gap : (count : ℕ) (e f : ℕ) (walk : List Found) → from ≤ e → e ≤ f
      → ((s : ℕ) → e ≤ s → s < f → latest s ≡ None)
      → AreFound w before count (up e) walk → AreFound w before count (up f) walk
  up_gap count e f walk low more none h = law_alike w before count (up e) (up f) walk seen live h
    where
      by_three : (s : ℕ) (P : Type 0) → (s < from → P) → (from ≤ s → s < e → P)
          → (e ≤ s → s < f → P) → (f ≤ s → P) → P
      by_three s P a b c d = elim (cases_lt s from) [
        | inl less ↦ a less
        | inr low ↦ elim (cases_lt s e) [
          | inl within ↦ b low within
          | inr far ↦ elim (cases_lt s f) [
            | inl here ↦ c far here
            | inr out ↦ d out
          ]
        ]
      ]

      seen : (s : ℕ) → (up f).seen s ≡ (up e).seen s
      seen s = by_three s ((up f).seen s ≡ (up e).seen s)
          (λ less. up_out f s (inl less) ∙ sym (up_out e s (inl less)))
          (λ low within. up_in f s low (omega (arith, within, more)) ∙ sym (up_in e s low within))
          (λ far here. up_in f s (omega (arith, low, far)) here ∙ none s far here
          ∙ sym (up_behind e s (omega (arith, low, far)) far))
          (λ out. up_out f s (inr out) ∙ sym (up_out e s (inr (omega (arith, more, out)))))

      live_out : (e s : ℕ) → (s < from) ⊎ (e ≤ s) → (up e).live s ≡ x.live s
      live_out e s out = ap (λ t. if t then is_live w.bucket version (latest s) else x.live s)
          (not_between from e s out)

      live : (s : ℕ) → ((up f).live s ≡ (up e).live s) ⊎ ((up e).seen s ≡ None)
      live s = by_three s (((up f).live s ≡ (up e).live s) ⊎ ((up e).seen s ≡ None))
          (λ less. inl (live_out f s (inl less) ∙ sym (live_out e s (inl less))))
          (λ low within. inl (up_live f s low (omega (arith, within, more))
          ∙ sym (up_live e s low within)))
          (λ far here. inr (up_behind e s (omega (arith, low, far)) far))
          (λ out. inl (live_out f s (inr out)
          ∙ sym (live_out e s (inr (omega (arith, more, out))))))

  -- ---- the bucket of a place

  -- a place in a bucket that is counted lies in the core's of that number
  bucket_in : (own bucket t : ℕ) → bucket ≡ max own before → own * size ≤ t → t < own * size + size
      → bucket < length b.records → before + w.bucket t ≡ bucket
  bucket_in own bucket t is low high inside = elim (cases_lt own before) [
    | inl less ↦ (
        let one : bucket ≡ before = is ∙ max-eq_right (omega (arith, less)) in
        let count = g.count in
        let up_to : (own + 1) * size ≤ before * size = mul-le-mul_right size (omega (arith, less)) in
        let first = g.ahead t (omega (arith, one, inside, count))
        (omega (arith, high, up_to)) in
        omega (arith, one, first))
    | inr from ↦ (
        let one : bucket ≡ own = is ∙ max-eq_left from in
        let count = g.count in
        let same : before + (own - before) ≡ own = omega (arith, from) in
        let at = g.sector (own - before) t (omega (arith, one, inside, count, from))
        (subst (λ n. n * size ≤ t) (sym same) low)
        (subst (λ n. t < n * size + size) (sym same) high) in
        omega (arith, one, at, from))
  ]

  -- and one in a bucket that isn't counted lies in none that is
  bucket_out : (own bucket t j : ℕ) → bucket ≡ max own before → own * size ≤ t
      → length b.records ≤ bucket → before + j < length b.records → w.bucket t ≢ j
  bucket_out own bucket t j is low far inside same = elim (cases_lt own before) [
    | inl less ↦ (
        let one : bucket ≡ before = is ∙ max-eq_right (omega (arith, less)) in
        omega (arith, one, far, inside))
    | inr from ↦ (
        let one : bucket ≡ own = is ∙ max-eq_left from in
        let count = g.count in
        let up_to : (before + j + 1) * size ≤ own * size
        = mul-le-mul_right size (omega (arith, one, far, inside)) in
        let later = g.behind j t (omega (arith, count, inside)) (omega (arith, up_to, low)) in
        omega (arith, later, same))
  ]

  -- ---- a piece

  module _ (key : Key) (ptr : Ptr) (a c : ℕ) (bucket : ℕ)
      (lies : LiesInOne size before key ptr (record { first = a; count = c; bucket = bucket }))
      (later : from ≤ a)
      (said : (s : ℕ) → a ≤ s → s < a + c → IsSaid latest key ptr s) where
    abbrev on : ℕ → Bool
    on s = between a (a + c) s

    on_said : (s : ℕ) → on s ≡ true → IsSaid latest key ptr s
    on_said s is = let at = in_between a (a + c) s is in said s at.0 at.1

    on_new : (s : ℕ) (is : on s ≡ true) → (up (a + c)).seen s ≡ Some (on_said s is).pointer
    on_new s is = let at = in_between a (a + c) s is in
        up_in (a + c) s (let low = at.0 in omega (arith, later, low)) at.1 ∙ (on_said s is).is

    on_place : (s : ℕ) (is : on s ≡ true)
        → (lies.own * size ≤ (on_said s is).pointer.place)
        × ((on_said s is).pointer.place < lies.own * size + size)
    on_place s is =
        let at = in_between a (a + c) s is in
        let each = lies.each s at.0 at.1 in
        let same = (on_said s is).place in
        let low = each.0 in
        let high = each.1 in (omega (arith, same, low), omega (arith, same, high))

    on_unseen : (s : ℕ) → on s ≡ true → (up a).seen s ≡ None
    on_unseen s is = let at = in_between a (a + c) s is in let low = at.0 in
        up_behind a s (omega (arith, later, low)) at.0

    on_others : (s : ℕ) → on s ≡ false
        → ((up (a + c)).seen s ≡ (up a).seen s) × ((up (a + c)).live s ≡ (up a).live s)
    on_others s off = (
      ap (λ t. if t then latest s else x.seen s) same,
      ap (λ t. if t then is_live w.bucket version (latest s) else x.live s) same,
    )
      where
        outside : (s < a) ⊎ (a + c ≤ s)
        outside = by_between a (a + c) s (λ t. t ≡ false → (s < a) ⊎ (a + c ≤ s))
            (λ _ _ is. absurd (cc)) (λ out _. out) off

        same : between from (a + c) s ≡ between from a s
        same = elim outside [
          | inl less ↦ by_between from a s (λ t. between from (a + c) s ≡ t)
              (λ low high. is_between from (a + c) s low (omega (arith, high)))
              (λ out. not_between from (a + c) s (elim out [
                | inl before ↦ inl before
                | inr far ↦ absurd (omega (arith, less, far))
              ]))
          | inr far ↦ not_between from (a + c) s (inr far)
              ∙ sym (not_between from a s (inr (omega (arith, far))))
        ]

    first_on : on a ≡ true
    first_on = let some = lies.some in is_between a (a + c) a (omega arith) (omega (arith, some))

    -- of a bucket that is none of the device
    out_stands : (walk : List Found) → length b.records ≤ bucket
        → AreFound w before (length b.records) (up a) walk
        → AreFound w before (length b.records) (up (a + c)) walk
    out_stands walk far h = λ j inside. elsewhere w (up a) (up (a + c)) on j
        (λ s is. (
          (on_said s is).pointer,
          on_new s is,
          bucket_out lies.own bucket (on_said s is).pointer.place j lies.bucket (on_place s is).0 far
              inside,
        )) on_unseen on_others (found_at walk (before + j)) (h j inside)

    module _ (inside : bucket < length b.records) where
      abbrev first : Pointer
      first = (on_said a first_on).pointer

      abbrev q : ℕ
      q = w.bucket first.place

      bucket_is : before + q ≡ bucket
      bucket_is = let at = on_place a first_on in
          bucket_in lies.own bucket first.place lies.bucket at.0 at.1 inside

      same_bucket : (s : ℕ) (is : on s ≡ true) → w.bucket (on_said s is).pointer.place ≡ q
      same_bucket s is =
          let at = on_place s is in
          let one = bucket_in lies.own bucket (on_said s is).pointer.place lies.bucket at.0 at.1
          inside in
          let its = bucket_is in omega (arith, one, its)

      its_near : (s : ℕ) (is : on s ≡ true) → IsNear (version q) (on_said s is).pointer.version
      its_near s is = subst (λ n. IsNear (version n) (on_said s is).pointer.version)
          (same_bucket s is) (g.near s (on_said s is).pointer (on_said s is).is)

      its_version : (s : ℕ) (is : on s ≡ true) → (on_said s is).pointer.version ≡ first.version
      its_version s is = same_version (version q) (on_said s is).pointer.version first.version
          (its_near s is) (its_near a first_on)
          ((on_said s is).version ∙ sym (on_said a first_on).version)

      its_live : (s : ℕ) → on s ≡ true → (up (a + c)).live s ≡ (version q == first.version)
      its_live s is =
          let at = in_between a (a + c) s is in
          up_live (a + c) s (let low = at.0 in omega (arith, later, low)) at.1
          ∙ ap (λ o. is_live w.bucket version o) (on_said s is).is
          ∙ ap (λ n. version n == (on_said s is).pointer.version) (same_bucket s is)
          ∙ ap (λ n. version q == n) (its_version s is)

      row : IsRowIn w (up a) (up (a + c)) q (version q) (bucket_of b bucket).generation
          (reference_of key ptr c)
      row = record {
        on = on;
        old = first.version;
        new = λ s is. (
          (on_said s is).pointer,
          on_new s is,
          same_bucket s is,
          its_version s is,
          (on_said s is).dirty,
        );
        live = its_live;
        unseen = on_unseen;
        others = on_others;
        one = a;
        one_on = first_on;
        within = g.inside a first (on_said a first_on).is;
        near = its_near a first_on;
        dirty = λ is. g.dirty a first (on_said a first_on).is
            (dirty_test (is_dirty first.kind) key.dirty (on_said a first_on).dirty is);
        generation = sym (on_said a first_on).version;
        own_is = subst (λ n. (bucket_of b n).generation ≡ version q % 256) bucket_is
            (g.own q (let is = bucket_is in omega (arith, is, inside)));
      }

      in_stands : (walk : List Found) → length walk ≡ length b.records
          → AreFound w before (length b.records) (up a) walk
          → AreFound w before (length b.records) (up (a + c))
          (walked bucket (bucket_of b bucket).generation (reference_of key ptr c) walk)
      in_stands walk long h = subst (λ n. AreFound w before (length b.records) (up (a + c))
          (walked n (bucket_of b bucket).generation (reference_of key ptr c) walk)) bucket_is
          (law_row w before (length b.records) q (version q) (bucket_of b bucket).generation (up a)
          (up (a + c)) walk (reference_of key ptr c) long
          (let is = bucket_is in omega (arith, is, inside))
          (λ s r seen. subst (λ n. IsNear (version n) r.version) seen.bucket
          (up_near a s r seen.saw)) h row)

    piece_stands : (walk : List Found) → length walk ≡ length b.records
        → AreFound w before (length b.records) (up a) walk
        → AreFound w before (length b.records) (up (a + c))
        (counted_at b bucket (reference_of key ptr c) walk)
    piece_stands walk long h = by_le (suc bucket) (length b.records)
        (λ t. AreFound w before (length b.records) (up (a + c))
        (if t then walked bucket (bucket_of b bucket).generation (reference_of key ptr c) walk
        else walk)) (λ inside. in_stands (omega (arith, inside)) walk long h)
        (λ far. out_stands walk (omega (arith, far)) h)

  -- ---- the pieces of a key

  counted_long : (bucket : ℕ) (r : _) (walk : List Found)
      → length (counted_at b bucket r walk) ≡ length walk
  counted_long bucket r walk = go (nat_lt bucket (length b.records))
    where
      go : (t : Bool) → length (if t then walked bucket (bucket_of b bucket).generation r walk
          else walk) ≡ length walk
      go true = length-set walk bucket _
      go false = refl

  pieces_stand : (key : Key) (ptr : Ptr) (a : ℕ) (ps : List Piece) (e : ℕ) (walk : List Found)
      → AreCut size before key ptr a ps e → from ≤ a
      → ((s : ℕ) → a ≤ s → s < e → IsSaid latest key ptr s) → length walk ≡ length b.records
      → AreFound w before (length b.records) (up a) walk
      → AreFound w before (length b.records) (up e) (all_counted b key ptr ps walk)
      × (length (all_counted b key ptr ps walk) ≡ length b.records) × (a ≤ e)
  pieces_stand key ptr a [] e walk cut later said long h = (
    subst (λ n. AreFound w before (length b.records) (up n) walk) cut h,
    long,
    omega (arith, cut),
  )
  pieces_stand key ptr a (p ∷ ps) e walk cut later said long h =
      let more = ends key ptr (a + p.count) ps e cut.2 in
      let first = cut.0 in
      let lies = subst (λ n. LiesInOne size before key ptr
      (record { first = n; count = p.count; bucket = p.bucket })) first cut.1 in
      let next = pieces_stand key ptr (a + p.count) ps e
      (counted_at b p.bucket (reference_of key ptr p.count) walk) cut.2 (omega (arith, later))
      (λ s low high. said s (omega (arith, low)) high)
      (counted_long p.bucket (reference_of key ptr p.count) walk ∙ long)
      (piece_stands key ptr a p.count p.bucket lies later
      (λ s low high. said s low (omega (arith, high, more))) walk long h) in (
        next.0,
        next.1,
        omega (arith, more),
      )
    where
      ends : (key : Key) (ptr : Ptr) (a : ℕ) (ps : List Piece) (e : ℕ)
          → AreCut size before key ptr a ps e → a ≤ e
      ends key ptr a [] e cut = omega (arith, cut)
      ends key ptr a (p ∷ ps) e cut = let more = ends key ptr (a + p.count) ps e cut.2 in
          omega (arith, more)

  pub key_stands : (key : Key) (ptr : Ptr) (a : ℕ) (ps : List Piece) (e : ℕ) (walk : List Found)
      → AreCut b.size before key ptr a ps e → from ≤ a
      → ((s : ℕ) → a ≤ s → s < e → IsSaid latest key ptr s) → length walk ≡ length b.records
      → AreFound w before (length b.records) (up a) walk
      → AreFound w before (length b.records) (up e) (all_counted b key ptr ps walk)
      × (length (all_counted b key ptr ps walk) ≡ length b.records) × (a ≤ e)
  key_stands key ptr a ps e walk cut = pieces_stand key ptr a ps e walk
      (subst (λ n. AreCut n before key ptr a ps e) g.size_is cut)
