-- A place is cut.
use Rattle.std.proofs.Common.{◌≡◌, ◌≢◌, ◌⊎◌, inl, inr, ℕ, ◌+◌, ◌-◌, ◌*◌, ◌<◌, ◌≤◌, ◌==◌, Bool, true, false, List, ◌∷◌, refl, sym, ap, ◌∙◌, subst, arith, if◌then◌else◌}
use Rattle.std.proofs.lemmas.Bool.{cases_lt}
use Rattle.bc_alloc.specs.Reserve.{times}
use Rattle.bc_alloc.specs.Reserves.{Reserves, list_of}
use Rattle.bc_alloc.proofs.Times.{times-cons, times_same}
use Rattle.bc_books.specs.Index.{put, within}
use Rattle.bc_books.specs.Shelves.{Shelf, Loose, Listed, Raised, Open, Owner, Fresh, Own, put_run}
use Rattle.bc_books.specs.Shelves as shelf
use Rattle.bc_books.specs.Books.{Setup, Books, Pin, Shut}
use Rattle.bc_books.specs.Enabled.{CanPin}
use Rattle.bc_books.specs.After as books
use Rattle.bc_books.proofs.Cases.{by_within, put_run_cases}
use Rattle.bc_bucket.specs.Buckets.{Buckets}
use Rattle.bc_events.specs.Acts.{purpose_of}
use Rattle.bc_fill.specs.declared.fill.Open as fill
use Rattle.bc_fill.specs.declared.fill.Placed.{Placed}
use Rattle.bc_fill.specs.Fill.{after, bucket_numbers, shut_if_full, AreOpen, IsCut, IsPlacedIn}
use Rattle.bc_fill.specs.Fresh.{IsFreeIn, IsOf}
use Rattle.bc_fill.proofs.Freshness.{were_free, are_gone, others_stay}
use Rattle.bc_fill.proofs.Opens.{by_test}
use Rattle.bc_leaves.proofs.Chains.{put_there, put_else}
use Rattle.bc_places.specs.Stands.{StandFor}
use Rattle.bc_places.specs.Steps.{fills, shut_steps}
use Rattle.bc_places.specs.Laws.{AreSpread}
use Rattle.bc_places.proofs.Ends.{fills_is}
use Rattle.bc_places.proofs.Lists.{counted, there, without, apart, drop_first, first_in}
use Rattle.bc_places.proofs.Open.{open_listed, open_raised}

in_run : (first count s : ℕ) → within first count s ≡ true → (first ≤ s) × (s < first + count)
in_run first count s = by_within first count s (λ b. b ≡ true → (first ≤ s) × (s < first + count)) (λ r _. r) (λ _ e. absurd (cc))

not_in_run : (first count s : ℕ) → within first count s ≡ false → (first ≤ s) × (s < first + count) → ⊥
not_in_run first count s = by_within first count s (λ b. b ≡ false → (first ≤ s) × (s < first + count) → ⊥) (λ _ e _. absurd (cc)) (λ wrong _. wrong)

loose_listed : (x : Shelf) (p : shelf.Purpose) → x ≡ Loose → x ≡ Listed p → ⊥
loose_listed x p a b = cc

loose_raised : (x : Shelf) → x ≡ Loose → x ≡ Raised → ⊥
loose_raised x a b = cc

loose_open : (x : Shelf) → x ≡ Loose → x ≡ Open → ⊥
loose_open x a b = cc

own_fresh : (i : ℕ) → Own i ≡ Fresh → ⊥
own_fresh i e = cc

-- the list behind a place, where it fills the bucket or doesn't
abbrev rest_or : Bool → ℕ → fill.Open → List fill.Open → List fill.Open
rest_or full n o rest = if full then rest else record o { next = o.next + n } ∷ rest

fewer : (size n j : ℕ) (o : fill.Open) (rest : List fill.Open) → 0 < times j (bucket_numbers (after size n o rest)) → 0 < times j (o.bucket ∷ bucket_numbers rest)
fewer size n j o rest = by_test (o.next + n) size (λ b. 0 < times j (bucket_numbers (rest_or b n o rest)) → 0 < times j (o.bucket ∷ bucket_numbers rest))
    (λ full on. let c = times-cons j o.bucket (bucket_numbers rest) in omega arith)
    (λ part on. on)

module _ (w : Setup) (k : Books) (before seat count : ℕ) (o : fill.Open) (rest : List fill.Open)
    (r : Reserves) (b : Buckets) (p : Placed) (laid : AreSpread before b.size r.count w)
    (opens : AreOpen (o ∷ rest) r b) (some : 1 ≤ count) (placed : IsPlacedIn b o count p)
    (h : StandFor before b.size (o ∷ rest) r k) where
  cut : IsCut (o ∷ rest) (after b.size p.count o rest) b (shut_if_full b.size p.count o b) count p
  cut = record { first = o; rest = rest; were = refl; placed = placed; are = refl; buckets = refl }

  on_list : 0 < times o.bucket (o.bucket ∷ bucket_numbers rest)
  on_list = first_in o.bucket (bucket_numbers rest)

  low : before ≤ o.bucket
  low = h.opens.buckets.behind o.bucket on_list

  is_open : k.shelf (o.bucket - before) ≡ Open
  is_open = there before o.bucket (o.bucket ∷ bucket_numbers rest) (λ q. k.shelf q ≡ Open) h.opens.buckets on_list

  fits : o.next + p.count ≤ b.size
  fits = let n = placed.sectors in let f = opens.free.0 in omega arith

  one_at_least : 1 ≤ p.count
  one_at_least = let n = placed.sectors in let f = opens.free.0 in omega arith

  lies_in : (t : ℕ) → o.bucket * b.size ≤ t → t < o.bucket * b.size + b.size → w.bucket t ≡ o.bucket - before
  lies_in t lo hi =
      let is = counted before o.bucket low in
      let below = (opens.each o.bucket on_list).0 in
      laid (o.bucket - before) t (omega (arith, is, below))
      (subst (λ i. i * b.size ≤ t) (sym is) lo) (subst (λ i. t < i * b.size + b.size) (sym is) hi)

  its : (t : ℕ) → IsOf p t → w.bucket t ≡ o.bucket - before
  its t of = let at = placed.offset in let lo = of.0 in let hi = of.1 in
      lies_in t (omega arith) (omega (arith, fits))

  pub begins_in : w.bucket p.ptr.offset ≡ o.bucket - before
  begins_in = its p.ptr.offset (omega arith, omega (arith, one_at_least))

  pub shuts : k.shelf (w.bucket p.ptr.offset) ≡ Open
  shuts = ap k.shelf begins_in ∙ is_open

  pub can_pin : CanPin w.bucket k.shelf k.owner seat p.ptr.offset p.count
  can_pin = record {
    for_data = λ t on. inl (ap k.shelf (its t (in_run p.ptr.offset p.count t on)) ∙ is_open);
    fresh = λ t on. h.opens.free t (were_free (o ∷ rest) (after b.size p.count o rest) r b (shut_if_full b.size p.count o b) count p opens cut t (in_run p.ptr.offset p.count t on));
  }

  abbrev owner_then : ℕ → Owner
  owner_then = put_run k.owner p.ptr.offset p.count (Own seat)

  fresh_before : (t : ℕ) → owner_then t ≡ Fresh → (k.owner t ≡ Fresh) × (IsOf p t → ⊥)
  fresh_before t = put_run_cases k.owner p.ptr.offset p.count t (Own seat) (λ x. x ≡ Fresh → (k.owner t ≡ Fresh) × (IsOf p t → ⊥))
      (λ off is. (is, λ of. not_in_run p.ptr.offset p.count t off of))
      (λ on is. absurd (own_fresh seat is))

  fresh_still : (t : ℕ) → k.owner t ≡ Fresh → (IsOf p t → ⊥) → owner_then t ≡ Fresh
  fresh_still t is not = put_run_cases k.owner p.ptr.offset p.count t (Own seat) (λ x. x ≡ Fresh)
      (λ off. is) (λ on. absurd (not (in_run p.ptr.offset p.count t on)))

  left : (t : ℕ) → IsFreeIn b.size (o ∷ rest) t → (IsOf p t → ⊥) → IsFreeIn b.size (after b.size p.count o rest) t
  left t free not = by_test (o.next + p.count) b.size (λ f. IsFreeIn b.size (rest_or f p.count o rest) t)
      (λ full. shut full free) (λ part. go part free)
    where
      shut : o.next + p.count ≡ b.size → IsFreeIn b.size (o ∷ rest) t → IsFreeIn b.size rest t
      shut full (inl at) = absurd (not (let e = placed.offset in let l = at.0 in omega arith, let e = placed.offset in let u = at.1 in omega (arith, full)))
      shut full (inr at) = at

      go : o.next + p.count ≢ b.size → IsFreeIn b.size (o ∷ rest) t → IsFreeIn b.size (record o { next = o.next + p.count } ∷ rest) t
      go part (inl at) = inl (behind (cases_lt t (p.ptr.offset + p.count)), at.1)
        where
          behind : (t < p.ptr.offset + p.count) ⊎ (p.ptr.offset + p.count ≤ t) → o.bucket * b.size + (o.next + p.count) ≤ t
          behind (inl lt) = absurd (not (let e = placed.offset in let l = at.0 in omega arith, lt))
          behind (inr le) = let e = placed.offset in omega arith
      go part (inr at) = inr at

  -- which places are free behind it
  record Frees (fs : List fill.Open) : Type 0 where
    free : (t : ℕ) → IsFreeIn b.size fs t → owner_then t ≡ Fresh
    given : (j t : ℕ) → 0 < times j (bucket_numbers fs) → j * b.size ≤ t → t < j * b.size + b.size → owner_then t ≡ Fresh → IsFreeIn b.size fs t

  frees : Frees (after b.size p.count o rest)
  frees = record {
    free = λ t is. fresh_still t (h.opens.free t (others_stay (o ∷ rest) (after b.size p.count o rest) b (shut_if_full b.size p.count o b) count p cut t is))
        (λ of. are_gone (o ∷ rest) (after b.size p.count o rest) r b (shut_if_full b.size p.count o b) count p opens cut t of is);
    given = λ j t on lo hi is. let f = fresh_before t is in
        left t (h.opens.given j t (fewer b.size p.count j o rest on) lo hi f.0) f.1;
  }

  abbrev shelf_then : ℕ → Shelf
  shelf_then = put k.shelf (o.bucket - before) Loose

  elsewhere : (q : ℕ) → q ≢ o.bucket - before → shelf_then q ≡ k.shelf q
  elsewhere q ne = put_else k.shelf (o.bucket - before) Loose q ne

  is_loose : shelf_then (o.bucket - before) ≡ Loose
  is_loose = put_there k.shelf (o.bucket - before) Loose

  once : times o.bucket (bucket_numbers rest) ≡ 0
  once = let d = opens.distinct o.bucket in let c = times-cons o.bucket o.bucket (bucket_numbers rest) in let one = times_same o.bucket in omega arith

  abbrev pinned : Books
  pinned = books.after w k (Pin seat p.ptr.offset p.count)

  full_stands : Frees rest → StandFor before b.size rest r (books.after w pinned (Shut (o.bucket - before)))
  full_stands f = record {
    opens = record {
      buckets = without before o.bucket (o.bucket ∷ bucket_numbers rest) (bucket_numbers rest)
          (λ q. k.shelf q ≡ Open) (λ q. shelf_then q ≡ Open) low h.opens.buckets
          (λ j ne. drop_first o.bucket j (bucket_numbers rest) ne) once
          (λ q ne is. elsewhere q ne ∙ is) (λ q ne is. sym (elsewhere q ne) ∙ is)
          (λ is. loose_open (shelf_then (o.bucket - before)) is_loose is);
      free = f.free;
      given = f.given;
    };
    lists = record {
      lists = λ l. apart before o.bucket (list_of l r).buckets
          (λ q. k.shelf q ≡ Listed (purpose_of l)) (λ q. shelf_then q ≡ Listed (purpose_of l)) low
          (h.lists.lists l) (λ is. open_listed (k.shelf (o.bucket - before)) (purpose_of l) is_open is)
          (λ q ne is. elsewhere q ne ∙ is) (λ q ne is. sym (elsewhere q ne) ∙ is)
          (λ is. loose_listed (shelf_then (o.bucket - before)) (purpose_of l) is_loose is);
      raised = apart before o.bucket r.raised (λ q. k.shelf q ≡ Raised) (λ q. shelf_then q ≡ Raised)
          low h.lists.raised (λ is. open_raised (k.shelf (o.bucket - before)) is_open is)
          (λ q ne is. elsewhere q ne ∙ is) (λ q ne is. sym (elsewhere q ne) ∙ is)
          (λ is. loose_raised (shelf_then (o.bucket - before)) is_loose is);
    };
  }

  part_stands : Frees (record o { next = o.next + p.count } ∷ rest) → StandFor before b.size (record o { next = o.next + p.count } ∷ rest) r pinned
  part_stands f = record {
    opens = record { buckets = h.opens.buckets; free = f.free; given = f.given };
    lists = record { lists = h.lists.lists; raised = h.lists.raised };
  }

  by_full : StandFor before b.size (after b.size p.count o rest) r (books.fold w pinned (shut_steps (o.next + p.count == b.size) (o.bucket - before)))
  by_full = by_test (o.next + p.count) b.size
      (λ f. Frees (rest_or f p.count o rest) → StandFor before b.size (rest_or f p.count o rest) r (books.fold w pinned (shut_steps f (o.bucket - before))))
      (λ full. full_stands) (λ part. part_stands) frees

  pub cut_stands : StandFor before b.size (after b.size p.count o rest) r (books.fold w pinned (shut_steps (fills b.size p) (w.bucket p.ptr.offset)))
  cut_stands =
      subst (λ f. StandFor before b.size (after b.size p.count o rest) r (books.fold w pinned (shut_steps f (w.bucket p.ptr.offset))))
      (sym (fills_is o.bucket b.size o.next p.count p.ptr.offset placed.offset one_at_least fits))
      (subst (λ q. StandFor before b.size (after b.size p.count o rest) r (books.fold w pinned (shut_steps (o.next + p.count == b.size) q))) (sym begins_in) by_full)
