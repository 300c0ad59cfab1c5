-- A clean key names places of one bucket: what that makes of the buckets in hand, and that these
-- stand for the state behind it.
use Rattle.std.proofs.Common.{◌≡◌, ◌≢◌, ◌⊎◌, inl, inr, ℕ, zero, suc, ◌+◌, ◌-◌, ◌*◌, ◌/◌, ◌<◌, ◌≤◌, Bool, true, false, List, [], ◌∷◌, length, set, Some, refl, sym, ap, ◌∙◌, subst, arith, get_or-set_same, get_or-set_other, length-set}
use Rattle.std.specs.Prelude.{◌==◌, ◌||◌, if◌then◌else◌, nat_lt, slice_index_or, slice_set}
use Rattle.std.proofs.lemmas.Bool.{cases_eq, cases_lt, lt-ltb}
use Rattle.std.proofs.lemmas.List.{set-get_or}
use Rattle.std.proofs.Math.Nat.{mul-le-mul_right}
use Rattle.bc_alloc.proofs.Fits.{changed_twice, held_stays, other_stays, same_length, still_for, this_changes}
use Rattle.bc_alloc.specs.Buckets.{AreFor}
use Rattle.bc_alloc.specs.Reserves.{Reserves, list_of}
use Rattle.bc_alloc.specs.declared.purpose.Purpose.TheVariants as list
use Rattle.bc_books.proofs.Cases.{put_run_cases}
use Rattle.bc_books.specs.After as books
use Rattle.bc_books.specs.Books.{Books, Put, Unpin}
use Rattle.bc_books.specs.Index.{Clean, within}
use Rattle.bc_books.specs.Index as index
use Rattle.bc_books.specs.Marks.{with_key}
use Rattle.bc_books.specs.Marks as core
use Rattle.bc_books.specs.Shelves.{Fresh, Kept, Owner, Spent, put_run}
use Rattle.bc_bucket.specs.Bucket.{marked, no_bucket, unpinned}
use Rattle.bc_bucket.specs.Buckets.{Buckets, bucket_of, changed}
use Rattle.bc_bucket.specs.declared.bucket.Bucket.{Bucket}
use Rattle.bc_bucket.specs.declared.bucket.Mark.{Mark}
use Rattle.bc_bucket.specs.declared.bucket.Mark.TheVariants as marks
use Rattle.bc_fill.specs.Fill.{AreOpen}
use Rattle.bc_fill.specs.declared.fill.Open.{Open}
use Rattle.bc_known.specs.Known.{AreLaid}
use Rattle.bc_candidate.proofs.of_bc_place.Counting.{all_in, both_in, none_before, none_behind}
use Rattle.bc_candidate.proofs.of_bc_machine.Buckets.{chain_stays, touched_round}
use Rattle.bc_candidate.specs.bc_place.Next.{without_pins}
use Rattle.bc_candidate.specs.bc_machine.Containers.{AreBucketsOf, IsBucketFor, IsRoundOf, mark_of, pins_in, pins_of}
use Rattle.bc_candidate.specs.bc_machine.Frame.{by_test}
use Rattle.bc_candidate.specs.bc_machine.declared.part.BucketsPart.{BucketsPart}
use Rattle.bc_candidate.specs.bc_machine.declared.part.Tracing.{Tracing}
use Rattle.bc_places.specs.Stands.{IsCutInto, StandFor}
use Rattle.bc_shares.specs.Shares.{Pinned, buckets_in, use_of}
use Rattle.bc_whole.specs.State as whole
use Rattle.bc_settle.specs.Fits.{LieInOne}
use Rattle.bc_settle.specs.Next.{HasCleanKey, clean_at, marked_clean, place_clean, with_clean, with_clean_mark}
use Rattle.bc_settle.proofs.Placing.{bucket_is, high, low, number_is}

-- ---- what the calls do

same_change : (f g : Bucket → Bucket) (k : ℕ) (b : Buckets) → f (bucket_of b k) ≡ g (bucket_of b k)
    → changed f k b ≡ changed g k b
same_change f g k b is = ap (λ (x : Bucket). record b { records = slice_set b.records k x }) is

no_change : (f : Bucket → Bucket) (k : ℕ) (b : Buckets) → f (bucket_of b k) ≡ bucket_of b k
    → changed f k b ≡ b
no_change f k b is = ap (λ (x : Bucket). record b { records = slice_set b.records k x }) is
    ∙ ap (λ (xs : List Bucket). record b { records = xs }) (set-get_or b.records k no_bucket)

same_pins : (x : Bucket) (a c : ℕ) → a ≡ c → record x { pins = a } ≡ record x { pins = c }
same_pins x a c is = ap (λ n. record x { pins = n }) is

pub unpins_none : (k : ℕ) (b : Buckets) → b ≡ changed (without_pins 0) k b
unpins_none k b = sym (no_change (without_pins 0) k b (same_pins (bucket_of b k) _ _ (omega arith)))

pub unpins_one : (n k : ℕ) (b c : Buckets) → k < length b.records → c ≡ changed (without_pins n) k b
    → changed unpinned k c ≡ changed (without_pins (n + 1)) k b
unpins_one n k b c inside is = ap (λ d. changed unpinned k d) is
    ∙ changed_twice (without_pins n) unpinned k b inside
    ∙ same_change (λ x. unpinned (without_pins n x)) (without_pins (n + 1)) k b
    (same_pins (bucket_of b k) _ _ (omega arith))

pub unpins_all : (n k : ℕ) (b c : Buckets) → k < length b.records → c ≡ changed (without_pins n) k b
    → (bucket_of c k).pins ≤ 0 → c ≡ changed (without_pins (n + 1)) k b
unpins_all n k b c inside is none =
    let it = ap (λ d. bucket_of d k) is ∙ this_changes (without_pins n) k b inside in
    let its = ap (λ (x : Bucket). x.pins) it in
    is ∙ same_change (without_pins n) (without_pins (n + 1)) k b
    (same_pins (bucket_of b k) _ _ (omega (arith, its, none)))

pub unpins_length : (n k : ℕ) (b c : Buckets) → c ≡ changed (without_pins n) k b
    → length c.records ≡ length b.records
unpins_length n k b c is = ap (λ (d : Buckets). length d.records) is
    ∙ same_length (without_pins n) k b

-- a bucket without a mark gets one
pub marks_none : (k used : ℕ) (b : Buckets) (m : Mark) → m ≡ (bucket_of b k).mark
    → used ≡ (bucket_of b k).used → m ≡ marks.None
    → changed (marked marks.Reclaimable used) k b ≡ changed with_clean_mark k b
marks_none k used b m is at none = same_change (marked marks.Reclaimable used) with_clean_mark k b
    (ap (λ u. marked marks.Reclaimable u (bucket_of b k)) at
    ∙ ap (λ (x : Mark). marked_clean x (bucket_of b k)) (sym (sym is ∙ none)))

other_mark : (m : Mark) (x : Bucket) → m ≢ marks.None → marked_clean m x ≡ x
other_mark marks.None x ne = absurd (ne refl)
other_mark marks.Reclaimable x ne = refl
other_mark marks.Dirty x ne = refl
other_mark marks.Metadata x ne = refl

-- and each other stays
pub marks_other : (k : ℕ) (b : Buckets) (m : Mark) → m ≡ (bucket_of b k).mark → m ≢ marks.None
    → b ≡ changed with_clean_mark k b
marks_other k b m is ne = sym (no_change with_clean_mark k b
    (other_mark (bucket_of b k).mark (bucket_of b k) (λ e. ne (is ∙ e))))

pub names_at : (k n : ℕ) (b c d : Buckets) → k < length b.records
    → c ≡ changed (without_pins n) k b → d ≡ changed with_clean_mark k c
    → record d { touched = set d.touched k true } ≡ clean_at k n b
names_at k n b c d inside is at =
    let all : d ≡ changed (with_clean n) k b = at ∙ ap (λ x. changed with_clean_mark k x) is
    ∙ changed_twice (without_pins n) with_clean_mark k b inside in
    ap (λ (x : Buckets). record x { touched = set x.touched k true }) all

held_clean : (m : Mark) (x : Bucket) → (marked_clean m x).held ≡ x.held
held_clean marks.None x = refl
held_clean marks.Reclaimable x = refl
held_clean marks.Dirty x = refl
held_clean marks.Metadata x = refl

keeps_held : (n : ℕ) (x : Bucket) → (with_clean n x).held ≡ x.held
keeps_held n x = held_clean x.mark (without_pins n x)

-- lists, records and open buckets fit each other still
fits_at : (r : Reserves) (k n : ℕ) (b : Buckets) → AreFor r b → AreFor r (clean_at k n b)
fits_at r k n b h =
    let there = still_for r r b (changed (with_clean n) k b) h refl
    (same_length (with_clean n) k b)
    (λ j some. (some, held_stays (with_clean n) (keeps_held n) k b j)) in
    record { same_count = there.same_count; not_held = there.not_held }

open_at : (fs : List Open) (r : Reserves) (k n : ℕ) (b : Buckets) → AreOpen fs r b
    → AreOpen fs r (clean_at k n b)
open_at fs r k n b h = record {
  distinct = h.distinct;
  each = λ j some. let e = h.each j some in
      (e.0, held_stays (with_clean n) (keeps_held n) k b j ∙ e.1, e.2);
  free = h.free;
}

keeps_place : (P : Buckets → Type 0) (at n : ℕ) (b : Buckets)
    → ((k : ℕ) → P (clean_at k n b)) → P b → P (place_clean at n b)
keeps_place P at n b named same = go (nat_lt (at / b.size) (length b.records))
  where
    go : (c : Bool) → P (if c then clean_at (at / b.size) n b else b)
    go true = named (at / b.size)
    go false = same

pub fits_place : (r : Reserves) (at n : ℕ) (b : Buckets) → AreFor r b
    → AreFor r (place_clean at n b)
fits_place r at n b h = keeps_place (AreFor r) at n b (λ k. fits_at r k n b h) h

pub open_place : (fs : List Open) (r : Reserves) (at n : ℕ) (b : Buckets) → AreOpen fs r b
    → AreOpen fs r (place_clean at n b)
open_place fs r at n b h = keeps_place (AreOpen fs r) at n b (λ k. open_at fs r k n b h) h

pub size_place : (at n : ℕ) (b : Buckets) → (place_clean at n b).size ≡ b.size
size_place at n b = keeps_place (λ (x : Buckets). x.size ≡ b.size) at n b (λ k. refl) refl

-- ---- pins that are gone

pins_gone : (owner : ℕ → Owner) (at n : ℕ)
    → ((t : ℕ) → within at n t ≡ true → use_of (owner t) ≡ Pinned) → (place m : ℕ)
    → both_in at n place m + pins_in (put_run owner at n Spent) place m ≡ pins_in owner place m
pins_gone owner at n own place zero = refl
pins_gone owner at n own place (suc m) =
    go (within at n (place + m)) refl (pins_gone owner at n own place m)
  where
    go : (b : Bool) → within at n (place + m) ≡ b
        → both_in at n place m + pins_in (put_run owner at n Spent) place m
        ≡ pins_in owner place m
        → ((if b then 1 else 0) + both_in at n place m)
        + (pins_of (use_of (if b then Spent else owner (place + m)))
        + pins_in (put_run owner at n Spent) place m)
        ≡ pins_of (use_of (owner (place + m))) + pins_in owner place m
    go true is rest =
        let one = ap pins_of (own (place + m) is) in omega (arith, rest, one)
    go false is rest = omega (arith, rest)

pins_same : (f g : ℕ → Owner) → ((t : ℕ) → f t ≡ g t) → (place m : ℕ)
    → pins_in f place m ≡ pins_in g place m
pins_same f g same place zero = refl
pins_same f g same place (suc m) =
    let one = ap (λ o. pins_of (use_of o)) (same (place + m)) in
    let rest = pins_same f g same place m in omega (arith, one, rest)

-- ---- the key as the books have it

abbrev pub clean_key : (first count at version : ℕ) → index.Key
clean_key first count at version = record {
  first = first;
  count = count;
  kind = Some Clean;
  place = at;
  version = version;
}

-- the books behind it
abbrev pub settled_books : whole.Opening → Books → (leaf first count at version : ℕ) → Books
settled_books w k leaf first count at version = books.after w.flow.books
    (books.after w.flow.books k (Put leaf (clean_key first count at version ∷ [])))
    (Unpin at count)

spent_twice : (b : Bool) (o : Owner) → (if b then Spent else (if b || false then Spent else o))
    ≡ (if b then Spent else o)
spent_twice true o = refl
spent_twice false o = refl

kept_fresh : (c : ℕ) (x : Owner) → x ≡ Kept c → x ≡ Fresh → ⊥
kept_fresh c x kept fresh = let e : Kept c ≡ Fresh = sym kept ∙ fresh in absurd (cc)

spent_fresh : Spent ≡ Fresh → ⊥
spent_fresh e = absurd (cc)

clean_mark : (m : Mark) (x : Bucket)
    → mark_of (marked_clean m (record x { mark = m })).mark ≡ with_key false true (mark_of m)
clean_mark marks.None x = refl
clean_mark marks.Reclaimable x = refl
clean_mark marks.Dirty x = refl
clean_mark marks.Metadata x = refl

its_mark : (n : ℕ) (x : Bucket)
    → mark_of (with_clean n x).mark ≡ with_key false true (mark_of x.mark)
its_mark n x = clean_mark x.mark (without_pins n x)

no_mark : (m : core.Mark) → with_key false false m ≡ m
no_mark core.Unmarked = refl
no_mark core.Reclaimable = refl
no_mark core.Dirtied = refl
no_mark core.Metadata = refl

-- what a mark leaves of a record
record SameBut (a b : Bucket) (n : ℕ) : Type 0 where
  generation : b.generation ≡ a.generation
  uses : b.uses ≡ a.uses
  last_gc : b.last_gc ≡ a.last_gc
  held : b.held ≡ a.held
  pins : b.pins ≡ a.pins - n

same_marked : (m : Mark) (n : ℕ) (x : Bucket) → SameBut x (marked_clean m (without_pins n x)) n
same_marked marks.None n x =
    record { generation = refl; uses = refl; last_gc = refl; held = refl; pins = refl }
same_marked marks.Reclaimable n x =
    record { generation = refl; uses = refl; last_gc = refl; held = refl; pins = refl }
same_marked marks.Dirty n x =
    record { generation = refl; uses = refl; last_gc = refl; held = refl; pins = refl }
same_marked marks.Metadata n x =
    record { generation = refl; uses = refl; last_gc = refl; held = refl; pins = refl }

module _ (w : whole.Opening) (k : Books) (p q : BucketsPart) (leaf first at count version c : ℕ)
    (laid : AreLaid w) (h : AreBucketsOf w k p) (sized : 0 < p.buckets.size)
    (some : 1 ≤ count) (one : LieInOne p.buckets at count)
    (kept : (t : ℕ) → within at count t ≡ true → k.owner t ≡ Kept c)
    (named : HasCleanKey p at count q) where
  abbrev b : Buckets
  b = p.buckets

  abbrev size : ℕ
  size = b.size

  abbrev n : ℕ
  n = at / size

  abbrev q0 : ℕ
  q0 = n - w.before

  n_is : w.before + q0 ≡ n
  n_is = number_is w b laid h.cut h.data_from sized at count some one

  abbrev then_ : Books
  then_ = settled_books w k leaf first count at version

  abbrev final : Buckets
  final = clean_at n count b

  final_is : place_clean at count b ≡ final
  final_is = ap (λ f. if f then final else b) (lt-ltb n (length b.records) one.known)

  owner_is : (t : ℕ) → then_.owner t ≡ put_run k.owner at count Spent t
  owner_is t = spent_twice (within at count t) (k.owner t)

  pins_then : (place m : ℕ) → both_in at count place m + pins_in then_.owner place m
      ≡ pins_in k.owner place m
  pins_then place m =
      let gone = pins_gone k.owner at count (λ t is. ap use_of (kept t is)) place m in
      let same = pins_same then_.owner (put_run k.owner at count Spent) owner_is place m in
      omega (arith, gone, same)

  own_pins : pins_in then_.owner (n * size) size + count ≡ pins_in k.owner (n * size) size
  own_pins =
      let all = pins_then (n * size) size in
      let part = all_in at count (n * size) size
      (low w b laid h.cut h.data_from sized at count some one)
      (high w b laid h.cut h.data_from sized at count some one) in omega (arith, all, part)

  other_pins : (j : ℕ) → j ≢ n
      → pins_in then_.owner (j * size) size ≡ pins_in k.owner (j * size) size
  other_pins j ne = go (cases_lt j n)
    where
      go : (j < n) ⊎ (n ≤ j)
          → pins_in then_.owner (j * size) size ≡ pins_in k.owner (j * size) size
      go (inl less) =
          let more : (j + 1) * size ≤ n * size = mul-le-mul_right size (omega (arith, less)) in
          let from = low w b laid h.cut h.data_from sized at count some one in
          let none = none_before at count (j * size) size (omega (arith, more, from)) in
          let is = pins_then (j * size) size in omega (arith, is, none)
      go (inr from) =
          let more : (n + 1) * size ≤ j * size =
          mul-le-mul_right size (omega (arith, from, ne)) in
          let to = high w b laid h.cut h.data_from sized at count some one in
          let none = none_behind at count (j * size) size (omega (arith, more, to)) in
          let is = pins_then (j * size) size in omega (arith, is, none)

  -- the bucket of the places
  place_is : w.flow.books.bucket at ≡ q0
  place_is = bucket_is w b laid h.cut h.data_from sized at count some one at (omega arith)
      (omega (arith, some))

  mark_here : then_.mark q0 ≡ with_key false true (k.mark q0)
  mark_here = ap (λ x. with_key false ((x == q0) || false) (k.mark q0)) place_is
      ∙ by_test q0 q0 (λ t. with_key false (t || false) (k.mark q0)
      ≡ with_key false true (k.mark q0)) (λ _. refl) (λ ne. absurd (ne refl))

  mark_there : (j : ℕ) → j ≢ q0 → then_.mark j ≡ k.mark j
  mark_there j ne = ap (λ x. with_key false ((x == j) || false) (k.mark j)) place_is
      ∙ by_test q0 j (λ t. with_key false (t || false) (k.mark j) ≡ k.mark j)
      (λ is. absurd (ne (sym is))) (λ _. no_mark (k.mark j))

  own_record : IsBucketFor (w.flow.books.version q0) q0 (buckets_in then_)
      (pins_in then_.owner (n * size) size) (with_clean count (bucket_of b n))
  own_record =
      let was : IsBucketFor (w.flow.books.version q0) q0 (buckets_in k)
      (pins_in k.owner (n * size) size) (bucket_of b n) =
      subst (λ m. IsBucketFor (w.flow.books.version q0) q0 (buckets_in k)
      (pins_in k.owner (m * size) size) (bucket_of b m)) n_is
      (h.records q0 (let is = n_is in let in_ = one.known in omega (arith, is, in_))) in
      let same = same_marked (bucket_of b n).mark count (bucket_of b n) in record {
        generation = same.generation ∙ was.generation;
        uses = was.uses ∙ ap (λ u. w.flow.books.version q0 + u) (sym same.uses);
        last_gc = same.last_gc ∙ was.last_gc;
        mark = its_mark count (bucket_of b n) ∙ ap (with_key false true) was.mark
            ∙ sym mark_here;
        pins = let pins = was.pins in let less = own_pins in let is = same.pins in
            omega (arith, pins, less, is);
        held = same.held ∙ was.held;
      }

  other_record : (j : ℕ) → w.before + j < length b.records → j ≢ q0
      → IsBucketFor (w.flow.books.version j) j (buckets_in then_)
      (pins_in then_.owner ((w.before + j) * size) size) (bucket_of b (w.before + j))
  other_record j inside ne = let was = h.records j inside in record {
    generation = was.generation;
    uses = was.uses;
    last_gc = was.last_gc;
    mark = was.mark ∙ sym (mark_there j ne);
    pins = was.pins ∙ sym (other_pins (w.before + j) (λ e. ne (let is = n_is in
        omega (arith, e, is))));
    held = was.held;
  }

  record_then : (j : ℕ) → w.before + j < length b.records → (j ≡ q0) ⊎ (j ≢ q0)
      → IsBucketFor (w.flow.books.version j) j (buckets_in then_)
      (pins_in then_.owner ((w.before + j) * size) size) (bucket_of final (w.before + j))
  record_then j inside (inl e) =
      subst (λ i. IsBucketFor (w.flow.books.version i) i (buckets_in then_)
      (pins_in then_.owner ((w.before + i) * size) size) (bucket_of final (w.before + i))) (sym e)
      (subst (λ m. IsBucketFor (w.flow.books.version q0) q0 (buckets_in then_)
      (pins_in then_.owner (m * size) size) (bucket_of final m)) (sym n_is)
      (subst (IsBucketFor (w.flow.books.version q0) q0 (buckets_in then_)
      (pins_in then_.owner (n * size) size))
      (sym (this_changes (with_clean count) n b one.known)) own_record))
  record_then j inside (inr ne) = subst (IsBucketFor (w.flow.books.version j) j (buckets_in then_)
      (pins_in then_.owner ((w.before + j) * size) size))
      (sym (other_stays (with_clean count) n b (w.before + j)
      (λ e. ne (let is = n_is in omega (arith, e, is))))) (other_record j inside ne)

  touched_then : (j : ℕ) → w.before + j < length b.records → (j ≡ q0) ⊎ (j ≢ q0)
      → slice_index_or (set b.touched n true) (w.before + j) false ≡ then_.round.touched j
  touched_then j inside (inl e) =
      ap (λ i. slice_index_or (set b.touched n true) i false)
      (let is = n_is in let same : w.before + j ≡ n = omega (arith, e, is) in same)
      ∙ get_or-set_same b.touched n true false (let each = h.round.each in let in_ = one.known in
      omega (arith, each, in_))
      ∙ sym (ap (λ x. ((x == j) || false) || k.round.touched j) place_is
      ∙ by_test q0 j (λ t. ((t || false) || k.round.touched j) ≡ true) (λ _. refl)
      (λ ne. absurd (ne (sym e))))
  touched_then j inside (inr ne) =
      get_or-set_other b.touched n (w.before + j) true false (λ e. ne (let is = n_is in
      omega (arith, e, is)))
      ∙ h.round.touches j inside
      ∙ sym (ap (λ x. ((x == j) || false) || k.round.touched j) place_is
      ∙ by_test q0 j (λ t. ((t || false) || k.round.touched j) ≡ k.round.touched j)
      (λ is. absurd (ne (sym is))) (λ _. refl))

  outside_then : (m : ℕ) → m < w.before → (bucket_of final m).mark ≡ marks.Metadata
  outside_then m less = ap (λ (x : Bucket). x.mark)
      (other_stays (with_clean count) n b m (λ e. let is = n_is in omega (arith, e, less, is)))
      ∙ h.outside m less

  -- which places are still to be placed, is as before
  still_fresh : (t : ℕ) → k.owner t ≡ Fresh → then_.owner t ≡ Fresh
  still_fresh t fresh = owner_is t
      ∙ put_run_cases k.owner at count t Spent (λ x. x ≡ Fresh) (λ out. fresh)
      (λ is. absurd (kept_fresh c (k.owner t) (kept t is) fresh))

  was_fresh : (t : ℕ) → then_.owner t ≡ Fresh → k.owner t ≡ Fresh
  was_fresh t is = put_run_cases k.owner at count t Spent (λ x. x ≡ Fresh → k.owner t ≡ Fresh)
      (λ out fresh. fresh) (λ in_ spent. absurd (spent_fresh spent)) (sym (owner_is t) ∙ is)

  places_then : StandFor w.before size p.fill p.reserves then_
  places_then = record {
    opens = record {
      buckets = h.places.opens.buckets;
      free = λ t is. still_fresh t (h.places.opens.free t is);
      given = λ j t there from to fresh.
          h.places.opens.given j t there from to (was_fresh t fresh);
    };
    lists = record { lists = h.places.lists.lists; raised = h.places.lists.raised };
  }

  long : length final.records ≡ length b.records
  long = same_length (with_clean count) n b

  q_is : q.buckets ≡ final
  q_is = named.buckets ∙ final_is

  pub settled_stand : AreBucketsOf w then_ q
  settled_stand = record {
    cut = subst (λ (x : Buckets). IsCutInto x.size (length x.records) w) (sym q_is)
        (subst (λ m. IsCutInto size m w) (sym long) h.cut);
    data_from = ap (λ (x : Buckets). x.data_from) q_is ∙ h.data_from;
    records = subst (λ (x : Buckets). (j : ℕ) → w.before + j < length x.records
        → IsBucketFor (w.flow.books.version j) j (buckets_in then_)
        (pins_in then_.owner ((w.before + j) * x.size) x.size) (bucket_of x (w.before + j)))
        (sym q_is)
        (λ j inside. record_then j (let same = long in omega (arith, same, inside))
        (cases_eq j q0));
    places = subst (λ (x : Buckets). StandFor w.before x.size q.fill q.reserves then_) (sym q_is)
        (subst (λ (fs : List Open). StandFor w.before size fs q.reserves then_)
        (sym named.fill)
        (subst (λ (r : Reserves). StandFor w.before size p.fill r then_) (sym named.reserves)
        places_then));
    outside = λ m less. ap (λ (x : Buckets). (bucket_of x m).mark) q_is ∙ outside_then m less;
    room = ap (λ (r : Reserves). (list_of list.Priorities r).room) named.reserves ∙ h.room;
    chain = chain_stays w.before w.flow.books.sets k.chains.of k.chains.ready k.chains.sealed p q
        named.rest h.chain;
    round = subst (λ (x : Buckets). IsRoundOf w.flow.books w.before (length x.records)
        then_.round x.touched q.round) (sym q_is)
        (subst (λ (t : Tracing). IsRoundOf w.flow.books w.before (length final.records)
        then_.round final.touched t) (sym named.rest.round)
        (subst (λ m. IsRoundOf w.flow.books w.before m then_.round final.touched p.round)
        (sym long)
        (touched_round w.flow.books w.before k.round p.round then_.round.touched
        (length b.records) b.touched final.touched (length-set b.touched n true ∙ h.round.each)
        (λ j inside. touched_then j inside (cases_eq j q0)) h.round)));
  }
