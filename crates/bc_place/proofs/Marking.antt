-- Places are named by the keys of a write: what that makes of the buckets, and that these stand for
-- the state behind it.
use Rattle.std.proofs.Common.{◌≡◌, ◌≢◌, ◌⊎◌, inl, inr, ℕ, zero, suc, ◌+◌, ◌-◌, ◌*◌, ◌/◌, ◌<◌, ◌≤◌, Bool, true, false, List, [], ◌∷◌, ◌++◌, length, reverse, get_or, set, take, refl, sym, ap, ◌∙◌, subst, arith, get_or-set_same, get_or-set_other, length-set}
use Rattle.std.specs.Prelude.{◌==◌, ◌&&◌, ◌||◌, if◌then◌else◌, nat_lt, slice_index_or}
use Rattle.std.proofs.lemmas.Bool.{cases_eq, cases_lt, lt-ltb}
use Rattle.std.proofs.lemmas.List.{take_more}
use Rattle.std.proofs.lemmas.Nat.{div-mul-add}
use Rattle.std.proofs.Math.Nat.{mul-le-mul_right}
use Rattle.bc_alloc.proofs.Fits.{changed_twice, other_stays, same_length, this_changes}
use Rattle.bc_alloc.specs.Buckets.{AreFor}
use Rattle.bc_alloc.specs.Reserves.{Reserves, list_of}
use Rattle.bc_alloc.specs.declared.purpose.Purpose.TheVariants as list
use Rattle.bc_books.proofs.Cases.{by_within, put_run_cases}
use Rattle.bc_books.specs.After as books
use Rattle.bc_books.specs.Books.{Books, Put}
use Rattle.bc_books.specs.Index.{Dirty, dirties, if_dirty, if_points, names, put, touches, within}
use Rattle.bc_books.specs.Index as index
use Rattle.bc_books.specs.Marks.{Mark, Dirtied, with_key}
use Rattle.bc_books.specs.Round.{with_touched}
use Rattle.bc_books.specs.Shelves.{Fresh, Own, Owner, Spent, put_run}
use Rattle.bc_bucket.specs.Bucket.{marked}
use Rattle.bc_bucket.specs.Buckets.{Buckets, bucket_of, changed}
use Rattle.bc_bucket.specs.declared.bucket.Bucket.{Bucket}
use Rattle.bc_bucket.specs.declared.bucket.Mark.TheVariants as marks
use Rattle.bc_events.specs.Keys.{book_keys}
use Rattle.bc_fill.specs.Fill.{AreOpen}
use Rattle.bc_fill.specs.Fresh.{IsApart, IsOf}
use Rattle.bc_fill.specs.declared.fill.Open.{Open}
use Rattle.bc_fill.specs.declared.fill.Placed.{Placed}
use Rattle.bc_key.specs.declared.key.Key.{Key}
use Rattle.bc_deed.proofs.of_bc_machine.Buckets.{chain_stays, touched_round}
use Rattle.bc_deed.specs.bc_machine.Containers.{AreBucketsOf, IsBucketFor, IsRoundOf, pins_in, pins_of}
use Rattle.bc_deed.specs.bc_machine.Frame.{by_test}
use Rattle.bc_deed.specs.bc_machine.declared.part.BucketsPart.{BucketsPart}
use Rattle.bc_deed.specs.bc_machine.declared.part.Tracing.{Tracing}
use Rattle.bc_places.specs.Stands.{IsCutInto, StandFor}
use Rattle.bc_shares.specs.Shares.{buckets_in, use_of}
use Rattle.bc_whole.specs.State as whole
use Rattle.bc_place.specs.Next.{HasNamed, all_named, named_at, place_named, with_named, without_pins}
use Rattle.bc_place.specs.Laws.{LawNamed}
use Rattle.bc_place.specs.Named.{AreKeysFor, AreOwnIn, IsApartFrom}
use Rattle.bc_place.specs.Place.{LiesIn}
use Rattle.bc_place.proofs.Counting.{all_in, both_in, none_before, none_behind, pins_behind}
use Rattle.bc_place.proofs.Counts.{same_change}
use Rattle.bc_place.proofs.Fitting.{still_fit, still_open}
use Rattle.bc_place.proofs.Inserting.{book_is, book_of, books_for, books_reverse, turned}

-- ---- what the calls do

pub names_in : (k n used : ℕ) (b c d : Buckets) → k < length b.records
    → c ≡ changed (without_pins n) k b → used ≡ (bucket_of c k).used
    → d ≡ changed (marked marks.Dirty used) k c
    → record d { touched = set d.touched k true } ≡ named_at k n b
names_in k n used b c d inside is at marks_it =
    let it = ap (λ x. bucket_of x k) is ∙ this_changes (without_pins n) k b inside in
    let its : used ≡ (bucket_of b k).used = at ∙ ap (λ (x : Bucket). x.used) it in
    let all : d ≡ changed (with_named n) k b = marks_it
    ∙ ap (λ x. changed (marked marks.Dirty used) k x) is
    ∙ changed_twice (without_pins n) (marked marks.Dirty used) k b inside
    ∙ same_change (λ x. marked marks.Dirty used (without_pins n x)) (with_named n) k b
    (ap (λ u. marked marks.Dirty u (without_pins n (bucket_of b k))) its) in
    ap (λ (x : Buckets). record x { touched = set x.touched k true }) all

pub named_append : (ps : List Placed) (p : Placed) (b : Buckets)
    → all_named (ps ++ p ∷ []) b ≡ place_named p (all_named ps b)
named_append [] p b = refl
named_append (q ∷ qs) p b = named_append qs p (place_named q b)

pub named_more : (ps : List Placed) (i : ℕ) (p : Placed) (b c : Buckets) → i < length ps
    → p ≡ get_or ps i p → c ≡ all_named (take i ps) b
    → place_named p c ≡ all_named (take (i + 1) ps) b
named_more ps i p b c inside is so_far = ap (place_named p) so_far
    ∙ sym (named_append (take i ps) p b)
    ∙ ap (λ (qs : List Placed). all_named qs b)
    (ap (λ q. take i ps ++ q ∷ []) is ∙ sym (take_more ps i p inside))

-- what one place keeps, all keep
one_keeps : (P : Buckets → Type 0) (p : Placed) (b : Buckets)
    → ((k : ℕ) → P (named_at k p.count b)) → P b → P (place_named p b)
one_keeps P p b named same =
    go (nat_lt (p.ptr.offset / b.size) (length b.records))
  where
    go : (c : Bool) → P (if c then named_at (p.ptr.offset / b.size) p.count b else b)
    go true = named (p.ptr.offset / b.size)
    go false = same

fit_at : (r : Reserves) (k n : ℕ) (b : Buckets) → AreFor r b → AreFor r (named_at k n b)
fit_at r k n b h = let there = still_fit (with_named n) (λ x. refl) k r b h in
    record { same_count = there.same_count; not_held = there.not_held }

open_at : (fs : List Open) (r : Reserves) (k n : ℕ) (b : Buckets) → AreOpen fs r b
    → AreOpen fs r (named_at k n b)
open_at fs r k n b h = let there = still_open (with_named n) (λ x. refl) k fs r b h in
    record { distinct = there.distinct; each = there.each; free = there.free }

pub fit_named : (r : Reserves) (ps : List Placed) (b : Buckets) → AreFor r b
    → AreFor r (all_named ps b)
fit_named r [] b h = h
fit_named r (p ∷ ps) b h = fit_named r ps (place_named p b)
    (one_keeps (AreFor r) p b (λ k. fit_at r k p.count b h) h)

pub open_named : (fs : List Open) (r : Reserves) (ps : List Placed) (b : Buckets) → AreOpen fs r b
    → AreOpen fs r (all_named ps b)
open_named fs r [] b h = h
open_named fs r (p ∷ ps) b h = open_named fs r ps (place_named p b)
    (one_keeps (AreOpen fs r) p b (λ k. open_at fs r k p.count b h) h)

one_size : (p : Placed) (b : Buckets) → (place_named p b).size ≡ b.size
one_size p b = one_keeps (λ (x : Buckets). x.size ≡ b.size) p b (λ k. refl) refl

pub size_named : (ps : List Placed) (b : Buckets) → (all_named ps b).size ≡ b.size
size_named [] b = refl
size_named (p ∷ ps) b = size_named ps (place_named p b) ∙ one_size p b

one_long : (p : Placed) (b : Buckets)
    → length (place_named p b).records ≡ length b.records
one_long p b = one_keeps (λ (x : Buckets). length x.records ≡ length b.records) p b
    (λ k. same_length (with_named p.count) k b) refl

pub long_named : (ps : List Placed) (b : Buckets)
    → length (all_named ps b).records ≡ length b.records
long_named [] b = refl
long_named (p ∷ ps) b = long_named ps (place_named p b) ∙ one_long p b

-- ---- one place

-- the buckets stand for these books
record Stands (w : whole.Opening) (fs : List Open) (r : Reserves) (k : Books) (b : Buckets) :
    Type 0 where
  cut : IsCutInto b.size (length b.records) w
  data_from : b.data_from ≡ w.before + w.layout.journal
  records : (q : ℕ) → w.before + q < length b.records
      → IsBucketFor (w.flow.books.version q) q (buckets_in k)
      (pins_in k.owner ((w.before + q) * b.size) b.size) (bucket_of b (w.before + q))
  places : StandFor w.before b.size fs r k
  outside : (n : ℕ) → n < w.before → (bucket_of b n).mark ≡ marks.Metadata
  each : length b.touched ≡ length b.records
  touches : (q : ℕ) → w.before + q < length b.records
      → slice_index_or b.touched (w.before + q) false ≡ k.round.touched q

run_in : (at n t : ℕ) → within at n t ≡ true → (at ≤ t) × (t < at + n)
run_in at n t = by_within at n t (λ b. b ≡ true → (at ≤ t) × (t < at + n)) (λ r _. r)
    (λ _ e. absurd (cc))

own_fresh : (i : ℕ) (x : Owner) → x ≡ Own i → x ≡ Fresh → ⊥
own_fresh i x own fresh = let e : Own i ≡ Fresh = sym own ∙ fresh in absurd (cc)

spent_fresh : Spent ≡ Fresh → ⊥
spent_fresh e = absurd (cc)

-- the books once a place was named
abbrev with_place : (ℕ → ℕ) → Placed → Books → Books
with_place bucket p k = record k {
  owner = put_run k.owner p.ptr.offset p.count Spent;
  mark = put k.mark (bucket p.ptr.offset) Dirtied;
  round = with_touched (λ q. bucket p.ptr.offset == q) k.round;
}

module _ (w : whole.Opening) (fs : List Open) (r : Reserves) (i : ℕ) (k : Books) (b : Buckets)
    (h : Stands w fs r k b) (pl : Placed) (some : 1 ≤ pl.count)
    (its : (t : ℕ) → IsOf pl t → k.owner t ≡ Own i)
    (lies : LiesIn w.layout (w.flow.books.bucket pl.ptr.offset) pl) where
  abbrev size : ℕ
  size = b.size

  abbrev at : ℕ
  at = pl.ptr.offset

  abbrev count : ℕ
  count = pl.count

  own : (t : ℕ) → within at count t ≡ true → k.owner t ≡ Own i
  own t is = its t (run_in at count t is)

  abbrev q0 : ℕ
  q0 = w.flow.books.bucket at

  abbrev number : ℕ
  number = w.before + q0

  low : number * size ≤ at
  low = let first = h.cut.first q0 in let from = lies.low in omega (arith, first, from)

  high : at + count ≤ number * size + size
  high =
      let first = h.cut.first q0 in
      let to = lies.high in
      let sectors = h.cut.sectors in omega (arith, first, to, sectors)

  known : number < length b.records
  known =
      let many = h.cut.buckets in
      let below = lies.bucket in omega (arith, many, below)

  number_is : at / size ≡ number
  number_is =
      let from = low in
      let to = high in
      let is : at ≡ number * size + (at - number * size) = omega (arith, from) in
      ap (λ n. n / size) is
      ∙ div-mul-add number size (at - number * size) (omega (arith, from, to, some))

  abbrev then_ : Books
  then_ = with_place w.flow.books.bucket pl k

  own_pins : pins_in then_.owner (number * size) size + count
      ≡ pins_in k.owner (number * size) size
  own_pins =
      let all = pins_behind k.owner i at count own (number * size) size in
      let part = all_in at count (number * size) size low high in omega (arith, all, part)

  other_pins : (j : ℕ) → j ≢ number
      → pins_in then_.owner (j * size) size ≡ pins_in k.owner (j * size) size
  other_pins j ne = go (cases_lt j number)
    where
      all : both_in at count (j * size) size + pins_in then_.owner (j * size) size
          ≡ pins_in k.owner (j * size) size
      all = pins_behind k.owner i at count own (j * size) size

      go : (j < number) ⊎ (number ≤ j)
          → pins_in then_.owner (j * size) size ≡ pins_in k.owner (j * size) size
      go (inl less) =
          let more : (j + 1) * size ≤ number * size = mul-le-mul_right size (omega (arith, less)) in
          let from = low in
          let none = none_before at count (j * size) size (omega (arith, more, from)) in
          let is = all in omega (arith, is, none)
      go (inr from) =
          let more : (number + 1) * size ≤ j * size =
          mul-le-mul_right size (omega (arith, from, ne)) in
          let to = high in
          let none = none_behind at count (j * size) size (omega (arith, more, to)) in
          let is = all in omega (arith, is, none)

  abbrev final : Buckets
  final = named_at number count b

  its_mark : put k.mark q0 Dirtied q0 ≡ Dirtied
  its_mark = by_test q0 q0 (λ c. (if c then Dirtied else k.mark q0) ≡ Dirtied) (λ _. refl)
      (λ ne. absurd (ne refl))

  other_mark : (j : ℕ) → j ≢ q0 → put k.mark q0 Dirtied j ≡ k.mark j
  other_mark j ne = by_test j q0 (λ c. (if c then Dirtied else k.mark j) ≡ k.mark j)
      (λ is. absurd (ne is)) (λ _. refl)

  own_record : IsBucketFor (w.flow.books.version q0) q0 (buckets_in then_)
      (pins_in then_.owner (number * size) size) (with_named count (bucket_of b number))
  own_record = let was = h.records q0 known in record {
    generation = was.generation;
    uses = was.uses;
    last_gc = was.last_gc;
    mark = sym its_mark;
    pins = let pins = was.pins in let less = own_pins in omega (arith, pins, less);
    held = was.held;
  }

  other_record : (j : ℕ) → w.before + j < length b.records → j ≢ q0
      → IsBucketFor (w.flow.books.version j) j (buckets_in then_)
      (pins_in then_.owner ((w.before + j) * size) size) (bucket_of b (w.before + j))
  other_record j inside ne = let was = h.records j inside in record {
    generation = was.generation;
    uses = was.uses;
    last_gc = was.last_gc;
    mark = was.mark ∙ sym (other_mark j ne);
    pins = was.pins ∙ sym (other_pins (w.before + j) (λ e. ne (omega (arith, e))));
    held = was.held;
  }

  record_then : (j : ℕ) → w.before + j < length b.records → (j ≡ q0) ⊎ (j ≢ q0)
      → IsBucketFor (w.flow.books.version j) j (buckets_in then_)
      (pins_in then_.owner ((w.before + j) * size) size) (bucket_of final (w.before + j))
  record_then j inside (inl e) = subst (λ n. IsBucketFor (w.flow.books.version n) n (buckets_in then_)
      (pins_in then_.owner ((w.before + n) * size) size) (bucket_of final (w.before + n))) (sym e)
      (subst (IsBucketFor (w.flow.books.version q0) q0 (buckets_in then_)
      (pins_in then_.owner (number * size) size))
      (sym (this_changes (with_named count) number b known)) own_record)
  record_then j inside (inr ne) = subst (IsBucketFor (w.flow.books.version j) j (buckets_in then_)
      (pins_in then_.owner ((w.before + j) * size) size))
      (sym (other_stays (with_named count) number b (w.before + j)
      (λ e. ne (omega (arith, e))))) (other_record j inside ne)

  touched_then : (j : ℕ) → w.before + j < length b.records → (j ≡ q0) ⊎ (j ≢ q0)
      → slice_index_or (set b.touched number true) (w.before + j) false ≡ then_.round.touched j
  touched_then j inside (inl e) =
      ap (λ n. slice_index_or (set b.touched number true) (w.before + n) false) e
      ∙ get_or-set_same b.touched number true false (let each = h.each in let in_ = known in
      omega (arith, each, in_))
      ∙ sym (by_test q0 j (λ c. (c || k.round.touched j) ≡ true) (λ _. refl)
      (λ ne. absurd (ne (sym e))))
  touched_then j inside (inr ne) =
      get_or-set_other b.touched number (w.before + j) true false (λ e. ne (omega (arith, e)))
      ∙ h.touches j inside
      ∙ sym (by_test q0 j (λ c. (c || k.round.touched j) ≡ k.round.touched j)
      (λ is. absurd (ne (sym is))) (λ _. refl))

  outside_then : (n : ℕ) → n < w.before → (bucket_of final n).mark ≡ marks.Metadata
  outside_then n less = ap (λ (x : Bucket). x.mark)
      (other_stays (with_named count) number b n (λ e. omega (arith, e, less))) ∙ h.outside n less

  still_fresh : (t : ℕ) → k.owner t ≡ Fresh → then_.owner t ≡ Fresh
  still_fresh t fresh = put_run_cases k.owner at count t Spent (λ x. x ≡ Fresh) (λ out. fresh)
      (λ is. absurd (own_fresh i (k.owner t) (own t is) fresh))

  was_fresh : (t : ℕ) → then_.owner t ≡ Fresh → k.owner t ≡ Fresh
  was_fresh t = put_run_cases k.owner at count t Spent (λ x. x ≡ Fresh → k.owner t ≡ Fresh)
      (λ out fresh. fresh) (λ is spent. absurd (spent_fresh spent))

  final_stands : Stands w fs r then_ final
  final_stands = record {
    cut = subst (λ n. IsCutInto size n w) (sym (same_length (with_named count) number b)) h.cut;
    data_from = h.data_from;
    records = λ j inside. record_then j
        (let long = same_length (with_named count) number b in omega (arith, long, inside))
        (cases_eq j q0);
    places = record {
      opens = record {
        buckets = h.places.opens.buckets;
        free = λ t is. still_fresh t (h.places.opens.free t is);
        given = λ j t there from to fresh.
            h.places.opens.given j t there from to (was_fresh t fresh);
      };
      lists = record { lists = h.places.lists.lists; raised = h.places.lists.raised };
    };
    outside = outside_then;
    each = length-set b.touched number true ∙ h.each
        ∙ sym (same_length (with_named count) number b);
    touches = λ j inside. touched_then j
        (let long = same_length (with_named count) number b in omega (arith, long, inside))
        (cases_eq j q0);
  }

  one_stands : Stands w fs r then_ (place_named pl b)
  one_stands = subst (Stands w fs r then_)
      (sym (ap (λ n. if nat_lt n (length b.records) then named_at n count b else b) number_is
      ∙ ap (λ c. if c then final else b) (lt-ltb number (length b.records) known)))
      final_stands

-- ---- all of them

abbrev pub named_owner : (ℕ → Owner) → List Placed → ℕ → Owner
named_owner owner [] = owner
named_owner owner (p ∷ ps) = named_owner (put_run owner p.ptr.offset p.count Spent) ps

abbrev named_mark : (ℕ → ℕ) → (ℕ → Mark) → List Placed → ℕ → Mark
named_mark bucket mark [] = mark
named_mark bucket mark (p ∷ ps) = named_mark bucket (put mark (bucket p.ptr.offset) Dirtied) ps

abbrev named_touched : (ℕ → ℕ) → (ℕ → Bool) → List Placed → ℕ → Bool
named_touched bucket touched [] = touched
named_touched bucket touched (p ∷ ps) =
    named_touched bucket (λ q. (bucket p.ptr.offset == q) || touched q) ps

abbrev with_places : (ℕ → ℕ) → List Placed → Books → Books
with_places bucket ps k = record k {
  owner = named_owner k.owner ps;
  mark = named_mark bucket k.mark ps;
  round = record k.round { touched = named_touched bucket k.round.touched ps };
}

own_outside : (i : ℕ) (k : Books) (p q : Placed) → IsApart p q
    → ((t : ℕ) → IsOf q t → k.owner t ≡ Own i) → (t : ℕ) → IsOf q t
    → put_run k.owner p.ptr.offset p.count Spent t ≡ Own i
own_outside i k p q apart own t of = by_within p.ptr.offset p.count t
    (λ b. (if b then Spent else k.owner t) ≡ Own i) (λ inside. absurd (apart t inside of))
    (λ _. own t of)

still_own : (w : whole.Opening) (i : ℕ) (k : Books) (p : Placed) (ps : List Placed)
    → IsApartFrom p ps → AreOwnIn w i k ps → AreOwnIn w i (with_place w.flow.books.bucket p k) ps
still_own w i k p [] apart own = tt
still_own w i k p (q ∷ qs) apart own = (
  record {
    some = own.0.some;
    own = own_outside i k p q apart.0 own.0.own;
    lies = own.0.lies;
    generation = own.0.generation;
  },
  (own.1.0, still_own w i k p qs apart.1 own.1.1),
)

all_stand : (w : whole.Opening) (fs : List Open) (r : Reserves) (i : ℕ) (ps : List Placed) (k : Books)
    (b : Buckets) → Stands w fs r k b → AreOwnIn w i k ps
    → Stands w fs r (with_places w.flow.books.bucket ps k) (all_named ps b)
all_stand w fs r i [] k b h own = h
all_stand w fs r i (p ∷ ps) k b h own = all_stand w fs r i ps (with_place w.flow.books.bucket p k)
    (place_named p b) (one_stands w fs r i k b h p own.0.some own.0.own own.0.lies)
    (still_own w i k p ps own.1.0 own.1.1)

-- ---- by one insertion

or_last : (x y : Bool) (o : Owner) → (if x || (y || false) then Spent else o)
    ≡ (if x then Spent else (if y then Spent else o))
or_last true y o = refl
or_last false true o = refl
or_last false false o = refl

key_last : (d a x : Bool) (m : Mark) → with_key (d || ((true && x) || false)) (a || (x || false)) m
    ≡ with_key d a (if x then Dirtied else m)
key_last true a x m = refl
key_last false true true m = refl
key_last false true false m = refl
key_last false false true m = refl
key_last false false false m = refl

touch_last : (x y t : Bool) → ((x || (y || false)) || t) ≡ (x || (y || t))
touch_last true y t = refl
touch_last false true t = refl
touch_last false false t = refl

flip : (a b : ℕ) → (a == b) ≡ (b == a)
flip a b = by_test a b (λ c. c ≡ (b == a))
    (λ is. sym (by_test b a (λ c. c ≡ true) (λ _. refl) (λ ne. absurd (ne (sym is)))))
    (λ ne. sym (by_test b a (λ c. c ≡ false) (λ is. absurd (ne (sym is))) (λ _. refl)))

or_both : (a b c : Bool) → (a || (b || c)) ≡ ((a || b) || c)
or_both true b c = refl
or_both false b c = refl

names_append : (xs ys : List index.Key) (t : ℕ) → names (xs ++ ys) t ≡ (names xs t || names ys t)
names_append [] ys t = refl
names_append (x ∷ xs) ys t = ap (λ b. if_points x.kind (within x.place x.count t) || b)
    (names_append xs ys t) ∙ or_both _ (names xs t) (names ys t)

dirties_append : (bucket : ℕ → ℕ) (xs ys : List index.Key) (q : ℕ)
    → dirties bucket (xs ++ ys) q ≡ (dirties bucket xs q || dirties bucket ys q)
dirties_append bucket [] ys q = refl
dirties_append bucket (x ∷ xs) ys q = ap (λ b. if_dirty x.kind (bucket x.place == q) || b)
    (dirties_append bucket xs ys q) ∙ or_both _ (dirties bucket xs q) (dirties bucket ys q)

touches_append : (bucket : ℕ → ℕ) (xs ys : List index.Key) (q : ℕ)
    → touches bucket (xs ++ ys) q ≡ (touches bucket xs q || touches bucket ys q)
touches_append bucket [] ys q = refl
touches_append bucket (x ∷ xs) ys q = ap (λ b. if_points x.kind (bucket x.place == q) || b)
    (touches_append bucket xs ys q) ∙ or_both _ (touches bucket xs q) (touches bucket ys q)

module _ (bucket version : ℕ → ℕ) where
  abbrev pub listed : ℕ → List Placed → List index.Key
  listed n ps = reverse (books_for bucket version n ps)

  pub owner_is : (ps : List Placed) (n : ℕ) (owner : ℕ → Owner) (t : ℕ)
      → (if names (listed n ps) t then Spent else owner t) ≡ named_owner owner ps t
  owner_is [] n owner t = refl
  owner_is (p ∷ ps) n owner t =
      ap (λ ks. if names ks t then Spent else owner t)
      (turned (book_of bucket version n p) (books_for bucket version (n + p.count) ps))
      ∙ ap (λ b. if b then Spent else owner t) (names_append (listed (n + p.count) ps)
      (book_of bucket version n p ∷ []) t)
      ∙ or_last (names (listed (n + p.count) ps) t) (within p.ptr.offset p.count t) (owner t)
      ∙ owner_is ps (n + p.count) (put_run owner p.ptr.offset p.count Spent) t

  mark_is : (ps : List Placed) (n : ℕ) (mark : ℕ → Mark) (q : ℕ)
      → with_key (dirties bucket (listed n ps) q) (touches bucket (listed n ps) q) (mark q)
      ≡ named_mark bucket mark ps q
  mark_is [] n mark q = refl
  mark_is (p ∷ ps) n mark q =
      ap (λ ks. with_key (dirties bucket ks q) (touches bucket ks q) (mark q))
      (turned (book_of bucket version n p) (books_for bucket version (n + p.count) ps))
      ∙ ap (λ d. with_key d (touches bucket
      (listed (n + p.count) ps ++ book_of bucket version n p ∷ []) q) (mark q))
      (dirties_append bucket (listed (n + p.count) ps) (book_of bucket version n p ∷ []) q)
      ∙ ap (λ a. with_key (dirties bucket (listed (n + p.count) ps) q
      || ((true && (bucket p.ptr.offset == q)) || false)) a (mark q))
      (touches_append bucket (listed (n + p.count) ps) (book_of bucket version n p ∷ []) q)
      ∙ key_last (dirties bucket (listed (n + p.count) ps) q)
      (touches bucket (listed (n + p.count) ps) q) (bucket p.ptr.offset == q) (mark q)
      ∙ ap (λ b. with_key (dirties bucket (listed (n + p.count) ps) q)
      (touches bucket (listed (n + p.count) ps) q) (if b then Dirtied else mark q))
      (flip (bucket p.ptr.offset) q)
      ∙ mark_is ps (n + p.count) (put mark (bucket p.ptr.offset) Dirtied) q

  pub touched_is : (ps : List Placed) (n : ℕ) (touched : ℕ → Bool) (q : ℕ)
      → (touches bucket (listed n ps) q || touched q) ≡ named_touched bucket touched ps q
  touched_is [] n touched q = refl
  touched_is (p ∷ ps) n touched q =
      ap (λ ks. touches bucket ks q || touched q)
      (turned (book_of bucket version n p) (books_for bucket version (n + p.count) ps))
      ∙ ap (λ b. b || touched q) (touches_append bucket (listed (n + p.count) ps)
      (book_of bucket version n p ∷ []) q)
      ∙ touch_last (touches bucket (listed (n + p.count) ps) q) (bucket p.ptr.offset == q)
      (touched q)
      ∙ touched_is ps (n + p.count) (λ b. (bucket p.ptr.offset == b) || touched b) q

pins_same : (f g : ℕ → Owner) → ((t : ℕ) → f t ≡ g t) → (place m : ℕ)
    → pins_in f place m ≡ pins_in g place m
pins_same f g same place zero = refl
pins_same f g same place (suc m) =
    let one = ap (λ o. pins_of (use_of o)) (same (place + m)) in
    let rest = pins_same f g same place m in omega (arith, one, rest)

-- keys have the form that books have
pub keys_listed : (w : whole.Opening) (i : ℕ) (k : Books) (n : ℕ) (ps : List Placed) (keys : List Key)
    → AreKeysFor n ps keys → AreOwnIn w i k ps
    → book_keys w.flow.books.bucket k.generations.version keys
    ≡ books_for w.flow.books.bucket k.generations.version n ps
keys_listed w i k n [] [] are own = refl
keys_listed w i k n [] (x ∷ xs) are own = absurd are
keys_listed w i k n (p ∷ ps) [] are own = absurd are
keys_listed w i k n (p ∷ ps) (x ∷ xs) are own =
    ap (λ y. y ∷ book_keys w.flow.books.bucket k.generations.version xs)
    (book_is w.flow.books.bucket k.generations.version n p x are.0 own.0.generation)
    ∙ ap (λ ys. book_of w.flow.books.bucket k.generations.version n p ∷ ys)
    (keys_listed w i k (n + p.count) ps xs are.1 own.1.1)

module _ (w : whole.Opening) (fs : List Open) (r : Reserves) (k : Books) (leaf n : ℕ)
    (ps : List Placed) where
  abbrev inserted : Books
  inserted = books.after w.flow.books k
      (Put leaf (listed w.flow.books.bucket k.generations.version n ps))

  same_owner : (t : ℕ) → inserted.owner t ≡ named_owner k.owner ps t
  same_owner t = owner_is w.flow.books.bucket k.generations.version ps n k.owner t

  insertion_stands : (b : Buckets) → Stands w fs r (with_places w.flow.books.bucket ps k) b
      → Stands w fs r inserted b
  insertion_stands b h = record {
    cut = h.cut;
    data_from = h.data_from;
    records = λ q inside. let was = h.records q inside in record {
      generation = was.generation;
      uses = was.uses;
      last_gc = was.last_gc;
      mark = was.mark
          ∙ sym (mark_is w.flow.books.bucket k.generations.version ps n k.mark q);
      pins = was.pins ∙ sym (pins_same inserted.owner (named_owner k.owner ps) same_owner
          ((w.before + q) * b.size) b.size);
      held = was.held;
    };
    places = record {
      opens = record {
        buckets = h.places.opens.buckets;
        free = λ t is. same_owner t ∙ h.places.opens.free t is;
        given = λ j t there from to fresh.
            h.places.opens.given j t there from to (sym (same_owner t) ∙ fresh);
      };
      lists = record { lists = h.places.lists.lists; raised = h.places.lists.raised };
    };
    outside = h.outside;
    each = h.each;
    touches = λ q inside. h.touches q inside
        ∙ sym (touched_is w.flow.books.bucket k.generations.version ps n k.round.touched q);
  }

-- the part behind the insertion stands for the books behind it
module _ (w : whole.Opening) (k : Books) (p q : BucketsPart) (leaf n : ℕ) (ps : List Placed)
    (h : AreBucketsOf w k p) (named : HasNamed p ps q) where
  abbrev behind : Books
  behind = inserted w p.fill p.reserves k leaf n ps

  as_part : Stands w p.fill p.reserves behind (all_named ps p.buckets) → AreBucketsOf w behind q
  as_part s =
      let there = subst (Stands w p.fill p.reserves behind) (sym named.buckets) s in
      let long = ap (λ (b : Buckets). length b.records) named.buckets ∙ long_named ps p.buckets in
      record {
        cut = there.cut;
        data_from = there.data_from;
        records = there.records;
        places = subst (λ (gs : List Open). StandFor w.before q.buckets.size gs q.reserves behind)
            (sym named.fill)
            (subst (λ (y : Reserves). StandFor w.before q.buckets.size p.fill y behind)
            (sym named.reserves) there.places);
        outside = there.outside;
        room = ap (λ (y : Reserves). (list_of list.Priorities y).room) named.reserves ∙ h.room;
        chain = chain_stays w.before w.flow.books.sets k.chains.of k.chains.ready k.chains.sealed p
            q named.rest h.chain;
        round = subst (λ (t : Tracing). IsRoundOf w.flow.books w.before
            (length q.buckets.records) behind.round q.buckets.touched t) (sym named.rest.round)
            (touched_round w.flow.books w.before k.round p.round behind.round.touched
            (length q.buckets.records) p.buckets.touched q.buckets.touched there.each
            there.touches (subst (λ m. IsRoundOf w.flow.books w.before m k.round
            p.buckets.touched p.round) (sym long) h.round));
      }

pub law_named : LawNamed
law_named w k p q i n leaf ps keys are own h named =
    let listed_ = books_reverse w.flow.books.bucket k.generations.version keys
    ∙ ap (λ ks. reverse ks) (keys_listed w i k n ps keys are own) in
    let all = insertion_stands w p.fill p.reserves k leaf n ps (all_named ps p.buckets)
    (all_stand w p.fill p.reserves i ps k p.buckets (record {
      cut = h.cut;
      data_from = h.data_from;
      records = h.records;
      places = h.places;
      outside = h.outside;
      each = h.round.each;
      touches = h.round.touches;
    }) own) in
    subst (λ ks. AreBucketsOf w (books.after w.flow.books k (Put leaf ks)) q) (sym listed_)
    (as_part w k p q leaf n ps h named all)
