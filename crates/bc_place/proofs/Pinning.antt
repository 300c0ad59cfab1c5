-- A place is pinned: when that may be, what the buckets in hand stand for then, and what its seat
-- knows of it.
use Rattle.std.proofs.Common.{◌≡◌, ◌≢◌, ◌⊎◌, inl, inr, ℕ, ◌+◌, ◌-◌, ◌*◌, ◌%◌, ◌^◌, ◌<◌, ◌≤◌, ◌==◌, Bool, true, false, List, ◌∷◌, length, refl, sym, ap, ◌∙◌, subst, arith}
use Rattle.std.specs.Prelude.{if◌then◌else◌, min}
use Rattle.std.proofs.lemmas.Bool.{cases_eq, cases_lt, lt-ltb}
use Rattle.std.proofs.Math.Nat.{mul-le-mul_right}
use Rattle.bc_alloc.proofs.Fits.{other_stays, same_length, this_changes}
use Rattle.bc_alloc.specs.Reserve.{times}
use Rattle.bc_alloc.specs.Reserves.{Reserves, list_of}
use Rattle.bc_alloc.specs.declared.purpose.Purpose.TheVariants as list
use Rattle.bc_books.proofs.Cases.{by_within}
use Rattle.bc_books.specs.After as books
use Rattle.bc_books.specs.Books.{Books, Pin}
use Rattle.bc_books.specs.Chains.{Chains}
use Rattle.bc_books.specs.Enabled.{CanPin}
use Rattle.bc_books.specs.Index.{within}
use Rattle.bc_books.specs.Round.{Round}
use Rattle.bc_books.specs.Shelves.{Fresh, Loose, Open, Own, Owner, put_run}
use Rattle.bc_bucket.specs.Bucket.{with_held}
use Rattle.bc_bucket.specs.Buckets.{Buckets, bucket_of, changed}
use Rattle.bc_bucket.specs.declared.bucket.Bucket.{Bucket}
use Rattle.bc_events.specs.Run as core
use Rattle.bc_events.specs.declared.event.Deed.TheVariants as deed
use Rattle.bc_events.specs.declared.event.Event.{Event}
use Rattle.bc_fill.specs.Fill.{AreOpen, after, bucket_numbers, shut_if_full}
use Rattle.bc_fill.specs.Fresh.{IsOf}
use Rattle.bc_fill.specs.declared.fill.Open as fill
use Rattle.bc_fill.specs.declared.fill.Placed.{Placed}
use Rattle.bc_deed.specs.bc_hand.Seats.{by}
use Rattle.bc_known.specs.Laws.{IsSound}
use Rattle.bc_leaves.proofs.Chains.{put_else, put_there}
use Rattle.bc_deed.proofs.of_bc_machine.Buckets.{chain_stays, mark_stays, round_stays}
use Rattle.bc_deed.specs.bc_machine.Containers.{AreBucketsOf, IsBucketFor, IsChainOf, IsRoundOf, is_held, pins_in}
use Rattle.bc_deed.specs.bc_machine.World.{IsCourseOf, Origin, replay}
use Rattle.bc_deed.specs.bc_machine.declared.part.BucketsPart.{BucketsPart}
use Rattle.bc_places.proofs.Cut.{can_pin, cut_stands, shuts}
use Rattle.bc_places.proofs.Ends.{fills_is}
use Rattle.bc_places.proofs.Lists.{counted, first_in}
use Rattle.bc_places.specs.Laws.{AreSpread}
use Rattle.bc_places.specs.Stands.{IsCutInto, StandFor}
use Rattle.bc_places.specs.Steps.{fills, shut_steps}
use Rattle.bc_shares.specs.Shares.{books_of, buckets_in}
use Rattle.bc_whole.specs.State as whole
use Rattle.bc_place.specs.Next.{HasCut, IsNext, with_pins}
use Rattle.bc_place.specs.Place.{IsOwn, LiesIn}
use Rattle.bc_place.proofs.Counting.{all_in, both_in, none_before, none_behind, pins_after, pins_few}
use Rattle.bc_place.proofs.Parts.{are_open, spread}

never : (b : Bool) → b ≡ true → b ≡ false → ⊥
never b is off = cc

run_in : (at n t : ℕ) → within at n t ≡ true → (at ≤ t) × (t < at + n)
run_in at n t = by_within at n t (λ b. b ≡ true → (at ≤ t) × (t < at + n)) (λ r _. r) (λ _ e. absurd (cc))

in_run : (at n t : ℕ) → (at ≤ t) × (t < at + n) → within at n t ≡ true
in_run at n t r = by_within at n t (λ b. b ≡ true) (λ _. refl) (λ no. absurd (no r))

-- the books behind a pin
abbrev pinned_books : whole.Opening → Books → (i at n : ℕ) → Bool → Books
pinned_books w k i at n full = books.fold w.flow.books (books.after w.flow.books k (Pin i at n))
    (shut_steps full (w.flow.books.bucket at))

books_pinned : (w : core.Opening) (st : core.State) (i at n : ℕ) (full : Bool)
    → books_of (core.after w st (by i (deed.Pin at n full))).machine
    ≡ pinned_books w.machine (books_of st.machine) i at n full
books_pinned w st i at n false = refl
books_pinned w st i at n true = refl

-- a record whose bucket is held no longer, if the place fills it
abbrev shut_record : Bool → Bucket → Bucket
shut_record full b = if full then with_held false b else b

module _ (o : Origin) (sound : IsSound o.opening.machine o.parts)
    (not_plain : o.opening.machine.flow.plain ≡ false) (es : List Event) (on : IsCourseOf o es)
    (p : BucketsPart)
    (h : AreBucketsOf o.opening.machine (books_of (replay o es).machine) p) (i count : ℕ)
    (asked : 1 ≤ count) (pl : Placed) (full : Bool) (next : IsNext p count pl full) where
  abbrev w : whole.Opening
  w = o.opening.machine

  abbrev k : Books
  k = books_of (replay o es).machine

  abbrev size : ℕ
  size = p.buckets.size

  abbrev first : fill.Open
  first = next.first

  abbrev at : ℕ
  at = pl.ptr.offset

  laid : AreSpread w.before size p.reserves.count w.flow.books
  laid = spread w p sound.laid h.cut

  opens : AreOpen (first ∷ next.rest) p.reserves p.buckets
  opens = subst (λ fs. AreOpen fs p.reserves p.buckets) next.were (are_open p)

  stands : StandFor w.before size (first ∷ next.rest) p.reserves k
  stands = subst (λ fs. StandFor w.before size fs p.reserves k) next.were h.places

  -- ---- when it may be

  can : CanPin w.flow.books.bucket k.shelf k.owner i at pl.count
  can = can_pin w.flow.books k w.before i count first next.rest p.reserves p.buckets pl laid opens
      asked next.placed stands

  is_open : k.shelf (w.flow.books.bucket at) ≡ Open
  is_open = shuts w.flow.books k w.before i count first next.rest p.reserves p.buckets pl laid opens
      asked next.placed stands

  may_pin_by : (f : Bool) → i < 320 → (replay o es).machine.whole.flow.halted ≡ false
      → core.IsEnabled o.opening (replay o es) (by i (deed.Pin at pl.count f))
  may_pin_by false few running = record {
    seat = lt-ltb i 320 few;
    course = (
      record {
        data_allows = (record { heard = running; steps = (can, tt); can = tt }, tt);
        asks = refl;
      },
      tt,
    );
    fit = tt;
    its_line = tt;
    plain = λ plain. absurd (never o.opening.machine.flow.plain plain not_plain);
  }
  may_pin_by true few running = record {
    seat = lt-ltb i 320 few;
    course = (
      record {
        data_allows = (record { heard = running; steps = (can, tt); can = tt }, tt);
        asks = refl;
      },
      (
        record {
          data_allows = (record { heard = running; steps = (is_open, tt); can = tt }, tt);
          asks = refl;
        },
        tt,
      ),
    );
    fit = tt;
    its_line = tt;
    plain = λ plain. absurd (never o.opening.machine.flow.plain plain not_plain);
  }

  pub may_pin : i < 320 → (replay o es).machine.whole.flow.halted ≡ false
      → core.IsEnabled o.opening (replay o es) (by i (deed.Pin at pl.count full))
  may_pin = may_pin_by full

  -- ---- where it lies

  on_list : 0 < times first.bucket (first.bucket ∷ bucket_numbers next.rest)
  on_list = first_in first.bucket (bucket_numbers next.rest)

  low : w.before ≤ first.bucket
  low = stands.opens.buckets.behind first.bucket on_list

  below : first.bucket < p.reserves.count
  below = (opens.each first.bucket on_list).0

  some : 1 ≤ pl.count
  some = let n = next.placed.sectors in let f = opens.free.0 in omega (arith, n, f, asked)

  fits : first.next + pl.count ≤ size
  fits = let n = next.placed.sectors in let f = opens.free.0 in omega (arith, n, f)

  abbrev q0 : ℕ
  q0 = first.bucket - w.before

  its : w.before + q0 ≡ first.bucket
  its = counted w.before first.bucket low

  lies_in : (t : ℕ) → IsOf pl t → w.flow.books.bucket t ≡ q0
  lies_in t of =
      let is = its in
      let place = next.placed.offset in
      let from = of.0 in
      let to = of.1 in
      let room = fits in
      let in_ = below in
      laid q0 t (omega (arith, is, in_))
      (subst (λ j. j * size ≤ t) (sym is) (omega (arith, place, from)))
      (subst (λ j. t < j * size + size) (sym is) (omega (arith, place, to, room)))

  begins : w.flow.books.bucket at ≡ q0
  begins = lies_in at (omega arith, let n = some in omega (arith, n))

  full_at : full ≡ (first.next + pl.count == size)
  full_at = next.full_is
      ∙ fills_is first.bucket size first.next pl.count at next.placed.offset some fits

  -- ---- what it leaves of a bucket's record

  fresh : (t : ℕ) → within at pl.count t ≡ true → k.owner t ≡ Fresh
  fresh t is = can.fresh t is

  abbrev owner_then : ℕ → Owner
  owner_then = put_run k.owner at pl.count (Own i)

  -- the pins of the place's bucket, and those of another one
  own_pins : pins_in owner_then (first.bucket * size) size
      ≡ pl.count + pins_in k.owner (first.bucket * size) size
  own_pins =
      let all = pins_after k.owner i at pl.count fresh (first.bucket * size) size in
      let place = next.placed.offset in
      let room = fits in
      let part = all_in at pl.count (first.bucket * size) size (omega (arith, place))
      (omega (arith, place, room)) in omega (arith, all, part)

  other_pins : (j : ℕ) → j ≢ first.bucket
      → pins_in owner_then (j * size) size ≡ pins_in k.owner (j * size) size
  other_pins j ne = go (cases_lt j first.bucket)
    where
      all : pins_in owner_then (j * size) size
          ≡ both_in at pl.count (j * size) size + pins_in k.owner (j * size) size
      all = pins_after k.owner i at pl.count fresh (j * size) size

      go : (j < first.bucket) ⊎ (first.bucket ≤ j)
          → pins_in owner_then (j * size) size ≡ pins_in k.owner (j * size) size
      go (inl less) =
          let more : (j + 1) * size ≤ first.bucket * size =
          mul-le-mul_right size (omega (arith, less)) in
          let place = next.placed.offset in
          let none = none_before at pl.count (j * size) size (omega (arith, more, place)) in
          let is = all in omega (arith, is, none)
      go (inr from) =
          let more : (first.bucket + 1) * size ≤ j * size =
          mul-le-mul_right size (omega (arith, from, ne)) in
          let place = next.placed.offset in
          let room = fits in
          let none = none_behind at pl.count (j * size) size (omega (arith, more, place, room)) in
          let is = all in omega (arith, is, none)

  abbrev is_full : Bool
  is_full = first.next + pl.count == size

  -- the books, by whether the bucket is full
  abbrev then_by : Bool → Books
  then_by f = books.fold w.flow.books (books.after w.flow.books k (Pin i at pl.count))
      (shut_steps f q0)

  own_record : (f : Bool) → q0 + w.before < length p.buckets.records
      → IsBucketFor (w.flow.books.version q0) q0 (buckets_in (then_by f))
      (pins_in (then_by f).owner (first.bucket * size) size)
      (with_pins pl.count (shut_record f (bucket_of p.buckets first.bucket)))
  own_record f inside = go f
    where
      was : IsBucketFor (w.flow.books.version q0) q0 (buckets_in k)
          (pins_in k.owner (first.bucket * size) size) (bucket_of p.buckets first.bucket)
      was = subst (λ n. IsBucketFor (w.flow.books.version q0) q0 (buckets_in k)
          (pins_in k.owner (n * size) size) (bucket_of p.buckets n)) its
          (h.records q0 (omega (arith, inside)))

      pins : min ((bucket_of p.buckets first.bucket).pins + pl.count) (2 ^ 32 - 1)
          ≡ pins_in owner_then (first.bucket * size) size
      pins =
          let old = was.pins in
          let now = own_pins in
          let few = pins_few owner_then (first.bucket * size) size in
          let small = next.small in omega (arith, old, now, few, small)

      go : (f : Bool) → IsBucketFor (w.flow.books.version q0) q0 (buckets_in (then_by f))
          (pins_in (then_by f).owner (first.bucket * size) size)
          (with_pins pl.count (shut_record f (bucket_of p.buckets first.bucket)))
      go true = record {
        generation = was.generation;
        uses = was.uses;
        last_gc = was.last_gc;
        mark = was.mark;
        pins = pins;
        held = sym (ap is_held (put_there k.shelf q0 Loose));
      }
      go false = record {
        generation = was.generation;
        uses = was.uses;
        last_gc = was.last_gc;
        mark = was.mark;
        pins = pins;
        held = was.held;
      }

  other_record : (f : Bool) (j : ℕ) → w.before + j < length p.buckets.records → j ≢ q0
      → IsBucketFor (w.flow.books.version j) j (buckets_in (then_by f))
      (pins_in (then_by f).owner ((w.before + j) * size) size) (bucket_of p.buckets (w.before + j))
  other_record f j inside ne = go f
    where
      was : IsBucketFor (w.flow.books.version j) j (buckets_in k)
          (pins_in k.owner ((w.before + j) * size) size) (bucket_of p.buckets (w.before + j))
      was = h.records j inside

      pins : (bucket_of p.buckets (w.before + j)).pins ≡ pins_in owner_then ((w.before + j) * size) size
      pins = was.pins ∙ sym (other_pins (w.before + j) (λ e. ne (let is = its in omega (arith, e, is))))

      go : (f : Bool) → IsBucketFor (w.flow.books.version j) j (buckets_in (then_by f))
          (pins_in (then_by f).owner ((w.before + j) * size) size) (bucket_of p.buckets (w.before + j))
      go true = record {
        generation = was.generation;
        uses = was.uses;
        last_gc = was.last_gc;
        mark = was.mark;
        pins = pins;
        held = was.held ∙ sym (ap is_held (put_else k.shelf q0 Loose j ne));
      }
      go false = record {
        generation = was.generation;
        uses = was.uses;
        last_gc = was.last_gc;
        mark = was.mark;
        pins = pins;
        held = was.held;
      }

  -- ---- what it leaves of the buckets in hand

  abbrev final_by : Bool → Buckets
  final_by f = changed (with_pins pl.count) first.bucket
      (if f then changed (with_held false) first.bucket p.buckets else p.buckets)

  in_records : first.bucket < length p.buckets.records
  in_records = let in_ = below in let same = p.fit.same_count in omega (arith, in_, same)

  long_by : (f : Bool) → length (final_by f).records ≡ length p.buckets.records
  long_by true = same_length (with_pins pl.count) first.bucket (changed (with_held false) first.bucket p.buckets)
      ∙ same_length (with_held false) first.bucket p.buckets
  long_by false = same_length (with_pins pl.count) first.bucket p.buckets

  size_by : (f : Bool) → (final_by f).size ≡ size
  size_by true = refl
  size_by false = refl

  data_by : (f : Bool) → (final_by f).data_from ≡ p.buckets.data_from
  data_by true = refl
  data_by false = refl

  touched_by : (f : Bool) → (final_by f).touched ≡ p.buckets.touched
  touched_by true = refl
  touched_by false = refl

  marks_by : (f : Bool) (m : ℕ) → (bucket_of (final_by f) m).mark ≡ (bucket_of p.buckets m).mark
  marks_by true m = mark_stays (with_pins pl.count) (λ x. refl) first.bucket
      (changed (with_held false) first.bucket p.buckets) m
      ∙ mark_stays (with_held false) (λ x. refl) first.bucket p.buckets m
  marks_by false m = mark_stays (with_pins pl.count) (λ x. refl) first.bucket p.buckets m

  chains_by : (f : Bool) → (then_by f).chains ≡ k.chains
  chains_by true = refl
  chains_by false = refl

  round_by : (f : Bool) → (then_by f).round ≡ k.round
  round_by true = refl
  round_by false = refl

  own_by : (f : Bool) → bucket_of (final_by f) first.bucket
      ≡ with_pins pl.count (shut_record f (bucket_of p.buckets first.bucket))
  own_by true = this_changes (with_pins pl.count) first.bucket
      (changed (with_held false) first.bucket p.buckets)
      (let long = same_length (with_held false) first.bucket p.buckets in
      let in_ = in_records in omega (arith, long, in_))
      ∙ ap (λ b. with_pins pl.count b) (this_changes (with_held false) first.bucket p.buckets in_records)
  own_by false = this_changes (with_pins pl.count) first.bucket p.buckets in_records

  other_by : (f : Bool) (j : ℕ) → j ≢ first.bucket
      → bucket_of (final_by f) j ≡ bucket_of p.buckets j
  other_by true j ne = other_stays (with_pins pl.count) first.bucket
      (changed (with_held false) first.bucket p.buckets) j ne
      ∙ other_stays (with_held false) first.bucket p.buckets j ne
  other_by false j ne = other_stays (with_pins pl.count) first.bucket p.buckets j ne

  abbrev RecordBy : Bool → ℕ → Bucket → Type 0
  RecordBy f j b = IsBucketFor (w.flow.books.version j) j (buckets_in (then_by f))
      (pins_in (then_by f).owner ((w.before + j) * size) size) b

  record_by : (f : Bool) (j : ℕ) → w.before + j < length p.buckets.records → (j ≡ q0) ⊎ (j ≢ q0)
      → RecordBy f j (bucket_of (final_by f) (w.before + j))
  record_by f j inside (inl e) =
      let here : w.before + j ≡ first.bucket = let is = its in omega (arith, e, is) in
      subst (RecordBy f j) (sym (ap (bucket_of (final_by f)) here ∙ own_by f))
      (subst (λ n. IsBucketFor (w.flow.books.version n) n (buckets_in (then_by f))
      (pins_in (then_by f).owner ((w.before + j) * size) size)
      (with_pins pl.count (shut_record f (bucket_of p.buckets first.bucket)))) (sym e)
      (subst (λ n. IsBucketFor (w.flow.books.version q0) q0 (buckets_in (then_by f))
      (pins_in (then_by f).owner (n * size) size)
      (with_pins pl.count (shut_record f (bucket_of p.buckets first.bucket)))) (sym here)
      (own_record f (omega (arith, inside, e)))))
  record_by f j inside (inr ne) = subst (RecordBy f j)
      (sym (other_by f (w.before + j) (λ e. ne (let is = its in omega (arith, e, is)))))
      (other_record f j inside ne)

  records_by : (f : Bool) (j : ℕ) → w.before + j < length (final_by f).records
      → IsBucketFor (w.flow.books.version j) j (buckets_in (then_by f))
      (pins_in (then_by f).owner ((w.before + j) * (final_by f).size) (final_by f).size)
      (bucket_of (final_by f) (w.before + j))
  records_by f j inside = subst (λ n. IsBucketFor (w.flow.books.version j) j (buckets_in (then_by f))
      (pins_in (then_by f).owner ((w.before + j) * n) n) (bucket_of (final_by f) (w.before + j)))
      (sym (size_by f))
      (record_by f j (let long = long_by f in omega (arith, long, inside)) (cases_eq j q0))

  cut_by : (f : Bool) → IsCutInto (final_by f).size (length (final_by f).records) w
  cut_by f = subst (λ n. IsCutInto n (length (final_by f).records) w) (sym (size_by f))
      (subst (λ n. IsCutInto size n w) (sym (long_by f)) h.cut)

  places_then : StandFor w.before size (after size pl.count first next.rest) p.reserves
      (then_by is_full)
  places_then = subst (λ f. StandFor w.before size (after size pl.count first next.rest) p.reserves
      (then_by f)) (sym next.full_is ∙ full_at)
      (subst (λ q. StandFor w.before size (after size pl.count first next.rest) p.reserves
      (books.fold w.flow.books (books.after w.flow.books k (Pin i at pl.count))
      (shut_steps (fills size pl) q))) begins
      (cut_stands w.flow.books k w.before i count first next.rest p.reserves p.buckets pl laid opens
      asked next.placed stands))

  module _ (q : BucketsPart) (c : HasCut p count pl q) where
    same_first : c.cut.first ≡ first
    same_first = let e : c.cut.first ∷ c.cut.rest ≡ first ∷ next.rest = sym c.cut.were ∙ next.were in cc

    same_rest : c.cut.rest ≡ next.rest
    same_rest = let e : c.cut.first ∷ c.cut.rest ≡ first ∷ next.rest = sym c.cut.were ∙ next.were in cc

    buckets_are : q.buckets ≡ final_by is_full
    buckets_are = c.buckets
        ∙ ap (λ b. changed (with_pins pl.count) c.cut.first.bucket b) c.cut.buckets
        ∙ ap (λ (x : fill.Open). changed (with_pins pl.count) x.bucket
        (shut_if_full size pl.count x p.buckets)) same_first

    fill_is : q.fill ≡ after size pl.count first next.rest
    fill_is = c.cut.are ∙ ap (λ (x : fill.Open). after size pl.count x c.cut.rest) same_first
        ∙ ap (λ (xs : List fill.Open). after size pl.count first xs) same_rest

    are_then : AreBucketsOf w (then_by is_full) q
    are_then = record {
      cut = subst (λ (b : Buckets). IsCutInto b.size (length b.records) w) (sym buckets_are)
          (cut_by is_full);
      data_from = ap (λ (b : Buckets). b.data_from) buckets_are ∙ data_by is_full ∙ h.data_from;
      records = subst (λ (b : Buckets). (j : ℕ) → w.before + j < length b.records
          → IsBucketFor (w.flow.books.version j) j (buckets_in (then_by is_full))
          (pins_in (then_by is_full).owner ((w.before + j) * b.size) b.size)
          (bucket_of b (w.before + j))) (sym buckets_are) (records_by is_full);
      places = subst (λ n. StandFor w.before n q.fill q.reserves (then_by is_full))
          (sym (ap (λ (b : Buckets). b.size) buckets_are ∙ size_by is_full))
          (subst (λ fs. StandFor w.before size fs q.reserves (then_by is_full)) (sym fill_is)
          (subst (λ (r : Reserves). StandFor w.before size (after size pl.count first next.rest) r
          (then_by is_full)) (sym c.reserves) places_then));
      outside = λ m less. ap (λ (b : Buckets). (bucket_of b m).mark) buckets_are
          ∙ marks_by is_full m ∙ h.outside m less;
      room = ap (λ (r : Reserves). (list_of list.Priorities r).room) c.reserves ∙ h.room;
      chain = subst (λ (x : Chains). IsChainOf w.before w.flow.books.sets x.of x.ready x.sealed
          q.chain.items q.renewing) (sym (chains_by is_full))
          (chain_stays w.before w.flow.books.sets k.chains.of k.chains.ready k.chains.sealed p q
          c.rest h.chain);
      round = subst (λ (x : Round). IsRoundOf w.flow.books w.before (length q.buckets.records) x
          q.buckets.touched q.round) (sym (round_by is_full))
          (round_stays w.flow.books w.before k.round p q (final_by is_full) c.rest buckets_are
          (long_by is_full) (touched_by is_full) h.round);
    }

    pub pin_stands : AreBucketsOf w
        (books_of (core.after o.opening (replay o es) (by i (deed.Pin at pl.count full))).machine) q
    pin_stands = subst (λ x. AreBucketsOf w x q)
        (sym (books_pinned o.opening (replay o es) i at pl.count full))
        (subst (λ f. AreBucketsOf w (pinned_books w k i at pl.count f) q) (sym full_at)
        (subst (λ b. AreBucketsOf w (books.fold w.flow.books
        (books.after w.flow.books k (Pin i at pl.count)) (shut_steps is_full b)) q) (sym begins)
        are_then))

  -- ---- what its seat knows

  abbrev Left : Books → Type 0
  Left x = ((t : ℕ) → IsOf pl t → x.owner t ≡ Own i)
      × (x.generations.version (w.flow.books.bucket at) ≡ k.generations.version (w.flow.books.bucket at))

  own_then : (t : ℕ) → IsOf pl t → owner_then t ≡ Own i
  own_then t of = ap (λ b. if b then Own i else k.owner t) (in_run at pl.count t of)

  left_by : (f : Bool) → Left (pinned_books w k i at pl.count f)
  left_by true = (own_then, refl)
  left_by false = (own_then, refl)

  left : Left (books_of (core.after o.opening (replay o es) (by i (deed.Pin at pl.count full))).machine)
  left = subst Left (sym (books_pinned o.opening (replay o es) i at pl.count full)) (left_by full)

  lies : LiesIn w.layout q0 pl
  lies = record {
    bucket =
        let many = h.cut.buckets in
        let in_ = in_records in
        let is = its in omega (arith, many, in_, is);
    low =
        let is = h.cut.first q0 ∙ ap (λ n. n * size) its in
        let place = next.placed.offset in omega (arith, is, place);
    high =
        let is = h.cut.first q0 ∙ ap (λ n. n * size) its in
        let place = next.placed.offset in
        let room = fits in
        let sectors = h.cut.sectors in omega (arith, is, place, room, sectors);
  }

  pub pin_owns : IsOwn i pl o (core.after o.opening (replay o es) (by i (deed.Pin at pl.count full)))
  pin_owns = record {
    some = some;
    own = left.0;
    bucket = λ t of. lies_in t of ∙ sym begins;
    lies = subst (λ q. LiesIn w.layout q pl) (sym begins) lies;
    generation = next.placed.generation
        ∙ ap (λ n. (bucket_of p.buckets n).generation) (sym its)
        ∙ (h.records q0 (let in_ = in_records in let is = its in omega (arith, in_, is))).generation
        ∙ ap (λ q. k.generations.version q % 256) (sym begins)
        ∙ ap (λ n. n % 256) (sym left.1);
  }

  pub pins_some : 1 ≤ pl.count
  pins_some = some

  pub pins_most : pl.count ≤ count
  pins_most = let n = next.placed.sectors in omega (arith, n)
