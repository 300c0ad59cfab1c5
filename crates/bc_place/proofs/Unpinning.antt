-- A place is let go: when that may be, and what the buckets in hand stand for then.
use Rattle.std.proofs.Common.{◌≡◌, ◌≢◌, ◌⊎◌, inl, inr, ℕ, ◌+◌, ◌-◌, ◌*◌, ◌/◌, ◌<◌, ◌≤◌, Bool, true, false, List, length, refl, sym, ap, ◌∙◌, subst, arith}
use Rattle.std.proofs.lemmas.Bool.{cases_eq, cases_lt, lt-ltb}
use Rattle.std.proofs.lemmas.Nat.{div-mul-add}
use Rattle.std.proofs.Math.Nat.{mul-le-mul_right}
use Rattle.bc_alloc.proofs.Fits.{other_stays, same_length, this_changes}
use Rattle.bc_alloc.specs.Reserves.{Reserves, list_of}
use Rattle.bc_alloc.specs.declared.purpose.Purpose.TheVariants as list
use Rattle.bc_books.proofs.Cases.{by_within, put_run_cases}
use Rattle.bc_books.specs.After as books
use Rattle.bc_books.specs.Books.{Books, Unpin}
use Rattle.bc_books.specs.Index.{within}
use Rattle.bc_books.specs.Shelves.{Fresh, Own, Owner, Spent, WasPinned}
use Rattle.bc_bucket.specs.Buckets.{Buckets, bucket_of, changed}
use Rattle.bc_events.specs.Run as core
use Rattle.bc_events.specs.declared.event.Deed.TheVariants as deed
use Rattle.bc_events.specs.declared.event.Event.{Event}
use Rattle.bc_events.specs.declared.event.UnpinKind.TheVariants as unpin
use Rattle.bc_fill.specs.declared.fill.Open as fill
use Rattle.bc_fill.specs.declared.fill.Placed.{Placed}
use Rattle.bc_deed.specs.bc_hand.Seats.{by}
use Rattle.bc_deed.proofs.of_bc_machine.Buckets.{chain_stays, mark_stays, round_stays}
use Rattle.bc_deed.specs.bc_machine.Containers.{AreBucketsOf, IsBucketFor, pins_in}
use Rattle.bc_deed.specs.bc_machine.World.{Origin, replay}
use Rattle.bc_deed.specs.bc_machine.declared.part.BucketsPart.{BucketsPart}
use Rattle.bc_places.specs.Stands.{IsCutInto, StandFor}
use Rattle.bc_shares.specs.Shares.{books_of, buckets_in}
use Rattle.bc_whole.specs.State as whole
use Rattle.bc_place.specs.Next.{IsLetGo, without_pins}
use Rattle.bc_place.specs.Place.{IsOwn}
use Rattle.bc_place.proofs.Counting.{all_in, both_in, none_before, none_behind, pins_behind}

never : (b : Bool) → b ≡ true → b ≡ false → ⊥
never b is off = cc

run_in : (at n t : ℕ) → within at n t ≡ true → (at ≤ t) × (t < at + n)
run_in at n t = by_within at n t (λ b. b ≡ true → (at ≤ t) × (t < at + n)) (λ r _. r)
    (λ _ e. absurd (cc))

own_fresh : (i : ℕ) (x : Owner) → x ≡ Own i → x ≡ Fresh → ⊥
own_fresh i x own fresh = let e : Own i ≡ Fresh = sym own ∙ fresh in absurd (cc)

spent_fresh : Spent ≡ Fresh → ⊥
spent_fresh e = absurd (cc)

module _ (o : Origin) (not_plain : o.opening.machine.flow.plain ≡ false) (es : List Event)
    (p : BucketsPart)
    (h : AreBucketsOf o.opening.machine (books_of (replay o es).machine) p) (i : ℕ) (pl : Placed)
    (its : IsOwn i pl o (replay o es)) where
  abbrev w : whole.Opening
  w = o.opening.machine

  abbrev k : Books
  k = books_of (replay o es).machine

  abbrev size : ℕ
  size = p.buckets.size

  abbrev at : ℕ
  at = pl.ptr.offset

  abbrev count : ℕ
  count = pl.count

  own : (t : ℕ) → within at count t ≡ true → k.owner t ≡ Own i
  own t is = its.own t (run_in at count t is)

  -- ---- when it may be

  pub may_unpin : i < 320
      → core.IsEnabled o.opening (replay o es) (by i (deed.Unpin (unpin.Place at count)))
  may_unpin few = record {
    seat = lt-ltb i 320 few;
    course = (
      record {
        data_allows = (
          record {
            heard = tt;
            steps = (λ t is. subst WasPinned (sym (own t is)) tt, tt);
            can = λ t is. inl (own t is);
          },
          tt,
        );
        asks = refl;
      },
      tt,
    );
    fit = tt;
    its_line = tt;
    plain = λ plain. absurd (never o.opening.machine.flow.plain plain not_plain);
  }

  -- ---- where it lies

  abbrev q0 : ℕ
  q0 = w.flow.books.bucket at

  abbrev number : ℕ
  number = w.before + q0

  low : number * size ≤ at
  low = let first = h.cut.first q0 in let from = its.lies.low in omega (arith, first, from)

  high : at + count ≤ number * size + size
  high =
      let first = h.cut.first q0 in
      let to = its.lies.high in
      let sectors = h.cut.sectors in omega (arith, first, to, sectors)

  known : number < length p.buckets.records
  known =
      let many = h.cut.buckets in
      let below = its.lies.bucket in omega (arith, many, below)

  number_is : at / size ≡ number
  number_is =
      let from = low in
      let to = high in
      let some = its.some in
      let is : at ≡ number * size + (at - number * size) = omega (arith, from) in
      ap (λ n. n / size) is
      ∙ div-mul-add number size (at - number * size) (omega (arith, from, to, some))

  -- ---- what it leaves

  abbrev then_ : Books
  then_ = books.after w.flow.books k (Unpin at count)

  own_pins : pins_in then_.owner (number * size) size + count
      ≡ pins_in k.owner (number * size) size
  own_pins =
      let all = pins_behind k.owner i at count own (number * size) size in
      let part = all_in at count (number * size) size low high in omega (arith, all, part)

  other_pins : (j : ℕ) → j ≢ number
      → pins_in then_.owner (j * size) size ≡ pins_in k.owner (j * size) size
  other_pins j ne = go (cases_lt j number)
    where
      all : both_in at count (j * size) size + pins_in then_.owner (j * size) size
          ≡ pins_in k.owner (j * size) size
      all = pins_behind k.owner i at count own (j * size) size

      go : (j < number) ⊎ (number ≤ j)
          → pins_in then_.owner (j * size) size ≡ pins_in k.owner (j * size) size
      go (inl less) =
          let more : (j + 1) * size ≤ number * size = mul-le-mul_right size (omega (arith, less)) in
          let from = low in
          let none = none_before at count (j * size) size (omega (arith, more, from)) in
          let is = all in omega (arith, is, none)
      go (inr from) =
          let more : (number + 1) * size ≤ j * size =
          mul-le-mul_right size (omega (arith, from, ne)) in
          let to = high in
          let none = none_behind at count (j * size) size (omega (arith, more, to)) in
          let is = all in omega (arith, is, none)

  abbrev final : Buckets
  final = changed (without_pins count) number p.buckets

  own_record : IsBucketFor (w.flow.books.version q0) q0 (buckets_in then_)
      (pins_in then_.owner (number * size) size)
      (without_pins count (bucket_of p.buckets number))
  own_record = let was = h.records q0 known in record {
    generation = was.generation;
    uses = was.uses;
    last_gc = was.last_gc;
    mark = was.mark;
    pins = let pins = was.pins in let less = own_pins in omega (arith, pins, less);
    held = was.held;
  }

  other_record : (j : ℕ) → w.before + j < length p.buckets.records → j ≢ q0
      → IsBucketFor (w.flow.books.version j) j (buckets_in then_)
      (pins_in then_.owner ((w.before + j) * size) size) (bucket_of p.buckets (w.before + j))
  other_record j inside ne = let was = h.records j inside in record {
    generation = was.generation;
    uses = was.uses;
    last_gc = was.last_gc;
    mark = was.mark;
    pins = was.pins ∙ sym (other_pins (w.before + j) (λ e. ne (omega (arith, e))));
    held = was.held;
  }

  record_then : (j : ℕ) → w.before + j < length p.buckets.records → (j ≡ q0) ⊎ (j ≢ q0)
      → IsBucketFor (w.flow.books.version j) j (buckets_in then_)
      (pins_in then_.owner ((w.before + j) * size) size) (bucket_of final (w.before + j))
  record_then j inside (inl e) = subst (λ n. IsBucketFor (w.flow.books.version n) n (buckets_in then_)
      (pins_in then_.owner ((w.before + n) * size) size) (bucket_of final (w.before + n))) (sym e)
      (subst (IsBucketFor (w.flow.books.version q0) q0 (buckets_in then_)
      (pins_in then_.owner (number * size) size))
      (sym (this_changes (without_pins count) number p.buckets known)) own_record)
  record_then j inside (inr ne) = subst (IsBucketFor (w.flow.books.version j) j (buckets_in then_)
      (pins_in then_.owner ((w.before + j) * size) size))
      (sym (other_stays (without_pins count) number p.buckets (w.before + j)
      (λ e. ne (omega (arith, e))))) (other_record j inside ne)

  -- which places are still to be placed, is as before
  still_fresh : (t : ℕ) → k.owner t ≡ Fresh → then_.owner t ≡ Fresh
  still_fresh t fresh = put_run_cases k.owner at count t Spent (λ x. x ≡ Fresh) (λ out. fresh)
      (λ is. absurd (own_fresh i (k.owner t) (own t is) fresh))

  was_fresh : (t : ℕ) → then_.owner t ≡ Fresh → k.owner t ≡ Fresh
  was_fresh t = put_run_cases k.owner at count t Spent (λ x. x ≡ Fresh → k.owner t ≡ Fresh)
      (λ out fresh. fresh) (λ is spent. absurd (spent_fresh spent))

  places_then : StandFor w.before size p.fill p.reserves then_
  places_then = record {
    opens = record {
      buckets = h.places.opens.buckets;
      free = λ t is. still_fresh t (h.places.opens.free t is);
      given = λ j t there from to fresh.
          h.places.opens.given j t there from to (was_fresh t fresh);
    };
    lists = record { lists = h.places.lists.lists; raised = h.places.lists.raised };
  }

  module _ (q : BucketsPart) (go : IsLetGo p pl q) where
    buckets_are : q.buckets ≡ final
    buckets_are = go.unpinned (let is = number_is in let in_ = known in omega (arith, is, in_))
        ∙ ap (λ n. changed (without_pins count) n p.buckets) number_is

    are_then : AreBucketsOf w then_ q
    are_then = record {
      cut = subst (λ (b : Buckets). IsCutInto b.size (length b.records) w) (sym buckets_are)
          (subst (λ n. IsCutInto size n w) (sym (same_length (without_pins count) number p.buckets))
          h.cut);
      data_from = ap (λ (b : Buckets). b.data_from) buckets_are ∙ h.data_from;
      records = subst (λ (b : Buckets). (j : ℕ) → w.before + j < length b.records
          → IsBucketFor (w.flow.books.version j) j (buckets_in then_)
          (pins_in then_.owner ((w.before + j) * b.size) b.size) (bucket_of b (w.before + j)))
          (sym buckets_are) (λ j inside. record_then j
          (let long = same_length (without_pins count) number p.buckets in
          omega (arith, long, inside)) (cases_eq j q0));
      places = subst (λ (b : Buckets). StandFor w.before b.size q.fill q.reserves then_)
          (sym buckets_are)
          (subst (λ (fs : List fill.Open). StandFor w.before size fs q.reserves then_) (sym go.fill)
          (subst (λ (r : Reserves). StandFor w.before size p.fill r then_) (sym go.reserves)
          places_then));
      outside = λ m less. ap (λ (b : Buckets). (bucket_of b m).mark) buckets_are
          ∙ mark_stays (without_pins count) (λ x. refl) number p.buckets m ∙ h.outside m less;
      room = ap (λ (r : Reserves). (list_of list.Priorities r).room) go.reserves ∙ h.room;
      chain = chain_stays w.before w.flow.books.sets k.chains.of k.chains.ready k.chains.sealed p q
          go.rest h.chain;
      round = round_stays w.flow.books w.before k.round p q final go.rest buckets_are
          (same_length (without_pins count) number p.buckets) refl h.round;
    }

    pub unpin_stands : AreBucketsOf w
        (books_of (core.after o.opening (replay o es)
        (by i (deed.Unpin (unpin.Place at count)))).machine) q
    unpin_stands = are_then
