-- A killed candidate is dropped: when the core allows it, and what the parts in hand stand for
-- then.
use Rattle.std.proofs.Common.{◌≡◌, inl, inr, ℕ, ◌+◌, ◌*◌, ◌<◌, true, false, List, length, Option, Some, None, refl, sym, ap, ◌∙◌, subst, arith}
use Rattle.std.specs.Prelude.{not}
use Rattle.bc_alloc.specs.Reserves.{Reserves, list_of}
use Rattle.bc_alloc.specs.declared.purpose.Purpose.TheVariants as list
use Rattle.bc_books.proofs.Cases.{put_run_cases}
use Rattle.bc_books.specs.After as books
use Rattle.bc_books.specs.Books.{Books, Unpin}
use Rattle.bc_books.specs.Index.{within}
use Rattle.bc_books.specs.Shelves.{Fresh, Kept, Own, Owner, Spent, WasPinned}
use Rattle.bc_bucket.specs.Buckets.{Buckets, bucket_of}
use Rattle.bc_bucket.specs.declared.bucket.Bucket.{Bucket}
use Rattle.bc_bucket.specs.declared.bucket.Mark.TheVariants as marks
use Rattle.bc_data.specs.Data as flow
use Rattle.bc_data.specs.Seats.{Seat}
use Rattle.bc_data.specs.Seats as kept
use Rattle.bc_disk.specs.Disk.{DiskFacts}
use Rattle.bc_events.specs.Run as core
use Rattle.bc_events.specs.declared.event.Deed.TheVariants as deed
use Rattle.bc_events.specs.declared.event.UnpinKind.TheVariants as unpin
use Rattle.bc_fill.specs.declared.fill.Open as fill
use Rattle.bc_fill.specs.declared.fill.Placed.{Placed}
use Rattle.bc_flight.specs.Candidates.{first_of}
use Rattle.bc_flight.specs.Flight.{InFlight}
use Rattle.bc_flight.specs.declared.candidate.Candidate.{Candidate}
use Rattle.bc_flight.specs.declared.candidate.Wanted.TheVariants.{Dead}
use Rattle.bc_key.specs.Key.{pointer_of}
use Rattle.bc_key.specs.declared.ptr.Ptr.{Ptr}
use Rattle.bc_known.proofs.Law.{At, inv_at}
use Rattle.bc_model.specs.Sector.{Value}
use Rattle.bc_parts.specs.Seat.{Holds}
use Rattle.bc_place.proofs.Counting.{both_in}
use Rattle.bc_place.proofs.Keeping.{opening_deed, own_since, since_by, written_lasts}
use Rattle.bc_place.proofs.Knowing.{buckets_since, few, known_changed, known_committed, may_each}
use Rattle.bc_place.proofs.of_bc_deed.May.{can_alone}
use Rattle.bc_place.proofs.of_bc_hand.Knowing.{View, framed, m}
use Rattle.bc_place.proofs.of_bc_machine.Buckets.{chain_stays, round_stays}
use Rattle.bc_place.specs.Place.{IsOwn}
use Rattle.bc_place.specs.Written.{HasWritten}
use Rattle.bc_place.specs.bc_hand.Seats.{Did, IsCoreSeat, MayDo, by, world}
use Rattle.bc_place.specs.bc_machine.Containers.{AreBucketsOf, IsBucketFor, pins_in}
use Rattle.bc_place.specs.bc_machine.Standing.{oldest_first, replay_is, replay_runs}
use Rattle.bc_place.specs.bc_machine.World.{AreBuckets, FromEach, IsCourseOf, IsFlight, IsFlightOf, IsOrigin, Origin, World, are_plain, data_of, kept_of, replay, seen_from}
use Rattle.bc_place.specs.bc_machine.declared.part.BucketsPart.{BucketsPart}
use Rattle.bc_place.specs.bc_machine.declared.part.CorePart.TheVariants as part
use Rattle.bc_places.specs.Stands.{IsCutInto, StandFor}
use Rattle.bc_seats.proofs.Knowing.{held}
use Rattle.bc_shares.proofs.Law.{at_state}
use Rattle.bc_shares.specs.Shares.{books_of, buckets_in, use_of}
use Rattle.bc_whole.proofs.Kept.{truthful}
use Rattle.bc_whole.specs.State as whole
use Rattle.bc_candidate.specs.Dead.{HasLetGo, IsNoneKilled, run_let_go}
use Rattle.bc_candidate.specs.Laws.{LawKept}
use Rattle.bc_candidate.specs.Noted.{KeepsAll}
use Rattle.bc_candidate.proofs.Flying.{put_same}
use Rattle.bc_candidate.proofs.Numbers.{all_alive, found}
use Rattle.bc_candidate.proofs.Seeing.{SameSeat, claim_kept_deed, same_as}
use Rattle.bc_candidate.proofs.Running.{pins_gone, run_records, same_run}

-- ---- what a candidate that stands has

pub law_kept : LawKept
law_kept x o is course c t stands inside =
    let at : At o.opening.machine o.parts (replay o x.log).machine =
    subst (λ (st : core.State). At o.opening.machine o.parts st.machine) (sym (replay_is o x.log))
    (at_state o.opening o.parts o.next_seq (oldest_first x.log) is.sound
    (replay_runs o x.log course)) in
    ((truthful o.opening.machine o.parts (replay o x.log).machine.whole.flow is.sound.whole
    (inv_at o.opening.machine o.parts (replay o x.log).machine.whole is.sound
    at.at).flow).candidates c
    stands).0 t inside

kept_fresh : (c : ℕ) (x : Owner) → x ≡ Kept c → x ≡ Fresh → ⊥
kept_fresh c x kept fresh = let e : Kept c ≡ Fresh = sym kept ∙ fresh in absurd (cc)

spent_fresh : Spent ≡ Fresh → ⊥
spent_fresh e = absurd (cc)

-- ---- the buckets behind it

module _ (w : whole.Opening) (k : Books) (p q : BucketsPart) (at count c : ℕ)
    (h : AreBucketsOf w k p) (some : 0 < p.buckets.size)
    (kept : (t : ℕ) → within at count t ≡ true → k.owner t ≡ Kept c)
    (go : HasLetGo p at count q) where
  abbrev then_ : Books
  then_ = books.after w.flow.books k (Unpin at count)

  abbrev size : ℕ
  size = p.buckets.size

  abbrev final : Buckets
  final = run_let_go at count p.buckets

  pins_then : (place m : ℕ) → both_in at count place m + pins_in then_.owner place m
      ≡ pins_in k.owner place m
  pins_then place m =
      pins_gone k.owner at count (λ t is. ap use_of (kept t is)) place m

  record_then : (j : ℕ) → w.before + j < length p.buckets.records
      → IsBucketFor (w.flow.books.version j) j (buckets_in then_)
      (pins_in then_.owner ((w.before + j) * size) size) (bucket_of final (w.before + j))
  record_then j inside = subst (IsBucketFor (w.flow.books.version j) j (buckets_in then_)
      (pins_in then_.owner ((w.before + j) * size) size))
      (sym (run_records size some at count (w.before + j) p.buckets refl inside))
      (let was = h.records j inside in record {
        generation = was.generation;
        uses = was.uses;
        last_gc = was.last_gc;
        mark = was.mark;
        pins = let pins = was.pins in let less = pins_then ((w.before + j) * size) size in
            omega (arith, pins, less);
        held = was.held;
      })

  -- which places are still to be placed, is as before
  still_fresh : (t : ℕ) → k.owner t ≡ Fresh → then_.owner t ≡ Fresh
  still_fresh t fresh = put_run_cases k.owner at count t Spent (λ x. x ≡ Fresh) (λ out. fresh)
      (λ is. absurd (kept_fresh c (k.owner t) (kept t is) fresh))

  was_fresh : (t : ℕ) → then_.owner t ≡ Fresh → k.owner t ≡ Fresh
  was_fresh t = put_run_cases k.owner at count t Spent (λ x. x ≡ Fresh → k.owner t ≡ Fresh)
      (λ out fresh. fresh) (λ is spent. absurd (spent_fresh spent))

  places_then : StandFor w.before size p.fill p.reserves then_
  places_then = record {
    opens = record {
      buckets = h.places.opens.buckets;
      free = λ t is. still_fresh t (h.places.opens.free t is);
      given = λ j t there from to fresh.
          h.places.opens.given j t there from to (was_fresh t fresh);
    };
    lists = record { lists = h.places.lists.lists; raised = h.places.lists.raised };
  }

  outside_then : (n : ℕ) → n < w.before → (bucket_of final n).mark ≡ marks.Metadata
  outside_then n less = ap (λ (x : Bucket). x.mark)
      (run_records size some at count n p.buckets refl
      (let many = h.cut.buckets in omega (arith, many, less)))
      ∙ h.outside n less

  pub dropped_stand : AreBucketsOf w then_ q
  dropped_stand =
      let same = same_run at count p.buckets in record {
        cut = subst (λ (b : Buckets). IsCutInto b.size (length b.records) w) (sym go.buckets)
            (subst (λ n. IsCutInto n (length final.records) w) (sym same.size)
            (subst (λ n. IsCutInto size n w) (sym same.long) h.cut));
        data_from = ap (λ (b : Buckets). b.data_from) go.buckets ∙ same.data_from ∙ h.data_from;
        records = subst (λ (b : Buckets). (j : ℕ) → w.before + j < length b.records
            → IsBucketFor (w.flow.books.version j) j (buckets_in then_)
            (pins_in then_.owner ((w.before + j) * b.size) b.size) (bucket_of b (w.before + j)))
            (sym go.buckets)
            (subst (λ n. (j : ℕ) → w.before + j < length final.records
            → IsBucketFor (w.flow.books.version j) j (buckets_in then_)
            (pins_in then_.owner ((w.before + j) * n) n) (bucket_of final (w.before + j)))
            (sym same.size)
            (λ j inside. record_then j (let long = same.long in omega (arith, long, inside))));
        places = subst (λ (b : Buckets). StandFor w.before b.size q.fill q.reserves then_)
            (sym go.buckets)
            (subst (λ n. StandFor w.before n q.fill q.reserves then_) (sym same.size)
            (subst (λ (fs : List fill.Open). StandFor w.before size fs q.reserves then_)
            (sym go.fill)
            (subst (λ (r : Reserves). StandFor w.before size p.fill r then_) (sym go.reserves)
            places_then)));
        outside = λ n less. ap (λ (b : Buckets). (bucket_of b n).mark) go.buckets
            ∙ outside_then n less;
        room = ap (λ (r : Reserves). (list_of list.Priorities r).room) go.reserves ∙ h.room;
        chain = chain_stays w.before w.flow.books.sets k.chains.of k.chains.ready k.chains.sealed p
            q
            go.rest h.chain;
        round = round_stays w.flow.books w.before k.round p q final go.rest go.buckets same.long
            same.touched h.round;
      }

-- ---- the candidates in hand

pub is_first_dead : (items all : List Candidate) (r o : Option Candidate) → items ≡ all
    → r ≡ first_of Dead items → r ≡ o → first_of Dead all ≡ o
is_first_dead items all r o value found is =
    ap (λ (cs : List Candidate). first_of Dead cs) (sym value) ∙ sym found ∙ is

pub none_killed : (f : InFlight) (x : World) → IsFlight f x → first_of Dead f.candidates ≡ None
    → IsNoneKilled x
none_killed f x on none y view n stands =
    let fl = on y view in
    all_alive (λ n. kept_of ((data_of y).candidates n)) f.candidates none fl.candidates.each n
    (fl.candidates.all n stands)

pub has_pointer : (f : InFlight) (x : World) (c : Candidate) → IsFlight f x
    → first_of Dead f.candidates ≡ Some c → pointer_of c.key ≡ None → ⊥
has_pointer f x c on is none =
    let fl = on x (inl refl) in
    let one = (found (λ n. kept_of ((data_of x).candidates n)) f.candidates c is
    fl.candidates.each).1 in no_ptr (pointer_of c.key) one.place.0 none one.place.1
  where
    no_ptr : (o : Option Ptr) (a : Ptr) → o ≡ None → o ≡ Some a → ⊥
    no_ptr o a x y = let both : None ≡ Some a = sym x ∙ y in absurd (cc)

-- ---- the deed

module _ {C B : Type 0} (cache_facts : C → DiskFacts) (backing_facts : B → DiskFacts)
    (v : View cache_facts backing_facts) (seat : IsCoreSeat cache_facts backing_facts v)
    (cached : are_plain cache_facts backing_facts v.run.start ≡ false)
    (holds : Holds v.parts 1) (f : InFlight) (on : IsFlight f (world cache_facts backing_facts v))
    (c : Candidate) (is_dead : first_of Dead f.candidates ≡ Some c) where
  pub may_drop : MayDo cache_facts backing_facts v (deed.Unpin (unpin.Dead c.number))
  may_drop = may_each cache_facts backing_facts v cached (deed.Unpin (unpin.Dead c.number))
      (λ o x is course at.
      let fl = (at.stand 1 (part.Flight f) holds (refl, on)).1 (seen_from o x) at.view in
      let one = found (λ n. kept_of ((data_of (seen_from o x)).candidates n)) f.candidates c is_dead
      fl.candidates.each in
      let follows = can_alone (seen_from o x) v.first (deed.Unpin (unpin.Dead c.number))
      (flow.UnpinDead c.number) (few cache_facts backing_facts v seat) refl refl (record {
        heard = tt;
        steps = (
          λ t inside. subst WasPinned
              (sym (law_kept x o is course c.number t one.1.stands inside)) tt,
          tt,
        );
        can = (one.1.stands, one.1.alive ∙ ap not one.0);
      }) tt tt tt tt in (follows.enabled, tt, tt))

module _ (o : Origin) (x : World) (is : IsOrigin x o) (course : IsCourseOf o x.log) (i c : ℕ)
    (on : core.IsEnabled o.opening (replay o x.log) (by i (deed.Unpin (unpin.Dead c)))) where
  abbrev st : core.State
  st = replay o x.log

  abbrev at : ℕ
  at = (st.machine.whole.flow.candidates c).place

  abbrev count : ℕ
  count = (st.machine.whole.flow.candidates c).count

  abbrev dropped : core.State
  dropped = core.after o.opening st (by i (deed.Unpin (unpin.Dead c)))

  own_kept : (t : ℕ) → within at count t ≡ true → (books_of st.machine).owner t ≡ Own i → ⊥
  own_kept t inside own =
      let e : Own i ≡ Kept c = sym own
      ∙ law_kept x o is course c t on.course.0.data_allows.0.can.0 inside in absurd (cc)

  owner_then : (t : ℕ) → (books_of st.machine).owner t ≡ Own i
      → (books_of dropped.machine).owner t ≡ Own i
  owner_then t own = put_run_cases (books_of st.machine).owner at count t Spent (λ y. y ≡ Own i)
      (λ _. own) (λ inside. absurd (own_kept t inside own))

  own_dropped : (p : Placed) → IsOwn i p o st → IsOwn i p o dropped
  own_dropped p h = record {
    some = h.some;
    own = λ t of. owner_then t (h.own t of);
    bucket = h.bucket;
    lies = h.lies;
    generation = h.generation;
  }

  written_dropped : (known : ℕ → Option Value) → HasWritten i known o st
      → HasWritten i known o dropped
  written_dropped known h t v is = let was = h t v is in record {
    own = owner_then t was.own;
    placed = ap (λ (s : Seat). s.placed t) (put_same st.machine.whole.flow.seats i i) ∙ was.placed;
  }

dropped_seat : (w : core.Opening) (st : core.State) (i c : ℕ)
    → SameSeat (st.machine.whole.flow.seats i)
    ((core.after w st (by i (deed.Unpin (unpin.Dead c)))).machine.whole.flow.seats i)
dropped_seat w st i c =
    same_as (st.machine.whole.flow.seats i) _ (put_same st.machine.whole.flow.seats i i)

module _ {C B : Type 0} (cache_facts : C → DiskFacts) (backing_facts : B → DiskFacts)
    (v w : View cache_facts backing_facts) (seat : IsCoreSeat cache_facts backing_facts v)
    (number : ℕ)
    (did : Did cache_facts backing_facts (Some (deed.Unpin (unpin.Dead number))) v w) where
  pub kept_dropped : KeepsAll cache_facts backing_facts v w
  kept_dropped = record {
    places = record {
      opening = opening_deed cache_facts backing_facts v w (deed.Unpin (unpin.Dead number)) seat
          did;
      own = λ p h. subst (λ i. FromEach (world cache_facts backing_facts w) (IsOwn i p))
          (sym did.is.same.first)
          (known_changed cache_facts backing_facts v w (deed.Unpin (unpin.Dead number))
          (IsOwn v.first p) (IsOwn v.first p) did
          (λ o is course on. own_dropped o did.is.before is course v.first number on p)
          (own_since cache_facts backing_facts v did.is.before seat did.is.since p h));
      written = λ known h. subst (λ i. FromEach (world cache_facts backing_facts w)
          (HasWritten i known))
          (sym did.is.same.first)
          (known_changed cache_facts backing_facts v w (deed.Unpin (unpin.Dead number))
          (HasWritten v.first known) (HasWritten v.first known) did
          (λ o is course on. written_dropped o did.is.before is course v.first number on known)
          (since_by cache_facts backing_facts (λ i. HasWritten i known) (written_lasts known) v
          did.is.before seat did.is.since h));
    };
    claim = claim_kept_deed cache_facts backing_facts v w (deed.Unpin (unpin.Dead number)) seat
        (λ w st. dropped_seat w st v.first number) did;
  }

  -- ---- what the parts in hand stand for

  module _ (holds_flight : Holds v.parts 1) (f : InFlight)
      (on : IsFlight f (world cache_facts backing_facts v)) (c : Candidate)
      (is_dead : first_of Dead f.candidates ≡ Some c) (same : number ≡ c.number)
      (holds : Holds v.parts 2) (p : BucketsPart)
      (there : AreBuckets p (world cache_facts backing_facts v)) (some : 0 < p.buckets.size)
      (ptr : Ptr) (pointer : pointer_of c.key ≡ Some ptr) where
    flight_at : (o : Origin) → IsOrigin did.is.before o → IsCourseOf o did.is.before.log
        → IsFlightOf f (seen_from o did.is.before)
    flight_at o is course = (held (m cache_facts backing_facts) (framed cache_facts backing_facts) v
        did.is.before 1 (part.Flight f) seat.seat did.is.since holds_flight (refl, on)).1
        (seen_from o did.is.before) (inr (o, record { is = refl; origin = is; course = course }))

    one_ptr : (o : Option Ptr) (a b : Ptr) → o ≡ Some a → o ≡ Some b → a ≡ b
    one_ptr o a b x y = let both : Some a ≡ Some b = sym x ∙ y in cc

    pub buckets_dropped : (q : BucketsPart) → HasLetGo p ptr.offset c.key.size q
        → AreBuckets q (world cache_facts backing_facts w)
    buckets_dropped q go = known_committed cache_facts backing_facts v w
        (deed.Unpin (unpin.Dead number))
        (λ o st. AreBucketsOf o.opening.machine (books_of st.machine) q) did (λ o is course.
        let fl = flight_at o is course in
        let one = (found (λ n. kept_of ((data_of (seen_from o did.is.before)).candidates n))
        f.candidates c is_dead fl.candidates.each).1 in
        let st = replay o did.is.before.log in
        let x = st.machine.whole.flow.candidates number in
        let as_said = ap st.machine.whole.flow.candidates same in
        dropped_stand o.opening.machine (books_of st.machine) p q x.place x.count number
        (buckets_since cache_facts backing_facts v seat holds p there did.is.before did.is.since o
        is
        course) some
        (λ t inside. law_kept did.is.before o is course number t
        (ap (λ (y : kept.Candidate). y.stands) as_said ∙ one.stands) inside)
        (subst (λ n. HasLetGo p x.place n q)
        (sym (ap (λ (y : kept.Candidate). y.count) as_said ∙ one.count))
        (subst (λ n. HasLetGo p n c.key.size q)
        (ap (λ (y : Ptr). y.offset) (one_ptr (pointer_of c.key) ptr one.place.0 pointer one.place.1)
        ∙ one.place.2 ∙ sym (ap (λ (y : kept.Candidate). y.place) as_said)) go)))
