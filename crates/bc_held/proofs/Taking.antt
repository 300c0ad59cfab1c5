-- A bucket is taken: when that may be, and what the buckets in hand stand for then.
use Rattle.std.proofs.Common.{◌≡◌, ◌≢◌, ◌⊎◌, inl, inr, ℕ, ◌+◌, ◌-◌, ◌*◌, ◌%◌, ◌<◌, ◌≤◌, Bool, true, false, List, [], ◌∷◌, length, Some, None, refl, sym, ap, ◌∙◌, subst, arith}
use Rattle.std.proofs.lemmas.Bool.{cases_eq, lt-ltb}
use Rattle.bc_alloc.proofs.Fits.{other_stays, same_length, this_changes}
use Rattle.bc_alloc.specs.Reserve.{times}
use Rattle.bc_alloc.specs.Reserves.{Reserves, list_of, serving, times_listed}
use Rattle.bc_alloc.specs.declared.purpose.Purpose.{Purpose}
use Rattle.bc_alloc.specs.declared.purpose.Purpose.TheVariants as list
use Rattle.bc_books.specs.After as books
use Rattle.bc_books.specs.Books.{Books, Take}
use Rattle.bc_books.specs.Enabled.{CanStep}
use Rattle.bc_books.specs.Shelves.{Held, IsFor, Listed, Open, Plain, Raised, Shelf, taken_to}
use Rattle.bc_books.specs.Shelves as shelf
use Rattle.bc_bucket.specs.Bucket.{with_held}
use Rattle.bc_bucket.specs.Buckets.{Buckets, bucket_of, changed}
use Rattle.bc_bucket.specs.declared.bucket.Bucket.{Bucket}
use Rattle.bc_events.specs.Acts.{acts_of, purpose_of}
use Rattle.bc_events.specs.Run as core
use Rattle.bc_events.specs.declared.event.Deed.TheVariants as deed
use Rattle.bc_events.specs.declared.event.Event.{Event}
use Rattle.bc_fill.specs.declared.fill.Open as fill
use Rattle.bc_fill.specs.Fill.{bucket_numbers}
use Rattle.bc_held.proofs.Fresh.{fresh_listed, unnamed_listed}
use Rattle.bc_held.proofs.Lists.{its, room_stays, same_times, serving_is}
use Rattle.bc_held.specs.Held.{IsHeldFor, LiesAt, number_in}
use Rattle.bc_held.specs.Next.{IsNextFor, TakesBucket, list_for, purpose_for}
use Rattle.bc_held.specs.declared.held.HeldBucket.{HeldBucket}
use Rattle.bc_held.specs.declared.held.Want.{Want}
use Rattle.bc_held.specs.declared.held.Want.TheVariants as want
use Rattle.bc_known.specs.Acts as known
use Rattle.bc_known.specs.Laws.{IsSound}
use Rattle.bc_leaves.proofs.Chains.{put_else, put_there}
use Rattle.bc_place.proofs.Parts.{order_course, spread}
use Rattle.bc_place.proofs.of_bc_machine.Buckets.{chain_stays, mark_stays, round_stays}
use Rattle.bc_place.specs.bc_hand.Seats.{by}
use Rattle.bc_place.specs.bc_machine.Containers.{AreBucketsOf, IsBucketFor, is_held, pins_in}
use Rattle.bc_place.specs.bc_machine.World.{IsCourseOf, Origin, replay}
use Rattle.bc_place.specs.bc_machine.declared.part.BucketsPart.{BucketsPart}
use Rattle.bc_places.proofs.Lists.{apart, first_in, there, without}
use Rattle.bc_places.proofs.Open.{on_no_list}
use Rattle.bc_places.specs.Stands.{IsCutInto, StandFor}
use Rattle.bc_shares.specs.Shares.{books_of, buckets_in}
use Rattle.bc_whole.specs.State as whole

-- ---- a purpose other than data's

-- what the deed is to the machine
acts_taken : (w : whole.Opening) (st : known.State) (i : ℕ) (p : Purpose) (q : ℕ)
    → p ≢ list.Plain → acts_of w st i (deed.Take p q) ≡ Some (known.Take (purpose_of p) q ∷ [])
acts_taken w st i list.Priorities q other = refl
acts_taken w st i list.Moving q other = refl
acts_taken w st i list.Tree q other = refl
acts_taken w st i list.Plain q other = absurd (other refl)

books_taken : (o : Origin) (st : core.State) (i : ℕ) (p : Purpose) (q : ℕ) → p ≢ list.Plain
    → books_of (core.after o.opening st (by i (deed.Take p q))).machine
    ≡ books.after o.opening.machine.flow.books (books_of st.machine) (Take i (purpose_of p) q)
books_taken o st i list.Priorities q other = refl
books_taken o st i list.Moving q other = refl
books_taken o st i list.Tree q other = refl
books_taken o st i list.Plain q other = absurd (other refl)

goes_to : (i : ℕ) (p : Purpose) → p ≢ list.Plain
    → taken_to i (purpose_of p) ≡ Held i (purpose_of p)
goes_to i list.Priorities other = refl
goes_to i list.Moving other = refl
goes_to i list.Tree other = refl
goes_to i list.Plain other = absurd (other refl)

not_plain_purpose : (p : Purpose) → p ≢ list.Plain → purpose_of p ≢ Plain
not_plain_purpose list.Priorities other e = absurd (cc)
not_plain_purpose list.Moving other e = absurd (cc)
not_plain_purpose list.Tree other e = absurd (cc)
not_plain_purpose list.Plain other e = other refl

-- ---- what is wanted

not_data : (x : Want) → purpose_for x ≢ list.Plain
not_data want.Chain e = absurd (cc)
not_data want.Data e = absurd (cc)
not_data want.Node e = absurd (cc)
not_data want.Rewrite e = absurd (cc)

-- a bucket of the list that is asked may be taken so
asks_own : (x : Want) (y : Shelf) → y ≡ Listed (purpose_of (list_for x))
    → IsFor (purpose_of (purpose_for x)) y
asks_own want.Chain y on = inr (inl on)
asks_own want.Data y on = inr (inl on)
asks_own want.Node y on = inr (inl on)
asks_own want.Rewrite y on = inr (inr (refl, on))

-- ---- shelves

listed_open : (x : Shelf) (p : shelf.Purpose) → x ≡ Listed p → x ≡ Open → ⊥
listed_open x p a b = cc

listed_raised : (x : Shelf) (p : shelf.Purpose) → x ≡ Listed p → x ≡ Raised → ⊥
listed_raised x p a b = cc

held_listed : (x : Shelf) (i : ℕ) (p q : shelf.Purpose) → x ≡ Held i p → x ≡ Listed q → ⊥
held_listed x i p q a b = cc

held_open : (x : Shelf) (i : ℕ) (p : shelf.Purpose) → x ≡ Held i p → x ≡ Open → ⊥
held_open x i p a b = cc

held_raised : (x : Shelf) (i : ℕ) (p : shelf.Purpose) → x ≡ Held i p → x ≡ Raised → ⊥
held_raised x i p a b = cc

never : (b : Bool) → b ≡ true → b ≡ false → ⊥
never b is off = cc

module _ (o : Origin) (sound : IsSound o.opening.machine o.parts)
    (not_plain : o.opening.machine.flow.plain ≡ false) (es : List Event) (on : IsCourseOf o es)
    (p : BucketsPart)
    (h : AreBucketsOf o.opening.machine (books_of (replay o es).machine) p) (i : ℕ) (b : HeldBucket)
    (x : Want) (next : IsNextFor x p b) where
  abbrev w : whole.Opening
  w = o.opening.machine

  abbrev pp : Purpose
  pp = b.purpose

  other : pp ≢ list.Plain
  other is = not_data x (sym next.purpose ∙ is)

  abbrev k : Books
  k = books_of (replay o es).machine

  abbrev n : ℕ
  n = b.bucket

  -- the list that serves
  abbrev s : Purpose
  s = serving (list_for x) p.reserves

  on_list : 0 < times n (list_of s p.reserves).buckets
  on_list = subst (λ (ks : List ℕ). 0 < times n ks) (sym next.first) (first_in n next.rest)

  low : w.before ≤ n
  low = (h.places.lists.lists s).behind n on_list

  pub was : k.shelf (n - w.before) ≡ Listed (purpose_of s)
  was = there w.before n (list_of s p.reserves).buckets (λ q. k.shelf q ≡ Listed (purpose_of s))
      (h.places.lists.lists s) on_list

  can_take : CanStep w.flow.books k (Take i (purpose_of pp) (n - w.before))
  can_take = elim (serving_is (list_for x) p.reserves) [
    | inl e ↦ inl (subst (λ r. k.shelf (n - w.before) ≡ Listed (purpose_of r)) e was)
    | inr e ↦ subst (λ r. IsFor (purpose_of r) (k.shelf (n - w.before))) (sym next.purpose)
        (asks_own x (k.shelf (n - w.before))
        (subst (λ r. k.shelf (n - w.before) ≡ Listed (purpose_of r)) e was))
  ]

  pub may_take : i < 320 → (replay o es).machine.whole.flow.halted ≡ false
      → core.IsEnabled o.opening (replay o es) (by i (deed.Take pp (n - w.before)))
  may_take few running = subst
      (λ acts. core.IsSome acts (core.CanDo o.opening (replay o es)
      (by i (deed.Take pp (n - w.before)))))
      (sym (acts_taken w (replay o es).machine i pp (n - w.before) other)) (record {
        seat = lt-ltb i 320 few;
        course = (
          record {
            data_allows = (record { heard = running; steps = (can_take, tt); can = refl }, tt);
            asks = not_plain_purpose pp other;
          },
          tt,
        );
        fit = tt;
        its_line = tt;
        plain = λ plain. absurd (never o.opening.machine.flow.plain plain not_plain);
      })

  -- ---- what it leaves

  module _ (q : BucketsPart) (t : TakesBucket x b p q) where
    abbrev then_ : Books
    then_ = books.after w.flow.books k (Take i (purpose_of pp) (n - w.before))

    its_own : (n < q.reserves.count)
        × ((bucket_of (changed (with_held true) n p.buckets) n).held ≡ true)
        × (times_listed q.reserves n ≡ 0)
    its_own = its p.reserves q.reserves p.buckets s n p.order p.fit p.sized t.taken

    inside : n < length p.buckets.records
    inside =
        let lt = its_own.0 in
        let same = ap (λ (r : Reserves). r.count) t.taken.others in
        let count = p.fit.same_count in omega (arith, lt, same, count)

    is_held_now : then_.shelf (n - w.before) ≡ Held i (purpose_of pp)
    is_held_now = put_there k.shelf (n - w.before) (taken_to i (purpose_of pp)) ∙ goes_to i pp other

    elsewhere : (j : ℕ) → j ≢ n - w.before → then_.shelf j ≡ k.shelf j
    elsewhere j ne = put_else k.shelf (n - w.before) (taken_to i (purpose_of pp)) j ne

    record_then : (j : ℕ) → w.before + j < length p.buckets.records
        → (j ≡ n - w.before) ⊎ (j ≢ n - w.before)
        → IsBucketFor (w.flow.books.version j) j (buckets_in then_)
        (pins_in then_.owner ((w.before + j) * p.buckets.size) p.buckets.size)
        (bucket_of (changed (with_held true) n p.buckets) (w.before + j))
    record_then j within (inl e) =
        let at : w.before + j ≡ n = omega (arith, e, low) in
        let r = h.records j within in
        subst (λ (x : Bucket). IsBucketFor (w.flow.books.version j) j (buckets_in then_)
        (pins_in then_.owner ((w.before + j) * p.buckets.size) p.buckets.size) x)
        (sym (ap (bucket_of (changed (with_held true) n p.buckets)) at
        ∙ this_changes (with_held true) n p.buckets (omega (arith, within, at))
        ∙ ap (λ m. with_held true (bucket_of p.buckets m)) (sym at)))
        (record {
          generation = r.generation;
          uses = r.uses;
          last_gc = r.last_gc;
          mark = r.mark;
          pins = r.pins;
          held = sym (ap is_held (ap then_.shelf e ∙ is_held_now));
        })
    record_then j within (inr ne) =
        let r = h.records j within in
        subst (λ (x : Bucket). IsBucketFor (w.flow.books.version j) j (buckets_in then_)
        (pins_in then_.owner ((w.before + j) * p.buckets.size) p.buckets.size) x)
        (sym (other_stays (with_held true) n p.buckets (w.before + j) (λ e. ne (omega (arith, e)))))
        (record {
          generation = r.generation;
          uses = r.uses;
          last_gc = r.last_gc;
          mark = r.mark;
          pins = r.pins;
          held = r.held ∙ sym (ap is_held (elsewhere j ne));
        })

    places_then : StandFor w.before p.buckets.size p.fill q.reserves then_
    places_then = record {
      opens = record {
        buckets = apart w.before n (bucket_numbers p.fill) (λ j. k.shelf j ≡ Open)
            (λ j. then_.shelf j ≡ Open) low h.places.opens.buckets
            (listed_open (k.shelf (n - w.before)) (purpose_of s) was)
            (λ j ne is. elsewhere j ne ∙ is) (λ j ne is. sym (elsewhere j ne) ∙ is)
            (held_open (then_.shelf (n - w.before)) i (purpose_of pp) is_held_now);
        free = h.places.opens.free;
        given = h.places.opens.given;
      };
      lists = record {
        lists = λ r. without w.before n (list_of r p.reserves).buckets
            (list_of r q.reserves).buckets (λ j. k.shelf j ≡ Listed (purpose_of r))
            (λ j. then_.shelf j ≡ Listed (purpose_of r)) low (h.places.lists.lists r)
            (λ j ne. same_times p.reserves q.reserves n j s r t.taken ne)
            (on_no_list q.reserves r n its_own.2)
            (λ j ne is. elsewhere j ne ∙ is) (λ j ne is. sym (elsewhere j ne) ∙ is)
            (held_listed (then_.shelf (n - w.before)) i (purpose_of pp) (purpose_of r) is_held_now);
        raised = without w.before n p.reserves.raised q.reserves.raised (λ j. k.shelf j ≡ Raised)
            (λ j. then_.shelf j ≡ Raised) low h.places.lists.raised
            (λ j ne. ap (λ (x : Reserves). times j x.raised) t.taken.others)
            (let none = its_own.2 in omega (arith, none))
            (λ j ne is. elsewhere j ne ∙ is) (λ j ne is. sym (elsewhere j ne) ∙ is)
            (held_raised (then_.shelf (n - w.before)) i (purpose_of pp) is_held_now);
      };
    }

    -- of the buckets as they are then
    are_then : AreBucketsOf w then_ q
    are_then = record {
      cut = subst (λ (x : Buckets). IsCutInto x.size (length x.records) w) (sym t.buckets)
          (subst (λ m. IsCutInto p.buckets.size m w)
          (sym (same_length (with_held true) n p.buckets)) h.cut);
      data_from = ap (λ (x : Buckets). x.data_from) t.buckets ∙ h.data_from;
      records = subst (λ (x : Buckets). (j : ℕ) → w.before + j < length x.records
          → IsBucketFor (w.flow.books.version j) j (buckets_in then_)
          (pins_in then_.owner ((w.before + j) * x.size) x.size) (bucket_of x (w.before + j)))
          (sym t.buckets) (λ j within. record_then j
          (let long = same_length (with_held true) n p.buckets in omega (arith, long, within))
          (cases_eq j (n - w.before)));
      places = subst (λ (x : Buckets). StandFor w.before x.size q.fill q.reserves then_)
          (sym t.buckets)
          (subst (λ (fs : List fill.Open). StandFor w.before p.buckets.size fs q.reserves then_)
          (sym t.fill) places_then);
      outside = λ m less. ap (λ (y : Buckets). (bucket_of y m).mark) t.buckets
          ∙ mark_stays (with_held true) (λ y. refl) n p.buckets m ∙ h.outside m less;
      room = room_stays p.reserves q.reserves n s list.Priorities t.taken ∙ h.room;
      chain = chain_stays w.before w.flow.books.sets k.chains.of k.chains.ready k.chains.sealed p q
          t.rest h.chain;
      round = round_stays w.flow.books w.before k.round p q (changed (with_held true) n p.buckets)
          t.rest t.buckets (same_length (with_held true) n p.buckets) refl h.round;
    }

    pub take_stands : AreBucketsOf w
        (books_of (core.after o.opening (replay o es)
        (by i (deed.Take pp (n - w.before)))).machine) q
    take_stands = subst (λ (x : Books). AreBucketsOf w x q)
        (sym (books_taken o (replay o es) i pp (n - w.before) other)) are_then

    -- ---- what the seat knows

    at_place : w.flow.books.bucket b.to.offset ≡ n - w.before
    at_place =
        let count = p.fit.same_count in
        let there = inside in
        let from = low in
        let is : w.before + (n - w.before) ≡ n = omega (arith, from) in
        let first : b.to.offset ≡ (w.before + (n - w.before)) * p.buckets.size
        = next.place.offset ∙ ap (λ m. m * p.buckets.size) (sym is) in
        let some = p.sized in
        spread w p sound.laid h.cut (n - w.before) b.to.offset
        (omega (arith, count, there, is)) (omega (arith, first)) (omega (arith, first, some))

    pub lies : LiesAt b o
    lies =
        let at = at_place in
        let from = low in
        let count = h.cut.buckets in
        let there = inside in
        record {
          number = omega (arith, at, from);
          inside = omega (arith, at, from, count, there);
          begins = ap w.layout.first at ∙ h.cut.first (n - w.before)
              ∙ ap (λ m. m * p.buckets.size)
              (let is : w.before + (n - w.before) ≡ n = omega (arith, from) in is)
              ∙ sym next.place.offset;
          device = next.place.device;
        }

    known_then : (j : ℕ) → j ≡ n - w.before → (then_.shelf j ≡ Held i (purpose_of pp))
        × ((t : ℕ) → w.flow.books.bucket t ≡ j → then_.owner t ≡ shelf.Fresh)
        × (then_.chains.of j ≡ None) × (b.to.generation ≡ then_.generations.version j % 256)
    known_then j e =
        let from = low in
        let at : w.before + j ≡ n = omega (arith, e, from) in
        let there = inside in (
          ap then_.shelf e ∙ is_held_now,
          λ t is. fresh_listed w.flow.books k (order_course o sound es on) (n - w.before)
              (purpose_of s) was t (is ∙ e),
          ap k.chains.of e ∙ unnamed_listed w.flow.books k (order_course o sound es on) (n - w.before)
              (purpose_of s) was,
          next.place.generation
              ∙ ap (λ (m : ℕ). (bucket_of p.buckets m).generation) (sym at)
              ∙ (h.records j (omega (arith, at, there))).generation,
        )

    pub holds : IsHeldFor i b o (core.after o.opening (replay o es)
        (by i (deed.Take pp (n - w.before))))
    holds = let all = known_then (number_in b o) at_place in
        let same = sym (books_taken o (replay o es) i pp (n - w.before) other) in record {
          lies = lies;
          held = subst (λ (x : Books). x.shelf (number_in b o) ≡ Held i (purpose_of b.purpose)) same
              all.0;
          fresh = subst (λ (x : Books). (t : ℕ) → w.flow.books.bucket t ≡ number_in b o
              → x.owner t ≡ shelf.Fresh) same all.1;
          unnamed = subst (λ (x : Books). x.chains.of (number_in b o) ≡ None) same all.2;
          generation = subst (λ (x : Books). b.to.generation
              ≡ x.generations.version (number_in b o) % 256) same all.3;
        }

    -- as it was before the deed
    pub was_listed : k.shelf (number_in b o) ≡ Listed (purpose_of s)
    was_listed = ap k.shelf at_place ∙ was
