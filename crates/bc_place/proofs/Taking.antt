-- A bucket is taken for data: when that may be, and what the buckets in hand stand for then.
use Rattle.std.proofs.Common.{◌≡◌, ◌≢◌, ◌⊎◌, inl, inr, ℕ, ◌+◌, ◌-◌, ◌*◌, ◌<◌, ◌≤◌, Bool, true, false, List, [], ◌∷◌, length, refl, sym, ap, ◌∙◌, subst, arith, get_or-set_other}
use Rattle.std.specs.Prelude.{slice_index}
use Rattle.std.proofs.lemmas.Bool.{cases_eq, lt-ltb}
use Rattle.bc_alloc.proofs.Fits.{other_stays, same_length, this_changes}
use Rattle.bc_alloc.specs.Reserve.{Reserve, no_reserve, times}
use Rattle.bc_alloc.specs.Reserves.{Reserves, list_of}
use Rattle.bc_alloc.specs.declared.purpose.Purpose.TheVariants as list
use Rattle.bc_books.specs.After as books
use Rattle.bc_books.specs.Books.{Books, Take}
use Rattle.bc_books.specs.Enabled.{CanStep}
use Rattle.bc_books.specs.Index.{put}
use Rattle.bc_books.specs.Shelves.{Listed, Open, Plain}
use Rattle.bc_bucket.specs.Bucket.{with_held}
use Rattle.bc_bucket.specs.Buckets.{Buckets, bucket_of, changed}
use Rattle.bc_bucket.specs.declared.bucket.Bucket.{Bucket}
use Rattle.bc_events.specs.Run as core
use Rattle.bc_events.specs.declared.event.Deed.TheVariants as deed
use Rattle.bc_fill.specs.Fill.{AreOpen}
use Rattle.bc_deed.specs.bc_hand.Seats.{by}
use Rattle.bc_known.specs.Laws.{IsSound}
use Rattle.bc_leaves.proofs.Chains.{put_else, put_there}
use Rattle.bc_deed.proofs.of_bc_machine.Buckets.{chain_stays, mark_stays, round_stays}
use Rattle.bc_deed.specs.bc_machine.Containers.{AreBucketsOf, IsBucketFor, is_held, pins_in}
use Rattle.bc_deed.specs.bc_machine.World.{IsCourseOf, Origin, replay}
use Rattle.bc_deed.specs.bc_machine.declared.part.BucketsPart.{BucketsPart}
use Rattle.bc_places.proofs.Lists.{first_in, there}
use Rattle.bc_places.proofs.Open.{opened_stands}
use Rattle.bc_places.proofs.Others.{law_refused}
use Rattle.bc_places.specs.Laws.{HasNone}
use Rattle.bc_places.specs.Stands.{IsCutInto, StandFor}
use Rattle.bc_shares.specs.Shares.{books_of, buckets_in}
use Rattle.bc_whole.specs.State as whole
use Rattle.bc_events.specs.declared.event.Event.{Event}
use Rattle.bc_place.specs.Next.{HasFirst}
use Rattle.bc_place.proofs.Parts.{are_open, order_course, spread}

first_times : (ks : List ℕ) → 0 < length ks → 0 < times (slice_index ks 0) ks
first_times [] some = absurd (omega arith)
first_times (k ∷ ks) some = first_in k ks

never : (b : Bool) → b ≡ true → b ≡ false → ⊥
never b is off = cc

module _ (o : Origin) (sound : IsSound o.opening.machine o.parts)
    (not_plain : o.opening.machine.flow.plain ≡ false) (es : List Event) (on : IsCourseOf o es)
    (p : BucketsPart)
    (h : AreBucketsOf o.opening.machine (books_of (replay o es).machine) p) (i : ℕ) where
  abbrev w : whole.Opening
  w = o.opening.machine

  abbrev k : Books
  k = books_of (replay o es).machine

  can_take : (n : ℕ) → 0 < times n (list_of list.Plain p.reserves).buckets
      → CanStep w.flow.books k (Take i Plain (n - w.before))
  can_take n some = inl (there w.before n (list_of list.Plain p.reserves).buckets
      (λ q. k.shelf q ≡ Listed Plain) (h.places.lists.lists list.Plain) some)

  pub may_take : (n : ℕ) → n ≡ slice_index (list_of list.Plain p.reserves).buckets 0
      → 0 < length (list_of list.Plain p.reserves).buckets → i < 320
      → (replay o es).machine.whole.flow.halted ≡ false
      → core.IsEnabled o.opening (replay o es) (by i (deed.Take list.Plain (n - w.before)))
  may_take n n_is some few running = record {
    seat = lt-ltb i 320 few;
    course = (
      record {
        data_allows = (
          record {
            heard = running;
            steps = (
              can_take n (subst (λ m. 0 < times m (list_of list.Plain p.reserves).buckets) (sym n_is)
                  (first_times (list_of list.Plain p.reserves).buckets some)),
              tt,
            );
            can = refl;
          },
          tt,
        );
        asks = refl;
      },
      tt,
    );
    fit = tt;
    its_line = tt;
    plain = λ plain. absurd (never o.opening.machine.flow.plain plain not_plain);
  }

  -- where none is open, and the plain list is empty
  pub has_none : p.fill ≡ [] → (list_of list.Plain p.reserves).buckets ≡ [] → HasNone w.flow.books k
  has_none none empty = law_refused w.flow.books k w.before p.buckets.size p.reserves
      (subst (λ fs. StandFor w.before p.buckets.size fs p.reserves k) none h.places) empty

  -- ---- what it leaves

  module _ (none : p.fill ≡ []) (q : BucketsPart) (f : HasFirst p q) where
    abbrev n : ℕ
    n = f.bucket

    abbrev then_ : Books
    then_ = books.after w.flow.books k (Take i Plain (n - w.before))

    opens : AreOpen [] p.reserves p.buckets
    opens = subst (λ fs. AreOpen fs p.reserves p.buckets) none (are_open p)

    stands : StandFor w.before p.buckets.size [] p.reserves k
    stands = subst (λ fs. StandFor w.before p.buckets.size fs p.reserves k) none h.places

    on_list : 0 < times n (list_of list.Plain p.reserves).buckets
    on_list = subst (λ (ks : List ℕ). 0 < times n ks) (sym f.taken.first)
        (first_in n (list_of list.Plain q.reserves).buckets)

    low : w.before ≤ n
    low = (h.places.lists.lists list.Plain).behind n on_list

    record_then : (j : ℕ) → w.before + j < length p.buckets.records → (j ≡ n - w.before) ⊎ (j ≢ n - w.before)
        → IsBucketFor (w.flow.books.version j) j (buckets_in then_)
        (pins_in then_.owner ((w.before + j) * p.buckets.size) p.buckets.size)
        (bucket_of (changed (with_held true) n p.buckets) (w.before + j))
    record_then j inside (inl e) =
        let at : w.before + j ≡ n = omega (arith, e, low) in
        let r = h.records j inside in
        subst (λ (b : Bucket). IsBucketFor (w.flow.books.version j) j (buckets_in then_)
        (pins_in then_.owner ((w.before + j) * p.buckets.size) p.buckets.size) b)
        (sym (ap (bucket_of (changed (with_held true) n p.buckets)) at
        ∙ this_changes (with_held true) n p.buckets (omega (arith, inside, at))
        ∙ ap (λ m. with_held true (bucket_of p.buckets m)) (sym at)))
        (record {
          generation = r.generation;
          uses = r.uses;
          last_gc = r.last_gc;
          mark = r.mark;
          pins = r.pins;
          held = sym (ap is_held (ap (put k.shelf (n - w.before) Open) e
              ∙ put_there k.shelf (n - w.before) Open));
        })
    record_then j inside (inr ne) =
        let r = h.records j inside in
        subst (λ (b : Bucket). IsBucketFor (w.flow.books.version j) j (buckets_in then_)
        (pins_in then_.owner ((w.before + j) * p.buckets.size) p.buckets.size) b)
        (sym (other_stays (with_held true) n p.buckets (w.before + j) (λ e. ne (omega (arith, e)))))
        (record {
          generation = r.generation;
          uses = r.uses;
          last_gc = r.last_gc;
          mark = r.mark;
          pins = r.pins;
          held = r.held ∙ sym (ap is_held (put_else k.shelf (n - w.before) Open j ne));
        })

    -- of the buckets as they are then
    are_then : AreBucketsOf w then_ q
    are_then = record {
      cut = subst (λ (b : Buckets). IsCutInto b.size (length b.records) w) (sym f.buckets)
          (subst (λ m. IsCutInto p.buckets.size m w)
          (sym (same_length (with_held true) n p.buckets)) h.cut);
      data_from = ap (λ (b : Buckets). b.data_from) f.buckets ∙ h.data_from;
      records = subst (λ (b : Buckets). (j : ℕ) → w.before + j < length b.records
          → IsBucketFor (w.flow.books.version j) j (buckets_in then_)
          (pins_in then_.owner ((w.before + j) * b.size) b.size) (bucket_of b (w.before + j)))
          (sym f.buckets) (λ j inside. record_then j
          (let long = same_length (with_held true) n p.buckets in omega (arith, long, inside))
          (cases_eq j (n - w.before)));
      places = subst (λ (b : Buckets). StandFor w.before b.size q.fill q.reserves then_) (sym f.buckets)
          (subst (λ gs. StandFor w.before p.buckets.size gs q.reserves then_) (sym f.fill)
          (opened_stands w.flow.books k w.before i n p.reserves q.reserves p.buckets
          (order_course o sound es on) (spread w p sound.laid h.cut) p.order p.fit p.sized opens
          stands f.taken));
      outside = λ m less. ap (λ (b : Buckets). (bucket_of b m).mark) f.buckets
          ∙ mark_stays (with_held true) (λ x. refl) n p.buckets m ∙ h.outside m less;
      room = ap (λ (r : Reserves). (list_of list.Priorities r).room) f.taken.others
          ∙ ap (λ (l : Reserve). l.room) (get_or-set_other p.reserves.lists 3 0
          (record (list_of list.Plain p.reserves) {
            buckets = (list_of list.Plain q.reserves).buckets;
          }) no_reserve (λ e. omega (arith, e))) ∙ h.room;
      chain = chain_stays w.before w.flow.books.sets k.chains.of k.chains.ready k.chains.sealed p q
          f.rest h.chain;
      round = round_stays w.flow.books w.before k.round p q (changed (with_held true) n p.buckets)
          f.rest f.buckets (same_length (with_held true) n p.buckets) refl h.round;
    }

    pub take_stands : AreBucketsOf w
        (books_of (core.after o.opening (replay o es) (by i (deed.Take list.Plain (n - w.before)))).machine) q
    take_stands = are_then
