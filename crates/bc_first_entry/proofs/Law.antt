-- The laws on an opening's entry.
use Rattle.std.proofs.Common.{◌≡◌, inl, ℕ, ◌+◌, ◌<◌, ◌≤◌, Bool, true, false, ◌||◌, List, [], ◌∷◌, length, ◌++◌, Option, Some, None, refl, sym, ap, ◌∙◌, subst, arith, if◌then◌else◌}
use Rattle.std.specs.Prelude.{IfSome, Vec}
use Rattle.std.specs.declared.alloc.Global.{Global}
use Rattle.bc_model.specs.Sector.{Value, at_run}
use Rattle.bc_model.proofs.Runs.{at_range}
use Rattle.bc_books.specs.Shelves.{Fresh, Spent}
use Rattle.bc_books.specs.Books.{unused}
use Rattle.bc_books.specs.Books as book
use Rattle.bc_data.specs.Data as flow
use Rattle.bc_meta.specs.Facts.{In}
use Rattle.bc_meta.specs.Entries.{Entry}
use Rattle.bc_meta.specs.Layout.{entry_at, entry_len}
use Rattle.bc_meta.specs.Records.{Records, Nothing, put}
use Rattle.bc_meta.specs.Laws as meta
use Rattle.bc_meta.proofs.Firm.{stands_high}
use Rattle.bc_meta.proofs.Lists.{by_test}
use Rattle.bc_leaves.specs.Enabled.{CanSealNext}
use Rattle.bc_leaves.specs.Events.{same_root}
use Rattle.bc_leaves.specs.Parts as parts
use Rattle.bc_whole.specs.State as whole
use Rattle.bc_whole.specs.State.{OfEntry, SameRoot, SameChain}
use Rattle.bc_known.specs.Acts.{State, Act, Seal, BeginBucket, CacheBarrier, WriteCache, FailCache, MakeDurable, Alone, after}
use Rattle.bc_known.specs.Run.{IsEnabled, IsRun, start}
use Rattle.bc_known.specs.Laws.{IsSound}
use Rattle.bc_events.specs.Run as core
use Rattle.bc_events.specs.Run.{CanDo}
use Rattle.bc_events.specs.declared.event.Deed.{Deed}
use Rattle.bc_events.specs.declared.event.Deed.TheVariants as deed
use Rattle.bc_first_entry.specs.Entry.{Entering, FirstEntry, begin_acts, entering, entering_acts, bucket_for, place_for, entry_for, CanFirst, seal_of, write_of, by_first, first_deeds, failed_barrier, failed_write, EachStopped}
use Rattle.bc_first_entry.specs.Laws.{IsReady, LawEnters, LawFirst, LawStopped, LawQuiet}

-- a place that metadata may be written to
pub record IsFree (w : whole.Opening) (k : book.Books) (t : ℕ) : Type 0 where
  pub owner : k.owner t ≡ Fresh
  pub chain : k.chains.of (w.flow.books.bucket t) ≡ None
  pub fixed : w.flow.books.fixed (w.flow.books.bucket t) ≡ true

-- what the entry finds, once its bucket is begun
pub record IsBefore (w : whole.Opening) (x : parts.State) (p : Entering)
    (st : State) : Type 0 where
  pub running : st.whole.flow.halted ≡ false
  pub none_waits : st.whole.flow.books.journal.waiting ≡ false
  pub seal : CanSealNext st.whole.parts p.last_seq
  pub entry : same_root st.whole.parts.records p.last_seq
      st.whole.parts.records.newest.prio p.rest ≡ entry_for w x p
  pub place : st.whole.store.places.ring_next st.whole.store.places.records.bucket
      ≡ place_for w p.begun
  pub bucket : st.whole.store.places.records.bucket ≡ bucket_for w p.begun
  pub free : (t : ℕ) → place_for w p.begun ≤ t
      → t < place_for w p.begun + entry_len w.layout (entry_for w x p)
      → IsFree w st.whole.flow.books t

module _ (w : whole.Opening) (x : parts.State) (p : Entering) (can : CanFirst w x p)
    (st : State) (h : IsBefore w x p st) where
  abbrev s1 : State
  s1 = after w st 0 (Seal p.last_seq p.rest SameRoot SameChain)

  abbrev s2 : State
  s2 = after w s1 0 CacheBarrier

  abbrev s3 : State
  s3 = after w s2 0 (WriteCache OfEntry p.values)

  abbrev s4 : State
  s4 = after w s3 0 CacheBarrier

  pub seals : IsEnabled w st 0 (Seal p.last_seq p.rest SameRoot SameChain)
  seals = record {
    data_allows = (record { heard = h.running; steps = (h.none_waits, tt); can = tt }, tt);
    asks = (h.seal, tt);
  }

  pub settles : IsEnabled w s1 0 CacheBarrier
  settles = record {
    data_allows = (record { heard = inl h.running; steps = tt; can = tt }, tt);
    asks = tt;
  }

  -- where it goes, and that it fits there
  pub at : s2.whole.store.places.ring_next s2.whole.store.places.records.bucket ≡ place_for w p.begun
  at = h.place

  long : length p.values ≡ entry_len w.layout (entry_for w x p)
  long = w.layout.entries.long tt p.values (entry_for w x p) can.spelled

  free_at : (t : ℕ) (v : Value)
      → at_run (s2.whole.store.places.ring_next s2.whole.store.places.records.bucket) p.values t
      ≡ Some v → IsFree w st.whole.flow.books t
  free_at t v is =
      let range = at_range
      (s2.whole.store.places.ring_next s2.whole.store.places.records.bucket) p.values t v is in
      let low = range.0 in
      let high = range.1 in
      let here = at in
      let n = long in
      h.free t (omega (arith, low, here)) (omega (arith, high, here, n))

  spelled : w.layout.entries.spelled tt p.values ≡ Some s2.whole.store.places.records.entry
  spelled = can.spelled ∙ ap Some (sym h.entry)

  fits : s2.whole.store.places.ring_next s2.whole.store.places.records.bucket
      + entry_len w.layout s2.whole.store.places.records.entry
      ≤ w.layout.first s2.whole.store.places.records.bucket + w.layout.bucket_sectors
  fits =
      let here = at in
      let there = ap w.layout.first h.bucket in
      let size = ap (entry_len w.layout) h.entry in
      let room = can.inside in
      omega (arith, here, there, size, room)

  pub writes : IsEnabled w s2 0 (WriteCache OfEntry p.values)
  writes = record {
    data_allows = (
      record {
        heard = inl h.running;
        steps = tt;
        can = record {
          places = λ t v is. let f = free_at t v is in record {
            fresh = f.owner;
            unnamed = f.chain;
            apart = inl (inl f.fixed);
          };
          sendable = refl;
        };
      },
      tt,
    );
    asks = (refl, (spelled, fits));
  }

  pub settles_again : IsEnabled w s3 0 CacheBarrier
  settles_again = record {
    data_allows = (record { heard = inl h.running; steps = tt; can = tt }, tt);
    asks = tt;
  }

  pub is_durable : IsEnabled w s4 0 MakeDurable
  is_durable = record {
    data_allows = (record { heard = h.running; steps = (refl, tt); can = refl }, tt);
    asks = refl;
  }

  -- ---- calls that fail

  pub fails_to_settle : IsEnabled w s1 0 (Alone (flow.Fail flow.BarrierFault))
  fails_to_settle = record {
    data_allows = (record { heard = inl h.running; steps = tt; can = tt }, tt);
    asks = refl;
  }

  pub fails_to_write : IsEnabled w s2 0 (FailCache OfEntry p.values)
  fails_to_write = record {
    data_allows = (
      record {
        heard = inl h.running;
        steps = tt;
        can = record {
          places = λ t v is. let f = free_at t v is in record {
            fresh = f.owner;
            unnamed = f.chain;
            apart = inl (inl f.fixed);
          };
          sendable = refl;
        };
      },
      tt,
    );
    asks = (refl, (spelled, fits));
  }

  pub fails_again : IsEnabled w s3 0 (Alone (flow.Fail flow.BarrierFault))
  fails_again = record {
    data_allows = (record { heard = inl h.running; steps = tt; can = tt }, tt);
    asks = refl;
  }

-- ---- an opening is such a state, once a bucket is begun

or_third : (a b c d : Bool) → c ≡ true → (a || (b || (c || d))) ≡ true
or_third true b c d is = refl
or_third false true c d is = refl
or_third false false true d is = refl
or_third false false false d is = absurd (cc)

put_here : {A : Type 0} (f : ℕ → A) (k : ℕ) (y : A) → put f k y k ≡ y
put_here f k y = by_test k k (λ b. (if b then y else f k) ≡ y) (λ e. refl) (λ ne. absurd (ne refl))

by_bool : (b : Bool) (P : Bool → Type 0) → (b ≡ true → P true) → (b ≡ false → P false) → P b
by_bool true P on off = on refl
by_bool false P on off = off refl

module _ (w : whole.Opening) (x : parts.State) (n : ℕ) (sound : IsSound w x) where
  records : x.records ≡ (meta.opened w.layout w.store).places.records
  records = sound.whole.records

  idle : x.records.stage ≡ Nothing
  idle = ap (λ (r : Records). r.stage) records

  newest : x.records.newest ≡ w.store.newest
  newest = ap (λ (r : Records). r.newest) records

  -- a place in a journal bucket
  free : (q t : ℕ) → q < w.layout.journal → w.layout.first q ≤ t
      → t < w.layout.first q + w.layout.bucket_sectors → IsFree w (book.opened w.flow.books) t
  free q t in_ low high =
      let within = w.layout.journal_within in
      let here = sound.laid.sector q t (omega (arith, in_, within)) low high in
      let is : w.flow.books.fixed (w.flow.books.bucket t) ≡ true =
      subst (λ b. w.flow.books.fixed b ≡ true) (sym here) (is_fixed q in_) in
      let b = w.flow.books.bucket t in
      let none = (sound.whole.pair.books.fixed b is).1 in record {
        owner = ap (λ c. if c then Fresh else Spent)
            (or_third (book.is_listed (w.flow.books.listed b)) (w.flow.books.chain b)
            (w.flow.books.fixed b) (w.flow.books.node b) is);
        chain = ap (λ c. if c then Some 0 else None) none;
        fixed = is;
      }
    where
      is_fixed : (q : ℕ) → q < w.layout.journal → w.flow.books.fixed q ≡ true
      is_fixed q in_ = by_bool (w.flow.books.fixed q) (λ c. c ≡ true) (λ _. refl)
          (λ off. let a = (sound.laid.area q off).0 in absurd (omega (arith, a, in_)))

  can_seal : {p : Entering} → CanFirst w x p → CanSealNext x p.last_seq
  can_seal can =
      let low = ap (λ (e : Entry). e.last_seq) newest in
      let number = ap (λ (e : Entry). e.number) newest in
      let from = can.from in
      let to = can.to in
      (idle, omega (arith, low, from), omega (arith, to, number), can.pending)

  -- the entry goes on in the bucket of the one before
  pub goes_on : (p : Entering) → CanFirst w x p → p.begun ≡ None → IsBefore w x p (start w x n)
  goes_on p can is = record {
    running = refl;
    none_waits = refl;
    seal = can_seal can;
    entry = refl;
    place = sym (ap (place_for w) is);
    bucket = sym (ap (bucket_for w) is);
    free = λ t low high.
        let whole = sound.whole.store.whole in
        let place = ap (place_for w) is in
        let bucket = ap w.layout.first (ap (bucket_for w) is) in
        let room = can.inside in
        let after = stands_high (entry_len w.layout) (entry_at w.layout w.store.image w.store.bucket)
        (w.layout.first w.store.bucket) (w.store.ring w.store.bucket)
        (w.store.ring_next w.store.bucket) (whole.stands w.store.bucket whole.current) in
        free w.store.bucket t whole.current (omega (arith, low, place, after))
        (omega (arith, high, room, bucket));
  }

  -- it goes to the front of the next one, which holds older entries alone
  pub begins : (b : ℕ) (p : Entering) → CanFirst w x p → p.begun ≡ Some b
      → IsEnabled w (start w x n) 0 (BeginBucket b)
      × IsBefore w x p (after w (start w x n) 0 (BeginBucket b))
  begins b p can is = (
    record {
      data_allows = tt;
      asks = (
        (
          idle,
          λ e i. (let k = older e (subst (λ (l : List Entry). In e l)
              (ap (λ (r : Records). r.ring b) records) i) in
              let low = ap (λ (e : Entry). e.last_seq) newest in omega (arith, k, low)),
        ),
        in_,
      );
    },
    record {
      running = refl;
      none_waits = refl;
      seal = can_seal can;
      entry = refl;
      place = put_here w.store.ring_next b (w.layout.first b) ∙ sym (ap (place_for w) is);
      bucket = sym (ap (bucket_for w) is);
      free = λ t low high.
          let place = ap (place_for w) is in
          let bucket = ap w.layout.first (ap (bucket_for w) is) in
          let room = can.inside in
          free b t in_ (omega (arith, low, place)) (omega (arith, high, room, bucket));
    },
  )
    where
      fits : (b < w.layout.journal)
          × ((e : Entry) → In e (w.store.ring b) → e.number < w.store.newest.last_seq)
      fits = subst (λ o. IfSome o (λ q. (q < w.layout.journal)
          × ((e : Entry) → In e (w.store.ring q) → e.number < w.store.newest.last_seq))) is can.begun

      in_ : b < w.layout.journal
      in_ = fits.0

      older : (e : Entry) → In e (w.store.ring b) → e.number < w.store.newest.last_seq
      older = fits.1

-- ---- acts

pub law_enters : LawEnters
law_enters w x n p sound can = go p.begun refl
  where
    then_ : (st : State) → IsBefore w x p st
        → IsRun w st (core.by 0 (Seal p.last_seq p.rest SameRoot SameChain ∷ CacheBarrier
        ∷ WriteCache OfEntry p.values ∷ []))
    then_ st h = (seals w x p can st h, (settles w x p can st h, (writes w x p can st h, tt)))

    go : (o : Option ℕ) → p.begun ≡ o → IsRun w (start w x n) (core.by 0 (entering_acts p))
    go None is = subst (λ o. IsRun w (start w x n) (core.by 0 (begin_acts o
        ++ (Seal p.last_seq p.rest SameRoot SameChain ∷ CacheBarrier ∷ WriteCache OfEntry p.values ∷ []))))
        (sym is) (then_ (start w x n) (goes_on w x n sound p can is))
    go (Some b) is = let a = begins w x n sound b p can is in
        subst (λ o. IsRun w (start w x n) (core.by 0 (begin_acts o
        ++ (Seal p.last_seq p.rest SameRoot SameChain ∷ CacheBarrier ∷ WriteCache OfEntry p.values ∷ []))))
        (sym is) (a.0, then_ (after w (start w x n) 0 (BeginBucket b)) a.1)

-- ---- deeds

two : (b : Bool) → b ≡ true → b ≡ false → ⊥
two b on off = cc

can_do : (w : core.Opening) (st : core.State) (d : Deed) (acts : List Act)
    → w.machine.flow.plain ≡ false → IsRun w.machine st.machine (core.by 0 acts)
    → core.IsFit w st 0 d → core.IsOf w 0 (core.line_of d)
    → CanDo w st (record { seat = 0; deed = d }) acts
can_do w st d acts cached course fit its_line = record {
  seat = refl;
  course = course;
  fit = fit;
  its_line = its_line;
  plain = λ is. absurd (two w.machine.flow.plain is cached);
}

-- What is done behind the seal, in a state in which the entry may be sealed.
module _ (w : core.Opening) (x : parts.State) (p : FirstEntry) (cached : w.machine.flow.plain ≡ false)
    (can : CanFirst w.machine x (entering p)) (st : core.State)
    (h : IsBefore w.machine x (entering p) st.machine) where
  abbrev m : whole.Opening
  m = w.machine

  abbrev t1 : core.State
  t1 = record { machine = after m st.machine 0 (Seal p.last_seq p.rest.items SameRoot SameChain); line = st.line }

  pub behind : core.IsRun w t1 (by_first (deed.CacheBarrier ∷ write_of w p ∷ deed.CacheBarrier ∷ deed.Sealed ∷ []))
  behind = (
    can_do w t1 deed.CacheBarrier (CacheBarrier ∷ []) cached (settles m x (entering p) can st.machine h, tt) tt tt,
    (
      can_do w _ (write_of w p) (WriteCache OfEntry p.values ∷ []) cached
          (writes m x (entering p) can st.machine h, tt) (at m x (entering p) can st.machine h) tt,
      (
        can_do w _ deed.CacheBarrier (CacheBarrier ∷ []) cached
            (settles_again m x (entering p) can st.machine h, tt) tt tt,
        (
          can_do w _ deed.Sealed (MakeDurable ∷ []) cached
              (is_durable m x (entering p) can st.machine h, tt) tt tt,
          tt,
        ),
      ),
    ),
  )

  pub behind_stopped : core.IsRun w t1 (by_first (failed_barrier ∷ []))
      × core.IsRun w t1 (by_first (deed.CacheBarrier ∷ failed_write w p ∷ []))
      × core.IsRun w t1 (by_first (deed.CacheBarrier ∷ write_of w p ∷ failed_barrier ∷ []))
  behind_stopped = (
    (
      can_do w t1 failed_barrier (Alone (flow.Fail flow.BarrierFault) ∷ []) cached
          (fails_to_settle m x (entering p) can st.machine h, tt) tt tt,
      tt,
    ),
    (
      can_do w t1 deed.CacheBarrier (CacheBarrier ∷ []) cached
          (settles m x (entering p) can st.machine h, tt) tt tt,
      (
        can_do w _ (failed_write w p) (FailCache OfEntry p.values ∷ []) cached
            (fails_to_write m x (entering p) can st.machine h, tt) (at m x (entering p) can st.machine h) tt,
        tt,
      ),
    ),
    (
      can_do w t1 deed.CacheBarrier (CacheBarrier ∷ []) cached
          (settles m x (entering p) can st.machine h, tt) tt tt,
      (
        can_do w _ (write_of w p) (WriteCache OfEntry p.values ∷ []) cached
            (writes m x (entering p) can st.machine h, tt) (at m x (entering p) can st.machine h) tt,
        (
          can_do w _ failed_barrier (Alone (flow.Fail flow.BarrierFault) ∷ []) cached
              (fails_again m x (entering p) can st.machine h, tt) tt tt,
          tt,
        ),
      ),
    ),
  )

-- ---- by whether a bucket is begun

module _ (w : core.Opening) (x : parts.State) (n low : ℕ) (rest : Vec ℕ Global) (values : List Value) where
  abbrev entry : Option ℕ → FirstEntry
  entry o = record { last_seq = low; begun = o; rest = rest; values = values }

  -- the seal, and what may follow it
  all_of : (o : Option ℕ) → IsReady w x (entry o)
      → core.IsRun w (core.start w x n) (by_first (first_deeds w (entry o)))
      × EachStopped w (entry o) (λ ds. core.IsRun w (core.start w x n) (by_first ds))
  all_of None h =
      let p = entry None in
      let st = core.start w x n in
      let b = goes_on w.machine x n h.sound (entering p) h.can refl in
      let seal = can_do w st (seal_of w p)
      (Seal low rest.items SameRoot SameChain ∷ []) h.cached
      (seals w.machine x (entering p) h.can st.machine b, tt) tt tt in
      let next = behind w x p h.cached h.can st b in
      let stops = behind_stopped w x p h.cached h.can st b in (
        (seal, next),
        record {
          at_first_barrier = (seal, stops.0);
          at_write = (seal, stops.1);
          at_second_barrier = (seal, stops.2);
        },
      )
  all_of (Some q) h =
      let p = entry (Some q) in
      let st = core.start w x n in
      let a = begins w.machine x n h.sound q (entering p) h.can refl in
      let begun : core.State = record { machine = after w.machine st.machine 0 (BeginBucket q); line = st.line } in
      let seal = can_do w st (seal_of w p) (BeginBucket q
      ∷ Seal low rest.items SameRoot SameChain ∷ []) h.cached
      (a.0, (seals w.machine x (entering p) h.can begun.machine a.1, tt)) tt tt in
      let next = behind w x p h.cached h.can begun a.1 in
      let stops = behind_stopped w x p h.cached h.can begun a.1 in (
        (seal, next),
        record {
          at_first_barrier = (seal, stops.0);
          at_write = (seal, stops.1);
          at_second_barrier = (seal, stops.2);
        },
      )

  quiet : (o : Option ℕ) → let st = core.start w x n in
      (core.history_of w (core.run w st (by_first (first_deeds w (entry o)))) ≡ [])
      × EachStopped w (entry o) (λ ds. core.history_of w (core.run w st (by_first ds)) ≡ [])
  quiet None = (refl, record { at_first_barrier = refl; at_write = refl; at_second_barrier = refl })
  quiet (Some q) =
      (refl, record { at_first_barrier = refl; at_write = refl; at_second_barrier = refl })

pub law_first : LawFirst
law_first w x n p h = (all_of w x n p.last_seq p.rest p.values p.begun h).0

pub law_stopped : LawStopped
law_stopped w x n p h = (all_of w x n p.last_seq p.rest p.values p.begun h).1

pub law_quiet : LawQuiet
law_quiet w x n p = quiet w x n p.last_seq p.rest p.values p.begun
