-- When the key of a candidate may come into a leaf in hand.
use Rattle.std.proofs.Common.{◌≡◌, inl, ℕ, ◌+◌, ◌-◌, ◌%◌, ◌/◌, ◌<◌, ◌≤◌, Bool, true, false, List, [], ◌∷◌, length, Option, Some, None, refl, sym, ap, ◌∙◌, subst, arith}
use Rattle.std.specs.Prelude.{if◌then◌else◌, not}
use Rattle.std.proofs.lemmas.Bool.{lt-ltb}
use Rattle.std.proofs.lemmas.List.Elements.{All-cons, All-nil}
use Rattle.bc_books.proofs.Cases.{place_range}
use Rattle.bc_books.specs.Enabled.{CanPut, IsLawful}
use Rattle.bc_books.specs.Index.{Clean, Pointer, latest, names, run_place, within}
use Rattle.bc_books.specs.Index as index
use Rattle.bc_books.specs.Shelves.{IsPinned, Kept, Owner, Spent, WasPinned}
use Rattle.bc_bucket.specs.Buckets.{bucket_of}
use Rattle.bc_cache.specs.Slots.{IsSlotOf}
use Rattle.bc_cache.specs.declared.slots.Cached.{Cached}
use Rattle.bc_data.proofs.Runs.{sector_range}
use Rattle.bc_data.specs.Data as flow
use Rattle.bc_data.specs.Enabled.{CanSettle}
use Rattle.bc_data.specs.Seats as seated
use Rattle.bc_disk.specs.Disk.{DiskFacts}
use Rattle.bc_events.specs.Keys.{book_keys}
use Rattle.bc_events.specs.Run as core
use Rattle.bc_events.specs.declared.event.Deed.{Deed}
use Rattle.bc_events.specs.declared.event.Deed.TheVariants as deed
use Rattle.bc_firm.proofs.Lasting.{lasts_fold}
use Rattle.bc_firm.proofs.Within.{law_inside}
use Rattle.bc_firm.specs.Firm.{AreFirm}
use Rattle.bc_flight.specs.Candidates.{first_of}
use Rattle.bc_flight.specs.declared.candidate.Candidate.{Candidate}
use Rattle.bc_flight.specs.declared.candidate.Wanted.TheVariants.{Due}
use Rattle.bc_image.specs.Sound.{LiesWithin}
use Rattle.bc_insert.proofs.InHand.{ComesInto, all_in_leaf, buckets_in_hand, has_buckets, has_leaves, leaves_in, role_there, says, slot_is}
use Rattle.bc_insert.specs.Insert.{CanPutIn}
use Rattle.bc_key.specs.Key.{IsExtent, pointer_of, start_of}
use Rattle.bc_key.specs.declared.key.Key.{Key}
use Rattle.bc_key.specs.declared.ptr.Ptr.{Ptr}
use Rattle.bc_known.proofs.Law.{At, inv_at}
use Rattle.bc_known.specs.Acts as known
use Rattle.bc_known.specs.Acts.{Keyed}
use Rattle.bc_known.specs.Run.{IsEnabled}
use Rattle.bc_parts.specs.Seat.{Holds, PartsView}
use Rattle.bc_candidate.proofs.of_bc_place.Knowing.{may_each}
use Rattle.bc_candidate.proofs.of_bc_deed.May.{low}
use Rattle.bc_candidate.proofs.of_bc_hand.Knowing.{View, m}
use Rattle.bc_candidate.specs.bc_hand.Seats.{MayDo, Works, world}
use Rattle.bc_candidate.specs.bc_hand.declared.hand.Hand.{Hand}
use Rattle.bc_candidate.specs.bc_machine.Containers.{AreBucketsOf}
use Rattle.bc_candidate.specs.bc_machine.Standing.{oldest_first, replay_is, replay_runs}
use Rattle.bc_candidate.specs.bc_machine.World.{AreBuckets, AreLeaves, IsCourseOf, IsFlight, IsFlightOf, IsOrigin, Origin, World, are_plain, data_of, kept_of, replay, seen_from}
use Rattle.bc_candidate.specs.bc_machine.declared.part.CorePart.{CorePart}
use Rattle.bc_candidate.specs.bc_machine.declared.part.CorePart.TheVariants as part
use Rattle.bc_seats.specs.Seats.{Since}
use Rattle.bc_shares.proofs.Law.{at_state}
use Rattle.bc_shares.specs.Shares.{books_of}
use Rattle.bc_whole.proofs.Kept.{truthful}
use Rattle.bc_whole.specs.State as whole
use Rattle.bc_whole.specs.Together.{ref_of}
use Rattle.bc_settle.specs.Fits.{IsNamedBy}
use Rattle.bc_settle.specs.Settle.{CanSettleIn}
use Rattle.bc_settle.proofs.Oldest.{IsDueOf, due_found}
use Rattle.bc_settle.proofs.Keying.{book_is, hit_at, in_run, names_within, says_same, three_words}
use Rattle.bc_settle.proofs.Naming.{clean_key}
use Rattle.bc_settle.proofs.Placing.{bucket_is, number_is}

-- the places of a candidate that stands are its own
pub places_kept : (x : World) (o : Origin) → IsOrigin x o → IsCourseOf o x.log → (c t : ℕ)
    → ((replay o x.log).machine.whole.flow.candidates c).stands ≡ true
    → within ((replay o x.log).machine.whole.flow.candidates c).place
    ((replay o x.log).machine.whole.flow.candidates c).count t ≡ true
    → (replay o x.log).machine.whole.flow.books.owner t ≡ Kept c
places_kept x o is course c t stands inside =
    let at : At o.opening.machine o.parts (replay o x.log).machine =
    subst (λ (st : core.State). At o.opening.machine o.parts st.machine) (sym (replay_is o x.log))
    (at_state o.opening o.parts o.next_seq (oldest_first x.log) is.sound
    (replay_runs o x.log course)) in
    ((truthful o.opening.machine o.parts (replay o x.log).machine.whole.flow is.sound.whole
    (inv_at o.opening.machine o.parts (replay o x.log).machine.whole is.sound
    at.at).flow).candidates c
    stands).0 t inside

pinned_kept : (c : ℕ) (x : Owner) → x ≡ Kept c → IsPinned x
pinned_kept c x is = subst IsPinned (sym is) tt

was_kept : (c : ℕ) (x : Owner) → x ≡ Kept c → WasPinned x
was_kept c x is = subst WasPinned (sym is) tt

was_put : (b : Bool) (c : ℕ) (x : Owner) → x ≡ Kept c → WasPinned (if b then Spent else x)
was_put true c x is = tt
was_put false c x is = was_kept c x is

no_pointer : (o : Option Pointer) → ref_of o ≡ None → o ≡ None
no_pointer None is = refl
no_pointer (Some r) is = absurd (cc)

pub settle_into : (leaf number : ℕ) (keys : List Key)
    → ComesInto leaf (deed.Settle leaf number keys)
settle_into leaf number keys = record {
  spine = refl;
  cache = refl;
  backing = refl;
  leaves = λ count part. refl;
}

-- leaf, buckets and journal in hand have what a key asks that fits
abbrev pub can_put_one : {C B : Type 0} (h : Hand C B) (n slot leaf : ℕ) (cached : Cached)
    (can : CanSettleIn h n slot leaf cached) (old key : Key) → key.size ≤ key.end
    → IsNamedBy cached.leaf can.buckets.buckets old key
    → CanPutIn h n slot leaf cached (key ∷ [])
can_put_one h n slot leaf cached can old key extent named = record {
  leaves = can.leaves;
  is = can.is;
  its_part = can.its_part;
  can = record {
    there = can.there;
    number_is = can.number_is;
    spare = named.spare;
    extents = All-cons IsExtent key [] extent (All-nil IsExtent);
    within = All-cons (LiesWithin 0 cached.leaf.from cached.leaf.end) key []
        (let low = named.inside.0 in
        let high = named.inside.1 in
        let end = named.end in
        let size = named.size in (omega (arith, low, end, size), omega (arith, high, end)))
        (All-nil (LiesWithin 0 cached.leaf.from cached.leaf.end));
  };
  free = can.free;
  journal = can.journal;
  is_journal = can.is_journal;
  room = subst (λ words. Rattle.bc_journal.specs.Journal.HasRoom can.journal words)
      (sym (three_words key named.count)) can.room;
  numbered = can.numbered;
  buckets = can.buckets;
  are_buckets = can.are_buckets;
}

module _ {C B : Type 0} (cache_facts : C → DiskFacts) (backing_facts : B → DiskFacts)
    (p : PartsView (CorePart C B)) (v : View cache_facts backing_facts) (h : Hand C B)
    (works : Works cache_facts backing_facts p v h) (leaf slot : ℕ) (cached : Cached)
    (can : CanSettleIn h (length p.run.start) slot leaf cached)
    (only : IsSlotOf can.leaves.cache.slots leaf slot)
    (claims : Holds v.parts 1 × IsFlight can.flight (world cache_facts backing_facts v))
    (before : ℕ) (firm : AreFirm before (world cache_facts backing_facts v)) (c : Candidate)
    (due : first_of (Due before) can.flight.candidates ≡ Some c) (key : Key)
    (extent : key.size ≤ key.end) (some : 1 ≤ key.size)
    (named : IsNamedBy cached.leaf can.buckets.buckets c.key key) where
  abbrev d : Deed
  d = deed.Settle leaf c.number (key ∷ [])

  abbrev put : CanPutIn h (length p.run.start) slot leaf cached (key ∷ [])
  put = can_put_one h (length p.run.start) slot leaf cached can c.key key extent named

  abbrev at : ℕ
  at = named.ptr.offset

  abbrev count : ℕ
  count = key.size

  abbrev first : ℕ
  first = start_of key

  pub firm_at : (x : World) → Since (m cache_facts backing_facts) v x → AreFirm before x
  firm_at x since = subst (AreFirm before) (sym since.is)
      (lasts_fold before (world cache_facts backing_facts v) since.others firm)

  one_ptr : (o : Option Ptr) (a b : Ptr) → o ≡ Some a → o ≡ Some b → a ≡ b
  one_ptr o a b x y = let both : Some a ≡ Some b = sym x ∙ y in cc

  -- in a state in which it may be committed
  module _ (x : World) (o : Origin) (origin : IsOrigin x o) (course : IsCourseOf o x.log)
      (leaves : AreLeaves (can.leaves.part - 6) can.leaves.cache x)
      (buckets : AreBuckets can.buckets x) (fl : IsFlightOf can.flight (seen_from o x)) where
    abbrev w : whole.Opening
    w = o.opening.machine

    abbrev st : known.State
    st = (replay o x.log).machine

    abbrev version : ℕ → ℕ
    version = st.whole.flow.books.generations.version

    abbrev bucket : ℕ → ℕ
    bucket = w.flow.books.bucket

    abbrev cand : seated.Candidate
    cand = st.whole.flow.candidates c.number

    abbrev own : AreBucketsOf w (books_of st) can.buckets
    own = buckets o origin course

    pub is_due : IsDueOf before (λ n. kept_of ((data_of (seen_from o x)).candidates n)) c
    is_due = due_found before (λ n. kept_of ((data_of (seen_from o x)).candidates n))
        can.flight.candidates c due fl.candidates.each

    pub place_is : cand.place ≡ at
    place_is = sym is_due.is.place.2
        ∙ ap (λ (y : Ptr). y.offset) (one_ptr (pointer_of c.key) is_due.is.place.0 named.from
        is_due.is.place.1 named.from_is)
        ∙ sym named.place

    pub count_is : cand.count ≡ count
    count_is = is_due.is.count ∙ sym named.size

    pub first_is : cand.first ≡ first
    first_is = let is = is_due.is.first in let end = named.end in let size = named.size in
        omega (arith, is, end, size)

    -- what the candidate's run says, by the key
    run_is : (s t : ℕ) → run_place first at count s ≡ Some t
        → run_place cand.first cand.place cand.count s ≡ Some t
    run_is s t is = ap (λ n. run_place n cand.place cand.count s) first_is
        ∙ ap (λ n. run_place first n cand.count s) place_is
        ∙ ap (λ n. run_place first at n s) count_is ∙ is

    pub kept : (t : ℕ) → within at count t ≡ true → (books_of st).owner t ≡ Kept c.number
    kept t inside = places_kept x o origin course c.number t is_due.is.stands
        (ap (λ n. within n cand.count t) place_is ∙ ap (λ n. within at n t) count_is ∙ inside)

    pub its_bucket : (t : ℕ) → at ≤ t → t < at + count
        → bucket t ≡ at / can.buckets.buckets.size - w.before
    its_bucket = bucket_is w can.buckets.buckets origin.sound.laid own.cut own.data_from
        can.buckets.sized at count some named.generation.one

    same_bucket : (t : ℕ) → at ≤ t → t < at + count → bucket t ≡ bucket at
    same_bucket t from to = its_bucket t from to
        ∙ sym (its_bucket at (omega arith) (omega (arith, some)))

    -- the pointer has the generation of the present version
    pub fresh : named.ptr.generation ≡ version (bucket at) % 256
    fresh =
        let n_is = number_is w can.buckets.buckets origin.sound.laid own.cut own.data_from
        can.buckets.sized at count some named.generation.one in
        let known = named.generation.one.known in
        named.generation.is
        ∙ ap (λ n. (bucket_of can.buckets.buckets n).generation) (sym n_is)
        ∙ (own.records (at / can.buckets.buckets.size - w.before)
        (omega (arith, n_is, known))).generation
        ∙ ap (λ q. version q % 256) (sym (its_bucket at (omega arith) (omega (arith, some))))

    pub ks_are : book_keys bucket version (key ∷ [])
        ≡ clean_key first count at (version (bucket at)) ∷ []
    ks_are = book_is bucket version key named.ptr extent named.pointer named.clean fresh

    abbrev ks : List index.Key
    ks = clean_key first count at (version (bucket at)) ∷ []

    places_of : (s t : ℕ) → run_place first at count s ≡ Some t → (at ≤ t) × (t < at + count)
    places_of s t run = place_range first at count s t run

    sectors_of : (s t : ℕ) → run_place first at count s ≡ Some t
        → (cached.leaf.from ≤ s) × (s < cached.leaf.end)
    sectors_of s t run =
        let both = sector_range first at count s t run in
        let from = both.0 in
        let to = both.1 in
        let low = named.inside.0 in
        let high = named.inside.1 in
        let end = named.end in
        let size = named.size in (
          omega (arith, from, low, end, size),
          omega (arith, to, high, end, extent),
        )

    bare : (s t : ℕ) → run_place first at count s ≡ Some t → latest (books_of st).index s ≡ None
    bare s t run =
        let both = sector_range first at count s t run in
        let from = both.0 in
        let to = both.1 in
        let end = named.end in
        let size = named.size in
        let inside = sectors_of s t run in
        no_pointer (latest (books_of st).index s)
        (says cache_facts backing_facts p v h works leaf slot cached (key ∷ []) put only x o origin
        course leaves s inside.0 inside.1
        ∙ named.bare s (omega (arith, from, end, size)) (omega (arith, to, end, size)))

    can_put : CanPut w.flow.books (books_of st).index version (books_of st).owner leaf ks
    can_put = record {
      whole = (
        some,
        (λ s t run. let r = places_of s t run in same_bucket t r.0 r.1),
        tt,
      );
      inside = λ s q hits. (let its = hit_at first count at (version (bucket at)) s q hits in
          let inside = sectors_of s its.place its.run in (
            law_inside x o origin course c.number s its.place is_due.is.stands
                (run_is s its.place its.run),
            slot_is cache_facts backing_facts p v h works leaf slot cached (key ∷ []) put only x o
                origin course leaves s inside.0 inside.1,
          ));
      lawful = λ s q hits. (let its = hit_at first count at (version (bucket at)) s q hits in
          let r = places_of s its.place its.run in
          subst (λ n. IsLawful bucket version (books_of st).owner (latest (books_of st).index s) n)
          (sym its.is)
          (inl (
            pinned_kept c.number ((books_of st).owner its.place)
                (kept its.place (in_run at count its.place r.0 r.1)),
            ap version (sym (same_bucket its.place r.0 r.1)),
          )));
      named = λ t on. was_kept c.number ((books_of st).owner t)
          (kept t (names_within first count at (version (bucket at)) t on));
    }

    module _ (ready : AreFirm before x) where
      can_settle : CanSettle w.flow st.whole.flow c.number ks
      can_settle = record {
        stands = is_due.is.stands;
        alive = is_due.is.alive ∙ ap not is_due.alive;
        firm = ready.firm o origin course c.number is_due.below;
        using = λ t on. inl (kept t (names_within first count at (version (bucket at)) t on));
        hits = λ s q hits. (let its = hit_at first count at (version (bucket at)) s q hits in
            let r = places_of s its.place its.run in record {
              bare = bare s its.place its.run;
              place = its.place;
              at = run_is s its.place its.run;
              is = its.is ∙ ap (λ n. Some (record {
                kind = Clean;
                place = its.place;
                version = n;
              })) (ap version (sym (same_bucket its.place r.0 r.1)));
            });
        not_plain = origin.cached;
      }

      allowed : st.whole.flow.halted ≡ false → IsEnabled w st v.first
          (Keyed (flow.Settle c.number leaf (book_keys bucket version (key ∷ []))) leaf
          (key ∷ []))
      allowed running = record {
        data_allows = (
          record {
            heard = running;
            steps = (
              subst (λ (l : List index.Key). CanPut w.flow.books (books_of st).index version
                  (books_of st).owner leaf l) (sym ks_are) can_put,
              (
                (λ t inside. was_put (names (book_keys bucket version (key ∷ [])) t) c.number
                    ((books_of st).owner t)
                    (places_kept x o origin course c.number t is_due.is.stands inside)),
                tt,
              ),
            );
            can = subst (λ (l : List index.Key). CanSettle w.flow st.whole.flow c.number l)
                (sym ks_are) can_settle;
          },
          tt,
        );
        asks = (
          (
            refl,
            says_same bucket version key named.ptr extent named.pointer named.clean fresh
                named.device named.generation.places,
          ),
          role_there cache_facts backing_facts p v h works leaf slot cached (key ∷ []) put only x o
              origin course leaves,
          all_in_leaf cache_facts backing_facts p v h works leaf slot cached (key ∷ []) put only x
              o origin course leaves (key ∷ []) put.can.within,
        );
      }

  pub may_settle : are_plain cache_facts backing_facts v.run.start ≡ false
      → MayDo cache_facts backing_facts v d
  may_settle cached_run = may_each cache_facts backing_facts v cached_run d
      (λ o x origin course at_. (
        record {
          seat = lt-ltb v.first 320 (low cache_facts backing_facts v works.seat);
          course = (
            allowed x o origin course
                (at_.stand can.leaves.part (part.Leaves can.leaves.cache)
                (has_leaves cache_facts backing_facts p v h works leaf slot cached (key ∷ []) put)
                (leaves_in cache_facts backing_facts p v h works leaf slot cached (key ∷ []) put)).1
                (at_.stand 2 (part.Buckets can.buckets)
                (has_buckets cache_facts backing_facts p v h works leaf slot cached
                (key ∷ []) put) (
                  refl,
                  buckets_in_hand cache_facts backing_facts p v h works leaf slot cached
                      (key ∷ []) put,
                )).1
                ((at_.stand 1 (part.Flight can.flight) claims.0 (refl, claims.1)).1
                (seen_from o x) at_.view)
                (firm_at x at_.since) (at_.running refl),
            tt,
          );
          fit = tt;
          its_line = tt;
          plain = λ plain. absurd (let both : true ≡ false = sym plain ∙ origin.cached in cc);
        },
        tt,
        tt,
      ))
