-- What is in hand behind a candidate's key stands for the state behind it.
use Rattle.std.proofs.Common.{◌≡◌, ◌⊎◌, inl, inr, ℕ, ◌-◌, ◌≤◌, false, List, [], ◌∷◌, ◌++◌, length, Option, Some, None, refl, sym, ap, ◌∙◌, subst}
use Rattle.std.specs.Prelude.{reverse}
use Rattle.bc_books.specs.After as books
use Rattle.bc_books.specs.Books.{Put, Unpin}
use Rattle.bc_books.specs.Index as index
use Rattle.bc_cache.specs.Slots.{IsSlotOf, NodeCache}
use Rattle.bc_cache.specs.declared.slots.Cached.{Cached}
use Rattle.bc_data.specs.Data as flow
use Rattle.bc_disk.specs.Disk.{DiskFacts}
use Rattle.bc_events.specs.Keys.{book_keys}
use Rattle.bc_events.specs.declared.event.Deed.TheVariants as deed
use Rattle.bc_firm.specs.Firm.{AreFirm}
use Rattle.bc_flight.specs.Candidates.{AreNumbered, first_of}
use Rattle.bc_flight.specs.Flight.{InFlight}
use Rattle.bc_flight.specs.declared.candidate.Candidate.{Candidate}
use Rattle.bc_flight.specs.declared.candidate.Wanted.TheVariants.{Due}
use Rattle.bc_insert.proofs.Behind.{behind, buckets_before, journal_behind, leaves_before, leaves_behind}
use Rattle.bc_insert.proofs.InHand.{leaves_in}
use Rattle.bc_insert.specs.Insert.{CanPutIn, HasAdded}
use Rattle.bc_journal.specs.Journal.{Journal, number_of}
use Rattle.bc_key.specs.Key.{start_of}
use Rattle.bc_key.specs.declared.key.Key.{Key}
use Rattle.bc_known.specs.Acts as known
use Rattle.bc_parts.specs.Seat.{Holds, PartsView}
use Rattle.bc_candidate.proofs.of_bc_deed.Claiming.{committed_flight}
use Rattle.bc_candidate.proofs.of_bc_hand.Knowing.{View, framed, m}
use Rattle.bc_candidate.proofs.of_bc_hand.Lending.{stand_kept}
use Rattle.bc_candidate.specs.bc_hand.Seats.{Did, StandIn, Works, by, numbers, with_leaves, with_part, world}
use Rattle.bc_candidate.specs.bc_hand.declared.hand.Hand.{Hand}
use Rattle.bc_candidate.specs.bc_hand.declared.hand.LeafHand.{LeafHand}
use Rattle.bc_candidate.specs.bc_machine.Containers.{AreBucketsOf}
use Rattle.bc_candidate.specs.bc_machine.World.{AreBuckets, AreLeaves, IsCourseOf, IsFlight, IsFlightOf, IsJournal, IsOrigin, Origin, changes, replay, seen_from}
use Rattle.bc_candidate.specs.bc_machine.declared.part.BucketsPart.{BucketsPart}
use Rattle.bc_candidate.specs.bc_machine.declared.part.CorePart.{CorePart}
use Rattle.bc_candidate.specs.bc_machine.declared.part.CorePart.TheVariants as part
use Rattle.bc_seats.proofs.Knowing.{held}
use Rattle.bc_seats.specs.Seats.{Kept}
use Rattle.bc_shares.specs.Shares.{books_of}
use Rattle.bc_settle.specs.Fits.{IsNamedBy}
use Rattle.bc_settle.specs.Next.{HasCleanKey, HasTakenDue}
use Rattle.bc_settle.specs.Settle.{CanSettleIn, HasPutSettled}
use Rattle.bc_settle.proofs.Flying.{flight_settled}
use Rattle.bc_settle.proofs.Naming.{clean_key, settled_stand}
use Rattle.bc_settle.proofs.Settling.{can_put_one, count_is, kept, ks_are, place_is, settle_into}

-- ---- parts that such a deed doesn't change

either_part : {A : Type 0} (n : ℕ) (o : Option A) (ks : List ℕ) (k : ℕ) → Holds (with_part n o ks) k
    → (k ≡ n) ⊎ Holds ks k
either_part n None ks k holds = inr holds
either_part n (Some a) ks k (inl is) = inl is
either_part n (Some a) ks k (inr holds) = inr holds

more : {A : Type 0} (n : ℕ) (o : Option A) (xs ys : List ℕ) (k : ℕ) → (Holds xs k → Holds ys k)
    → Holds (with_part n o xs) k → Holds (with_part n o ys) k
more n None xs ys k f holds = f holds
more n (Some a) xs ys k f (inl is) = inl is
more n (Some a) xs ys k f (inr holds) = inr (f holds)

over_part : {A : Type 0} (n : ℕ) (o : Option A) (ks : List ℕ) (k : ℕ) → Holds ks k
    → Holds (with_part n o ks) k
over_part n None ks k holds = holds
over_part n (Some a) ks k holds = inr holds

over_leaves : (o : Option LeafHand) (ks : List ℕ) (k : ℕ) → Holds ks k → Holds (with_leaves o ks) k
over_leaves None ks k holds = holds
over_leaves (Some l) ks k holds = inr holds

module _ {C B : Type 0} (h : Hand C B) where
  -- what is in hand beside leaves, claims, buckets and journal
  abbrev rest : Hand C B
  rest = record h { leaves = None; flight = None; buckets = None; journal = None }

  rest_held : (k : ℕ) → Holds (numbers rest) k → Holds (numbers h) k
  rest_held k = more 5 h.backing _ _ k (more 4 h.cache _ _ k (λ holds.
      over_part 3 h.journal _ k (over_part 2 h.buckets _ k (over_part 1 h.flight _ k
      (over_leaves h.leaves _ k holds)))))

  rest_unchanged : (n i leaf number : ℕ) (keys : List Key) (k : ℕ) → Holds (numbers rest) k
      → changes n (by i (deed.Settle leaf number keys)) k ≡ false
  rest_unchanged n i leaf number keys k holds = elim (either_part 5 h.backing _ k holds) [
    | inl five ↦ off 5 five refl
    | inr more ↦ elim (either_part 4 h.cache _ k more) [
      | inl four ↦ off 4 four refl
      | inr more ↦ elim (either_part 0 h.spine [] k more) [
        | inl none ↦ off 0 none refl
        | inr out ↦ absurd out
      ]
    ]
  ]
    where
      off : (a : ℕ) → k ≡ a → changes n (by i (deed.Settle leaf number keys)) a ≡ false
          → changes n (by i (deed.Settle leaf number keys)) k ≡ false
      off a is at = subst (λ b. changes n (by i (deed.Settle leaf number keys)) b ≡ false)
          (sym is) at

  same_numbers : (l : LeafHand) (j j2 : Journal) (b b2 : BucketsPart) (f f2 : InFlight)
      (cache : NodeCache) → h.leaves ≡ Some l → h.journal ≡ Some j → h.buckets ≡ Some b
      → h.flight ≡ Some f → numbers (record h {
        leaves = Some (record l { cache = cache });
        journal = Some j2;
        flight = Some f2;
        buckets = Some b2;
      }) ≡ numbers h
  same_numbers l j j2 b b2 f f2 cache leaves journal buckets flight =
      ap (λ o. with_part 5 h.backing (with_part 4 h.cache (with_part 3 (Some j2)
      (with_part 2 (Some b2) (with_part 1 (Some f2) (with_leaves o (with_part 0 h.spine [])))))))
      (sym leaves)
      ∙ ap (λ o. with_part 5 h.backing (with_part 4 h.cache (with_part 3 o
      (with_part 2 (Some b2) (with_part 1 (Some f2) (with_leaves h.leaves (with_part 0 h.spine
      [])))))))
      (sym journal)
      ∙ ap (λ o. with_part 5 h.backing (with_part 4 h.cache (with_part 3 h.journal
      (with_part 2 o (with_part 1 (Some f2) (with_leaves h.leaves (with_part 0 h.spine [])))))))
      (sym buckets)
      ∙ ap (λ o. with_part 5 h.backing (with_part 4 h.cache (with_part 3 h.journal
      (with_part 2 h.buckets (with_part 1 o (with_leaves h.leaves (with_part 0 h.spine [])))))))
      (sym flight)

-- the deed, as the data have it
abbrev act_of : (leaf number : ℕ) → Key → Origin → known.State → flow.Act
act_of leaf number key o st = flow.Settle number leaf (book_keys
    o.opening.machine.flow.books.bucket st.whole.flow.books.generations.version
    (reverse (key ∷ [])))

module _ {C B : Type 0} (cache_facts : C → DiskFacts) (backing_facts : B → DiskFacts)
    (p : PartsView (CorePart C B)) (v : View cache_facts backing_facts) (h : Hand C B)
    (works : Works cache_facts backing_facts p v h) (leaf slot : ℕ) (cached : Cached)
    (can : CanSettleIn h (length p.run.start) slot leaf cached)
    (only : IsSlotOf can.leaves.cache.slots leaf slot)
    (claims : Holds v.parts 1 × IsFlight can.flight (world cache_facts backing_facts v))
    (before : ℕ) (firm : AreFirm before (world cache_facts backing_facts v)) (c : Candidate)
    (due : first_of (Due before) can.flight.candidates ≡ Some c) (key : Key)
    (extent : key.size ≤ key.end) (some : 1 ≤ key.size)
    (named : IsNamedBy cached.leaf can.buckets.buckets c.key key)
    (w : View cache_facts backing_facts)
    (did : Did cache_facts backing_facts (Some (deed.Settle leaf c.number (key ∷ []))) v w) where
  abbrev put : CanPutIn h (length p.run.start) slot leaf cached (key ∷ [])
  put = can_put_one h (length p.run.start) slot leaf cached can c.key key extent named

  abbrev keys : List Key
  keys = key ∷ []

  flight_before : (o : Origin) → IsOrigin did.is.before o → IsCourseOf o did.is.before.log
      → IsFlightOf can.flight (seen_from o did.is.before)
  flight_before o is course = (held (m cache_facts backing_facts)
      (framed cache_facts backing_facts) v did.is.before 1 (part.Flight can.flight)
      works.seat.seat did.is.since claims.0 (refl, claims.1)).1 (seen_from o did.is.before)
      (inr (o, record { is = refl; origin = is; course = course }))

  leaves_then : AreLeaves (can.leaves.part - 6) can.leaves.cache did.is.before
  leaves_then = leaves_before cache_facts backing_facts p v h works leaf slot cached keys put only
      (deed.Settle leaf c.number keys) (settle_into leaf c.number keys)
      (act_of leaf c.number key) (λ o st. refl) w did

  buckets_then : AreBuckets can.buckets did.is.before
  buckets_then = buckets_before cache_facts backing_facts p v h works leaf slot cached keys put
      only (deed.Settle leaf c.number keys) (settle_into leaf c.number keys)
      (act_of leaf c.number key) (λ o st. refl) w did

  pub flight_behind : (left : InFlight) → AreNumbered 0 can.flight.next can.flight.candidates
      → HasTakenDue before can.flight left → IsFlight left (world cache_facts backing_facts w)
  flight_behind left numbers taken = committed_flight cache_facts backing_facts v w can.flight left
      (deed.Settle leaf c.number keys) claims.0 claims.1 did
      (λ x on firm. flight_settled can.flight left x v.first before leaf c keys numbers on due
      taken) works.seat

  pub buckets_behind : (next : BucketsPart) → HasCleanKey can.buckets named.ptr.offset key.size next
      → AreBuckets next (world cache_facts backing_facts w)
  buckets_behind next clean = behind cache_facts backing_facts p v h works leaf slot cached keys
      put only (deed.Settle leaf c.number keys) (settle_into leaf c.number keys)
      (act_of leaf c.number key) (λ o st. refl) w did
      (λ o st. AreBucketsOf o.opening.machine (books_of st.machine) next)
      (λ o origin course.
      (let fl = flight_before o origin course in
      let x = did.is.before in
      let b = o.opening.machine in
      let k = books_of (replay o x.log).machine in
      let cand = (replay o x.log).machine.whole.flow.candidates c.number in
      let ks = book_keys b.flow.books.bucket k.generations.version keys in
      subst (λ (l : List index.Key). AreBucketsOf b (books.after b.flow.books
      (books.after b.flow.books k (Put leaf l)) (Unpin cand.place cand.count)) next)
      (sym (ks_are cache_facts backing_facts p v h works leaf slot cached can only claims before
      firm c due key extent some named x o origin course leaves_then buckets_then fl))
      (subst (λ n. AreBucketsOf b (books.after b.flow.books
      (books.after b.flow.books k (Put leaf
      (clean_key (start_of key) key.size named.ptr.offset
      (k.generations.version (b.flow.books.bucket named.ptr.offset)) ∷ [])))
      (Unpin n cand.count)) next)
      (sym (place_is cache_facts backing_facts p v h works leaf slot cached can only claims before
      firm c due key extent some named x o origin course leaves_then buckets_then fl))
      (subst (λ n. AreBucketsOf b (books.after b.flow.books
      (books.after b.flow.books k (Put leaf
      (clean_key (start_of key) key.size named.ptr.offset
      (k.generations.version (b.flow.books.bucket named.ptr.offset)) ∷ [])))
      (Unpin named.ptr.offset n)) next)
      (sym (count_is cache_facts backing_facts p v h works leaf slot cached can only claims before
      firm c due key extent some named x o origin course leaves_then buckets_then fl))
      (settled_stand b k can.buckets next leaf (start_of key) named.ptr.offset key.size
      (k.generations.version (b.flow.books.bucket named.ptr.offset)) c.number origin.sound.laid
      (buckets_then o origin course) can.buckets.sized some named.generation.one
      (kept cache_facts backing_facts p v h works leaf slot cached can only claims before
      firm c due key extent some named x o origin course leaves_then buckets_then fl) clean)))))

  -- the parts in hand stand for the state behind it
  pub settled_works : (new : Hand C B) → AreNumbered 0 can.flight.next can.flight.candidates
      → HasPutSettled before h new slot cached key can.flight can.buckets named.from.offset
      c.key.size
      → Kept (m cache_facts backing_facts) v w (changes (length v.run.start)
      (by v.first (deed.Settle leaf c.number keys)))
      → Works cache_facts backing_facts p w new
  settled_works new numbers done kept_ =
      subst (λ (x : Hand C B). Works cache_facts backing_facts p w x)
      (sym (done.is ∙ ap (λ (x : Hand C B).
      record x { flight = Some done.left; buckets = Some done.next })
      done.put.is)) (record {
        run = kept_.same.run ∙ works.run;
        seat = did.seat;
        parts = kept_.parts ∙ works.parts
            ∙ sym (same_numbers h done.put.leaves done.put.journal
            (record done.put.journal { waiting = done.put.journal.waiting ++ keys }) can.buckets
            done.next can.flight done.left done.put.cache done.put.was done.put.was_journal
            can.are_buckets can.is_flight);
        stand = record {
          spine = others.spine;
          leaves = (
            subst (λ (l : LeafHand). 6 ≤ l.part) same_leaves
                (leaves_in cache_facts backing_facts p v h works leaf slot cached keys put).0,
            subst (λ (l : LeafHand). AreLeaves (l.part - 6) done.put.cache
                (world cache_facts backing_facts w)) same_leaves
                (leaves_behind cache_facts backing_facts p v h works leaf slot cached keys put only
                (deed.Settle leaf c.number keys) (settle_into leaf c.number keys)
                (act_of leaf c.number key) (λ o st. refl) w did done.put.cache
                (subst (λ (l : LeafHand). HasAdded l.cache slot cached keys
                (number_of can.journal) done.put.cache) (sym same_leaves)
                (subst (λ (j : Journal). HasAdded done.put.leaves.cache slot cached keys
                (number_of j) done.put.cache) (sym same_journal) done.put.added))),
          );
          flight = flight_behind done.left numbers done.taken;
          buckets = buckets_behind done.next
              (subst (λ n. HasCleanKey can.buckets n key.size done.next) (sym named.place)
              (subst (λ n. HasCleanKey can.buckets named.from.offset n done.next)
              (sym named.size) done.named));
          journal = subst (λ (j : Journal). IsJournal (record j { waiting = j.waiting ++ keys })
              (world cache_facts backing_facts w)) same_journal
              (journal_behind cache_facts backing_facts p v h works leaf slot cached keys put only
              (deed.Settle leaf c.number keys) (settle_into leaf c.number keys)
              (act_of leaf c.number key) (λ o st. refl) w did (λ none. cc));
          cache = others.cache;
          backing = others.backing;
        };
      })
    where
      one : {A : Type 0} (o : Option A) (a b : A) → o ≡ Some a → o ≡ Some b → a ≡ b
      one o a b x y = cc

      same_leaves : can.leaves ≡ done.put.leaves
      same_leaves = one h.leaves can.leaves done.put.leaves can.is done.put.was

      same_journal : can.journal ≡ done.put.journal
      same_journal = one h.journal can.journal done.put.journal can.is_journal
          done.put.was_journal

      before_it : StandIn cache_facts backing_facts (rest h) (world cache_facts backing_facts v)
      before_it = record {
        spine = works.stand.spine;
        leaves = tt;
        flight = tt;
        buckets = tt;
        journal = tt;
        cache = works.stand.cache;
        backing = works.stand.backing;
      }

      others : StandIn cache_facts backing_facts (rest h) (world cache_facts backing_facts w)
      others = stand_kept cache_facts backing_facts v w (rest h)
          (changes (length v.run.start) (by v.first (deed.Settle leaf c.number keys))) kept_
          (λ k holds. subst (λ ks. Holds ks k) (sym works.parts) (rest_held h k holds))
          (λ k holds. rest_unchanged h (length v.run.start) v.first leaf c.number keys k holds)
          before_it
