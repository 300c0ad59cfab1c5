-- The deeds that take a bucket and let it go, as a seat does them.
use Rattle.std.proofs.Common.{◌≡◌, inl, inr, ℕ, ◌-◌, Bool, true, false, List, [], Option, Some, None, refl, sym, ap, ◌∙◌, subst}
use Rattle.std.specs.Prelude.{Err, Ok, OnErr, OnOk, Result, is_some, if◌then◌else◌}
use Rattle.bc_alloc.specs.declared.purpose.NoBucket.{NoBucket}
use Rattle.bc_alloc.specs.Reserves.{serving}
use Rattle.bc_alloc.specs.declared.purpose.Purpose.TheVariants as list
use Rattle.bc_books.specs.Shelves.{Held, Listed, Purpose, Shelf}
use Rattle.bc_data.specs.Seats.{Seat, put_seat}
use Rattle.bc_disk.specs.Disk.{DiskFacts}
use Rattle.bc_events.specs.Acts.{purpose_of}
use Rattle.bc_events.specs.Run as core
use Rattle.bc_events.specs.declared.event.Deed.TheVariants as deed
use Rattle.bc_events.specs.declared.event.UnpinKind.TheVariants as unpin
use Rattle.bc_held.proofs.Keeping.{held_since, keeps_let_go, keeps_then, keeps_waited, others_on, then_keeps, vacant_behind, vacant_since}
use Rattle.bc_held.proofs.LettingGo.{is_taken, let_go_stands, may_go}
use Rattle.bc_held.proofs.Taking.{holds, may_take, take_stands, was_listed}
use Rattle.bc_held.specs.Held.{AreOther, IsHeldFor, IsVacantIn, number_in}
use Rattle.bc_held.specs.Next.{IsNextFor, IsTakenIn, LetsGo, TakesBucket, list_for, takes_back}
use Rattle.bc_held.specs.Taken.{HasLetGo, HasTakenOr, IsNewBucket, KeepsHeldBut, LetGo, Took, TookOr, let_go_by, take_by}
use Rattle.bc_held.specs.declared.held.HeldBucket.{HeldBucket}
use Rattle.bc_held.specs.declared.held.Want.{Want}
use Rattle.bc_nodes_known.proofs.Law.{law_listed}
use Rattle.bc_meta.proofs.Lists.{by_test}
use Rattle.bc_parts.specs.Seat.{Holds, PartsView}
use Rattle.bc_place.proofs.Keeping.{made_by, opening_deed, own_lasts, written_lasts}
use Rattle.bc_place.proofs.Knowing.{before_since, buckets_since, few, known_changed, known_committed, may_from}
use Rattle.bc_place.proofs.of_bc_hand.Between.{did_between}
use Rattle.bc_place.proofs.of_bc_hand.Knowing.{View, m}
use Rattle.bc_place.specs.Place.{HasBefore, IsOwn}
use Rattle.bc_place.specs.Written.{HasWritten, KeepsPlaces}
use Rattle.bc_place.specs.bc_hand.Seats.{Did, IsCoreSeat, MayDo, Works, by, numbers, with_leaves, with_part, world}
use Rattle.bc_place.specs.bc_machine.Containers.{AreBucketsOf, SameRest}
use Rattle.bc_place.specs.bc_machine.World.{AreBuckets, FromEach, Origin, World, after, are_plain, replay}
use Rattle.bc_place.specs.bc_machine.declared.part.BucketsPart.{BucketsPart}
use Rattle.bc_place.specs.bc_hand.declared.hand.Hand.{Hand}
use Rattle.bc_place.specs.bc_hand.declared.hand.LeafHand.{LeafHand}
use Rattle.bc_place.specs.bc_machine.declared.part.CorePart.{CorePart}
use Rattle.bc_seats.proofs.Between.{seen_alike}
use Rattle.bc_seats.specs.Seats.{Kept, Waited}
use Rattle.bc_shares.specs.Shares.{books_of}

listed_held : (x : Shelf) (p q : Purpose) (i : ℕ) → x ≡ Listed p → x ≡ Held i q → ⊥
listed_held x p q i a b = cc

module _ {C B : Type 0} (cache_facts : C → DiskFacts) (backing_facts : B → DiskFacts)
    (v : View cache_facts backing_facts) (seat : IsCoreSeat cache_facts backing_facts v)
    (cached : are_plain cache_facts backing_facts v.run.start ≡ false) (holds_buckets : Holds v.parts 2)
    (p : BucketsPart) (on : AreBuckets p (world cache_facts backing_facts v)) (before : ℕ)
    (first : FromEach (world cache_facts backing_facts v) (HasBefore before)) (b : HeldBucket) where
  -- ---- a bucket is taken

  module _ (x : Want) (next : IsNextFor x p b) where
    pub may_take_it : MayDo cache_facts backing_facts v (take_by before b)
    may_take_it = may_from cache_facts backing_facts v cached (take_by before b) refl
        (λ o y since is course running. (
          subst (λ n. core.IsEnabled o.opening (replay o y.log)
              (by v.first (deed.Take b.purpose (b.bucket - n))))
              (before_since cache_facts backing_facts v before first y since o is course)
              (may_take o is.sound is.cached y.log course p
              (buckets_since cache_facts backing_facts v seat holds_buckets p on y since o is course)
              v.first b x next (few cache_facts backing_facts v seat) running),
          tt,
          tt,
        ))

    module _ (w : View cache_facts backing_facts)
        (did : Did cache_facts backing_facts (Some (take_by before b)) v w) where
      pub stood_before : AreBuckets p did.is.before
      stood_before = buckets_since cache_facts backing_facts v seat holds_buckets p on did.is.before
          did.is.since

      module _ (q : BucketsPart) (t : TakesBucket x b p q) where
        pub taken_after : AreBuckets q (world cache_facts backing_facts w)
        taken_after = known_committed cache_facts backing_facts v w (take_by before b)
            (λ o st. AreBucketsOf o.opening.machine (books_of st.machine) q) did (λ o is course.
            subst (λ n. AreBucketsOf o.opening.machine (books_of (core.after o.opening
            (replay o did.is.before.log) (by v.first (deed.Take b.purpose (b.bucket - n)))).machine) q)
            (before_since cache_facts backing_facts v before first did.is.before did.is.since o is
            course)
            (take_stands o is.sound is.cached did.is.before.log course p
            (stood_before o is course) v.first b x next q t))

        pub holds_it : FromEach (world cache_facts backing_facts w) (IsHeldFor w.first b)
        holds_it = subst (λ i. FromEach (world cache_facts backing_facts w) (IsHeldFor i b))
            (sym did.is.same.first)
            (known_committed cache_facts backing_facts v w (take_by before b) (IsHeldFor v.first b) did
            (λ o is course. subst (λ n. IsHeldFor v.first b o (core.after o.opening
            (replay o did.is.before.log) (by v.first (deed.Take b.purpose (b.bucket - n)))))
            (before_since cache_facts backing_facts v before first did.is.before did.is.since o is
            course)
            (holds o is.sound is.cached did.is.before.log course p
            (stood_before o is course) v.first b x next q t)))

        -- no node lay in it
        pub is_vacant : FromEach (world cache_facts backing_facts w) (IsVacantIn b)
        is_vacant = vacant_behind cache_facts backing_facts v w (take_by before b) refl did b
            (λ o is course. law_listed did.is.before o is course (number_in b o)
            (purpose_of (serving (list_for x) p.reserves))
            (was_listed o is.sound is.cached did.is.before.log course p (stood_before o is course)
            v.first b x next q t))

        -- none that the seat held was on a list
        pub is_new_bucket : IsNewBucket cache_facts backing_facts b v w
        is_new_bucket a h = known_changed cache_facts backing_facts v w (take_by before b)
            (IsHeldFor v.first a) (AreOther b a) did
            (λ o is course enabled held same. listed_held
            ((books_of (replay o did.is.before.log).machine).shelf (number_in b o))
            (purpose_of (serving (list_for x) p.reserves)) (purpose_of a.purpose) v.first
            (was_listed o is.sound is.cached did.is.before.log course p (stood_before o is course)
            v.first b x next q t)
            (ap (books_of (replay o did.is.before.log).machine).shelf same ∙ held.held))
            (held_since cache_facts backing_facts v did.is.before seat did.is.since a h)

  -- ---- a bucket is let go

  module _ (mine : FromEach (world cache_facts backing_facts v) (IsHeldFor v.first b))
      (tree : b.purpose ≡ list.Tree → Holds v.parts 0)
      (vacant : b.purpose ≡ list.Tree → FromEach (world cache_facts backing_facts v) (IsVacantIn b))
    where
      -- what the deed says of its list
      abbrev back : Bool
      back = takes_back b.purpose p.reserves

      pub may_let_go_it : MayDo cache_facts backing_facts v (let_go_by before b back)
      may_let_go_it = may_from cache_facts backing_facts v cached (let_go_by before b back) refl
          (λ o x since is course running. (
            subst (λ n. core.IsEnabled o.opening (replay o x.log)
                (by v.first (deed.Unpin (unpin.Hold (b.bucket - n) back))))
                (before_since cache_facts backing_facts v before first x since o is course)
                (may_go o is.cached x.log p
                (buckets_since cache_facts backing_facts v seat holds_buckets p on x since o is course)
                v.first b (held_since cache_facts backing_facts v x seat since b mine o is course)
                (few cache_facts backing_facts v seat) running
                (λ for_tree. vacant_since cache_facts backing_facts v x (tree for_tree) since b
                (vacant for_tree) o is course)),
            tt,
            tt,
          ))

      module _ (w : View cache_facts backing_facts)
          (did : Did cache_facts backing_facts (Some (let_go_by before b back)) v w)
          (q : BucketsPart) (goes : IsTakenIn p b.bucket → LetsGo b p q) where
        pub gone_after : AreBuckets q (world cache_facts backing_facts w)
        gone_after = known_committed cache_facts backing_facts v w (let_go_by before b back)
            (λ o st. AreBucketsOf o.opening.machine (books_of st.machine) q) did (λ o is course.
            let stood = buckets_since cache_facts backing_facts v seat holds_buckets p on
            did.is.before did.is.since o is course in
            let its = held_since cache_facts backing_facts v did.is.before seat did.is.since b mine o
            is course in
            subst (λ n. AreBucketsOf o.opening.machine (books_of (core.after o.opening
            (replay o did.is.before.log)
            (by v.first (deed.Unpin (unpin.Hold (b.bucket - n) back)))).machine) q)
            (before_since cache_facts backing_facts v before first did.is.before did.is.since o is
            course)
            (let_go_stands o is.cached did.is.before.log p stood v.first b its q
            (goes (is_taken o is.cached did.is.before.log p stood v.first b its))))

        pub goes_there : FromEach (world cache_facts backing_facts w) (λ o st. LetsGo b p q)
        goes_there = known_committed cache_facts backing_facts v w (let_go_by before b back)
            (λ o st. LetsGo b p q) did (λ o is course.
            let stood = buckets_since cache_facts backing_facts v seat holds_buckets p on
            did.is.before did.is.since o is course in
            goes (is_taken o is.cached did.is.before.log p stood v.first b
            (held_since cache_facts backing_facts v did.is.before seat did.is.since b mine o is
            course)))

-- ---- as the steps do them

same_deed : (b : HeldBucket) (before n : ℕ) → n ≡ b.bucket - before
    → take_by before b ≡ deed.Take b.purpose n
same_deed b before n number = ap (λ q. deed.Take b.purpose q) (sym number)

module _ {C B : Type 0} (cache_facts : C → DiskFacts) (backing_facts : B → DiskFacts)
    (v : View cache_facts backing_facts) (seat : IsCoreSeat cache_facts backing_facts v)
    (cached : are_plain cache_facts backing_facts v.run.start ≡ false) (holds_buckets : Holds v.parts 2)
    (p : BucketsPart) (on : AreBuckets p (world cache_facts backing_facts v)) (before : ℕ)
    (first : FromEach (world cache_facts backing_facts v) (HasBefore before)) (b : HeldBucket)
    (x : Want) (next : IsNextFor x p b) (n : ℕ) (number : n ≡ b.bucket - before) where
  pub may_as : MayDo cache_facts backing_facts v (deed.Take b.purpose n)
  may_as = subst (MayDo cache_facts backing_facts v) (same_deed b before n number)
      (may_take_it cache_facts backing_facts v seat cached holds_buckets p on before first b x next)

  module _ (w : View cache_facts backing_facts)
      (did : Did cache_facts backing_facts (Some (deed.Take b.purpose n)) v w) (q : BucketsPart)
      (t : TakesBucket x b p q) where
    its_did : Did cache_facts backing_facts (Some (take_by before b)) v w
    its_did = subst (λ d. Did cache_facts backing_facts (Some d) v w)
        (sym (same_deed b before n number)) did

    pub took_as : Took cache_facts backing_facts before x b p q v w
    took_as = record {
      takes = t;
      did = its_did;
      state = its_did.is.before;
      behind = its_did.is.state;
      stood = stood_before cache_facts backing_facts v seat cached holds_buckets p on before first b
          x next w its_did;
    }

    pub buckets_as : AreBuckets q (world cache_facts backing_facts w)
    buckets_as = taken_after cache_facts backing_facts v seat cached holds_buckets p on before first b
        x next w its_did q t

    pub holds_as : FromEach (world cache_facts backing_facts w) (IsHeldFor w.first b)
    holds_as = holds_it cache_facts backing_facts v seat cached holds_buckets p on before first b x
        next w its_did q t

    pub vacant_as : FromEach (world cache_facts backing_facts w) (IsVacantIn b)
    vacant_as = is_vacant cache_facts backing_facts v seat cached holds_buckets p on before first b x
        next w its_did q t

    pub new_as : IsNewBucket cache_facts backing_facts b v w
    new_as = is_new_bucket cache_facts backing_facts v seat cached holds_buckets p on before first b x
        next w its_did q t

let_go_deed : (b : HeldBucket) (before n : ℕ) (f g : Bool) → n ≡ b.bucket - before → g ≡ f
    → let_go_by before b f ≡ deed.Unpin (unpin.Hold n g)
let_go_deed b before n f g number back = ap (λ q. deed.Unpin (unpin.Hold q f)) (sym number)
    ∙ ap (λ x. deed.Unpin (unpin.Hold n x)) (sym back)

module _ {C B : Type 0} (cache_facts : C → DiskFacts) (backing_facts : B → DiskFacts)
    (v : View cache_facts backing_facts) (seat : IsCoreSeat cache_facts backing_facts v)
    (cached : are_plain cache_facts backing_facts v.run.start ≡ false) (holds_buckets : Holds v.parts 2)
    (p : BucketsPart) (on : AreBuckets p (world cache_facts backing_facts v)) (before : ℕ)
    (first : FromEach (world cache_facts backing_facts v) (HasBefore before)) (b : HeldBucket)
    (mine : FromEach (world cache_facts backing_facts v) (IsHeldFor v.first b))
    (tree : b.purpose ≡ list.Tree → Holds v.parts 0)
    (vacant : b.purpose ≡ list.Tree → FromEach (world cache_facts backing_facts v) (IsVacantIn b))
    (n : ℕ) (number : n ≡ b.bucket - before) (g : Bool) (says : g ≡ takes_back b.purpose p.reserves)
  where
    abbrev flag : Bool
    flag = takes_back b.purpose p.reserves

    pub may_go_as : MayDo cache_facts backing_facts v (deed.Unpin (unpin.Hold n g))
    may_go_as = subst (MayDo cache_facts backing_facts v) (let_go_deed b before n flag g number says)
        (may_let_go_it cache_facts backing_facts v seat cached holds_buckets p on before first b mine
        tree vacant)

    module _ (w : View cache_facts backing_facts)
        (did : Did cache_facts backing_facts (Some (deed.Unpin (unpin.Hold n g))) v w)
        (q : BucketsPart) (goes : IsTakenIn p b.bucket → LetsGo b p q) where
      pub went_did : Did cache_facts backing_facts (Some (let_go_by before b flag)) v w
      went_did = subst (λ d. Did cache_facts backing_facts (Some d) v w)
          (sym (let_go_deed b before n flag g number says)) did

      pub went_as : SameRest p q → LetGo cache_facts backing_facts before b p q v w
      went_as rest = record {
        goes = goes_there cache_facts backing_facts v seat cached holds_buckets p on before first b mine
            tree vacant w went_did q goes;
        did = went_did;
        state = went_did.is.before;
        behind = went_did.is.state;
        stood = buckets_since cache_facts backing_facts v seat holds_buckets p on
            went_did.is.before went_did.is.since;
        rest = rest;
      }

      pub gone_as : AreBuckets q (world cache_facts backing_facts w)
      gone_as = gone_after cache_facts backing_facts v seat cached holds_buckets p on before first b mine
          tree vacant w went_did q goes

      pub keeps_as : KeepsHeldBut cache_facts backing_facts (Some b) v w
      keeps_as = keeps_let_go cache_facts backing_facts v w before b flag seat first mine went_did

-- ---- between borrowing the buckets and returning them

pub map_on_ok : {A E P Q : Type 0} (r : Result A E) → (P → Q) → OnOk r P → OnOk r Q
map_on_ok (Ok a) f h = f h
map_on_ok (Err e) f h = tt

pub map_on_err : {A E P Q : Type 0} (r : Result A E) → (P → Q) → OnErr r P → OnErr r Q
map_on_err (Ok a) f h = tt
map_on_err (Err e) f h = f h

module _ {C B : Type 0} (cache_facts : C → DiskFacts) (backing_facts : B → DiskFacts) where
  -- where there was none the part is as it was
  pub none_left : {P : Type 0} (before : ℕ) (x : Want) (r : Result HeldBucket NoBucket)
      (old new : BucketsPart) (v w : View cache_facts backing_facts)
      → TookOr cache_facts backing_facts before x r old new v w → (new ≡ old → P) → OnErr r P
  none_left before x (Ok b) old new v w h f = tt
  none_left before x (Err none) old new v w h f = f h.same

  pub known_returned : (w x : View cache_facts backing_facts) (P : ℕ → Origin → core.State → Type 0)
      → Waited (m cache_facts backing_facts) w x → x.seen ≡ w.seen
      → FromEach (world cache_facts backing_facts w) (P w.first)
      → FromEach (world cache_facts backing_facts x) (P x.first)
  known_returned w x P last seen h = subst (λ i. FromEach (world cache_facts backing_facts x) (P i))
      (sym last.same.first)
      (subst (λ (y : World). FromEach y (P w.first))
      (sym (seen_alike (m cache_facts backing_facts) w x last.same seen)) h)

  module _ (u v w x : View cache_facts backing_facts)
      (still : (k : ℕ) → Holds u.parts k → Holds v.parts k)
      (first : Waited (m cache_facts backing_facts) u v)
      (last : Waited (m cache_facts backing_facts) w x) (seen : x.seen ≡ w.seen)
      (told : x.heard ≡ w.heard) (end : IsCoreSeat cache_facts backing_facts x) where
    pub took_between : (before : ℕ) (y : Want) (r : Result HeldBucket NoBucket)
        (old new : BucketsPart) → TookOr cache_facts backing_facts before y r old new v w
        → TookOr cache_facts backing_facts before y r old new u x
    took_between before y (Ok b) old new h = record {
      takes = h.takes;
      did = did_between cache_facts backing_facts (Some (take_by before b)) u v w x still first h.did
          last seen told end;
      state = h.state;
      behind = seen_alike (m cache_facts backing_facts) w x last.same seen ∙ h.behind
          ∙ ap (λ i. after h.state (by i (take_by before b))) first.same.first;
      stood = h.stood;
    }
    took_between before y (Err none) old new h = record {
      none_is = h.none_is;
      empty = h.empty;
      same = h.same;
      did = did_between cache_facts backing_facts None u v w x still first h.did last seen told end;
      stood = subst (AreBuckets old)
          (sym (seen_alike (m cache_facts backing_facts) w x last.same seen)) h.stood;
    }

    pub taken_between : (before : ℕ) (y : Want) (r : Result HeldBucket NoBucket)
        (old new : BucketsPart) → TookOr cache_facts backing_facts before y r old new v w
        → HasTakenOr cache_facts backing_facts before y r u x
    taken_between before y r old new h = record {
      old = old;
      new = new;
      took = took_between before y r old new h;
    }

    pub went_between : (before : ℕ) (b : HeldBucket) (old new : BucketsPart)
        → LetGo cache_facts backing_facts before b old new v w
        → LetGo cache_facts backing_facts before b old new u x
    went_between before b old new h = record {
      goes = subst (λ (y : World). FromEach y (λ o st. LetsGo b old new))
          (sym (seen_alike (m cache_facts backing_facts) w x last.same seen)) h.goes;
      did = did_between cache_facts backing_facts
          (Some (let_go_by before b (takes_back b.purpose old.reserves))) u v w x still first h.did
          last seen told end;
      state = h.state;
      behind = seen_alike (m cache_facts backing_facts) w x last.same seen ∙ h.behind
          ∙ ap (λ i. after h.state
          (by i (let_go_by before b (takes_back b.purpose old.reserves)))) first.same.first;
      stood = h.stood;
      rest = h.rest;
    }

    pub let_go_between : (before : ℕ) (b : HeldBucket) (old new : BucketsPart)
        → LetGo cache_facts backing_facts before b old new v w
        → HasLetGo cache_facts backing_facts before b u x
    let_go_between before b old new h = record {
      old = old;
      new = new;
      went = went_between before b old new h;
    }

    -- what the seat knows of what it holds
    pub kept_between : (but : Option HeldBucket) → IsCoreSeat cache_facts backing_facts u
        → KeepsHeldBut cache_facts backing_facts but v w → IsCoreSeat cache_facts backing_facts w
        → ((k : ℕ) → Holds v.parts k → Holds w.parts k)
        → KeepsHeldBut cache_facts backing_facts but u x
    kept_between but seat h seat_then same_parts = then_keeps cache_facts backing_facts but u w x
        (λ k holds. same_parts k (still k holds))
        (keeps_then cache_facts backing_facts but u v w still
        (keeps_waited cache_facts backing_facts None u v seat first) h
        (others_on cache_facts backing_facts but u v
        (keeps_waited cache_facts backing_facts None u v seat first)))
        (keeps_waited cache_facts backing_facts None w x seat_then last)

    pub new_between : (b : HeldBucket) → IsCoreSeat cache_facts backing_facts u
        → IsNewBucket cache_facts backing_facts b v w → IsCoreSeat cache_facts backing_facts w
        → IsNewBucket cache_facts backing_facts b u x
    new_between b seat h seat_then a held =
        (keeps_waited cache_facts backing_facts None w x seat_then last).other b a
        (h a ((keeps_waited cache_facts backing_facts None u v seat first).held a tt held))

  -- parts are as they were
  pub kept_parts : (v w : View cache_facts backing_facts) (changed : ℕ → Bool)
      → Kept (m cache_facts backing_facts) v w changed → (k : ℕ) → Holds v.parts k → Holds w.parts k
  kept_parts v w changed kept k holds = subst (λ ks. Holds ks k) (sym kept.parts) holds

-- ---- what is in hand

behind : {A : Type 0} (n : ℕ) (o : Option A) (ks : List ℕ) (k : ℕ) → Holds ks k
    → Holds (with_part n o ks) k
behind n None ks k h = h
behind n (Some a) ks k h = inr h

behind_leaves : (o : Option LeafHand) (ks : List ℕ) (k : ℕ) → Holds ks k
    → Holds (with_leaves o ks) k
behind_leaves None ks k h = h
behind_leaves (Some l) ks k h = inr h

here : {A : Type 0} (n : ℕ) (o : Option A) (ks : List ℕ) → is_some o ≡ true
    → Holds (with_part n o ks) n
here n None ks is = absurd (cc)
here n (Some b) ks is = inl refl

spine_in : {C B : Type 0} (h : Hand C B) → is_some h.spine ≡ true → Holds (numbers h) 0
spine_in h is = behind 5 h.backing _ 0 (behind 4 h.cache _ 0 (behind 3 h.journal _ 0
    (behind 2 h.buckets _ 0 (behind 1 h.flight _ 0 (behind_leaves h.leaves _ 0
    (here 0 h.spine [] is))))))

module _ {C B : Type 0} (cache_facts : C → DiskFacts) (backing_facts : B → DiskFacts) where
  pub holds_spine : (p : PartsView (CorePart C B)) (v : View cache_facts backing_facts) (h : Hand C B)
      → Works cache_facts backing_facts p v h → is_some h.spine ≡ true → Holds v.parts 0
  holds_spine p v h works is = subst (λ ks. Holds ks 0) (sym works.parts) (spine_in h is)

  -- ---- places

  -- a bucket that is let go leaves the seat's places alone
  pub places_held : (v w : View cache_facts backing_facts) (n : ℕ) (back : Bool)
      → IsCoreSeat cache_facts backing_facts v
      → Did cache_facts backing_facts (Some (deed.Unpin (unpin.Hold n back))) v w
      → KeepsPlaces cache_facts backing_facts v w
  places_held v w n back seat did = record {
    opening = opening_deed cache_facts backing_facts v w (deed.Unpin (unpin.Hold n back)) seat did;
    own = λ p. made_by cache_facts backing_facts (λ i. IsOwn i p) (λ i. IsOwn i p) (own_lasts p) v w
        (deed.Unpin (unpin.Hold n back)) seat did (λ o st on h. record {
          some = h.some;
          own = h.own;
          bucket = h.bucket;
          lies = h.lies;
          generation = h.generation;
        });
    written = λ known. made_by cache_facts backing_facts (λ i. HasWritten i known)
        (λ i. HasWritten i known) (written_lasts known) v w (deed.Unpin (unpin.Hold n back)) seat did
        (λ o st on h t x is. let was = h t x is in record {
          own = was.own;
          placed = ap (λ (s : Seat). s.placed t) (put_own st.machine.whole.flow.seats v.first _)
              ∙ was.placed;
        });
  }
    where
      put_own : (seats : ℕ → Seat) (i : ℕ) (x : Seat) → put_seat seats i x i ≡ x
      put_own seats i x = by_test i i (λ b. (if b then x else seats i) ≡ x) (λ is. refl)
          (λ ne. absurd (ne refl))
