-- A bucket is let go: when that may be, and what the buckets in hand stand for then.
use Rattle.std.proofs.Common.{◌≡◌, ◌≢◌, ◌⊎◌, inl, inr, ℕ, ◌+◌, ◌-◌, ◌*◌, ◌<◌, ◌≤◌, Bool, true, false, List, [], ◌∷◌, length, refl, sym, ap, ◌∙◌, subst, arith}
use Rattle.std.specs.Prelude.{slice_index_or, sum_by, if◌then◌else◌}
use Rattle.std.proofs.lemmas.Bool.{cases_eq, lt-ltb}
use Rattle.bc_alloc.proofs.Fits.{other_stays, same_length, this_changes}
use Rattle.std.proofs.lemmas.List.Sums.{sum_by-cons}
use Rattle.bc_alloc.proofs.Times.{times-cons, times_same}
use Rattle.bc_alloc.specs.Reserve.{Reserve, has_room, no_reserve, times}
use Rattle.bc_alloc.specs.Reserves.{Reserves, list_of}
use Rattle.bc_alloc.specs.declared.purpose.Purpose.{Purpose}
use Rattle.bc_alloc.specs.declared.purpose.Purpose.TheVariants as list
use Rattle.bc_books.specs.After as books
use Rattle.bc_books.specs.Books.{Books, LetGo}
use Rattle.bc_books.specs.Chains.{Many}
use Rattle.bc_books.specs.Shelves.{Held, Listed, Loose, Open, Priorities, Raised, Shelf, put_back}
use Rattle.bc_books.specs.Shelves as shelf
use Rattle.bc_bucket.specs.Bucket.{with_held}
use Rattle.bc_bucket.specs.Buckets.{Buckets, bucket_of, changed}
use Rattle.bc_bucket.specs.declared.bucket.Bucket.{Bucket}
use Rattle.bc_events.specs.Acts.{purpose_of}
use Rattle.bc_events.specs.Run as core
use Rattle.bc_events.specs.declared.event.Deed.TheVariants as deed
use Rattle.bc_events.specs.declared.event.Event.{Event}
use Rattle.bc_events.specs.declared.event.UnpinKind.TheVariants as unpin
use Rattle.bc_fill.specs.Fill.{bucket_numbers}
use Rattle.bc_fill.specs.declared.fill.Open.{Open as OpenBucket}
use Rattle.bc_held.proofs.Lists.{put_first, put_none, put_others, put_room, with_first}
use Rattle.bc_held.proofs.Many.{many_on, no_room, once_listed}
use Rattle.bc_held.specs.Held.{IsHeldFor, IsVacantIn, number_in}
use Rattle.bc_held.specs.Next.{IsTakenIn, LetsGo, is_among, lists_behind, takes_back}
use Rattle.bc_held.specs.declared.held.HeldBucket.{HeldBucket}
use Rattle.bc_leaves.specs.Enabled.{IsVacant}
use Rattle.bc_leaves.proofs.Chains.{put_else, put_there}
use Rattle.bc_meta.proofs.Lists.{by_test}
use Rattle.bc_place.proofs.of_bc_machine.Buckets.{chain_stays, mark_stays, round_stays}
use Rattle.bc_place.specs.bc_hand.Seats.{by}
use Rattle.bc_place.specs.bc_machine.Containers.{AreBucketsOf, IsBucketFor, is_held, pins_in}
use Rattle.bc_place.specs.bc_machine.World.{Origin, replay}
use Rattle.bc_place.specs.bc_machine.declared.part.BucketsPart.{BucketsPart}
use Rattle.bc_places.proofs.Lists.{apart, not_there}
use Rattle.bc_places.specs.Stands.{AreJust, AreListedIn, IsCutInto, StandFor}
use Rattle.bc_shares.specs.Shares.{books_of, buckets_in}
use Rattle.bc_whole.specs.State as whole

never : (b : Bool) → b ≡ true → b ≡ false → ⊥
never b is off = cc

held_listed : (x : Shelf) (i : ℕ) (p q : shelf.Purpose) → x ≡ Held i p → x ≡ Listed q → ⊥
held_listed x i p q a b = cc

held_open : (x : Shelf) (i : ℕ) (p : shelf.Purpose) → x ≡ Held i p → x ≡ Open → ⊥
held_open x i p a b = cc

held_raised : (x : Shelf) (i : ℕ) (p : shelf.Purpose) → x ≡ Held i p → x ≡ Raised → ⊥
held_raised x i p a b = cc

held_tree : (x : Shelf) (i : ℕ) (p : Purpose) → x ≡ Held i (purpose_of p)
    → x ≡ Held i shelf.Tree → p ≡ list.Tree
held_tree x i p a b = go p (sym a ∙ b)
  where
    go : (p : Purpose) → Held i (purpose_of p) ≡ Held i shelf.Tree → p ≡ list.Tree
    go list.Priorities e = absurd (cc)
    go list.Moving e = absurd (cc)
    go list.Tree e = refl
    go list.Plain e = absurd (cc)

-- ---- where it goes

-- it stands nowhere but on the list for priority sets, if it was taken for them
goes_open : (f : Bool) (i : ℕ) (p : Purpose) → put_back f (Held i (purpose_of p)) ≡ Open → ⊥
goes_open true i list.Priorities e = cc
goes_open false i list.Priorities e = cc
goes_open f i list.Moving e = cc
goes_open f i list.Tree e = cc
goes_open f i list.Plain e = cc

goes_raised : (f : Bool) (i : ℕ) (p : Purpose) → put_back f (Held i (purpose_of p)) ≡ Raised → ⊥
goes_raised true i list.Priorities e = cc
goes_raised false i list.Priorities e = cc
goes_raised f i list.Moving e = cc
goes_raised f i list.Tree e = cc
goes_raised f i list.Plain e = cc

goes_unheld : (f : Bool) (i : ℕ) (p : Purpose)
    → is_held (put_back f (Held i (purpose_of p))) ≡ false
goes_unheld true i list.Priorities = refl
goes_unheld false i list.Priorities = refl
goes_unheld f i list.Moving = refl
goes_unheld f i list.Tree = refl
goes_unheld f i list.Plain = refl

-- one that isn't taken back was taken for priority sets, and their list is full
not_back : (p : Purpose) (r : Reserves) → takes_back p r ≡ false
    → (p ≡ list.Priorities) × (has_room (list_of list.Priorities r) ≡ false)
not_back list.Priorities r full = (refl, full)
not_back list.Moving r full = absurd (cc)
not_back list.Tree r full = absurd (cc)
not_back list.Plain r full = absurd (cc)

-- the list for priority sets has the room that it had
behind_room : (p : Purpose) (n : ℕ) (r : Reserves)
    → (list_of list.Priorities (lists_behind p n r)).room ≡ (list_of list.Priorities r).room
behind_room list.Priorities n r = put_room r n
behind_room list.Moving n r = refl
behind_room list.Tree n r = refl
behind_room list.Plain n r = refl

loose_listed : (p : shelf.Purpose) → Loose ≡ Listed p → ⊥
loose_listed p e = cc

listed_one : (p : shelf.Purpose) → Listed Priorities ≡ Listed p → Priorities ≡ p
listed_one p e = cc

-- ---- what is in no list

-- nor is it on one of the four together
sum_four : (f : Reserve → ℕ) (ls : List Reserve) → length ls ≡ 4
    → f (slice_index_or ls 0 no_reserve) ≡ 0 → f (slice_index_or ls 1 no_reserve) ≡ 0
    → f (slice_index_or ls 2 no_reserve) ≡ 0 → f (slice_index_or ls 3 no_reserve) ≡ 0
    → sum_by f ls ≡ 0
sum_four f [] four a b c d = refl
sum_four f (k ∷ []) four a b c d = absurd (omega (arith, four))
sum_four f (k ∷ l ∷ []) four a b c d = absurd (omega (arith, four))
sum_four f (k ∷ l ∷ m ∷ []) four a b c d = absurd (omega (arith, four))
sum_four f (k ∷ l ∷ m ∷ n ∷ []) four a b c d =
    let one = sum_by-cons f k (l ∷ m ∷ n ∷ []) in
    let two = sum_by-cons f l (m ∷ n ∷ []) in
    let three = sum_by-cons f m (n ∷ []) in
    let last = sum_by-cons f n [] in
    let none : sum_by f [] ≡ 0 = refl in
    omega (arith, a, b, c, d, one, two, three, last, none)
sum_four f (k ∷ l ∷ m ∷ n ∷ o ∷ rest) four a b c d = absurd (omega (arith, four))

not_among : (k : ℕ) (fs : List OpenBucket) → times k (bucket_numbers fs) ≡ 0
    → is_among k fs ≡ false
not_among k [] none = refl
not_among k (o ∷ fs) none =
    let c = times-cons k o.bucket (bucket_numbers fs) in
    by_test o.bucket k (λ b. (if b then true else is_among k fs) ≡ false)
    (λ same. absurd (
    let one = subst (λ (j : ℕ). times k (j ∷ []) ≡ 1) (sym same) (times_same k) in
    omega (arith, c, none, one)))
    (λ ne. not_among k fs (omega (arith, c, none)))

module _ (o : Origin) (not_plain : o.opening.machine.flow.plain ≡ false) (es : List Event)
    (p : BucketsPart)
    (h : AreBucketsOf o.opening.machine (books_of (replay o es).machine) p) (i : ℕ) (b : HeldBucket)
    (mine : IsHeldFor i b o (replay o es)) where
  abbrev w : whole.Opening
  w = o.opening.machine

  abbrev k : Books
  k = books_of (replay o es).machine

  abbrev n : ℕ
  n = b.bucket

  -- the core's number of it
  abbrev q0 : ℕ
  q0 = number_in b o

  number_is : n - w.before ≡ q0
  number_is = let is = mine.lies.number in omega (arith, is)

  low : w.before ≤ n
  low = let is = mine.lies.number in omega (arith, is)

  mine_at : k.shelf (n - w.before) ≡ Held i (purpose_of b.purpose)
  mine_at = ap k.shelf number_is ∙ mine.held

  -- ---- the books behind it

  -- whether its list takes it back
  abbrev back : Bool
  back = takes_back b.purpose p.reserves

  abbrev then_ : Books
  then_ = books.after w.flow.books k (LetGo i (n - w.before) back)

  is_now : then_.shelf (n - w.before) ≡ put_back back (Held i (purpose_of b.purpose))
  is_now = put_there k.shelf (n - w.before) (put_back back (k.shelf (n - w.before)))
      ∙ ap (put_back back) mine_at

  elsewhere : (j : ℕ) → j ≢ n - w.before → then_.shelf j ≡ k.shelf j
  elsewhere j ne = put_else k.shelf (n - w.before) (put_back back (k.shelf (n - w.before))) j ne

  -- where it goes, by what it was taken for
  goes_is : (r : Purpose) (f : Bool) → b.purpose ≡ r → takes_back r p.reserves ≡ f
      → then_.shelf (n - w.before) ≡ put_back f (Held i (purpose_of r))
  goes_is r f its is = is_now
      ∙ ap (λ (x : Purpose). put_back (takes_back x p.reserves) (Held i (purpose_of x))) its
      ∙ ap (λ g. put_back g (Held i (purpose_of r))) is

  -- one that goes to no list comes to none
  loose_for : (r : Purpose) (f : Bool) → b.purpose ≡ r → takes_back r p.reserves ≡ f
      → put_back f (Held i (purpose_of r)) ≡ Loose → (s : Purpose)
      → then_.shelf (n - w.before) ≡ Listed (purpose_of s) → ⊥
  loose_for r f its is loose s on = loose_listed (purpose_of s)
      (sym loose ∙ sym (goes_is r f its is) ∙ on)

  -- a list that it doesn't come to
  other_list : (r : Purpose) → (then_.shelf (n - w.before) ≡ Listed (purpose_of r) → ⊥)
      → AreJust w.before (list_of r p.reserves).buckets (λ j. then_.shelf j ≡ Listed (purpose_of r))
  other_list r never = apart w.before n (list_of r p.reserves).buckets
      (λ j. k.shelf j ≡ Listed (purpose_of r)) (λ j. then_.shelf j ≡ Listed (purpose_of r)) low
      (h.places.lists.lists r)
      (held_listed (k.shelf (n - w.before)) i (purpose_of b.purpose) (purpose_of r) mine_at)
      (λ j ne is. elsewhere j ne ∙ is) (λ j ne is. sym (elsewhere j ne) ∙ is) never

  -- ---- when it may be

  -- a list that is full has as many buckets as a chain
  roomy : (back ≡ true) ⊎ Many w.flow.books.sets (λ c. then_.shelf c ≡ Listed Priorities)
  roomy = go back refl
    where
      go : (f : Bool) → back ≡ f → (back ≡ true)
          ⊎ Many w.flow.books.sets (λ c. then_.shelf c ≡ Listed Priorities)
      go true is = inl is
      go false is =
          let full = not_back b.purpose p.reserves is in
          inr (many_on w.flow.books.sets w.before (list_of list.Priorities p.reserves).buckets
          (λ c. then_.shelf c ≡ Listed Priorities)
          (other_list list.Priorities
          (loose_for list.Priorities false full.0 full.1 refl list.Priorities))
          (once_listed p.reserves p.order)
          (let long = no_room (list_of list.Priorities p.reserves) full.1 in
          let same = h.room in omega (arith, long, same)))

  pub may_go : i < 320 → (replay o es).machine.whole.flow.halted ≡ false
      → (b.purpose ≡ list.Tree → IsVacantIn b o (replay o es))
      → core.IsEnabled o.opening (replay o es) (by i (deed.Unpin (unpin.Hold (n - w.before) back)))
  may_go few running vacant = record {
    seat = lt-ltb i 320 few;
    course = (
      record {
        data_allows = (
          record {
            heard = running;
            steps = (
              ((purpose_of b.purpose, mine_at), ap k.chains.of number_is ∙ mine.unnamed),
              tt,
            );
            can = refl;
          },
          tt,
        );
        asks = (
          roomy,
          λ tree. subst (IsVacant (replay o es).machine.whole.parts) (sym number_is)
              (vacant (held_tree (k.shelf (n - w.before)) i b.purpose mine_at tree)),
        );
      },
      tt,
    );
    fit = tt;
    its_line = tt;
    plain = λ plain. absurd (never o.opening.machine.flow.plain plain not_plain);
  }

  -- ---- what the containers have of it

  pub none_listed : (r : Purpose) → times n (list_of r p.reserves).buckets ≡ 0
  none_listed r = not_there w.before n (list_of r p.reserves).buckets
      (λ j. k.shelf j ≡ Listed (purpose_of r)) (h.places.lists.lists r)
      (held_listed (k.shelf (n - w.before)) i (purpose_of b.purpose) (purpose_of r) mine_at)

  there : n < length p.buckets.records
  there =
      let is = mine.lies.number in
      let inside = mine.lies.inside in
      let count = h.cut.buckets in omega (arith, is, inside, count)

  pub is_taken : IsTakenIn p n
  is_taken = record {
    there = there;
    held = ap (λ (x : Bucket). x.held) (ap (bucket_of p.buckets) mine.lies.number)
        ∙ (h.records q0 (let in_ = there in let is = mine.lies.number in omega (arith, in_, is))).held
        ∙ ap is_held mine.held;
    loose =
        let lists = sum_four (λ (l : Reserve). times n l.buckets) p.reserves.lists p.order.four
        (none_listed list.Priorities) (none_listed list.Moving) (none_listed list.Tree)
        (none_listed list.Plain) in
        let raised = not_there w.before n p.reserves.raised (λ j. k.shelf j ≡ Raised)
        h.places.lists.raised
        (held_raised (k.shelf (n - w.before)) i (purpose_of b.purpose) mine_at) in
        omega (arith, lists, raised);
    shut = not_among n p.fill (not_there w.before n (bucket_numbers p.fill)
        (λ j. k.shelf j ≡ Open) h.places.opens.buckets
        (held_open (k.shelf (n - w.before)) i (purpose_of b.purpose) mine_at));
  }

  -- ---- what it leaves

  module _ (q : BucketsPart) (t : LetsGo b p q) where
    record_then : (j : ℕ) → w.before + j < length p.buckets.records
        → (j ≡ n - w.before) ⊎ (j ≢ n - w.before)
        → IsBucketFor (w.flow.books.version j) j (buckets_in then_)
        (pins_in then_.owner ((w.before + j) * p.buckets.size) p.buckets.size)
        (bucket_of (changed (with_held false) n p.buckets) (w.before + j))
    record_then j within (inl e) =
        let from = low in
        let at : w.before + j ≡ n = omega (arith, e, from) in
        let r = h.records j within in
        subst (λ (x : Bucket). IsBucketFor (w.flow.books.version j) j (buckets_in then_)
        (pins_in then_.owner ((w.before + j) * p.buckets.size) p.buckets.size) x)
        (sym (ap (bucket_of (changed (with_held false) n p.buckets)) at
        ∙ this_changes (with_held false) n p.buckets (omega (arith, within, at))
        ∙ ap (λ m. with_held false (bucket_of p.buckets m)) (sym at)))
        (record {
          generation = r.generation;
          uses = r.uses;
          last_gc = r.last_gc;
          mark = r.mark;
          pins = r.pins;
          held = sym (ap is_held (ap then_.shelf e ∙ is_now) ∙ goes_unheld back i b.purpose);
        })
    record_then j within (inr ne) =
        let r = h.records j within in
        let from = low in
        subst (λ (x : Bucket). IsBucketFor (w.flow.books.version j) j (buckets_in then_)
        (pins_in then_.owner ((w.before + j) * p.buckets.size) p.buckets.size) x)
        (sym (other_stays (with_held false) n p.buckets (w.before + j)
        (λ e. ne (omega (arith, e)))))
        (record {
          generation = r.generation;
          uses = r.uses;
          last_gc = r.last_gc;
          mark = r.mark;
          pins = r.pins;
          held = r.held ∙ sym (ap is_held (elsewhere j ne));
        })

    raised_then : (r : Reserves) → r.raised ≡ p.reserves.raised
        → AreJust w.before r.raised (λ j. then_.shelf j ≡ Raised)
    raised_then r same = subst (λ ks. AreJust w.before ks (λ j. then_.shelf j ≡ Raised)) (sym same)
        (apart w.before n p.reserves.raised (λ j. k.shelf j ≡ Raised) (λ j. then_.shelf j ≡ Raised)
        low h.places.lists.raised
        (held_raised (k.shelf (n - w.before)) i (purpose_of b.purpose) mine_at)
        (λ j ne is. elsewhere j ne ∙ is) (λ j ne is. sym (elsewhere j ne) ∙ is)
        (λ is. goes_raised back i b.purpose (sym is_now ∙ is)))

    -- where it comes to the list for priority sets
    back_other : b.purpose ≡ list.Priorities → has_room (list_of list.Priorities p.reserves) ≡ true
        → (r : Purpose) → r ≢ list.Priorities → (Priorities ≡ purpose_of r → ⊥)
        → AreJust w.before (list_of r (lists_behind list.Priorities n p.reserves)).buckets
        (λ j. then_.shelf j ≡ Listed (purpose_of r))
    back_other its free r other apart_ = subst (λ (l : Reserve). AreJust w.before l.buckets
        (λ j. then_.shelf j ≡ Listed (purpose_of r))) (sym (put_others p.reserves n r other))
        (other_list r (λ on. apart_ (listed_one (purpose_of r)
        (sym (goes_is list.Priorities true its free) ∙ on))))

    back_list : b.purpose ≡ list.Priorities → has_room (list_of list.Priorities p.reserves) ≡ true
        → (r : Purpose) → AreJust w.before
        (list_of r (lists_behind list.Priorities n p.reserves)).buckets
        (λ j. then_.shelf j ≡ Listed (purpose_of r))
    back_list its free list.Priorities =
        subst (λ ks. AreJust w.before ks (λ j. then_.shelf j ≡ Listed Priorities))
        (sym (put_first p.reserves n p.order.four free))
        (with_first w.before n (list_of list.Priorities p.reserves).buckets
        (λ j. k.shelf j ≡ Listed Priorities) (λ j. then_.shelf j ≡ Listed Priorities) low
        (h.places.lists.lists list.Priorities)
        (λ j ne is. elsewhere j ne ∙ is) (λ j ne is. sym (elsewhere j ne) ∙ is)
        (goes_is list.Priorities true its free)
        (held_listed (k.shelf (n - w.before)) i (purpose_of b.purpose) Priorities mine_at))
    back_list its free list.Moving = back_other its free list.Moving (λ e. cc) (λ e. cc)
    back_list its free list.Tree = back_other its free list.Tree (λ e. cc) (λ e. cc)
    back_list its free list.Plain = back_other its free list.Plain (λ e. cc) (λ e. cc)

    -- where that has no room
    full_list : b.purpose ≡ list.Priorities
        → has_room (list_of list.Priorities p.reserves) ≡ false → (r : Purpose) → AreJust w.before
        (list_of r (lists_behind list.Priorities n p.reserves)).buckets
        (λ j. then_.shelf j ≡ Listed (purpose_of r))
    full_list its full r = subst (λ (l : Reserve). AreJust w.before l.buckets
        (λ j. then_.shelf j ≡ Listed (purpose_of r))) (sym (put_none p.reserves n full r))
        (other_list r (loose_for list.Priorities false its full refl r))

    priorities_for : b.purpose ≡ list.Priorities → (f : Bool)
        → has_room (list_of list.Priorities p.reserves) ≡ f
        → (r : Purpose) → AreJust w.before
        (list_of r (lists_behind list.Priorities n p.reserves)).buckets
        (λ j. then_.shelf j ≡ Listed (purpose_of r))
    priorities_for its true is = back_list its is
    priorities_for its false is = full_list its is

    lists_for : (r : Purpose) → b.purpose ≡ r → AreListedIn w.before (lists_behind r n p.reserves) then_
    lists_for list.Priorities its = record {
      lists = priorities_for its (has_room (list_of list.Priorities p.reserves)) refl;
      raised = raised_then (lists_behind list.Priorities n p.reserves) refl;
    }
    lists_for list.Moving its = record {
      lists = λ r. other_list r (loose_for list.Moving true its refl refl r);
      raised = raised_then p.reserves refl;
    }
    lists_for list.Tree its = record {
      lists = λ r. other_list r (loose_for list.Tree true its refl refl r);
      raised = raised_then p.reserves refl;
    }
    lists_for list.Plain its = record {
      lists = λ r. other_list r (loose_for list.Plain true its refl refl r);
      raised = raised_then p.reserves refl;
    }

    places_then : StandFor w.before p.buckets.size p.fill q.reserves then_
    places_then = record {
      opens = record {
        buckets = apart w.before n (bucket_numbers p.fill) (λ j. k.shelf j ≡ Open)
            (λ j. then_.shelf j ≡ Open) low h.places.opens.buckets
            (held_open (k.shelf (n - w.before)) i (purpose_of b.purpose) mine_at)
            (λ j ne is. elsewhere j ne ∙ is) (λ j ne is. sym (elsewhere j ne) ∙ is)
            (λ is. goes_open back i b.purpose (sym is_now ∙ is));
        free = h.places.opens.free;
        given = h.places.opens.given;
      };
      lists = subst (λ r. AreListedIn w.before r then_) (sym t.reserves)
          (lists_for b.purpose refl);
    }

    are_then : AreBucketsOf w then_ q
    are_then = record {
      cut = subst (λ (x : Buckets). IsCutInto x.size (length x.records) w) (sym t.buckets)
          (subst (λ m. IsCutInto p.buckets.size m w)
          (sym (same_length (with_held false) n p.buckets)) h.cut);
      data_from = ap (λ (x : Buckets). x.data_from) t.buckets ∙ h.data_from;
      records = subst (λ (x : Buckets). (j : ℕ) → w.before + j < length x.records
          → IsBucketFor (w.flow.books.version j) j (buckets_in then_)
          (pins_in then_.owner ((w.before + j) * x.size) x.size) (bucket_of x (w.before + j)))
          (sym t.buckets) (λ j within. record_then j
          (let long = same_length (with_held false) n p.buckets in omega (arith, long, within))
          (cases_eq j (n - w.before)));
      places = subst (λ (x : Buckets). StandFor w.before x.size q.fill q.reserves then_)
          (sym t.buckets)
          (subst (λ (fs : List OpenBucket). StandFor w.before p.buckets.size fs q.reserves then_)
          (sym t.fill) places_then);
      outside = λ m less. ap (λ (y : Buckets). (bucket_of y m).mark) t.buckets
          ∙ mark_stays (with_held false) (λ y. refl) n p.buckets m ∙ h.outside m less;
      room = ap (λ (r : Reserves). (list_of list.Priorities r).room) t.reserves
          ∙ behind_room b.purpose n p.reserves ∙ h.room;
      chain = chain_stays w.before w.flow.books.sets k.chains.of k.chains.ready k.chains.sealed p q
          t.rest h.chain;
      round = round_stays w.flow.books w.before k.round p q (changed (with_held false) n p.buckets)
          t.rest t.buckets (same_length (with_held false) n p.buckets) refl h.round;
    }

    pub let_go_stands : AreBucketsOf w
        (books_of (core.after o.opening (replay o es)
        (by i (deed.Unpin (unpin.Hold (n - w.before) back)))).machine) q
    let_go_stands = are_then
