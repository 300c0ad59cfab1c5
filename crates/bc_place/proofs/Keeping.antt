-- What a seat knows of its places goes on, whatever others do, and while it leaves them alone itself.
use Rattle.std.proofs.Common.{◌≡◌, ◌≢◌, ℕ, ◌+◌, ◌%◌, ◌<◌, ◌≤◌, Bool, true, false, List, Option, Some, None, refl, sym, ap, ◌∙◌, subst, arith}
use Rattle.std.specs.Prelude.{if◌then◌else◌}
use Rattle.bc_model.specs.Sector.{Value, at_run}
use Rattle.bc_books.specs.Enabled.{CanPin}
use Rattle.bc_books.specs.Index.{within}
use Rattle.bc_books.specs.Shelves.{Fresh, Own, Owner, Spent}
use Rattle.bc_books.proofs.Cases.{by_within}
use Rattle.bc_books.specs.Books.{Shut}
use Rattle.bc_data.specs.Seats.{Seat, noted}
use Rattle.bc_data.specs.Data as flow
use Rattle.bc_data.specs.Data.{PinPlaces, Shelve}
use Rattle.bc_data.specs.After as flow_step
use Rattle.bc_disk.specs.Disk.{DiskFacts}
use Rattle.bc_events.specs.Run as core
use Rattle.bc_events.specs.declared.event.Deed.{Deed}
use Rattle.bc_events.specs.declared.event.Deed.TheVariants as deed
use Rattle.bc_events.specs.declared.event.Event.{Event}
use Rattle.bc_events.specs.declared.event.UnpinKind.TheVariants as unpin
use Rattle.bc_events.specs.declared.event.Written.TheVariants as written
use Rattle.bc_fill.specs.Fresh.{IsApart}
use Rattle.bc_fill.specs.declared.fill.Placed.{Placed}
use Rattle.bc_deed.specs.bc_hand.Seats.{Did, IsCoreSeat, by, world}
use Rattle.bc_deed.proofs.of_bc_hand.Knowing.{View, m}
use Rattle.bc_holds.proofs.Law.{law_pinned}
use Rattle.bc_deed.specs.bc_machine.Standing.{oldest_first, origin_before, replay_is}
use Rattle.bc_deed.specs.bc_machine.World.{FromEach, IsCourseOf, IsOrigin, Origin, World, after, replay}
use Rattle.bc_seats.specs.Seats.{Since, Waited}
use Rattle.bc_seats.proofs.Knowing.{still}
use Rattle.bc_shares.specs.Shares.{books_of}
use Rattle.bc_place.specs.Laws.{LawOwnKept, LawWritten, LawWrittenKept}
use Rattle.bc_place.specs.Place.{HasBefore, IsOwn}
use Rattle.bc_place.specs.Written.{AreApart, HasStored, HasUnpinned, HasWritten, IsNew, IsWrittenAt, KeepsOpening, KeepsPlaces, leaves_places, not_in, with_written}
use Rattle.bc_place.proofs.Going.{happens, law_own}
use Rattle.bc_place.proofs.Knowing.{known_changed}
use Rattle.bc_place.proofs.Rows.{SamePlaces, act_same, event_same, other_placed, put_own}

-- ---- events that leave the seat's places alone

own_same : (i : ℕ) (p : Placed) (o : Origin) (a b : core.State)
    → SamePlaces i a.machine.whole.flow b.machine.whole.flow → IsOwn i p o a → IsOwn i p o b
own_same i p o a b same h = record {
  some = h.some;
  own = λ t of. same.owner t ∙ h.own t of;
  bucket = h.bucket;
  lies = h.lies;
  generation = h.generation ∙ ap (λ n. n % 256)
      (sym (same.version (o.opening.machine.flow.books.bucket p.ptr.offset)));
}

written_same : (i : ℕ) (known : ℕ → Option Value) (o : Origin) (a b : core.State)
    → SamePlaces i a.machine.whole.flow b.machine.whole.flow → HasWritten i known o a
    → HasWritten i known o b
written_same i known o a b same h t v is = record {
  own = same.owner t ∙ (h t v is).own;
  placed = same.placed t ∙ (h t v is).placed;
}

-- what the core's state has of one seat, behind an event
kept_event : (x : World) (e : Event) (P Q : Origin → core.State → Type 0)
    → ((o : Origin) → IsOrigin x o → IsCourseOf o x.log
    → core.IsEnabled o.opening (replay o x.log) e
    → P o (replay o x.log) → Q o (core.after o.opening (replay o x.log) e))
    → FromEach x P → FromEach (after x e) Q
kept_event x e P Q makes h o is course =
    let before = origin_before x e o is in
    makes o before course.2 course.0.enabled (h o before course.2)

pub law_own_kept : LawOwnKept
law_own_kept x e p on = kept_event x e (IsOwn e.seat p) (IsOwn e.seat p) (λ o is course enabled h.
    own_same e.seat p o (replay o x.log) (core.after o.opening (replay o x.log) e)
    (event_same o.opening (replay o x.log) e on) h)

pub law_written_kept : LawWrittenKept
law_written_kept x e known on = kept_event x e (HasWritten e.seat known) (HasWritten e.seat known)
    (λ o is course enabled h. written_same e.seat known o (replay o x.log)
    (core.after o.opening (replay o x.log) e) (event_same o.opening (replay o x.log) e on) h)

-- ---- events of others

pub law_written_at : (x : World) (e : Event) (i t : ℕ) (v : Value) → e.seat ≢ i
    → FromEach x (λ o st. IsWrittenAt i t v st) → FromEach (after x e) (λ o st. IsWrittenAt i t v st)
law_written_at x e i t v ne = kept_event x e (λ o st. IsWrittenAt i t v st)
    (λ o st. IsWrittenAt i t v st) (λ o is course on was. record {
      own = subst (λ (st : core.State). (books_of st.machine).owner t ≡ Own i
          → (books_of (core.after o.opening st e).machine).owner t ≡ Own i)
          (sym (replay_is o x.log)) (λ own. (law_pinned o.opening o.parts o.next_seq
          (oldest_first x.log) e (happens x o e is course on) i ne t own).owner) was.own;
      placed = other_placed o.opening (replay o x.log) e i (λ same. ne (sym same)) t ∙ was.placed;
    })

pub law_written : LawWritten
law_written x e i known ne h o is course t v at =
    law_written_at x e i t v ne (λ o is course. h o is course t v at) o is course

-- ---- a pin of more places

in_run : (at n t : ℕ) → (at ≤ t) × (t < at + n) → within at n t ≡ true
in_run at n t r = by_within at n t (λ b. b ≡ true) (λ _. refl) (λ no. absurd (no r))

own_or : (b : Bool) (i : ℕ) (x : Owner) → x ≡ Own i → (if b then Own i else x) ≡ Own i
own_or true i x is = refl
own_or false i x is = is

-- none of them had been pinned
none_fresh : (i : ℕ) (x : Owner) → x ≡ Fresh → x ≡ Own i → ⊥
none_fresh i x fresh own = let e : Fresh ≡ Own i = sym fresh ∙ own in absurd (cc)

module _ (w : flow.Opening) (st : flow.State) (i at count : ℕ)
    (can : CanPin w.books.bucket st.books.shelf st.books.owner i at count) where
  pinned_placed : (t : ℕ) (v : Value) → st.books.owner t ≡ Own i → (st.seats i).placed t ≡ Some v
      → ((flow_step.after w st i (PinPlaces at count)).seats i).placed t ≡ Some v
  pinned_placed t v own is = ap (λ (x : Seat). x.placed t) (put_own st.seats i _)
      ∙ go (within at count t) refl
    where
      go : (b : Bool) → within at count t ≡ b
          → (if b then None else (st.seats i).placed t) ≡ Some v
      go true inside = absurd (none_fresh i (st.books.owner t) (can.fresh t inside) own)
      go false outside = is

module _ (o : Origin) (st : core.State) (i at count : ℕ) where
  pin_can : (full : Bool)
      → core.IsEnabled o.opening st (by i (deed.Pin at count full))
      → CanPin o.opening.machine.flow.books.bucket (books_of st.machine).shelf
      (books_of st.machine).owner i at count
  pin_can false on = on.course.0.data_allows.0.steps.0
  pin_can true on = on.course.0.data_allows.0.steps.0

  pin_owner : (full : Bool) (t : ℕ) → (books_of st.machine).owner t ≡ Own i
      → (books_of (core.after o.opening st (by i (deed.Pin at count full))).machine).owner t ≡ Own i
  pin_owner false t is = own_or (within at count t) i _ is
  pin_owner true t is = own_or (within at count t) i _ is

  pin_version : (full : Bool) (q : ℕ)
      → (books_of (core.after o.opening st (by i (deed.Pin at count full))).machine).generations.version q
      ≡ (books_of st.machine).generations.version q
  pin_version false q = refl
  pin_version true q = refl

  pin_placed : (full : Bool) → core.IsEnabled o.opening st (by i (deed.Pin at count full))
      → (t : ℕ) (v : Value) → (books_of st.machine).owner t ≡ Own i
      → (st.machine.whole.flow.seats i).placed t ≡ Some v
      → ((core.after o.opening st (by i (deed.Pin at count full))).machine.whole.flow.seats i).placed t
      ≡ Some v
  pin_placed false on t v own is = pinned_placed o.opening.machine.flow st.machine.whole.flow i at
      count (pin_can false on) t v own is
  pin_placed true on t v own is = (act_same o.opening.machine.flow
      (flow_step.after o.opening.machine.flow st.machine.whole.flow i (PinPlaces at count)) i
      (Shelve (Shut (o.opening.machine.flow.books.bucket at))) refl).placed t
      ∙ pinned_placed o.opening.machine.flow st.machine.whole.flow i at count (pin_can true on) t v
      own is

  own_pinned : (full : Bool) (p : Placed) → IsOwn i p o st
      → IsOwn i p o (core.after o.opening st (by i (deed.Pin at count full)))
  own_pinned full p h = record {
    some = h.some;
    own = λ t of. pin_owner full t (h.own t of);
    bucket = h.bucket;
    lies = h.lies;
    generation = h.generation ∙ ap (λ n. n % 256)
        (sym (pin_version full (o.opening.machine.flow.books.bucket p.ptr.offset)));
  }

  written_pinned : (full : Bool) → core.IsEnabled o.opening st (by i (deed.Pin at count full))
      → (known : ℕ → Option Value) → HasWritten i known o st
      → HasWritten i known o (core.after o.opening st (by i (deed.Pin at count full)))
  written_pinned full on known h t v is = let was = h t v is in record {
    own = pin_owner full t was.own;
    placed = pin_placed full on t v was.own was.placed;
  }

-- none of the new ones was the seat's
apart_pinned : (o : Origin) (st : core.State) (i : ℕ) (place : Placed) (full : Bool) (p : Placed)
    → core.IsEnabled o.opening st (by i (deed.Pin place.ptr.offset place.count full))
    → IsOwn i p o st → IsApart place p
apart_pinned o st i place full p on h t in_new in_old = absurd (none_fresh i
    ((books_of st.machine).owner t)
    ((pin_can o st i place.ptr.offset place.count full on).fresh t
    (in_run place.ptr.offset place.count t in_new)) (h.own t in_old))

-- ---- values are written

module _ (o : Origin) (st : core.State) (i at : ℕ) (values : List Value) where
  abbrev stored : core.State
  stored = core.after o.opening st (by i (deed.CacheWrite at written.Data values))

  own_stored : (p : Placed) → IsOwn i p o st → IsOwn i p o stored
  own_stored p h = record {
    some = h.some;
    own = h.own;
    bucket = h.bucket;
    lies = h.lies;
    generation = h.generation;
  }

  written_stored : core.IsEnabled o.opening st (by i (deed.CacheWrite at written.Data values))
      → (known : ℕ → Option Value) → HasWritten i known o st
      → HasWritten i (with_written at values known) o stored
  written_stored on known h t v is = record {
    own = its (at_run at values t) refl is;
    placed = ap (λ (x : Seat). x.placed t) (put_own st.machine.whole.flow.seats i _)
        ∙ value (at_run at values t) is;
  }
    where
      its : (x : Option Value) → at_run at values t ≡ x → noted x (known t) ≡ Some v
          → (books_of st.machine).owner t ≡ Own i
      its (Some u) here is = on.course.0.data_allows.0.can.places t u here
      its None here is = (h t v is).own

      value : (x : Option Value) → noted x (known t) ≡ Some v
          → noted x ((st.machine.whole.flow.seats i).placed t) ≡ Some v
      value (Some u) is = is
      value None is = (h t v is).placed

-- ---- places are let go

some_none : {A : Type 0} (v : A) → None ≡ Some v → ⊥
some_none v e = absurd (cc)

module _ (o : Origin) (st : core.State) (i at count : ℕ) where
  abbrev unpinned : core.State
  unpinned = core.after o.opening st (by i (deed.Unpin (unpin.Place at count)))

  owner_outside : (t : ℕ) → ((at ≤ t) × (t < at + count) → ⊥)
      → (books_of unpinned.machine).owner t ≡ (books_of st.machine).owner t
  owner_outside t outside = by_within at count t
      (λ b. (if b then Spent else (books_of st.machine).owner t)
      ≡ (books_of st.machine).owner t)
      (λ inside. absurd (outside inside)) (λ _. refl)

  own_unpinned : (place p : Placed) → place.ptr.offset ≡ at → place.count ≡ count → IsApart place p
      → IsOwn i p o st → IsOwn i p o unpinned
  own_unpinned place p at_is count_is apart h = record {
    some = h.some;
    own = λ t of. owner_outside t (λ inside. apart t (let low = inside.0 in let high = inside.1 in
        (omega (arith, low, at_is), omega (arith, high, at_is, count_is))) of) ∙ h.own t of;
    bucket = h.bucket;
    lies = h.lies;
    generation = h.generation;
  }

  written_unpinned : (known : ℕ → Option Value) → HasWritten i known o st
      → HasWritten i (not_in at count known) o unpinned
  written_unpinned known h t v = by_within at count t
      (λ b. (if b then None else known t) ≡ Some v → IsWrittenAt i t v unpinned)
      (λ inside none. absurd (some_none v none))
      (λ outside is. let was = h t v is in record {
        own = owner_outside t outside ∙ was.own;
        placed = ap (λ (x : Seat). x.placed t) (put_own st.machine.whole.flow.seats i _)
            ∙ was.placed;
      })

-- ---- what a seat knows

-- a fact of a seat and its state that goes on while others act
abbrev pub Lasts : (ℕ → Origin → core.State → Type 0) → Type 0
Lasts P = (x : World) (e : Event) (i : ℕ) → e.seat ≢ i → FromEach x (P i)
    → FromEach (after x e) (P i)

pub own_lasts : (p : Placed) → Lasts (λ i. IsOwn i p)
own_lasts p x e i = law_own x e i p

pub written_lasts : (known : ℕ → Option Value) → Lasts (λ i. HasWritten i known)
written_lasts known x e i = law_written x e i known

-- a place of the seat beside another one
abbrev OwnBeside : ℕ → Placed → Placed → Origin → core.State → Type 0
OwnBeside i other p o st = AreApart other p o st × IsOwn i p o st

beside_lasts : (other p : Placed) → Lasts (λ i. OwnBeside i other p)
beside_lasts other p x e i ne h o is course = (
  (h o (origin_before x e o is) course.2).0,
  law_own x e i p ne (λ o is course. (h o is course).1) o is course,
)

pub opening_lasts : (K : Origin → Type 0) → Lasts (λ i o st. K o)
opening_lasts K x e i ne h o is course = h o (origin_before x e o is) course.2

module _ {C B : Type 0} (cache_facts : C → DiskFacts) (backing_facts : B → DiskFacts) where
  pub since_by : (P : ℕ → Origin → core.State → Type 0) → Lasts P
      → (v : View cache_facts backing_facts) (x : World) → IsCoreSeat cache_facts backing_facts v
      → Since (m cache_facts backing_facts) v x
      → FromEach (world cache_facts backing_facts v) (P v.first) → FromEach x (P v.first)
  since_by P lasts v x seat since h = still (m cache_facts backing_facts) v x
      (λ y. FromEach y (P v.first)) (λ y e may foreign before.
      lasts y e v.first (foreign.0 v.first (omega arith) seat.seat.live) before) since h

  pub own_since : (v : View cache_facts backing_facts) (x : World)
      → IsCoreSeat cache_facts backing_facts v → Since (m cache_facts backing_facts) v x → (p : Placed)
      → FromEach (world cache_facts backing_facts v) (IsOwn v.first p) → FromEach x (IsOwn v.first p)
  own_since v x seat since p h = since_by (λ i. IsOwn i p) (own_lasts p) v x seat since h

  pub waited_by : (P : ℕ → Origin → core.State → Type 0) → Lasts P
      → (v w : View cache_facts backing_facts) → IsCoreSeat cache_facts backing_facts v
      → Waited (m cache_facts backing_facts) v w
      → FromEach (world cache_facts backing_facts v) (P v.first)
      → FromEach (world cache_facts backing_facts w) (P w.first)
  waited_by P lasts v w seat waited h =
      subst (λ i. FromEach (world cache_facts backing_facts w) (P i)) (sym waited.same.first)
      (since_by P lasts v (world cache_facts backing_facts w) seat waited.since h)

  -- a deed of the seat makes Q of what it knew
  pub made_by : (P Q : ℕ → Origin → core.State → Type 0) → Lasts P
      → (v w : View cache_facts backing_facts) (d : Deed) → IsCoreSeat cache_facts backing_facts v
      → Did cache_facts backing_facts (Some d) v w
      → ((o : Origin) (st : core.State) → core.IsEnabled o.opening st (by v.first d)
      → P v.first o st → Q v.first o (core.after o.opening st (by v.first d)))
      → FromEach (world cache_facts backing_facts v) (P v.first)
      → FromEach (world cache_facts backing_facts w) (Q w.first)
  made_by P Q lasts v w d seat did makes h =
      subst (λ i. FromEach (world cache_facts backing_facts w) (Q i)) (sym did.is.same.first)
      (known_changed cache_facts backing_facts v w d (P v.first) (Q v.first) did
      (λ o is course on before. makes o (replay o did.is.before.log) on before)
      (since_by P lasts v did.is.before seat did.is.since h))

  pub opening_waited : (v w : View cache_facts backing_facts) → IsCoreSeat cache_facts backing_facts v
      → Waited (m cache_facts backing_facts) v w → KeepsOpening cache_facts backing_facts v w
  opening_waited v w seat waited = record {
    apart = λ p q. waited_by (λ i. AreApart p q) (opening_lasts (λ o. IsApart p q)) v w seat waited;
    before = λ n. waited_by (λ i. HasBefore n)
        (opening_lasts (λ o. o.opening.machine.before ≡ n)) v w seat waited;
  }

  pub opening_deed : (v w : View cache_facts backing_facts) (d : Deed)
      → IsCoreSeat cache_facts backing_facts v → Did cache_facts backing_facts (Some d) v w
      → KeepsOpening cache_facts backing_facts v w
  opening_deed v w d seat did = record {
    apart = λ p q. made_by (λ i. AreApart p q) (λ i. AreApart p q)
        (opening_lasts (λ o. IsApart p q)) v w d seat did (λ o st on h. h);
    before = λ n. made_by (λ i. HasBefore n) (λ i. HasBefore n)
        (opening_lasts (λ o. o.opening.machine.before ≡ n)) v w d seat did (λ o st on h. h);
  }

  pub opening_both : (u v w : View cache_facts backing_facts)
      → KeepsOpening cache_facts backing_facts u v → KeepsOpening cache_facts backing_facts v w
      → KeepsOpening cache_facts backing_facts u w
  opening_both u v w a b = record {
    apart = λ p q h. b.apart p q (a.apart p q h);
    before = λ n h. b.before n (a.before n h);
  }

  pub keeps_waited : (v w : View cache_facts backing_facts) → IsCoreSeat cache_facts backing_facts v
      → Waited (m cache_facts backing_facts) v w → KeepsPlaces cache_facts backing_facts v w
  keeps_waited v w seat waited = record {
    opening = opening_waited v w seat waited;
    own = λ p. waited_by (λ i. IsOwn i p) (own_lasts p) v w seat waited;
    written = λ known. waited_by (λ i. HasWritten i known) (written_lasts known) v w seat waited;
  }

  pub keeps_both : (u v w : View cache_facts backing_facts) → KeepsPlaces cache_facts backing_facts u v
      → KeepsPlaces cache_facts backing_facts v w → KeepsPlaces cache_facts backing_facts u w
  keeps_both u v w a b = record {
    opening = opening_both u v w a.opening b.opening;
    own = λ p h. b.own p (a.own p h);
    written = λ known h. b.written known (a.written known h);
  }

  pub keeps_deed : (v w : View cache_facts backing_facts) (d : Deed)
      → IsCoreSeat cache_facts backing_facts v → leaves_places d ≡ true
      → Did cache_facts backing_facts (Some d) v w → KeepsPlaces cache_facts backing_facts v w
  keeps_deed v w d seat on did = record {
    opening = opening_deed v w d seat did;
    own = λ p. made_by (λ i. IsOwn i p) (λ i. IsOwn i p) (own_lasts p) v w d seat did
        (λ o st enabled h. own_same v.first p o st (core.after o.opening st (by v.first d))
        (event_same o.opening st (by v.first d) on) h);
    written = λ known. made_by (λ i. HasWritten i known) (λ i. HasWritten i known)
        (written_lasts known) v w d seat did (λ o st enabled h.
        written_same v.first known o st (core.after o.opening st (by v.first d))
        (event_same o.opening st (by v.first d) on) h);
  }

  pub keeps_pin : (v w : View cache_facts backing_facts) (at count : ℕ) (full : Bool)
      → IsCoreSeat cache_facts backing_facts v
      → Did cache_facts backing_facts (Some (deed.Pin at count full)) v w
      → KeepsPlaces cache_facts backing_facts v w
  keeps_pin v w at count full seat did = record {
    opening = opening_deed v w (deed.Pin at count full) seat did;
    own = λ p. made_by (λ i. IsOwn i p) (λ i. IsOwn i p) (own_lasts p) v w (deed.Pin at count full)
        seat did (λ o st enabled. own_pinned o st v.first at count full p);
    written = λ known. made_by (λ i. HasWritten i known) (λ i. HasWritten i known)
        (written_lasts known) v w (deed.Pin at count full) seat did
        (λ o st enabled. written_pinned o st v.first at count full enabled known);
  }

  pub is_new : (v w : View cache_facts backing_facts) (place : Placed) (full : Bool)
      → IsCoreSeat cache_facts backing_facts v
      → Did cache_facts backing_facts (Some (deed.Pin place.ptr.offset place.count full)) v w
      → IsNew cache_facts backing_facts place v w
  is_new v w place full seat did p = made_by (λ i. IsOwn i p) (λ i. AreApart place p) (own_lasts p) v w
      (deed.Pin place.ptr.offset place.count full) seat did
      (λ o st enabled. apart_pinned o st v.first place full p enabled)

  pub has_stored : (v w : View cache_facts backing_facts) (at : ℕ) (values : List Value)
      → IsCoreSeat cache_facts backing_facts v
      → Did cache_facts backing_facts (Some (deed.CacheWrite at written.Data values)) v w
      → HasStored cache_facts backing_facts at values v w
  has_stored v w at values seat did = record {
    did = did;
    opening = opening_deed v w (deed.CacheWrite at written.Data values) seat did;
    own = λ p. made_by (λ i. IsOwn i p) (λ i. IsOwn i p) (own_lasts p) v w
        (deed.CacheWrite at written.Data values) seat did
        (λ o st enabled. own_stored o st v.first at values p);
    written = λ known. made_by (λ i. HasWritten i known)
        (λ i. HasWritten i (with_written at values known)) (written_lasts known) v w
        (deed.CacheWrite at written.Data values) seat did
        (λ o st enabled. written_stored o st v.first at values enabled known);
  }

  pub has_unpinned : (v w : View cache_facts backing_facts) (place : Placed)
      → IsCoreSeat cache_facts backing_facts v
      → Did cache_facts backing_facts
      (Some (deed.Unpin (unpin.Place place.ptr.offset place.count))) v w
      → HasUnpinned cache_facts backing_facts place v w
  has_unpinned v w place seat did = record {
    did = did;
    opening = opening_deed v w (deed.Unpin (unpin.Place place.ptr.offset place.count)) seat did;
    own = λ p apart own. made_by (λ i. OwnBeside i place p) (λ i. IsOwn i p) (beside_lasts place p) v w
        (deed.Unpin (unpin.Place place.ptr.offset place.count)) seat did
        (λ o st enabled h. own_unpinned o st v.first place.ptr.offset place.count place p refl refl
        h.0 h.1) (λ o is course. (apart o is course, own o is course));
    written = λ known. made_by (λ i. HasWritten i known)
        (λ i. HasWritten i (not_in place.ptr.offset place.count known)) (written_lasts known) v w
        (deed.Unpin (unpin.Place place.ptr.offset place.count)) seat did
        (λ o st enabled. written_unpinned o st v.first place.ptr.offset place.count known);
  }
