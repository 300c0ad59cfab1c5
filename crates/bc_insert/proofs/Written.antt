-- What stands behind the keys of a write that came into a leaf in hand, and what the seat knows then.
use Rattle.std.proofs.Common.{◌≡◌, ◌≢◌, ℕ, ◌+◌, ◌<◌, ◌≤◌, true, false, List, [], ◌∷◌, length, Option, Some, None, refl, sym, ap, ◌∙◌, subst, arith}
use Rattle.std.specs.Prelude.{if◌then◌else◌, reverse}
use Rattle.bc_model.specs.Sector.{Value, at_run}
use Rattle.bc_books.proofs.Cases.{by_within, put_run_cases}
use Rattle.bc_books.specs.Index.{names, within}
use Rattle.bc_books.specs.Shelves.{Own, Owner, Spent, put_run}
use Rattle.bc_cache.specs.Slots.{IsSlotOf}
use Rattle.bc_cache.specs.declared.slots.Cached.{Cached}
use Rattle.bc_data.specs.Data as flow
use Rattle.bc_data.specs.Seats.{Seat, put_seat}
use Rattle.bc_disk.specs.Disk.{DiskFacts}
use Rattle.bc_events.specs.Keys.{book_keys}
use Rattle.bc_events.specs.Run as core
use Rattle.bc_events.specs.declared.event.Deed.{Deed}
use Rattle.bc_events.specs.declared.event.Deed.TheVariants as deed
use Rattle.bc_events.specs.declared.event.LineNumber.{LineNumber}
use Rattle.bc_fill.specs.Fresh.{IsOf}
use Rattle.bc_fill.specs.declared.fill.Placed.{Placed}
use Rattle.bc_place.specs.bc_hand.Seats.{Did, Works, by, world}
use Rattle.bc_place.specs.bc_hand.declared.hand.Hand.{Hand}
use Rattle.bc_place.proofs.of_bc_hand.Knowing.{View, m}
use Rattle.bc_key.specs.declared.key.Key.{Key}
use Rattle.bc_known.specs.Acts as known
use Rattle.bc_place.specs.bc_machine.Containers.{AreBucketsOf}
use Rattle.bc_place.specs.bc_machine.Frame.{by_test}
use Rattle.bc_place.specs.bc_machine.Standing.{origin_before}
use Rattle.bc_place.specs.bc_machine.World.{AreBuckets, FromEach, Origin, changes, replay}
use Rattle.bc_place.specs.bc_machine.declared.part.BucketsPart.{BucketsPart}
use Rattle.bc_place.specs.bc_machine.declared.part.CorePart.{CorePart}
use Rattle.bc_parts.specs.Seat.{PartsView}
use Rattle.bc_place.specs.Named.{AreKeysFor, IsApartFrom, sectors_of}
use Rattle.bc_place.specs.Next.{HasNamed}
use Rattle.bc_place.specs.Place.{IsOwn}
use Rattle.bc_place.specs.Written.{HasWritten}
use Rattle.bc_place.proofs.Inserting.{keys_are}
use Rattle.bc_place.proofs.Keeping.{Lasts, made_by, opening_deed, own_lasts, since_by, written_lasts}
use Rattle.bc_place.proofs.Marking.{law_named, named_owner, owner_is}
use Rattle.bc_seats.specs.Seats.{Kept}
use Rattle.bc_shares.specs.Shares.{books_of}
use Rattle.bc_insert.specs.Insert.{CanPutIn, HasPutIn}
use Rattle.bc_insert.specs.Write.{AreReady, HasInserted, HasPutWrite, not_in_any}
use Rattle.bc_insert.proofs.Behind.{behind, buckets_before, works_behind}
use Rattle.bc_insert.proofs.Writing.{own_in, ready_lasts, write_into}

-- the write as the data have it
abbrev pub act_of : ℕ → List Key → LineNumber → ℕ → List Value → Origin → known.State → flow.Act
act_of number keys of first values o st = flow.InsertWrite of.line number
    (book_keys o.opening.machine.flow.books.bucket st.whole.flow.books.generations.version
    (reverse keys)) first values

-- ---- places that the keys don't name

in_range : (at n t : ℕ) → within at n t ≡ true → (at ≤ t) × (t < at + n)
in_range at n t = by_within at n t (λ b. b ≡ true → (at ≤ t) × (t < at + n)) (λ r _. r)
    (λ _ e. absurd (cc))

named_still : (i : ℕ) (q : Placed) (ps : List Placed) (owner : ℕ → Owner) → IsApartFrom q ps
    → (t : ℕ) → IsOf q t → owner t ≡ Own i → named_owner owner ps t ≡ Own i
named_still i q [] owner apart t of own = own
named_still i q (p ∷ ps) owner apart t of own =
    named_still i q ps (put_run owner p.ptr.offset p.count Spent) apart.1 t of
    (put_run_cases owner p.ptr.offset p.count t Spent (λ x. x ≡ Own i) (λ out. own)
    (λ is. absurd (apart.0 t of (in_range p.ptr.offset p.count t is))))

no_value : (v : Value) → None ≡ Some v → ⊥
no_value v e = absurd (cc)

-- a sector of none of them
outside : (i : ℕ) (ps : List Placed) (wrote : ℕ → Option Value) (t : ℕ) (v : Value)
    → not_in_any ps wrote t ≡ Some v → (wrote t ≡ Some v)
    × ((owner : ℕ → Owner) → owner t ≡ Own i → named_owner owner ps t ≡ Own i)
outside i [] wrote t v = λ is. (is, λ owner own. own)
outside i (p ∷ ps) wrote t v = by_within p.ptr.offset p.count t
    (λ b. (if b then None else not_in_any ps wrote t) ≡ Some v → (wrote t ≡ Some v)
    × ((owner : ℕ → Owner) → owner t ≡ Own i → named_owner owner (p ∷ ps) t ≡ Own i))
    (λ inside is. absurd (no_value v is))
    (λ out is. let rest = outside i ps wrote t v is in (
      rest.0,
      λ owner own. rest.1 (put_run owner p.ptr.offset p.count Spent)
          (put_run_cases owner p.ptr.offset p.count t Spent (λ x. x ≡ Own i) (λ _. own)
          (λ in_. absurd (out (in_range p.ptr.offset p.count t in_)))),
    ))

put_own : (seats : ℕ → Seat) (i : ℕ) (x : Seat) → put_seat seats i x i ≡ x
put_own seats i x =
    by_test i i (λ b. (if b then x else seats i) ≡ x) (λ is. refl) (λ ne. absurd (ne refl))

-- places of some sectors have a key
pub some_keys : (first : ℕ) (ps : List Placed) (keys : List Key) → AreKeysFor first ps keys
    → 1 ≤ sectors_of ps → keys ≢ []
some_keys first [] keys are some = absurd (omega (arith, some))
some_keys first (p ∷ ps) [] are some = absurd are
some_keys first (p ∷ ps) (key ∷ keys) are some = λ none. cc

-- ---- what the event makes of them

module _ (number : ℕ) (keys : List Key) (of : LineNumber) (first : ℕ) (values : List Value)
    (ps : List Placed) (are : AreKeysFor first ps keys) where
  abbrev d : Deed
  d = deed.InsertWrite number keys of first values

  module _ (i : ℕ) (o : Origin) (st : core.State) (ready : AreReady i first values ps o st) where
    abbrev then_ : core.State
    then_ = core.after o.opening st (by i d)

    owner_then : (t : ℕ) → (books_of then_.machine).owner t
        ≡ named_owner (books_of st.machine).owner ps t
    owner_then t = ap (λ ks. if names ks t then Spent else (books_of st.machine).owner t)
        (keys_are o st i (at_run first values) first ps keys are ready.filled)
        ∙ owner_is o.opening.machine.flow.books.bucket (books_of st.machine).generations.version ps
        first (books_of st.machine).owner t

    own_then : (q : Placed) → IsApartFrom q ps → IsOwn i q o st → IsOwn i q o then_
    own_then q apart h = record {
      some = h.some;
      own = λ t at. owner_then t
          ∙ named_still i q ps (books_of st.machine).owner apart t at (h.own t at);
      bucket = h.bucket;
      lies = h.lies;
      generation = h.generation;
    }

    written_then : (wrote : ℕ → Option Value) → HasWritten i wrote o st
        → HasWritten i (not_in_any ps wrote) o then_
    written_then wrote h t v is =
        let both = outside i ps wrote t v is in
        let was = h t v both.0 in
        record {
          own = owner_then t ∙ both.1 (books_of st.machine).owner was.own;
          placed = ap (λ (x : Seat). x.placed t) (put_own st.machine.whole.flow.seats i _)
              ∙ was.placed;
        }

  -- ---- for the seat

  abbrev Beside : Placed → ℕ → Origin → core.State → Type 0
  Beside q i o st = AreReady i first values ps o st × IsApartFrom q ps × IsOwn i q o st

  beside_lasts : (q : Placed) → Lasts (Beside q)
  beside_lasts q x e i ne h o is course = (
    ready_lasts first values ps x e i ne (λ o is course. (h o is course).0) o is course,
    (h o (origin_before x e o is) course.2).1,
    own_lasts q x e i ne (λ o is course. (h o is course).2) o is course,
  )

  abbrev Wrote : (ℕ → Option Value) → ℕ → Origin → core.State → Type 0
  Wrote wrote i o st = AreReady i first values ps o st × HasWritten i wrote o st

  wrote_lasts : (wrote : ℕ → Option Value) → Lasts (Wrote wrote)
  wrote_lasts wrote x e i ne h o is course = (
    ready_lasts first values ps x e i ne (λ o is course. (h o is course).0) o is course,
    written_lasts wrote x e i ne (λ o is course. (h o is course).1) o is course,
  )

  module _ {C B : Type 0} (cache_facts : C → DiskFacts) (backing_facts : B → DiskFacts)
      (p : PartsView (CorePart C B)) (v : View cache_facts backing_facts) (h : Hand C B)
      (works : Works cache_facts backing_facts p v h) (slot : ℕ) (cached : Cached)
      (can : CanPutIn h (length p.run.start) slot number cached keys)
      (only : IsSlotOf can.leaves.cache.slots number slot)
      (ready : FromEach (world cache_facts backing_facts v) (AreReady v.first first values ps))
      (w : View cache_facts backing_facts)
      (did : Did cache_facts backing_facts (Some d) v w) where
    pub has_inserted : HasInserted cache_facts backing_facts number keys ps of first values v w
    has_inserted = record {
      did = did;
      opening = opening_deed cache_facts backing_facts v w d works.seat did;
      own = λ q beside own. made_by cache_facts backing_facts (Beside q) (λ i. IsOwn i q)
          (beside_lasts q) v w d works.seat did
          (λ o st enabled h. own_then v.first o st h.0 q h.1 h.2)
          (λ o is course. (ready o is course, beside o is course, own o is course));
      written = λ wrote known. made_by cache_facts backing_facts (Wrote wrote)
          (λ i. HasWritten i (not_in_any ps wrote)) (wrote_lasts wrote) v w d works.seat did
          (λ o st enabled h. written_then v.first o st h.0 wrote h.1)
          (λ o is course. (ready o is course, known o is course));
    }

    buckets_behind : (next : BucketsPart) → HasNamed can.buckets ps next
        → AreBuckets next (world cache_facts backing_facts w)
    buckets_behind next named = behind cache_facts backing_facts p v h works number slot cached keys
        can only d (write_into number keys of first values) (act_of number keys of first values)
        (λ o st. refl) w did
        (λ o st. AreBucketsOf o.opening.machine (books_of st.machine) next)
        (λ o origin course.
        (let its = since_by cache_facts backing_facts (λ i. AreReady i first values ps)
        (ready_lasts first values ps) v did.is.before works.seat did.is.since ready o origin course
        in
        law_named o.opening.machine (books_of (replay o did.is.before.log).machine) can.buckets next
        v.first first number ps keys are
        (own_in v.first first (at_run first values) ps o (replay o did.is.before.log) its.filled
        its.apart)
        (buckets_before cache_facts backing_facts p v h works number slot cached keys can only d
        (write_into number keys of first values) (act_of number keys of first values)
        (λ o st. refl) w did o origin course) named))

    pub write_works : keys ≢ [] → (new : Hand C B) → HasPutWrite h new slot cached keys ps
        → Kept (m cache_facts backing_facts) v w (changes (length v.run.start) (by v.first d))
        → Works cache_facts backing_facts p w new
    write_works some new put kept = works_behind cache_facts backing_facts p v h works number slot cached
        keys can only d (write_into number keys of first values)
        (act_of number keys of first values) (λ o st. refl) w did refl some put.between new put.put
        put.next
        put.is (buckets_behind put.next
        (subst (λ (b : BucketsPart). HasNamed b ps put.next) same_part put.named)) kept
      where
        one : (o : Option BucketsPart) (a b : BucketsPart) → o ≡ Some a → o ≡ Some b → a ≡ b
        one o a b x y = cc

        same_part : put.part ≡ can.buckets
        same_part = one h.buckets put.part can.buckets put.was can.are_buckets
