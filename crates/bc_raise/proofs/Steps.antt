-- The deed that raises a bucket, as a seat does it.
use Rattle.std.proofs.Common.{◌≡◌, ◌≢◌, ℕ, suc, ◌-◌, ◌%◌, ◌==◌, Bool, true, false, [], ◌∷◌, Option, Some, refl, sym, ap, ◌∙◌, subst, arith}
use Rattle.std.specs.Prelude.{if◌then◌else◌}
use Rattle.std.proofs.lemmas.Bool.{lt-ltb}
use Rattle.bc_alloc.proofs.Times.{by_test}
use Rattle.bc_alloc.specs.Victims.{IsCandidate}
use Rattle.bc_books.specs.Enabled.{CanRaise}
use Rattle.bc_books.specs.Shelves.{Fresh, Own, IsPinned}
use Rattle.bc_data.specs.Seats.{Seat}
use Rattle.bc_disk.specs.Disk.{DiskFacts}
use Rattle.bc_events.specs.Run as core
use Rattle.bc_events.specs.declared.event.Deed.TheVariants as deed
use Rattle.bc_leaves.proofs.Chains.{put_else, put_there}
use Rattle.bc_model.specs.Sector.{Value}
use Rattle.bc_fill.specs.declared.fill.Placed.{Placed}
use Rattle.bc_parts.specs.Seat.{Holds}
use Rattle.bc_held.proofs.of_bc_place.Keeping.{made_by, opening_deed, own_lasts, written_lasts}
use Rattle.bc_held.proofs.of_bc_place.Knowing.{before_since, buckets_since, few, known_committed, may_from}
use Rattle.bc_held.proofs.of_bc_hand.Knowing.{View, m}
use Rattle.bc_held.specs.bc_place.Place.{HasBefore, IsOwn}
use Rattle.bc_held.specs.bc_place.Written.{HasWritten, KeepsPlaces}
use Rattle.bc_held.specs.bc_hand.Seats.{Did, IsCoreSeat, MayDo, by, world}
use Rattle.bc_held.specs.bc_machine.Containers.{AreBucketsOf}
use Rattle.bc_held.specs.bc_machine.World.{AreBuckets, FromEach, IsCourseOf, IsOrigin, Origin, World, are_plain, replay}
use Rattle.bc_held.specs.bc_machine.declared.part.BucketsPart.{BucketsPart}
use Rattle.bc_seats.specs.Seats.{Since}
use Rattle.bc_shares.specs.Shares.{books_of}
use Rattle.bc_renew.proofs.Law.{law_raise}
use Rattle.bc_renew.specs.Laws.{HasBuckets}
use Rattle.bc_renew.specs.Raised.{HasRaised}

-- it changes the buckets alone
pub buckets_changed : (k : ℕ) → (if k == 0 then false else (if k == 1 then false
    else (if k == 2 then true else (if k == 3 then false else (if k == 4 then false
    else (if k == 5 then false else false)))))) ≡ (k == 2)
buckets_changed k = only 0 (λ is. cc) (only 1 (λ is. cc) (same (k == 2)))
  where
    off : (b : Bool) → (if b then false else false) ≡ false
    off true = refl
    off false = refl

    none : (a b c : Bool) → (if a then false else (if b then false else (if c then false else
        false)))
        ≡ false
    none true b c = refl
    none false true c = refl
    none false false c = off c

    same : (b : Bool) → (if b then true else (if k == 3 then false else (if k == 4 then false
        else (if k == 5 then false else false)))) ≡ b
    same true = refl
    same false = none (k == 3) (k == 4) (k == 5)

    only : (n : ℕ) {rest : Bool} → n ≢ 2 → rest ≡ (k == 2)
        → (if k == n then false else rest) ≡ (k == 2)
    only n {rest} ne is = by_test k n (λ b. (if b then false else rest) ≡ (k == 2))
        (λ at. sym (by_test k 2 (λ b. b ≡ false) (λ two. absurd (ne (sym at ∙ two)))
        (λ no. refl))) (λ no. is)

-- ---- places that are pinned stay so

module _ (o : Origin) (st : core.State) (i q : ℕ)
    (on : core.IsEnabled o.opening st (by i (deed.Raise q))) where
  can : CanRaise o.opening.machine.flow.books (books_of st.machine) q
  can = on.course.0.data_allows.0.steps.0

  abbrev raised : core.State
  raised = core.after o.opening st (by i (deed.Raise q))

  -- no place of the seat is in the bucket
  elsewhere : (t : ℕ) → (books_of st.machine).owner t ≡ Own i
      → o.opening.machine.flow.books.bucket t ≢ q
  elsewhere t own is = can.0.unpinned t is (subst IsPinned (sym own) tt)

  still_own : (t : ℕ) → (books_of st.machine).owner t ≡ Own i
      → (books_of raised.machine).owner t ≡ Own i
  still_own t own = by_test (o.opening.machine.flow.books.bucket t) q
      (λ b. (if b then Fresh else (books_of st.machine).owner t) ≡ Own i)
      (λ is. absurd (elsewhere t own is)) (λ _. own)

  own_raised : (p : Placed) → IsOwn i p o st → IsOwn i p o raised
  own_raised p h = record {
    some = h.some;
    own = λ t of. still_own t (h.own t of);
    bucket = h.bucket;
    lies = h.lies;
    generation =
        let some = h.some in
        let own = h.own p.ptr.offset (omega arith, omega (arith, some)) in
        h.generation ∙ ap (λ n. n % 256) (sym (put_else (books_of st.machine).generations.version q
        (suc ((books_of st.machine).generations.version q))
        (o.opening.machine.flow.books.bucket p.ptr.offset) (elsewhere p.ptr.offset own)));
  }

  written_raised : (known : ℕ → Option Value) → HasWritten i known o st
      → HasWritten i known o raised
  written_raised known h t v is = let was = h t v is in record {
    own = still_own t was.own;
    placed = ap (λ (x : Seat). x.placed t) (put_there st.machine.whole.flow.seats i
        (st.machine.whole.flow.seats i)) ∙ was.placed;
  }

module _ {C B : Type 0} (cache_facts : C → DiskFacts) (backing_facts : B → DiskFacts) where
  -- ---- a bucket is raised

  module _ (v : View cache_facts backing_facts) (seat : IsCoreSeat cache_facts backing_facts v)
      (cached : are_plain cache_facts backing_facts v.run.start ≡ false) (holds : Holds v.parts 2)
      (p : BucketsPart) (on : AreBuckets p (world cache_facts backing_facts v)) (before : ℕ)
      (first : FromEach (world cache_facts backing_facts v) (HasBefore before))
      (n number : ℕ)
      (may : IsCandidate p.reserves p.buckets n) (number_is : number ≡ n - before) where
    before_at : (x : World) → Since (m cache_facts backing_facts) v x → (o : Origin) → IsOrigin x o
        → IsCourseOf o x.log → o.opening.machine.before ≡ before
    before_at x since o is course =
        before_since cache_facts backing_facts v before first x since o is course

    number_at : (x : World) → Since (m cache_facts backing_facts) v x → (o : Origin) → IsOrigin x o
        → IsCourseOf o x.log → n - o.opening.machine.before ≡ number
    number_at x since o is course =
        ap (λ b. n - b) (before_at x since o is course) ∙ sym number_is

    buckets_at : (x : World) → Since (m cache_facts backing_facts) v x → (o : Origin)
        → IsOrigin x o → IsCourseOf o x.log → HasBuckets x o p
    buckets_at x since o is course = record {
      origin = is;
      course = course;
      stand = buckets_since cache_facts backing_facts v seat holds p on x since o is course;
    }

    pub may_do : MayDo cache_facts backing_facts v (deed.Raise number)
    may_do = may_from cache_facts backing_facts v cached (deed.Raise number) refl
        (λ o x since is course running. (
          subst (λ q. core.IsEnabled o.opening (replay o x.log) (by v.first (deed.Raise q)))
              (number_at x since o is course)
              ((law_raise x o p v.first n (buckets_at x since o is course)
              may).may
              (lt-ltb v.first 320 (few cache_facts backing_facts v seat)) running),
          tt,
          tt,
        ))

    pub raised_after : (w : View cache_facts backing_facts)
        → Did cache_facts backing_facts (Some (deed.Raise number)) v w → (r : BucketsPart)
        → HasRaised p (n ∷ []) r → AreBuckets r (world cache_facts backing_facts w)
    raised_after w did r f = known_committed cache_facts backing_facts v w (deed.Raise number)
        (λ o st. AreBucketsOf o.opening.machine (books_of st.machine) r) did (λ o is course.
        subst (λ q. AreBucketsOf o.opening.machine (books_of (core.after o.opening
        (replay o did.is.before.log) (by v.first (deed.Raise q))).machine) r)
        (number_at did.is.before did.is.since o is course)
        ((law_raise did.is.before o p v.first n (buckets_at did.is.before did.is.since o is course)
        may).stands r f))

  -- by the number that the deed has
  pub did_raise : (v w : View cache_facts backing_facts) (n before number : ℕ)
      → number ≡ n - before → Did cache_facts backing_facts (Some (deed.Raise number)) v w
      → Did cache_facts backing_facts (Some (deed.Raise (n - before))) v w
  did_raise v w n before number is did =
      subst (λ q. Did cache_facts backing_facts (Some (deed.Raise q)) v w) is did

  pub keeps_raise : (v w : View cache_facts backing_facts) (q : ℕ)
      → IsCoreSeat cache_facts backing_facts v
      → Did cache_facts backing_facts (Some (deed.Raise q)) v w
      → KeepsPlaces cache_facts backing_facts v w
  keeps_raise v w q seat did = record {
    opening = opening_deed cache_facts backing_facts v w (deed.Raise q) seat did;
    own = λ p. made_by cache_facts backing_facts (λ i. IsOwn i p) (λ i. IsOwn i p) (own_lasts p) v w
        (deed.Raise q) seat did (λ o st on. own_raised o st v.first q on p);
    written = λ known. made_by cache_facts backing_facts (λ i. HasWritten i known)
        (λ i. HasWritten i known) (written_lasts known) v w (deed.Raise q) seat did
        (λ o st on. written_raised o st v.first q on known);
  }
