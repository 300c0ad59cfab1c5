-- The deed that makes buckets ready, as a seat does it.
use Rattle.std.proofs.Common.{◌≡◌, ℕ, false, List, Some, refl, sym, subst}
use Rattle.std.specs.Prelude.{take, Vec}
use Rattle.std.specs.declared.alloc.Global.{Global}
use Rattle.std.proofs.lemmas.Bool.{lt-ltb}
use Rattle.bc_alloc.specs.Reserve.{Reserve}
use Rattle.bc_alloc.specs.Reserves.{returned_all}
use Rattle.bc_disk.specs.Disk.{DiskFacts}
use Rattle.bc_events.specs.Run as core
use Rattle.bc_events.specs.declared.event.Deed.TheVariants as deed
use Rattle.bc_events.specs.declared.event.Event.{Event}
use Rattle.bc_events.specs.declared.event.Listing.{Listing}
use Rattle.bc_parts.specs.Seat.{Holds}
use Rattle.bc_raise.proofs.of_bc_hand.Knowing.{View, m}
use Rattle.bc_raise.proofs.of_bc_place.Knowing.{before_since, buckets_since, few, known_committed, may_from}
use Rattle.bc_raise.specs.bc_hand.Seats.{Did, IsCoreSeat, MayDo, world}
use Rattle.bc_raise.specs.bc_machine.Containers.{AreBucketsOf}
use Rattle.bc_raise.specs.bc_machine.Standing.{origin_before}
use Rattle.bc_raise.specs.bc_machine.World.{AreBuckets, FromEach, IsCourseOf, IsOrigin, Origin, World, are_plain, replay}
use Rattle.bc_raise.specs.bc_machine.declared.part.BucketsPart.{BucketsPart}
use Rattle.bc_raise.specs.bc_place.Place.{HasBefore}
use Rattle.bc_seats.specs.Seats.{Since}
use Rattle.bc_seats.proofs.Knowing.{still}
use Rattle.bc_shares.proofs.Law.{law_buckets, law_journal}
use Rattle.bc_shares.specs.Shares.{BucketsShare, JournalShare, books_of, buckets_in, journal_share}
use Rattle.bc_shares.specs.Touched.{touches_buckets, touches_journal}
use Rattle.bc_raise.proofs.of_bc_renew.Law.{law_go, law_ready}
use Rattle.bc_raise.specs.bc_renew.Goes.{given_back, listings}
use Rattle.bc_raise.specs.bc_renew.Laws.{HasBuckets}
use Rattle.bc_raise.specs.bc_renew.Ready.{CanGo, HasMadeReady, IsNext, MayReady}

-- of the chain as it was read
pub back_of : (before : ℕ) (ls : List Reserve) (back ks js : List ℕ) → ks ≡ js
    → back ≡ given_back before ks ls → back ≡ given_back before js ls
back_of before ls back ks js same is = subst (λ xs. back ≡ given_back before xs ls) same is

pub listed_of : (before : ℕ) (named : List ℕ) (ls : List Reserve) (listed : List Listing)
    (ks js : List ℕ) → ks ≡ js → listed ≡ listings before named (returned_all ks ls)
    → listed ≡ listings before named (returned_all js ls)
listed_of before named ls listed ks js same is =
    subst (λ xs. listed ≡ listings before named (returned_all xs ls)) same is

-- an event that touches neither the buckets nor the journal
may_stays : (i : ℕ) (raised new : List ℕ) (o : Origin) (st : core.State) (e : Event)
    → core.IsEnabled o.opening st e → touches_buckets e.deed ≡ false
    → touches_journal e.deed ≡ false → MayReady i raised new o st
    → MayReady i raised new o (core.after o.opening st e)
may_stays i raised new o st e on buckets journal h =
    subst (λ (x : BucketsShare). IsNext i raised new o.opening.machine x
    (journal_share (core.after o.opening st e).machine).counts)
    (sym (law_buckets o.opening st e on buckets).share)
    (subst (λ (x : JournalShare). IsNext i raised new o.opening.machine
    (buckets_in (books_of st.machine)) x.counts) (sym (law_journal o.opening st e on journal)) h)

module _ {C B : Type 0} (cache_facts : C → DiskFacts) (backing_facts : B → DiskFacts) where
  may_since : (v : View cache_facts backing_facts) (x : World) (i : ℕ) (raised new : List ℕ)
      → Holds v.parts 2 → Holds v.parts 3 → Since (m cache_facts backing_facts) v x
      → FromEach (world cache_facts backing_facts v) (MayReady i raised new)
      → FromEach x (MayReady i raised new)
  may_since v x i raised new buckets journal since h = still (m cache_facts backing_facts) v x
      (λ y. FromEach y (MayReady i raised new))
      (λ y e may foreign known o is course.
      let before = origin_before y e o is in
      may_stays i raised new o (replay o y.log) e course.0.enabled (foreign.1 2 buckets)
      (foreign.1 3 journal) (known o before course.2)) since h

  module _ (v : View cache_facts backing_facts) (seat : IsCoreSeat cache_facts backing_facts v)
      (cached : are_plain cache_facts backing_facts v.run.start ≡ false) (holds : Holds v.parts 2)
      (journal : Holds v.parts 3) (p : BucketsPart)
      (on : AreBuckets p (world cache_facts backing_facts v)) (before named : ℕ)
      (first : FromEach (world cache_facts backing_facts v) (HasBefore before))
      (new : Vec ℕ Global) (may : FromEach (world cache_facts backing_facts v)
      (MayReady v.first (take named p.reserves.raised) new.items)) (back : Vec ℕ Global)
      (back_is : back.items ≡ given_back before p.chain.items p.reserves.lists)
      (listed : Vec Listing Global)
      (listed_is : listed.items ≡ listings before (take named p.reserves.raised)
      (returned_all p.chain.items p.reserves.lists)) where
    before_at : (x : World) → Since (m cache_facts backing_facts) v x → (o : Origin) → IsOrigin x o
        → IsCourseOf o x.log → before ≡ o.opening.machine.before
    before_at x since o is course =
        sym (before_since cache_facts backing_facts v before first x since o is course)

    back_at : (x : World) → Since (m cache_facts backing_facts) v x → (o : Origin) → IsOrigin x o
        → IsCourseOf o x.log
        → back.items ≡ given_back o.opening.machine.before p.chain.items p.reserves.lists
    back_at x since o is course =
        subst (λ b. back.items ≡ given_back b p.chain.items p.reserves.lists)
        (before_at x since o is course) back_is

    listed_at : (x : World) → Since (m cache_facts backing_facts) v x → (o : Origin) → IsOrigin x o
        → IsCourseOf o x.log
        → listed.items ≡ listings o.opening.machine.before (take named p.reserves.raised)
        (returned_all p.chain.items p.reserves.lists)
    listed_at x since o is course =
        subst (λ b. listed.items ≡ listings b (take named p.reserves.raised)
        (returned_all p.chain.items p.reserves.lists)) (before_at x since o is course) listed_is

    buckets_at : (x : World) → Since (m cache_facts backing_facts) v x → (o : Origin)
        → IsOrigin x o → IsCourseOf o x.log → HasBuckets x o p
    buckets_at x since o is course = record {
      origin = is;
      course = course;
      stand = buckets_since cache_facts backing_facts v seat holds p on x since o is course;
    }

    may_at : (x : World) → Since (m cache_facts backing_facts) v x → (o : Origin) → IsOrigin x o
        → IsCourseOf o x.log
        → MayReady v.first (take named p.reserves.raised) new.items o (replay o x.log)
    may_at x since o is course = may_since v x v.first (take named p.reserves.raised) new.items
        holds journal since may o is course

    pub may_do : MayDo cache_facts backing_facts v (deed.Ready back listed)
    may_do = may_from cache_facts backing_facts v cached (deed.Ready back listed) refl
        (λ o x since is course running. (
          (law_ready x o p v.first named new back listed (buckets_at x since o is course)
              (may_at x since o is course) (back_at x since o is course)
              (listed_at x since o is course)).may
              (lt-ltb v.first 320 (few cache_facts backing_facts v seat)) running,
          tt,
          tt,
        ))

    module _ (w : View cache_facts backing_facts)
        (did : Did cache_facts backing_facts (Some (deed.Ready back listed)) v w) (r : BucketsPart)
        (goes : CanGo p new.items → HasMadeReady p named new r) where
      -- each opening says that the chains may go, and so they went
      went : (o : Origin) → IsOrigin did.is.before o → IsCourseOf o did.is.before.log
          → HasMadeReady p named new r
      went o is course = goes (law_go did.is.before o p v.first named new
          (buckets_at did.is.before did.is.since o is course)
          (may_at did.is.before did.is.since o is course))

      pub made_ready : AreBuckets r (world cache_facts backing_facts w)
      made_ready = known_committed cache_facts backing_facts v w (deed.Ready back listed)
          (λ o st. AreBucketsOf o.opening.machine (books_of st.machine) r) did (λ o is course.
          (law_ready did.is.before o p v.first named new back listed
          (buckets_at did.is.before did.is.since o is course)
          (may_at did.is.before did.is.since o is course)
          (back_at did.is.before did.is.since o is course)
          (listed_at did.is.before did.is.since o is course)).stands r (went o is course))

      pub made_there : FromEach (world cache_facts backing_facts w)
          (λ o st. HasMadeReady p named new r)
      made_there = known_committed cache_facts backing_facts v w (deed.Ready back listed)
          (λ o st. HasMadeReady p named new r) did went
