-- The deeds that take a bucket for data and pin a place, as a seat does them.
use Rattle.std.proofs.Common.{◌≡◌, ℕ, ◌-◌, ◌<◌, ◌≤◌, Bool, false, List, [], length, Some, refl, sym, ap, ◌∙◌, subst}
use Rattle.std.specs.Prelude.{slice_index}
use Rattle.bc_alloc.specs.Reserves.{list_of}
use Rattle.bc_alloc.specs.declared.purpose.Purpose.TheVariants as list
use Rattle.bc_disk.specs.Disk.{DiskFacts}
use Rattle.bc_events.specs.Run as core
use Rattle.bc_deed.specs.bc_machine.Containers.{AreBucketsOf}
use Rattle.bc_shares.specs.Shares.{books_of}
use Rattle.bc_events.specs.declared.event.Deed.TheVariants as deed
use Rattle.bc_events.specs.declared.event.UnpinKind.TheVariants as unpin
use Rattle.bc_fill.specs.declared.fill.Placed.{Placed}
use Rattle.bc_deed.specs.bc_hand.Seats.{Did, IsCoreSeat, MayDo, by, world}
use Rattle.bc_deed.proofs.of_bc_hand.Knowing.{View}
use Rattle.bc_deed.specs.bc_machine.World.{AreBuckets, FromEach, are_plain, replay}
use Rattle.bc_deed.specs.bc_machine.declared.part.BucketsPart.{BucketsPart}
use Rattle.bc_parts.specs.Seat.{Holds}
use Rattle.bc_place.specs.Next.{HasCut, HasFirst, IsLetGo, IsNext}
use Rattle.bc_place.specs.Place.{HasBefore, HasNoBucket, IsOwn}
use Rattle.bc_place.proofs.Keeping.{own_since}
use Rattle.bc_place.proofs.Knowing.{before_since, buckets_since, few, known_committed, may_each, may_from}
use Rattle.bc_place.proofs.Pinning.{may_pin, pin_owns, pin_stands}
use Rattle.bc_place.proofs.Taking.{has_none, may_take, take_stands}
use Rattle.bc_place.proofs.Unpinning.{may_unpin, unpin_stands}

module _ {C B : Type 0} (cache_facts : C → DiskFacts) (backing_facts : B → DiskFacts)
    (v : View cache_facts backing_facts) (seat : IsCoreSeat cache_facts backing_facts v)
    (cached : are_plain cache_facts backing_facts v.run.start ≡ false) (holds : Holds v.parts 2)
    (p : BucketsPart) (on : AreBuckets p (world cache_facts backing_facts v)) where
  -- ---- a bucket is taken

  module _ (before : ℕ)
      (first : FromEach (world cache_facts backing_facts v) (HasBefore before)) where
    pub may_open : (n number : ℕ) → n ≡ slice_index (list_of list.Plain p.reserves).buckets 0
        → 0 < length (list_of list.Plain p.reserves).buckets → number ≡ n - before
        → MayDo cache_facts backing_facts v (deed.Take list.Plain number)
    may_open n number n_is some number_is = may_from cache_facts backing_facts v cached
        (deed.Take list.Plain number) refl (λ o x since is course running. (
          subst (λ q. core.IsEnabled o.opening (replay o x.log)
              (by v.first (deed.Take list.Plain q)))
              (ap (λ b. n - b) (before_since cache_facts backing_facts v before first x since o is
              course) ∙ sym number_is)
              (may_take o is.sound is.cached x.log course p
              (buckets_since cache_facts backing_facts v seat holds p on x since o is course) v.first
              n n_is some (few cache_facts backing_facts v seat) running),
          tt,
          tt,
        ))

    pub opened_after : (w : View cache_facts backing_facts) (n number : ℕ)
        → n ≡ slice_index (list_of list.Plain p.reserves).buckets 0 → number ≡ n - before
        → Did cache_facts backing_facts (Some (deed.Take list.Plain number)) v w → p.fill ≡ []
        → (q : BucketsPart) → HasFirst p q → AreBuckets q (world cache_facts backing_facts w)
    opened_after w n number n_is number_is did none q f =
        known_committed cache_facts backing_facts v w (deed.Take list.Plain number)
        (λ o st. AreBucketsOf o.opening.machine (books_of st.machine) q) did (λ o is course.
        subst (λ d. AreBucketsOf o.opening.machine (books_of (core.after o.opening
        (replay o did.is.before.log) (by v.first (deed.Take list.Plain d))).machine) q)
        (ap (λ b. f.bucket - b) (before_since cache_facts backing_facts v before first
        did.is.before did.is.since o is course)
        ∙ ap (λ k. k - before) (sym (n_is ∙ ap (λ (ks : List ℕ). slice_index ks 0) f.taken.first))
        ∙ sym number_is)
        (take_stands o is.sound is.cached did.is.before.log course p
        (buckets_since cache_facts backing_facts v seat holds p on did.is.before did.is.since o is
        course) v.first none q f))

  pub knows_none : p.fill ≡ [] → (list_of list.Plain p.reserves).buckets ≡ []
      → FromEach (world cache_facts backing_facts v) HasNoBucket
  knows_none none empty o is course = has_none o is.sound is.cached
      (world cache_facts backing_facts v).log course p (on o is course) v.first none empty

  -- ---- a place is pinned

  module _ (count : ℕ) (asked : 1 ≤ count) (pl : Placed) (full : Bool)
      (next : IsNext p count pl full) where
    pub may_cut : MayDo cache_facts backing_facts v (deed.Pin pl.ptr.offset pl.count full)
    may_cut = may_from cache_facts backing_facts v cached
        (deed.Pin pl.ptr.offset pl.count full) refl (λ o x since is course running. (
          may_pin o is.sound is.cached x.log course p
              (buckets_since cache_facts backing_facts v seat holds p on x since o is course) v.first
              count asked pl full next (few cache_facts backing_facts v seat) running,
          tt,
          tt,
        ))

    module _ (w : View cache_facts backing_facts)
        (did : Did cache_facts backing_facts (Some (deed.Pin pl.ptr.offset pl.count full)) v w)
      where
        pub pinned_after : (q : BucketsPart) → HasCut p count pl q
            → AreBuckets q (world cache_facts backing_facts w)
        pinned_after q c = known_committed cache_facts backing_facts v w
            (deed.Pin pl.ptr.offset pl.count full)
            (λ o st. AreBucketsOf o.opening.machine (books_of st.machine) q) did
            (λ o is course. pin_stands o is.sound is.cached did.is.before.log course p
            (buckets_since cache_facts backing_facts v seat holds p on did.is.before did.is.since o is
            course) v.first count asked pl full next q c)

        pub owns_after : FromEach (world cache_facts backing_facts w) (IsOwn w.first pl)
        owns_after = subst (λ i. FromEach (world cache_facts backing_facts w) (IsOwn i pl))
            (sym did.is.same.first)
            (known_committed cache_facts backing_facts v w (deed.Pin pl.ptr.offset pl.count full)
            (IsOwn v.first pl) did
            (λ o is course. pin_owns o is.sound is.cached did.is.before.log course p
            (buckets_since cache_facts backing_facts v seat holds p on did.is.before did.is.since o is
            course) v.first count asked pl full next))

  -- ---- a place is let go

  module _ (pl : Placed) (own : FromEach (world cache_facts backing_facts v) (IsOwn v.first pl)) where
    pub may_let_go : MayDo cache_facts backing_facts v
        (deed.Unpin (unpin.Place pl.ptr.offset pl.count))
    may_let_go = may_each cache_facts backing_facts v cached
        (deed.Unpin (unpin.Place pl.ptr.offset pl.count)) (λ o x is course at. (
          may_unpin o is.cached x.log p
              (buckets_since cache_facts backing_facts v seat holds p on x at.since o is course) v.first
              pl (own_since cache_facts backing_facts v x seat at.since pl own o is course)
              (few cache_facts backing_facts v seat),
          tt,
          tt,
        ))

    pub unpinned_after : (w : View cache_facts backing_facts)
        → (did : Did cache_facts backing_facts
        (Some (deed.Unpin (unpin.Place pl.ptr.offset pl.count))) v w)
        → (q : BucketsPart) → IsLetGo p pl q → AreBuckets q (world cache_facts backing_facts w)
    unpinned_after w did q go = known_committed cache_facts backing_facts v w
        (deed.Unpin (unpin.Place pl.ptr.offset pl.count))
        (λ o st. AreBucketsOf o.opening.machine (books_of st.machine) q) did
        (λ o is course. unpin_stands o is.cached did.is.before.log p
        (buckets_since cache_facts backing_facts v seat holds p on did.is.before did.is.since o is
        course) v.first pl
        (own_since cache_facts backing_facts v did.is.before seat did.is.since pl own o is course) q
        go)
