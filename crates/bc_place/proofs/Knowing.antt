-- What a seat knows until a deed, and what that makes of it.
use Rattle.std.proofs.Common.{◌≡◌, ℕ, ◌<◌, false, Some, refl, sym, ◌∙◌, subst}
use Rattle.bc_disk.specs.Disk.{DiskFacts}
use Rattle.bc_parts.specs.Seat.{Holds}
use Rattle.bc_seats.specs.Seats.{Since}
use Rattle.bc_seats.proofs.Knowing.{held, still}
use Rattle.bc_events.specs.Run as core
use Rattle.bc_events.specs.declared.event.Deed.{Deed}
use Rattle.bc_deed.specs.bc_hand.Seats.{AtDeed, Did, IsCoreSeat, MayDo, by, world}
use Rattle.bc_deed.proofs.of_bc_hand.Knowing.{View, framed, is_plain_at, m}
use Rattle.bc_deed.proofs.May.{low}
use Rattle.bc_deed.specs.bc_machine.Standing.{origin_before}
use Rattle.bc_deed.specs.bc_machine.World.{AreBuckets, CanFollow, EndsItsChange, FromEach, IsCourseOf, IsNumbered, IsOrigin, IsSeenFrom, Origin, World, are_plain, replay, seen_from}
use Rattle.bc_deed.specs.bc_machine.declared.part.BucketsPart.{BucketsPart}
use Rattle.bc_deed.specs.bc_machine.declared.part.CorePart.TheVariants as part
use Rattle.bc_events.specs.Columns.{outlasts_halt}
use Rattle.bc_place.specs.Place.{HasBefore}

module _ {C B : Type 0} (cache_facts : C → DiskFacts) (backing_facts : B → DiskFacts) where
  pub buckets_since : (v : View cache_facts backing_facts) → IsCoreSeat cache_facts backing_facts v
      → Holds v.parts 2 → (p : BucketsPart) → AreBuckets p (world cache_facts backing_facts v)
      → (x : World) → Since (m cache_facts backing_facts) v x → AreBuckets p x
  buckets_since v seat holds p on x since = (held (m cache_facts backing_facts)
      (framed cache_facts backing_facts) v x 2 (part.Buckets p) seat.seat since holds (refl, on)).1

  pub before_since : (v : View cache_facts backing_facts) (n : ℕ)
      → FromEach (world cache_facts backing_facts v) (HasBefore n) → (x : World)
      → Since (m cache_facts backing_facts) v x → FromEach x (HasBefore n)
  before_since v n h x since = still (m cache_facts backing_facts) v x
      (λ y. FromEach y (HasBefore n))
      (λ y e may foreign before o is course. before o (origin_before y e o is) course.2) since h

  -- a deed may be done that the core allows from each opening
  pub may_each : (v : View cache_facts backing_facts)
      → are_plain cache_facts backing_facts v.run.start ≡ false → (d : Deed)
      → ((o : Origin) (x : World) → IsOrigin x o → IsCourseOf o x.log
      → AtDeed cache_facts backing_facts v d x (seen_from o x)
      → core.IsEnabled o.opening (replay o x.log) (by v.first d)
      × EndsItsChange (replay o x.log).machine.whole.parts d × IsNumbered x.log d)
      → MayDo cache_facts backing_facts v d
  may_each v cached d may x y at told =
      let seen = at.from (is_plain_at cache_facts backing_facts v x at.since ∙ cached) in
      go x y seen.0 seen.1 at
    where
      go : (x y : World) (o : Origin) → IsSeenFrom o x y → AtDeed cache_facts backing_facts v d x y
          → CanFollow y (by v.first d)
      go x y o seen = subst (λ (z : World). AtDeed cache_facts backing_facts v d x z
          → CanFollow z (by v.first d)) (sym seen.is)
          (λ at. let all = may o x seen.origin seen.course at in record {
            enabled = all.0;
            names = all.1;
            number = all.2;
          })

  pub may_from : (v : View cache_facts backing_facts)
      → are_plain cache_facts backing_facts v.run.start ≡ false → (d : Deed)
      → outlasts_halt d ≡ false
      → ((o : Origin) (x : World) → Since (m cache_facts backing_facts) v x → IsOrigin x o
      → IsCourseOf o x.log → (replay o x.log).machine.whole.flow.halted ≡ false
      → core.IsEnabled o.opening (replay o x.log) (by v.first d)
      × EndsItsChange (replay o x.log).machine.whole.parts d × IsNumbered x.log d)
      → MayDo cache_facts backing_facts v d
  may_from v cached d ends may = may_each v cached d
      (λ o x is course at. may o x at.since is course (at.running ends))

  -- what a deed of the seat makes of what it knew until then
  pub known_committed : (v w : View cache_facts backing_facts) (d : Deed)
      (Q : Origin → core.State → Type 0) → (did : Did cache_facts backing_facts (Some d) v w)
      → ((o : Origin) → IsOrigin did.is.before o → IsCourseOf o did.is.before.log
      → Q o (core.after o.opening (replay o did.is.before.log) (by v.first d)))
      → FromEach (world cache_facts backing_facts w) Q
  known_committed v w d Q did makes = subst (λ x. FromEach x Q) (sym did.is.state)
      (λ o is course. let before = origin_before did.is.before (by v.first d) o is in
      makes o before course.2)

  -- and of what it knew before it
  pub known_changed : (v w : View cache_facts backing_facts) (d : Deed)
      (P Q : Origin → core.State → Type 0) → (did : Did cache_facts backing_facts (Some d) v w)
      → ((o : Origin) → IsOrigin did.is.before o → IsCourseOf o did.is.before.log
      → core.IsEnabled o.opening (replay o did.is.before.log) (by v.first d)
      → P o (replay o did.is.before.log)
      → Q o (core.after o.opening (replay o did.is.before.log) (by v.first d)))
      → FromEach did.is.before P → FromEach (world cache_facts backing_facts w) Q
  known_changed v w d P Q did makes h = subst (λ x. FromEach x Q) (sym did.is.state)
      (λ o is course. let before = origin_before did.is.before (by v.first d) o is in
      makes o before course.2 course.0.enabled (h o before course.2))

  pub few : (v : View cache_facts backing_facts) → IsCoreSeat cache_facts backing_facts v
      → v.first < 320
  few v seat = low cache_facts backing_facts v seat
