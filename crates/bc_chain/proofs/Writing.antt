-- The deed that writes a set of a chain, as a seat does it.
use Rattle.std.proofs.Common.{◌≡◌, ℕ, ◌+◌, ◌-◌, ◌*◌, ◌≤◌, false, List, Some, None, sym, ap, ◌∙◌, subst, arith}
use Rattle.std.proofs.lemmas.Bool.{lt-ltb}
use Rattle.bc_chain.specs.Written.{HasWrittenSet, IsPart, lost_of, number_of, write_of}
use Rattle.bc_chains.proofs.Law.{law_made, law_write}
use Rattle.bc_chains.specs.Laws.{AllowsSet}
use Rattle.bc_chains.specs.Written.{IsDivided, IsForChain, IsMade}
use Rattle.bc_disk.specs.Disk.{DiskFacts}
use Rattle.bc_disk.specs.declared.gens.BucketRecord.{BucketRecord}
use Rattle.bc_disk.specs.declared.geometry.Geometry.{Geometry}
use Rattle.bc_events.specs.Run as core
use Rattle.bc_events.specs.declared.event.Deed.TheVariants as deed
use Rattle.bc_events.specs.declared.event.Failure.TheVariants as failure
use Rattle.bc_events.specs.declared.event.Written.TheVariants as written
use Rattle.bc_facts.specs.Layout.{IsLayoutOf}
use Rattle.bc_facts.specs.Seen.{seen_prio}
use Rattle.bc_meta.specs.Layout.{PrioSet}
use Rattle.bc_model.specs.Sector.{values_of}
use Rattle.bc_model.specs.declared.values.Values.{Values}
use Rattle.bc_parts.specs.Seat.{Holds}
use Rattle.bc_place.proofs.Keeping.{opening_lasts, since_by}
use Rattle.bc_place.proofs.Knowing.{few, known_changed, known_committed, may_each}
use Rattle.bc_place.proofs.of_bc_hand.Knowing.{View, m}
use Rattle.bc_place.specs.bc_hand.Seats.{Did, IsCoreSeat, MayDo, by, world}
use Rattle.bc_place.specs.bc_machine.Standing.{origin_before}
use Rattle.bc_place.specs.bc_machine.World.{FromEach, IsCourseOf, IsOrigin, Origin, World, are_plain, replay}
use Rattle.bc_prio.specs.Set.{IsSet, IsWrittenSet}
use Rattle.bc_seats.specs.Seats.{Since}
use Rattle.bc_seats.proofs.Knowing.{still}
use Rattle.bc_shares.proofs.Law.{law_buckets}
use Rattle.bc_shares.specs.Shares.{BucketsShare}

-- what is written is a set
pub is_set : (g : Geometry) (records : List BucketRecord) (bucket part next : ℕ) (bytes : List ℕ)
    → IsPart g bucket part next → IsWrittenSet g records part next bytes → IsSet g part bytes
is_set g records bucket part next bytes its set = record {
  whole = set.whole;
  magic = set.magic;
  checksum = set.checksum;
  count = (λ none. its.count.0 (sym set.names ∙ none), λ last. set.names ∙ its.count.1 last);
}

-- where the bucket begins
begins : (g : Geometry) (o : Origin) (st : core.State) (bucket : ℕ) → g.first_bucket ≤ bucket
    → IsDivided g o st → o.opening.machine.layout.first (number_of g bucket) ≡ g.bucket * bucket
begins g o st bucket low divided = divided.first (number_of g bucket)
    ∙ ap (λ n. g.bucket * n)
    (let is : g.first_bucket + (bucket - g.first_bucket) ≡ bucket = omega (arith, low) in is)

-- what the step commits is this deed
pub same_write : (g : Geometry) (bucket part at number : ℕ) (values : Values)
    → at ≡ g.bucket * bucket → number ≡ number_of g bucket
    → deed.CacheWrite at (written.Priorities number part) values ≡ write_of g bucket part values
same_write g bucket part at number values at_is number_is =
    ap (λ a. deed.CacheWrite a (written.Priorities number part) values) at_is
    ∙ ap (λ n. deed.CacheWrite (g.bucket * bucket) (written.Priorities n part) values) number_is

pub same_lost : (g : Geometry) (bucket part at number : ℕ) (values : Values)
    → at ≡ g.bucket * bucket → number ≡ number_of g bucket
    → deed.DeviceFault (failure.CacheWrite at (written.Priorities number part) values)
    ≡ lost_of g bucket part values
same_lost g bucket part at number values at_is number_is =
    ap (λ a. deed.DeviceFault (failure.CacheWrite a (written.Priorities number part) values)) at_is
    ∙ ap (λ n. deed.DeviceFault
    (failure.CacheWrite (g.bucket * bucket) (written.Priorities n part) values)) number_is

module _ {C B : Type 0} (cache_facts : C → DiskFacts) (backing_facts : B → DiskFacts) where
  divided_since : (v : View cache_facts backing_facts) (x : World) (g : Geometry)
      → IsCoreSeat cache_facts backing_facts v → Since (m cache_facts backing_facts) v x
      → FromEach (world cache_facts backing_facts v) (IsDivided g) → FromEach x (IsDivided g)
  divided_since v x g seat since h = since_by cache_facts backing_facts (λ i. IsDivided g)
      (opening_lasts (λ o. IsLayoutOf g o.opening.machine.layout)) v x seat since h

  -- the buckets in hand keep what is known of the bucket
  chain_since : (v : View cache_facts backing_facts) (x : World) (i q : ℕ) → Holds v.parts 2
      → Since (m cache_facts backing_facts) v x
      → FromEach (world cache_facts backing_facts v) (IsForChain i q) → FromEach x (IsForChain i q)
  chain_since v x i q holds since h = still (m cache_facts backing_facts) v x
      (λ y. FromEach y (IsForChain i q)) (λ y e may foreign known o is course.
      let was = known o (origin_before y e o is) course.2 in
      let same = (law_buckets o.opening (replay o y.log) e course.0.enabled (foreign.1 2
      holds)).share
      in record {
        inside = was.inside;
        held = ap (λ (s : BucketsShare). s.shelf q) same ∙ was.held;
        unnamed = ap (λ (s : BucketsShare). s.chain q) same ∙ was.unnamed;
      }) since h

  -- and with the cache device, what was made there
  made_since : (v : View cache_facts backing_facts) (x : World) (q part : ℕ) (set : PrioSet)
      → Holds v.parts 2 → Holds v.parts 4 → Since (m cache_facts backing_facts) v x
      → FromEach (world cache_facts backing_facts v) (IsMade q part set)
      → FromEach x (IsMade q part set)
  made_since v x q part set buckets cache since h = still (m cache_facts backing_facts) v x
      (λ y. FromEach y (IsMade q part set)) (λ y e may foreign known o is course.
      law_made o.opening (replay o y.log) e (foreign.1 2 buckets) (foreign.1 4 cache) q
      ∙ known o (origin_before y e o is) course.2) since h

  module _ (v : View cache_facts backing_facts) (seat : IsCoreSeat cache_facts backing_facts v)
      (cached : are_plain cache_facts backing_facts v.run.start ≡ false) (unheard : v.heard ≡ None)
      (holds : Holds v.parts 2) (cache : Holds v.parts 4) (g : Geometry)
      (records : List BucketRecord) (bucket part next : ℕ) (bytes : List ℕ) (values : Values)
      (divided : FromEach (world cache_facts backing_facts v) (IsDivided g))
      (held : FromEach (world cache_facts backing_facts v)
      (IsForChain v.first (number_of g bucket))) (its : IsPart g bucket part next)
      (set : IsWrittenSet g records part next bytes) (values_are : values ≡ values_of bytes) where
    allows : (x : World) → Since (m cache_facts backing_facts) v x → (o : Origin) → IsOrigin x o
        → IsCourseOf o x.log → AllowsSet x o g v.first (number_of g bucket) part bytes values
    allows x since o is course = law_write x o g v.first (number_of g bucket) part bytes values is
        course (divided_since v x g seat since divided o is course)
        (chain_since v x v.first (number_of g bucket) holds since held o is course)
        (is_set g records bucket part next bytes its set) values_are

    at_is : (x : World) → Since (m cache_facts backing_facts) v x → (o : Origin) → IsOrigin x o
        → IsCourseOf o x.log
        → o.opening.machine.layout.first (number_of g bucket) ≡ g.bucket * bucket
    at_is x since o is course = begins g o (replay o x.log) bucket its.low
        (divided_since v x g seat since divided o is course)

    pub may_write : MayDo cache_facts backing_facts v (write_of g bucket part values)
    may_write = may_each cache_facts backing_facts v cached (write_of g bucket part values)
        (λ o x is course at. (
          subst (λ a. core.IsEnabled o.opening (replay o x.log) (by v.first
              (deed.CacheWrite a (written.Priorities (number_of g bucket) part) values)))
              (at_is x at.since o is course)
              ((allows x at.since o is course).may
              (lt-ltb v.first 320 (few cache_facts backing_facts v seat)) (at.late unheard)),
          tt,
          tt,
        ))

    pub may_fail : MayDo cache_facts backing_facts v (lost_of g bucket part values)
    may_fail = may_each cache_facts backing_facts v cached (lost_of g bucket part values)
        (λ o x is course at. (
          subst (λ a. core.IsEnabled o.opening (replay o x.log) (by v.first (deed.DeviceFault
              (failure.CacheWrite a (written.Priorities (number_of g bucket) part) values))))
              (at_is x at.since o is course)
              ((allows x at.since o is course).may_fail
              (lt-ltb v.first 320 (few cache_facts backing_facts v seat)) (at.late unheard)),
          tt,
          tt,
        ))

    pub has_written : (w : View cache_facts backing_facts)
        → Did cache_facts backing_facts (Some (write_of g bucket part values)) v w
        → HasWrittenSet cache_facts backing_facts g records bucket part next v w
    has_written w did = record {
      bytes = bytes;
      set = set;
      values = values;
      values_are = values_are;
      did = did;
      made = known_committed cache_facts backing_facts v w (write_of g bucket part values)
          (IsMade (number_of g bucket) part (seen_prio g part bytes)) did (λ o is course.
          subst (λ a. IsMade (number_of g bucket) part (seen_prio g part bytes) o
          (core.after o.opening (replay o did.is.before.log) (by v.first
          (deed.CacheWrite a (written.Priorities (number_of g bucket) part) values))))
          (at_is did.is.before did.is.since o is course)
          (allows did.is.before did.is.since o is course).made);
      others = λ q k y ne known. known_changed cache_facts backing_facts v w
          (write_of g bucket part values) (IsMade q k y) (IsMade q k y) did (λ o is course on was.
          subst (λ a. IsMade q k y o (core.after o.opening (replay o did.is.before.log) (by v.first
          (deed.CacheWrite a (written.Priorities (number_of g bucket) part) values))))
          (at_is did.is.before did.is.since o is course)
          ((allows did.is.before did.is.since o is course).others q ne ∙ was))
          (made_since v did.is.before q k y holds cache did.is.since known);
    }
