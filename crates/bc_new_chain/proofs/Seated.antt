-- A seat that seals an entry with a new chain: that it may, and what it leaves.
use Rattle.std.proofs.Common.{◌≡◌, ◌≢◌, ℕ, ◌-◌, ◌==◌, ◌||◌, Bool, true, false, List, Option, None, Some, refl, sym, ap, ◌∙◌, subst, arith}
use Rattle.std.specs.Prelude.{if◌then◌else◌, not, Vec}
use Rattle.std.specs.declared.alloc.Global.{Global}
use Rattle.bc_alloc.proofs.Times.{by_test}
use Rattle.bc_alloc.specs.Reserve.{times}
use Rattle.bc_chain.proofs.of_bc_hand.Knowing.{View, m}
use Rattle.bc_chain.proofs.of_bc_place.Keeping.{keeps_deed as places_deed, opening_lasts, since_by}
use Rattle.bc_chain.proofs.of_bc_place.Knowing.{buckets_since, few, known_committed, may_from}
use Rattle.bc_chain.specs.bc_hand.Seats.{Did, IsCoreSeat, MayDo, by, world}
use Rattle.bc_chain.specs.bc_machine.Standing.{origin_before}
use Rattle.bc_chain.specs.bc_machine.World.{AreBuckets, FromEach, IsCourseOf, IsJournal, IsOrigin, Origin, World, are_plain, replay}
use Rattle.bc_chain.specs.bc_machine.declared.part.BucketsPart.{BucketsPart}
use Rattle.bc_chain.specs.bc_place.Written.{KeepsPlaces}
use Rattle.bc_chained.specs.Chained.{AreForChain, AreSetsOf, HasRenewing, IsSealedChain}
use Rattle.bc_chained.specs.Laws.{HasChain, numbers}
use Rattle.bc_chained.proofs.of_bc_chains.Law.{law_made}
use Rattle.bc_chained.specs.bc_chains.Written.{IsMade}
use Rattle.bc_disk.specs.Disk.{DiskFacts}
use Rattle.bc_disk.specs.declared.gens.BucketRecord.{BucketRecord}
use Rattle.bc_disk.specs.declared.geometry.Geometry.{Geometry}
use Rattle.bc_entry.proofs.Holding.{needs_committed}
use Rattle.bc_entry.proofs.Sealing.{goes_to, has_place, journal_since}
use Rattle.bc_entry.specs.Entry.{IsFixedEntry}
use Rattle.bc_entry.specs.Seal.{CanSeal, begun_by}
use Rattle.bc_events.specs.declared.event.Deed.{Deed}
use Rattle.bc_events.specs.declared.event.Deed.TheVariants as deed
use Rattle.bc_facts.specs.Seen.{entry_rest, seen_prio}
use Rattle.bc_held.proofs.Keeping.{held_since, law_held_kept, other_deed, vacant_behind, vacant_since}
use Rattle.bc_held.specs.Held.{IsHeldFor, Leaves, LiesAt, number_in}
use Rattle.bc_held.specs.declared.held.HeldBucket.{HeldBucket}
use Rattle.bc_journal.specs.Journal.{IsJournal as IsGoodJournal, IsSealed, Journal}
use Rattle.bc_journal.specs.Sealed.{Sealed}
use Rattle.bc_journal.specs.declared.heads.Heads.{Heads}
use Rattle.bc_leaves.specs.After.{has}
use Rattle.bc_meta.specs.Layout.{PrioSet}
use Rattle.bc_needs.specs.Needs.{NeedsFrom}
use Rattle.bc_new_chain.proofs.Keeping.{not_among}
use Rattle.bc_new_chain.proofs.State.{IsLeft, enabled, left, sealing}
use Rattle.bc_new_chain.specs.Beside.{IsBeside, KeepsHeldBeside}
use Rattle.bc_new_chain.specs.Seal.{HasSealedChain, IsReadyChain, with_chain}
use Rattle.bc_parts.specs.Seat.{Holds}
use Rattle.bc_seats.proofs.Knowing.{still}
use Rattle.bc_seats.specs.Seats.{Since}
use Rattle.bc_shares.proofs.Law.{law_buckets}
use Rattle.bc_shares.specs.Shares.{BucketsShare}

-- it changes the buckets and the journal alone
pub chain_changed : (k : ℕ) → (if k == 0 then false else (if k == 1 then false
    else (if k == 2 then true else (if k == 3 then true else (if k == 4 then false
    else (if k == 5 then false else false)))))) ≡ ((k == 2) || (k == 3))
chain_changed k = only 0 (λ is. cc) (λ is. cc) (only 1 (λ is. cc) (λ is. cc)
    (same (k == 2) (k == 3)))
  where
    off : (b c : Bool) → (if b then false else (if c then false else false)) ≡ false
    off true c = refl
    off false true = refl
    off false false = refl

    same : (b c : Bool) → (if b then true else (if c then true else (if k == 4 then false
        else (if k == 5 then false else false)))) ≡ (b || c)
    same true c = refl
    same false true = refl
    same false false = off (k == 4) (k == 5)

    only : (n : ℕ) {rest : Bool} → n ≢ 2 → n ≢ 3 → rest ≡ ((k == 2) || (k == 3))
        → (if k == n then false else rest) ≡ ((k == 2) || (k == 3))
    only n {rest} two three is = by_test k n
        (λ b. (if b then false else rest) ≡ ((k == 2) || (k == 3)))
        (λ at. sym (by_test k 2 (λ b. (b || (k == 3)) ≡ false)
        (λ here. absurd (two (sym at ∙ here)))
        (λ no. by_test k 3 (λ b. b ≡ false) (λ here. absurd (three (sym at ∙ here)))
        (λ no. refl)))) (λ no. is)

-- ---- what the seat knows stays

module _ {C B : Type 0} (cache_facts : C → DiskFacts) (backing_facts : B → DiskFacts) where
  each_since : (v : View cache_facts backing_facts) (x : World) (i : ℕ) (new : List ℕ)
      → Holds v.parts 2 → Since (m cache_facts backing_facts) v x
      → FromEach (world cache_facts backing_facts v) (AreForChain i new)
      → FromEach x (AreForChain i new)
  each_since v x i new buckets since h = still (m cache_facts backing_facts) v x
      (λ y. FromEach y (AreForChain i new))
      (λ y e may foreign known o is course n some.
      let before = origin_before y e o is in
      let its = known o before course.2 n some in
      let same = law_buckets o.opening (replay o y.log) e course.0.enabled
      (foreign.1 2 buckets) in
      let q = n - o.opening.machine.before in (
        its.0,
        record {
          inside = its.1.inside;
          held = ap (λ (z : BucketsShare). z.shelf q) same.share ∙ its.1.held;
          unnamed = ap (λ (z : BucketsShare). z.chain q) same.share ∙ its.1.unnamed;
        },
      )) since h

  made_since : (v : View cache_facts backing_facts) (x : World) (q part : ℕ) (set : PrioSet)
      → Holds v.parts 2 → Holds v.parts 4 → Since (m cache_facts backing_facts) v x
      → FromEach (world cache_facts backing_facts v) (IsMade q part set)
      → FromEach x (IsMade q part set)
  made_since v x q part set buckets cache since h = still (m cache_facts backing_facts) v x
      (λ y. FromEach y (IsMade q part set))
      (λ y e may foreign known o is course.
      let before = origin_before y e o is in
      law_made o.opening (replay o y.log) e (foreign.1 2 buckets) (foreign.1 4 cache) q
      ∙ known o before course.2) since h

  sets_since : (v : View cache_facts backing_facts) (x : World) (g : Geometry)
      (records : List BucketRecord) (new : List ℕ) → Holds v.parts 2 → Holds v.parts 4
      → Since (m cache_facts backing_facts) v x
      → AreSetsOf g records new (world cache_facts backing_facts v) → AreSetsOf g records new x
  sets_since v x g records new buckets cache since h = record {
    many = h.many;
    each = λ part below. let its = h.each part below in record {
      bytes = its.bytes;
      set = its.set;
      made = made_since v x _ part (seen_prio g part its.bytes) buckets cache since its.made;
    };
  }

  module _ (v : View cache_facts backing_facts) (seat : IsCoreSeat cache_facts backing_facts v)
      (cached : are_plain cache_facts backing_facts v.run.start ≡ false)
      (two : Holds v.parts 2) (three : Holds v.parts 3) (four : Holds v.parts 4) (p : BucketsPart)
      (on : AreBuckets p (world cache_facts backing_facts v)) (settled : p.renewing ≡ false)
      (j : Journal) (good : IsGoodJournal j) (can : CanSeal j)
      (stands : IsJournal j (world cache_facts backing_facts v)) (records : List BucketRecord)
      (new : List ℕ)
      (ready : IsReadyChain v.first records new p j (world cache_facts backing_facts v))
      (chained : Vec ℕ Global) (chained_is : chained.items ≡ numbers j.ring.geometry new)
      (rest : Vec ℕ Global) where
    abbrev d : Deed
    d = sealing j (begun_by j) rest chained

    journal_at : (x : World) → Since (m cache_facts backing_facts) v x → IsJournal j x
    journal_at x since = journal_since cache_facts backing_facts v seat three j good can stands x
        since

    chain_at : (x : World) → Since (m cache_facts backing_facts) v x → (o : Origin)
        → IsOrigin x o → IsCourseOf o x.log
        → HasChain x o v.first p j.ring.geometry records new
    chain_at x since o is course =
        let ring = ((journal_at x since).stands o is course).ring in record {
          origin = is;
          course = course;
          stand = buckets_since cache_facts backing_facts v seat two p on x since o is course;
          settled = settled;
          divided = ring.layout;
          before = ring.before;
          each = each_since v x v.first new two since ready.each o is course;
          shown = ready.shown;
          sets = sets_since v x j.ring.geometry records new two four since ready.sets;
        }

    leaves_beside : (x : World) → Since (m cache_facts backing_facts) v x → (o : Origin)
        → IsOrigin x o → IsCourseOf o x.log → (b : HeldBucket) → times b.bucket new ≡ 0
        → LiesAt b o → Leaves b d o (replay o x.log)
    leaves_beside x since o is course b none lies =
        let chain = chain_at x since o is course in
        let first = chain.before in
        let at = lies.number in
        ap (λ (t : Bool). not t) (subst (λ (ks : List ℕ). has ks (number_in b o) ≡ false)
        (sym chained_is)
        (not_among j.ring.geometry.first_bucket (number_in b o) b.bucket new
        (omega (arith, first, at))
        (λ n some. let low = (chain.each n some).0 in omega (arith, first, low)) none))

    pub may_seal : MayDo cache_facts backing_facts v d
    may_seal = may_from cache_facts backing_facts v cached d refl (λ o x since is course running.
        let place = has_place j can in
        let there = journal_at x since in (
          enabled x o v.first p j records new (chain_at x since o is course) good can
              (there.stands o is course) (there.needs o is course).needs chained chained_is rest
              (begun_by j) place.0 (goes_to j place.0 good place.1)
              (few cache_facts backing_facts v seat) running,
          tt,
          tt,
        ))

    module _ (w : View cache_facts backing_facts) (s : Sealed) (new_journal : Journal)
        (is : IsSealed j (with_chain j.heads new) s new_journal)
        (rest_is : rest.items ≡ entry_rest s.entry) (q : BucketsPart) (renews : HasRenewing p q)
        (did : Did cache_facts backing_facts (Some d) v w) where
      all_left : FromEach (world cache_facts backing_facts w)
          (λ o st. IsLeft o st new_journal s q v.first new)
      all_left = known_committed cache_facts backing_facts v w d
          (λ o st. IsLeft o st new_journal s q v.first new) did (λ o origin course.
          let x = did.is.before in
          let there = journal_at x did.is.since in
          left x o v.first p j records new (chain_at x did.is.since o origin course) good can
          (there.stands o origin course) (there.needs o origin course).needs chained chained_is rest s
          new_journal is rest_is q renews (begun_by j) (goes_to j s.place good is.place))

      pub buckets_left : AreBuckets q (world cache_facts backing_facts w)
      buckets_left o origin course = (all_left o origin course).buckets

      pub journal_left : IsJournal new_journal (world cache_facts backing_facts w)
      journal_left = record {
        stands = λ o origin course. (all_left o origin course).journal;
        needs = subst (λ n. FromEach (world cache_facts backing_facts w) (λ o st. NeedsFrom n st))
            (sym (ap (λ (k : Journal). k.needed) is.journal))
            (needs_committed cache_facts backing_facts v w d j.needed did
            (journal_at did.is.before did.is.since).needs);
      }

      pub keeps_left : KeepsPlaces cache_facts backing_facts v w
      keeps_left = places_deed cache_facts backing_facts v w d seat refl did

      -- a bucket that isn't of the chain is held still
      held_kept : (b : HeldBucket)
          → FromEach (world cache_facts backing_facts v) (IsBeside new b)
          → FromEach (world cache_facts backing_facts v) (IsHeldFor v.first b)
          → FromEach (world cache_facts backing_facts w) (IsHeldFor w.first b)
      held_kept b none h =
          let x = did.is.before in
          let held = held_since cache_facts backing_facts v x seat did.is.since b h in
          let beside = since_by cache_facts backing_facts (λ i. IsBeside new b)
          (opening_lasts (λ o. times b.bucket new ≡ 0)) v x seat did.is.since none in
          subst (λ i. FromEach (world cache_facts backing_facts w) (IsHeldFor i b))
          (sym did.is.same.first)
          (subst (λ (y : World). FromEach y (IsHeldFor v.first b)) (sym did.is.state)
          (law_held_kept x (by v.first d) b
          (λ o origin course. leaves_beside x did.is.since o origin course b
          (beside o origin course)
          (held o origin course).lies) held))

      pub held_left : KeepsHeldBeside cache_facts backing_facts new v w
      held_left = record {
        held = held_kept;
        vacant = λ spine b h. vacant_behind cache_facts backing_facts v w d refl did b
            (vacant_since cache_facts backing_facts v did.is.before spine did.is.since b h);
        other = other_deed cache_facts backing_facts v w d seat did;
      }

      pub fixed_left : FromEach (world cache_facts backing_facts w) (IsFixedEntry s)
      fixed_left o origin course = (all_left o origin course).fixed

      pub chain_left : FromEach (world cache_facts backing_facts w) (IsSealedChain v.first new)
      chain_left o origin course = (all_left o origin course).chain

      pub has_sealed : HasSealedChain cache_facts backing_facts j new s v w
      has_sealed = record {
        rest = rest;
        rest_is = rest_is;
        chain = chained;
        chain_is = chained_is;
        did = subst (λ n. Did cache_facts backing_facts (Some (deed.Seal n (begun_by j) rest None
            (Some (record { buckets = chained })))) v w)
            (sym (ap (λ x. x.last_seq) is.entry)) did;
      }

  -- by whatever numbers these are
  pub did_sealing : (v w : View cache_facts backing_facts) (j : Journal) (n : ℕ)
      (begun : Option ℕ) (rest chained : Vec ℕ Global) → n ≡ j.needed → begun ≡ begun_by j
      → Did cache_facts backing_facts (Some (deed.Seal n begun rest None
      (Some (record { buckets = chained })))) v w
      → Did cache_facts backing_facts (Some (sealing j (begun_by j) rest chained)) v w
  did_sealing v w j n begun rest chained n_is begun_is did = subst (λ (b : Option ℕ).
      Did cache_facts backing_facts (Some (sealing j b rest chained)) v w) begun_is
      (subst (λ k. Did cache_facts backing_facts (Some (deed.Seal k begun rest None
      (Some (record { buckets = chained })))) v w) n_is did)

  pub may_sealing : (v : View cache_facts backing_facts) (j : Journal) (n : ℕ) (begun : Option ℕ)
      (rest chained : Vec ℕ Global) → n ≡ j.needed → begun ≡ begun_by j
      → MayDo cache_facts backing_facts v (sealing j (begun_by j) rest chained)
      → MayDo cache_facts backing_facts v (deed.Seal n begun rest None
      (Some (record { buckets = chained })))
  may_sealing v j n begun rest chained n_is begun_is may = subst (λ k. MayDo cache_facts
      backing_facts v (deed.Seal k begun rest None (Some (record { buckets = chained }))))
      (sym n_is) (subst (λ (b : Option ℕ). MayDo cache_facts backing_facts v
      (sealing j b rest chained)) (sym begun_is) may)

pub sealed_with : (j : Journal) (heads : Heads) (s : Sealed) (k : Journal) (new : List ℕ)
    → heads ≡ with_chain j.heads new → IsSealed j heads s k
    → IsSealed j (with_chain j.heads new) s k
sealed_with j heads s k new same is = subst (λ (h : Heads). IsSealed j h s k) same is
