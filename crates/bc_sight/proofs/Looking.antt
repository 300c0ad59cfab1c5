-- When a seat may look at a leaf in its hand, and what it knows of its claim then.
use Rattle.std.proofs.Common.{◌≡◌, inl, inr, ℕ, ◌+◌, ◌-◌, ◌%◌, ◌<◌, ◌≤◌, false, List, [], length, Option, Some, None, refl, sym, ap, ◌∙◌, subst, arith}
use Rattle.std.specs.Prelude.{IfSome, slice_get}
use Rattle.bc_disk.specs.Disk.{DiskFacts}
use Rattle.bc_parts.specs.Seat.{PartsView, Holds}
use Rattle.bc_seats.specs.Seats.{Since}
use Rattle.bc_seats.proofs.Knowing.{held}
use Rattle.bc_books.specs.Index.{Pointer, latest}
use Rattle.bc_data.specs.Seats.{Claim, Covers}
use Rattle.bc_data.specs.Data as flow
use Rattle.bc_data.specs.Data.{claim_of}
use Rattle.bc_whole.specs.Together.{ref_of}
use Rattle.bc_bucket.specs.Buckets.{bucket_of}
use Rattle.bc_cache.specs.Slots.{NodeCache}
use Rattle.bc_cache.specs.declared.slots.Cached.{Cached}
use Rattle.bc_events.specs.declared.event.Deed.TheVariants as deed
use Rattle.bc_shares.specs.Shares.{books_of}
use Rattle.bc_looks.specs.bc_machine.declared.part.BucketsPart.{BucketsPart}
use Rattle.bc_looks.specs.bc_machine.declared.part.CorePart.{CorePart}
use Rattle.bc_looks.specs.bc_machine.declared.part.CorePart.TheVariants as part
use Rattle.bc_looks.specs.bc_machine.Frame.{Range, range_of}
use Rattle.bc_looks.specs.bc_machine.Note.{note_of}
use Rattle.bc_looks.specs.bc_machine.World.{World, data_of, are_plain, Origin, IsOrigin, IsSeenFrom, IsCourseOf, seen_from, replay, AreLeaves, AreBuckets}
use Rattle.bc_looks.specs.Looks.{IsNear}
use Rattle.bc_looks.proofs.Law.{law_ages, law_keys, law_slots}
use Rattle.bc_deed.specs.bc_hand.declared.hand.Hand.{Hand}
use Rattle.bc_deed.specs.bc_hand.declared.hand.LeafHand.{LeafHand}
use Rattle.bc_deed.specs.bc_hand.Seats.{world, note, with_part, with_leaves, numbers, IsCoreSeat, MayDo, Did, Works}
use Rattle.bc_deed.proofs.of_bc_hand.Knowing.{View, m, framed, is_plain_at, note_since}
use Rattle.bc_deed.proofs.May.{can_alone, low}
use Rattle.bc_sight.specs.Sight.{claim_from, HasLeaf, HasLooked, Knows, KnowsUses, OfClaim, said_in}
use Rattle.bc_sight.proofs.Claims.{claim_committed, looked_claim}

-- ---- what is in hand

pub some_of : {A : Type 0} (P : A → Type 0) (o : Option A) (a : A) → o ≡ Some a → IfSome o P → P a
some_of P None a is h = absurd (cc)
some_of P (Some b) a is h = let same : b ≡ a = cc in subst P same h

behind : {A : Type 0} (n : ℕ) (o : Option A) (ks : List ℕ) (k : ℕ) → Holds ks k
    → Holds (with_part n o ks) k
behind n None ks k h = h
behind n (Some a) ks k h = inr h

here : {A : Type 0} (n : ℕ) (o : Option A) (a : A) (ks : List ℕ) → o ≡ Some a
    → Holds (with_part n o ks) n
here n None a ks is = absurd (cc)
here n (Some b) a ks is = inl refl

here_leaves : (o : Option LeafHand) (l : LeafHand) (ks : List ℕ) → o ≡ Some l
    → Holds (with_leaves o ks) l.part
here_leaves None l ks is = absurd (cc)
here_leaves (Some x) l ks is = let e : x ≡ l = cc in inl (ap (λ (y : LeafHand). y.part) (sym e))

holds_leaves : {C B : Type 0} (h : Hand C B) (l : LeafHand) → h.leaves ≡ Some l → Holds (numbers h) l.part
holds_leaves h l is = behind 5 h.backing _ l.part (behind 4 h.cache _ l.part
    (behind 3 h.journal _ l.part (behind 2 h.buckets _ l.part (behind 1 h.flight _ l.part
    (here_leaves h.leaves l (with_part 0 h.spine []) is)))))

pub holds_buckets : {C B : Type 0} (h : Hand C B) (p : BucketsPart) → h.buckets ≡ Some p → Holds (numbers h) 2
holds_buckets h p is = behind 5 h.backing _ 2 (behind 4 h.cache _ 2 (behind 3 h.journal _ 2
    (here 2 h.buckets p (with_part 1 h.flight (with_leaves h.leaves (with_part 0 h.spine []))) is)))

-- ---- what a leaf tells

-- the leaf in a slot is the one in which the core looks for its sectors
slot_of : (part : ℕ) (c : NodeCache) (x : World) (o : Origin) → AreLeaves part c x → IsOrigin x o
    → IsCourseOf o x.log → (slot : ℕ) (cached : Cached) → slice_get c.slots slot ≡ Some (Some cached)
    → (s : ℕ) → cached.leaf.from ≤ s → s < cached.leaf.end
    → (books_of (replay o x.log).machine).index.leaf s ≡ cached.number
slot_of part c x o on is course slot cached at s low high =
    let leaf = (on o is course).leaves slot cached at in
    let first = leaf.at.first in
    let end = leaf.at.end_is in
    law_slots x o is course cached.number s leaf.at.role (omega arith, omega arith)

-- where its last key points, the core's does
sight_of : (part : ℕ) (c : NodeCache) (x : World) (o : Origin) → AreLeaves part c x → IsOrigin x o
    → IsCourseOf o x.log → (slot : ℕ) (cached : Cached) → slice_get c.slots slot ≡ Some (Some cached)
    → (s : ℕ) → cached.leaf.from ≤ s → s < cached.leaf.end
    → ref_of (latest (books_of (replay o x.log).machine).index s) ≡ said_in cached.leaf s
sight_of part c x o on is course slot cached at s low high =
    let leaf = (on o is course).leaves slot cached at in
    let first = leaf.at.first in
    let end = leaf.at.end_is in
    sym (law_keys x o is course cached.number s leaf.at.role (omega arith, omega arith))
    ∙ sym (leaf.keys s low high)

-- two versions that are near and have one byte are one
one_version : (a b : ℕ) → IsNear a b → b % 256 ≡ a % 256 → b ≡ a
one_version a b near same = let past = near.past in let close = near.near in omega arith

uses_of : (p : BucketsPart) (x : World) (o : Origin) → AreBuckets p x → IsOrigin x o
    → IsCourseOf o x.log → (s q : ℕ) (r : Pointer)
    → latest (books_of (replay o x.log).machine).index s ≡ Some r
    → o.opening.machine.flow.books.bucket r.place ≡ q
    → o.opening.machine.before + q < length p.buckets.records
    → r.version % 256 ≡ (bucket_of p.buckets (o.opening.machine.before + q)).generation
    → r.version ≡ o.opening.machine.flow.books.version q
    + (bucket_of p.buckets (o.opening.machine.before + q)).uses
uses_of p x o on is course s q r at bucket within same =
    let b = (on o is course).records q within in
    let near = subst (λ n. IsNear ((books_of (replay o x.log).machine).generations.version n) r.version)
    bucket (law_ages x o is course s r at) in
    one_version ((books_of (replay o x.log).machine).generations.version q) r.version near
    (same ∙ b.generation) ∙ b.uses

-- ---- the step

module _ {C B : Type 0} (cache_facts : C → DiskFacts) (backing_facts : B → DiskFacts) where
  pub since_itself : (v : View cache_facts backing_facts)
      → Since (m cache_facts backing_facts) v (world cache_facts backing_facts v)
  since_itself v = record { others = []; is = refl; follow = tt; foreign = λ k d lt. absurd (omega (arith, lt)) }

  -- the claim has the range that the seat noted
  pub claim_range : (v : View cache_facts backing_facts) → IsCoreSeat cache_facts backing_facts v
      → OfClaim cache_facts backing_facts v
      (λ o c. range_of c ≡ (note cache_facts backing_facts v).range)
  claim_range v seat o is course = (note_since cache_facts backing_facts v
      (world cache_facts backing_facts v) (seen_from o (world cache_facts backing_facts v)) seat.seat.live
      (since_itself v) (inr (o, record { is = refl; origin = is; course = course }))).range

  in_leaf : (r : Range) (first count s : ℕ) (c : Claim) (cached : Cached) → range_of c ≡ r
      → cached.leaf.from ≤ r.first → r.first + r.count ≤ cached.leaf.end → Covers c s
      → (cached.leaf.from ≤ s) × (s < cached.leaf.end)
  in_leaf r first count s c cached is from end covers =
      let f = ap (λ (z : Range). z.first) is in
      let n = ap (λ (z : Range). z.count) is in
      let a = covers.0 in
      let b = covers.1 in (omega arith, omega arith)

  module _ (p : PartsView (CorePart C B)) (v : View cache_facts backing_facts) (h : Hand C B)
      (works : Works cache_facts backing_facts p v h)
      (cached_run : are_plain cache_facts backing_facts v.run.start ≡ false)
      (number slot : ℕ) (cached : Cached)
      (has : HasLeaf h number (note cache_facts backing_facts v).range.first
      (note cache_facts backing_facts v).range.count slot cached) where
    leaves_in : 6 ≤ has.hand.part × AreLeaves (has.hand.part - 6) has.hand.cache (world cache_facts backing_facts v)
    leaves_in = some_of (λ l. (6 ≤ l.part) × AreLeaves (l.part - 6) l.cache (world cache_facts backing_facts v))
        h.leaves has.hand has.is works.stand.leaves

    holds : Holds v.parts has.hand.part
    holds = subst (λ ks. Holds ks has.hand.part) (sym works.parts) (holds_leaves h has.hand has.is)

    pub may_look : MayDo cache_facts backing_facts v (deed.Look number)
    may_look x y at told =
        let seen = at.from (is_plain_at cache_facts backing_facts v x at.since ∙ cached_run) in
        let on = (at.stand has.hand.part (part.Leaves has.hand.cache) holds leaves_in).1 in
        can_alone y v.first (deed.Look number) (flow.Learn (flow.Look number)) (low cache_facts backing_facts v works.seat)
        refl refl (record {
          heard = at.running refl;
          steps = tt;
          can = λ s covers. can_see x y seen.0 seen.1 on at.note.range s covers;
        }) tt tt tt tt
      where
        can_see : (x y : World) (o : Origin) → IsSeenFrom o x y → AreLeaves (has.hand.part - 6) has.hand.cache x
            → (note_of y v.first).range ≡ (note cache_facts backing_facts v).range
            → (s : ℕ) → Covers (claim_of (data_of y) v.first) s → (data_of y).books.index.leaf s ≡ number
        can_see x y o seen on range = subst (λ (z : World). (note_of z v.first).range ≡ (note cache_facts backing_facts v).range
            → (s : ℕ) → Covers (claim_of (data_of z) v.first) s → (data_of z).books.index.leaf s ≡ number)
            (sym seen.is)
            (λ r s covers.
            let inside = in_leaf (note cache_facts backing_facts v).range 0 0 s
            (claim_of (data_of (seen_from o x)) v.first) cached r has.from has.end covers in
            slot_of (has.hand.part - 6) has.hand.cache x o on seen.origin seen.course slot cached has.at s
            inside.0 inside.1 ∙ has.number_is) range

    -- what others leave of the leaf until the look
    leaves_at : (x : World) → Since (m cache_facts backing_facts) v x
        → AreLeaves (has.hand.part - 6) has.hand.cache x
    leaves_at x since = (held (m cache_facts backing_facts) (framed cache_facts backing_facts) v x
        has.hand.part (part.Leaves has.hand.cache) works.seat.seat since holds leaves_in).1

    saw_leaf : (w : View cache_facts backing_facts)
        → Did cache_facts backing_facts (Some (deed.Look number)) v w
        → OfClaim cache_facts backing_facts w (λ o c. HasLooked cached.leaf c)
    saw_leaf w did = claim_committed cache_facts backing_facts v w (deed.Look number) works.seat
        (λ o c. range_of c ≡ (note cache_facts backing_facts v).range) (λ o c. HasLooked cached.leaf c) did
        (λ o is course r. subst (HasLooked cached.leaf)
        (sym (looked_claim o.opening (replay o did.is.before.log) v.first number)) (record {
          looked = refl;
          sight = λ s covers.
              let inside = in_leaf (note cache_facts backing_facts v).range 0 0 s
              (claim_from o did.is.before.log v.first) cached r has.from has.end covers in
              sight_of (has.hand.part - 6) has.hand.cache did.is.before o
              (leaves_at did.is.before did.is.since) is course slot cached has.at s inside.0 inside.1;
        })) (claim_range v works.seat)

    -- the buckets in hand, and what others leave of them until then
    buckets_at : (b : BucketsPart) → h.buckets ≡ Some b → (x : World)
        → Since (m cache_facts backing_facts) v x → AreBuckets b x
    buckets_at b is_b x since = (held (m cache_facts backing_facts) (framed cache_facts backing_facts) v x
        2 (part.Buckets b) works.seat.seat since
        (subst (λ ks. Holds ks 2) (sym works.parts) (holds_buckets h b is_b))
        (refl, some_of (λ q. AreBuckets q (world cache_facts backing_facts v)) h.buckets b is_b works.stand.buckets)).1

    saw_uses : (b : BucketsPart) → h.buckets ≡ Some b → (w : View cache_facts backing_facts)
        → Did cache_facts backing_facts (Some (deed.Look number)) v w
        → OfClaim cache_facts backing_facts w (λ o c. KnowsUses o b.buckets c)
    saw_uses b is_b w did = claim_committed cache_facts backing_facts v w (deed.Look number) works.seat
        (λ o c. range_of c ≡ (note cache_facts backing_facts v).range) (λ o c. KnowsUses o b.buckets c) did
        (λ o is course r.
        let there = buckets_at b is_b did.is.before did.is.since in
        subst (KnowsUses o b.buckets)
        (sym (looked_claim o.opening (replay o did.is.before.log) v.first number)) (record {
          cut = (there o is course).cut;
          data_from = (there o is course).data_from;
          uses = λ s q r covers at bucket within same. uses_of b did.is.before o there
              is course s q r at bucket within same;
        })) (claim_range v works.seat)

    fresh_look : (w : View cache_facts backing_facts)
        → Did cache_facts backing_facts (Some (deed.Look number)) v w
        → OfClaim cache_facts backing_facts w (λ o c. (s : ℕ) → c.from_cache s ≡ None)
    fresh_look w did = claim_committed cache_facts backing_facts v w (deed.Look number) works.seat
        (λ o c. range_of c ≡ (note cache_facts backing_facts v).range)
        (λ o c. (s : ℕ) → c.from_cache s ≡ None) did
        (λ o is course r s. ap (λ (c : Claim). c.from_cache s)
        (looked_claim o.opening (replay o did.is.before.log) v.first number)) (claim_range v works.seat)

    pub knows_look : (b : BucketsPart) → h.buckets ≡ Some b → (w : View cache_facts backing_facts)
        → Did cache_facts backing_facts (Some (deed.Look number)) v w
        → OfClaim cache_facts backing_facts w (λ o c. Knows o cached.leaf b.buckets (λ s. None) c)
    knows_look b is_b w did o is course = record {
      look = saw_leaf w did o is course;
      uses = saw_uses b is_b w did o is course;
      read_is = fresh_look w did o is course;
    }
