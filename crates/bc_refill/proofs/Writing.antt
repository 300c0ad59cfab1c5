-- Sets of a chain, written one behind the other.
use Rattle.std.proofs.Common.{◌≡◌, ◌≢◌, ℕ, zero, suc, ◌+◌, ◌-◌, ◌<◌, ◌≤◌, false, List, [], ◌∷◌, length, None, Some, refl, sym, ap, ◌∙◌, subst, arith}
use Rattle.std.proofs.lemmas.List.Elements.{All-get_or}
use Rattle.std.specs.Prelude.{All, slice_index}
use Rattle.bc_alloc.proofs.Times.{by_test}
use Rattle.bc_alloc.specs.Reserve.{IsDistinct}
use Rattle.bc_disk.specs.Chain.{sets_in_chain}
use Rattle.bc_disk.specs.Disk.{DiskFacts}
use Rattle.bc_disk.specs.declared.gens.BucketRecord.{BucketRecord}
use Rattle.bc_disk.specs.declared.geometry.Geometry.{Geometry}
use Rattle.bc_events.specs.Run as core
use Rattle.bc_events.specs.declared.event.Deed.{Deed}
use Rattle.bc_events.specs.declared.event.Event.{Event}
use Rattle.bc_facts.specs.Seen.{counted, seen_prio}
use Rattle.bc_new_chain.proofs.of_bc_chain.of_bc_hand.Knowing.{View, m}
use Rattle.bc_new_chain.proofs.of_bc_chain.of_bc_place.Knowing.{known_changed}
use Rattle.bc_new_chain.proofs.of_bc_held.Keeping.{keeps_deed as held_deed, keeps_waited as held_waited}
use Rattle.bc_new_chain.specs.Put.{IsChainCause}
use Rattle.bc_new_chain.specs.bc_chain.Written.{HasBucketsAndCache, HasLostSet, HasWrittenSet, IsPart, lost_of, number_of, write_of}
use Rattle.bc_new_chain.specs.bc_chained.Chained.{AreForChain, IsSetOf, next_of}
use Rattle.bc_new_chain.specs.bc_chained.bc_chains.Written.{IsForChain, IsMade}
use Rattle.bc_new_chain.specs.bc_hand.Seats.{Did, IsCoreSeat, by, kinds, world}
use Rattle.bc_new_chain.specs.bc_hand.declared.error.StepError.{StepError}
use Rattle.bc_new_chain.specs.bc_hand.declared.error.StepError.TheVariants as error
use Rattle.bc_new_chain.specs.bc_hand.declared.hand.Hand.{Hand}
use Rattle.bc_new_chain.specs.bc_held.Taken.{KeepsHeld}
use Rattle.bc_new_chain.specs.bc_machine.Standing.{origin_before}
use Rattle.bc_new_chain.specs.bc_machine.World.{FromEach, Origin, World, replay}
use Rattle.bc_parts.specs.Seat.{Holds}
use Rattle.bc_refill.proofs.Holding.{const_on}
use Rattle.bc_refill.proofs.Going.{IsCut}
use Rattle.bc_refill.proofs.Lists.{differ, times_there}
use Rattle.bc_refill.specs.Hands.{HasAll}
use Rattle.bc_refill.specs.Sets.{HaveNotWritten, HaveWritten}
use Rattle.bc_refill.specs.Taken.{IsWithin}
use Rattle.bc_seats.proofs.Knowing.{still}
use Rattle.bc_seats.specs.Seats.{Since}
use Rattle.bc_shares.proofs.Law.{law_buckets}
use Rattle.bc_shares.specs.Shares.{BucketsShare}
use Rattle.bc_shares.specs.Touched.{touches_buckets}

-- ---- buckets for a chain

-- an event that touches no buckets
each_event : (i : ℕ) (new : List ℕ) (o : Origin) (st : core.State) (e : Event)
    → core.IsEnabled o.opening st e → touches_buckets e.deed ≡ false → AreForChain i new o st
    → AreForChain i new o (core.after o.opening st e)
each_event i new o st e on off h n some =
    let its = h n some in
    let same = law_buckets o.opening st e on off in
    let q = n - o.opening.machine.before in (
      its.0,
      record {
        inside = its.1.inside;
        held = ap (λ (z : BucketsShare). z.shelf q) same.share ∙ its.1.held;
        unnamed = ap (λ (z : BucketsShare). z.chain q) same.share ∙ its.1.unnamed;
      },
    )

-- in the order of the list
apart_at : (g : Geometry) (new : List ℕ) (j k : ℕ) → All (IsWithin g) new → IsDistinct new
    → j < k → k < length new → counted g (slice_index new j) ≢ number_of g (slice_index new k)
apart_at g new j k within once below inside same =
    let first = (All-get_or (IsWithin g) new j 0 (omega (arith, below, inside)) within).low in
    let second = (All-get_or (IsWithin g) new k 0 inside within).low in
    differ new j k once below inside (omega (arith, same, first, second))

module _ {C B : Type 0} (cache_facts : C → DiskFacts) (backing_facts : B → DiskFacts) where
  each_since : (v : View cache_facts backing_facts) (x : World) (i : ℕ) (new : List ℕ)
      → Holds v.parts 2 → Since (m cache_facts backing_facts) v x
      → FromEach (world cache_facts backing_facts v) (AreForChain i new)
      → FromEach x (AreForChain i new)
  each_since v x i new buckets since h = still (m cache_facts backing_facts) v x
      (λ y. FromEach y (AreForChain i new))
      (λ y e may foreign known o is course. each_event i new o (replay o y.log) e
      course.0.enabled (foreign.1 2 buckets) (known o (origin_before y e o is) course.2)) since h

  pub each_on : (v w : View cache_facts backing_facts) (d : Deed) (i : ℕ) (new : List ℕ)
      → Holds v.parts 2 → touches_buckets d ≡ false → Did cache_facts backing_facts (Some d) v w
      → FromEach (world cache_facts backing_facts v) (AreForChain i new)
      → FromEach (world cache_facts backing_facts w) (AreForChain i new)
  each_on v w d i new buckets off did h = known_changed cache_facts backing_facts v w d
      (AreForChain i new) (AreForChain i new) did
      (λ o is course on before. each_event i new o (replay o did.is.before.log) (by v.first d) on off
      before) (each_since v did.is.before i new buckets did.is.since h)

  pub each_waited : (v w : View cache_facts backing_facts) (i : ℕ) (new : List ℕ)
      → Holds v.parts 2 → Did cache_facts backing_facts None v w
      → FromEach (world cache_facts backing_facts v) (AreForChain i new)
      → FromEach (world cache_facts backing_facts w) (AreForChain i new)
  each_waited v w i new buckets did h = each_since v (world cache_facts backing_facts w) i new
      buckets did.is.since h

  -- ---- one more set

  pub written_more : (g : Geometry) (rs : List BucketRecord) (new : List ℕ) (part n at : ℕ)
      (u v w : View cache_facts backing_facts) → at ≡ part + n
      → HaveWritten cache_facts backing_facts g rs new part n u v
      → HasWrittenSet cache_facts backing_facts g rs (slice_index new at) at (next_of new at) v w
      → HaveWritten cache_facts backing_facts g rs new part (suc n) u w
  written_more g rs new part zero at u v w is had more =
      let here : at ≡ part = omega (arith, is) in (
        w,
        subst (λ (x : View cache_facts backing_facts). HasWrittenSet cache_facts backing_facts g rs
            (slice_index new part) part (next_of new part) x w) had
            (subst (λ k. HasWrittenSet cache_facts backing_facts g rs (slice_index new k) k
            (next_of new k) v w) here more),
        refl,
      )
  written_more g rs new part (suc n) at u v w is had more = (
    had.0,
    had.1,
    written_more g rs new (suc part) n at had.0 v w (omega (arith, is)) had.2 more,
  )

  pub set_made : (g : Geometry) (rs : List BucketRecord) (new : List ℕ) (at : ℕ)
      (v w : View cache_facts backing_facts)
      → HasWrittenSet cache_facts backing_facts g rs (slice_index new at) at (next_of new at) v w
      → IsSetOf g rs new at (world cache_facts backing_facts w)
  set_made g rs new at v w h = record { bytes = h.bytes; set = h.set; made = h.made }

  pub set_stays : (g : Geometry) (rs : List BucketRecord) (new : List ℕ) (part at next : ℕ)
      (v w : View cache_facts backing_facts) → All (IsWithin g) new → part < at
      → at < length new → FromEach (world cache_facts backing_facts w) (λ o st. IsDistinct new)
      → HasWrittenSet cache_facts backing_facts g rs (slice_index new at) at next v w
      → IsSetOf g rs new part (world cache_facts backing_facts v)
      → IsSetOf g rs new part (world cache_facts backing_facts w)
  set_stays g rs new part at next v w within below inside once h old = record {
    bytes = old.bytes;
    set = old.set;
    made = by_test (counted g (slice_index new part)) (number_of g (slice_index new at))
        (λ t. FromEach (world cache_facts backing_facts w) (IsMade
        (counted g (slice_index new part)) part (seen_prio g part old.bytes)))
        (λ same o is course. absurd (apart_at g new part at within (once o is course) below inside
        same))
        (λ ne. h.others (counted g (slice_index new part)) part (seen_prio g part old.bytes) ne
        old.made);
  }

  -- ---- what a write leaves

  pub held_written : (g : Geometry) (rs : List BucketRecord) (bucket part next : ℕ)
      (v w : View cache_facts backing_facts) → IsCoreSeat cache_facts backing_facts v
      → HasWrittenSet cache_facts backing_facts g rs bucket part next v w
      → KeepsHeld cache_facts backing_facts v w
  held_written g rs bucket part next v w seat h = held_deed cache_facts backing_facts v w
      (write_of g bucket part h.values) seat (λ q. refl) refl h.did

  pub held_lost : (e : StepError) (g : Geometry) (rs : List BucketRecord) (bucket part next : ℕ)
      (v w : View cache_facts backing_facts) → IsCoreSeat cache_facts backing_facts v
      → HasLostSet cache_facts backing_facts e g rs bucket part next v w
      → KeepsHeld cache_facts backing_facts v w
  held_lost (error.Fault device) g rs bucket part next v w seat h = held_deed cache_facts
      backing_facts v w (lost_of g bucket part h.1.1) seat (λ q. refl) refl h.1.4
  held_lost (error.Halted device) g rs bucket part next v w seat h = held_waited cache_facts
      backing_facts None v w seat h.1.is
  held_lost error.Memory g rs bucket part next v w seat h = absurd h

  pub each_lost : (e : StepError) (g : Geometry) (rs : List BucketRecord) (bucket part next : ℕ)
      (v w : View cache_facts backing_facts) (i : ℕ) (new : List ℕ) → Holds v.parts 2
      → HasLostSet cache_facts backing_facts e g rs bucket part next v w
      → FromEach (world cache_facts backing_facts v) (AreForChain i new)
      → FromEach (world cache_facts backing_facts w) (AreForChain i new)
  each_lost (error.Fault device) g rs bucket part next v w i new buckets h = each_on v w
      (lost_of g bucket part h.1.1) i new buckets refl h.1.4
  each_lost (error.Halted device) g rs bucket part next v w i new buckets h =
      each_waited v w i new buckets h.1
  each_lost error.Memory g rs bucket part next v w i new buckets h = absurd h

  pub first_lost : (e : StepError) (g : Geometry) (rs : List BucketRecord)
      (bucket part next : ℕ) (v w : View cache_facts backing_facts)
      → HasLostSet cache_facts backing_facts e g rs bucket part next v w → w.first ≡ v.first
  first_lost (error.Fault device) g rs bucket part next v w h = h.1.4.is.same.first
  first_lost (error.Halted device) g rs bucket part next v w h = h.1.is.same.first
  first_lost error.Memory g rs bucket part next v w h = absurd h

  pub spent_lost : (e : StepError) (g : Geometry) (rs : List BucketRecord)
      (bucket part next : ℕ) (v w : View cache_facts backing_facts)
      → HasLostSet cache_facts backing_facts e g rs bucket part next v w
      → v.promises ≤ w.promises + 1
  spent_lost (error.Fault device) g rs bucket part next v w h = let spent = h.1.4.is.promises in
      omega (arith, spent)
  spent_lost (error.Halted device) g rs bucket part next v w h = let same = h.1.is.promises in
      omega (arith, same)
  spent_lost error.Memory g rs bucket part next v w h = absurd h

-- ---- hands

abbrev pub WithCache : {C B : Type 0} → Hand C B → Hand C B → Type 0
WithCache h k = k ≡ record h { cache = k.cache }

pub cache_then : {C B : Type 0} (h k l : Hand C B) → WithCache h k → WithCache k l → WithCache h l
cache_then h k l first second = second
    ∙ ap (λ (x : Hand _ _). record x { cache = l.cache }) first

pub all_with : {C B : Type 0} (g : Geometry) (h k : Hand C B) → WithCache h k
    → HasBucketsAndCache k → HasAll g h → HasAll g k
all_with g h k rest both all = record {
  buckets = both.buckets;
  journal = all.journal;
  is_journal = ap (λ (x : Hand _ _). x.journal) rest ∙ all.is_journal;
  divided = all.divided;
  cache = both.cache;
}

pub kinds_with : {C B : Type 0} (g : Geometry) (h k : Hand C B) → WithCache h k → HasAll g h
    → HasAll g k → kinds k ≡ kinds h
kinds_with g h k rest was is = ap kinds rest
    ∙ ap (λ b. record (kinds h) { cache = b }) (is.cache ∙ sym was.cache)

-- ---- the set at a place

past : (ns : List ℕ) (k : ℕ) → length ns ≤ k → slice_index ns k ≡ 0
past [] k over = refl
past (n ∷ ns) zero over = absurd (omega (arith, over))
past (n ∷ ns) (suc k) over = past ns k (omega (arith, over))

-- the next one is named just where there is one
last_part : (g : Geometry) (new : List ℕ) (i many next : ℕ) → i < length new → length new ≡ many
    → All (IsWithin g) new → next ≡ next_of new i → next ≡ 0 → i + 1 ≡ many
last_part g new i many next below long within is none = by_test (i + 1) many (λ t. i + 1 ≡ many)
    (λ same. same)
    (λ no. let inside : i + 1 < length new = omega (arith, no, below, long) in
    let low = (All-get_or (IsWithin g) new (i + 1) 0 inside within).low in
    let first = g.first_behind_super in
    let here : slice_index new (i + 1) ≡ 0 = sym is ∙ none in
    absurd (omega (arith, low, first, here)))

pub is_part : (g : Geometry) (new : List ℕ) (i : ℕ) → i < length new
    → length new ≡ sets_in_chain g → All (IsWithin g) new → (next : ℕ) → next ≡ next_of new i
    → IsPart g (slice_index new i) i next
is_part g new i below many within next is =
    let its = All-get_or (IsWithin g) new i 0 below within in record {
      some = let low = g.bucket_from in omega (arith, low);
      low = its.low;
      high = its.high;
      part_is = omega (arith, below, many);
      count = (
        (λ none. last_part g new i (sets_in_chain g) next below many within is none),
        (λ last. is ∙ past new (i + 1) (omega (arith, many, last))),
      );
    }

-- a part before, or this one
pub at_place : (P : ℕ → Type 0) (i j : ℕ) → j < i + 1 → (j < i → P j) → P i → P j
at_place P i j less before here = by_test j i (λ t. P j) (λ same. subst P (sym same) here)
    (λ no. before (omega (arith, less, no)))

module _ {C B : Type 0} (cache_facts : C → DiskFacts) (backing_facts : B → DiskFacts) where
  -- it was written into the bucket at its place, and names the next one
  pub written_at : (g : Geometry) (rs : List BucketRecord) (new : List ℕ) (i bucket next : ℕ)
      (v w : View cache_facts backing_facts) → bucket ≡ slice_index new i → next ≡ next_of new i
      → HasWrittenSet cache_facts backing_facts g rs bucket i next v w
      → HasWrittenSet cache_facts backing_facts g rs (slice_index new i) i (next_of new i) v w
  written_at g rs new i bucket next v w first second h =
      subst (λ n. HasWrittenSet cache_facts backing_facts g rs (slice_index new i) i n v w) second
      (subst (λ b. HasWrittenSet cache_facts backing_facts g rs b i next v w) first h)

  pub lost_at : (e : StepError) (g : Geometry) (rs : List BucketRecord) (new : List ℕ)
      (i bucket next : ℕ) (v w : View cache_facts backing_facts) → bucket ≡ slice_index new i
      → next ≡ next_of new i → HasLostSet cache_facts backing_facts e g rs bucket i next v w
      → HasLostSet cache_facts backing_facts e g rs (slice_index new i) i (next_of new i) v w
  lost_at e g rs new i bucket next v w first second h =
      subst (λ n. HasLostSet cache_facts backing_facts e g rs (slice_index new i) i n v w) second
      (subst (λ b. HasLostSet cache_facts backing_facts e g rs b i next v w) first h)

  pub for_chain_at : (g : Geometry) (new : List ℕ) (i first : ℕ)
      (v : View cache_facts backing_facts) → i < length new → v.first ≡ first
      → IsCut g (world cache_facts backing_facts v)
      → FromEach (world cache_facts backing_facts v) (AreForChain first new)
      → FromEach (world cache_facts backing_facts v)
      (IsForChain v.first (number_of g (slice_index new i)))
  for_chain_at g new i first v below same cut each o is course =
      subst (λ n. IsForChain n (number_of g (slice_index new i)) o
      (replay o (world cache_facts backing_facts v).log)) (sym same)
      (subst (λ n. IsForChain first (slice_index new i - n) o
      (replay o (world cache_facts backing_facts v).log)) (cut.before o is course)
      (each o is course (slice_index new i) (times_there new i below)).1)

  pub const_written : (K : Type 0) (g : Geometry) (rs : List BucketRecord) (new : List ℕ)
      (part n : ℕ) (v w : View cache_facts backing_facts) → IsCoreSeat cache_facts backing_facts v
      → HaveWritten cache_facts backing_facts g rs new part n v w
      → FromEach (world cache_facts backing_facts v) (λ o st. K)
      → FromEach (world cache_facts backing_facts w) (λ o st. K)
  const_written K g rs new part zero v w seat is h =
      subst (λ (x : View cache_facts backing_facts). FromEach (world cache_facts backing_facts x)
      (λ o st. K)) (sym is) h
  const_written K g rs new part (suc n) v w seat is h =
      const_written K g rs new (suc part) n is.0 w is.1.did.seat is.2
      (const_on cache_facts backing_facts K (Some (write_of g (slice_index new part) part
      is.1.values)) v is.0 seat is.1.did h)

  -- why one isn't
  pub cause_lost : (e : StepError) (g : Geometry) (rs : List BucketRecord) (new : List ℕ)
      (v w : View cache_facts backing_facts)
      → HaveNotWritten cache_facts backing_facts e g rs new v w → IsChainCause e w.seen
  cause_lost (error.Fault device) g rs new v w h = h.lost.0
  cause_lost (error.Halted device) g rs new v w h = h.lost.0
  cause_lost error.Memory g rs new v w h = absurd h.lost
