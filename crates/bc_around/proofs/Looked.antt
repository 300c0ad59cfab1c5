-- What a seat knows of a claim that it looked up, none of whose sectors has a key.
use Rattle.std.proofs.Common.{◌≡◌, inl, inr, ℕ, ◌+◌, ◌<◌, ◌≤◌, Bool, List, [], ◌∷◌, ◌++◌, Option, Some, None, refl, sym, ap, ◌∙◌, subst, arith}
use Rattle.bc_disk.specs.declared.disk.Device.TheVariants.{Cache}
use Rattle.bc_events.specs.declared.event.Failure.TheVariants as failure
use Rattle.bc_flush.specs.bc_machine.Note.{Note, note_after}
use Rattle.std.specs.Prelude.{Err, IfErr, Ok, OnErr, OnOk, Result}
use Rattle.bc_around.specs.Bare.{AreBare, AreBareUpTo}
use Rattle.bc_around.specs.Look.{HasFoundKey, HasFreeLeaf, HasKeyedLeaf, HasLookedFree, IsHaltedAs, NotLooked, SeesNone}
use Rattle.bc_around.proofs.Counting.{come_looked, keys_at}
use Rattle.bc_books.specs.Index.{Pointer}
use Rattle.bc_bucket.specs.Buckets.{Buckets}
use Rattle.bc_cache.specs.declared.slots.Cached.{Cached}
use Rattle.bc_data.specs.Seats.{Claim, Covers}
use Rattle.bc_flush.specs.bc_deed.Asked.{IsHalted}
use Rattle.bc_flush.specs.bc_deed.Flushed.{HasDone}
use Rattle.bc_flush.proofs.of_bc_deed.Sequence.{done_both, done_one}
use Rattle.bc_disk.specs.Disk.{DiskFacts}
use Rattle.bc_events.specs.declared.event.Deed.{Deed}
use Rattle.bc_events.specs.declared.event.Deed.TheVariants as deed
use Rattle.bc_flush.specs.bc_fetch.Fetch.{HasReadOne, HasStoppedAt, node_read}
use Rattle.bc_flush.specs.bc_fetch.declared.error.LeafError.{LeafError}
use Rattle.bc_flush.specs.bc_fetch.declared.error.LeafError.TheVariants as leaf
use Rattle.bc_flush.specs.Durable.{AreDurable, HaveComeIn}
use Rattle.bc_flush.proofs.Counting.{come_lasts}
use Rattle.bc_flush.specs.bc_hand.Seats.{Did, IsCoreSeat, Works, note, world}
use Rattle.bc_flush.specs.bc_hand.declared.error.StepError.{StepError}
use Rattle.bc_flush.specs.bc_hand.declared.error.StepError.TheVariants as step
use Rattle.bc_flush.specs.bc_hand.declared.hand.Hand.{Hand}
use Rattle.bc_flush.proofs.of_bc_hand.Knowing.{View, m}
use Rattle.bc_flush.specs.bc_machine.Frame.{Range, range_of}
use Rattle.bc_flush.specs.bc_machine.World.{FromEach, Origin, World, are_plain}
use Rattle.bc_flush.specs.bc_machine.declared.part.CorePart.{CorePart}
use Rattle.bc_flush.specs.bc_machine.declared.part.BucketsPart.{BucketsPart}
use Rattle.bc_meta.specs.Keys.{Ref}
use Rattle.bc_parts.specs.Seat.{PartsView}
use Rattle.bc_flush.specs.bc_reader.Look.{HasBuckets, IsOver, IsWay}
use Rattle.bc_flush.proofs.of_bc_reader.Finding.{leaf_moved, note_done, then_waited, waited_done, way_note, way_of}
use Rattle.bc_flush.proofs.of_bc_reader.Looking.{leaf_over, over_same, over_still, range_looked, range_still}
use Rattle.bc_seats.specs.Seats.{Since, Waited}
use Rattle.bc_seats.proofs.Knowing.{lasts}
use Rattle.bc_flush.specs.bc_sight.Sight.{HasLeaf, Knows, OfClaim, claim_from}
use Rattle.bc_flush.proofs.of_bc_sight.Claims.{claim_waited}
use Rattle.bc_flush.proofs.of_bc_sight.Looking.{claim_range}
use Rattle.bc_whole.specs.Together.{ref_of}

-- what points nowhere by its reference has no pointer
no_pointer : (o : Option Pointer) → ref_of o ≡ None → o ≡ None
no_pointer None is = refl
no_pointer (Some r) is = absurd (cc)

no_sight : (o : Option Pointer) (said : Option Ref) → ref_of o ≡ said → said ≡ None → o ≡ None
no_sight o said is none = no_pointer o (is ∙ none)

same_or_less : (n : ℕ) → n ≤ n
same_or_less n = omega arith

-- a sector of the range is one of a claim of it
covers_over : (c : Claim) (r : Range) (first count s : ℕ) → range_of c ≡ r → IsOver first count r
    → first ≤ s → s < first + count → Covers c s
covers_over c r first count s is over low high =
    let f = ap (λ (z : Range). z.first) is in
    let n = ap (λ (z : Range). z.count) is in
    let a = over.from in
    let b = over.long in (omega arith, omega arith)

pub free_moved : {C B : Type 0} (a b : Hand C B) (number first count : ℕ) → b.leaves ≡ a.leaves
    → HasFreeLeaf a number first count → HasFreeLeaf b number first count
free_moved a b number first count same h = record {
  slot = h.slot;
  cached = h.cached;
  leaf = leaf_moved a b number first count h.slot h.cached same h.leaf;
  free = h.free;
}

module _ {C B : Type 0} (cache_facts : C → DiskFacts) (backing_facts : B → DiskFacts) where
  abbrev seen : View cache_facts backing_facts → World
  seen v = world cache_facts backing_facts v

  -- ---- what it knows

  pub sees_looked : (v w : View cache_facts backing_facts) (number first count : ℕ)
      (h : Hand C B) (buckets : Buckets)
      → Did cache_facts backing_facts (Some (deed.Look number)) v w
      → IsOver first count (note cache_facts backing_facts w).range
      → (free : HasFreeLeaf h number first count)
      → OfClaim cache_facts backing_facts w
      (λ o c. Knows o free.cached.leaf buckets (λ _. None) c)
      → SeesNone cache_facts backing_facts first count w
  sees_looked v w number first count h buckets did over free knows = record {
    number = keys_at (seen w) w.first;
    bare = λ o is course s low high.
        let c = claim_from o (seen w).log w.first in
        let known = knows o is course in
        let covers = covers_over c (note cache_facts backing_facts w).range first count s
        (claim_range cache_facts backing_facts w did.seat o is course) over low high in inl (
          known.look.looked,
          no_sight (c.sight s) _ (known.look.sight s covers) (free.free s low high),
          same_or_less c.keys,
        );
    come = subst (λ i. FromEach (seen w) (HaveComeIn (keys_at (seen w) i)))
        (sym did.is.same.first)
        (subst (λ x. FromEach x (HaveComeIn (keys_at x v.first))) (sym did.is.state)
        (come_looked did.is.before v.first number));
  }

  come_since : (v : View cache_facts backing_facts) (x : World) (n : Origin → ℕ)
      → Since (m cache_facts backing_facts) v x
      → FromEach (seen v) (HaveComeIn n) → FromEach x (HaveComeIn n)
  come_since v x n since h = lasts (m cache_facts backing_facts) v x
      (λ (y : World). FromEach y (HaveComeIn n)) (λ y e may on. come_lasts n y e on) since h

  pub sees_waited : (v w : View cache_facts backing_facts) (first count : ℕ)
      → IsCoreSeat cache_facts backing_facts v → Waited (m cache_facts backing_facts) v w
      → SeesNone cache_facts backing_facts first count v
      → SeesNone cache_facts backing_facts first count w
  sees_waited v w first count seat waited h = record {
    number = h.number;
    bare = claim_waited cache_facts backing_facts v w seat
        (λ o c. AreBareUpTo (h.number o) first count c) waited h.bare;
    come = come_since v (seen w) h.number waited.since h.come;
  }

  -- once that is durable no key stands there in any index that a crash may leave
  pub bare_seen : (v w : View cache_facts backing_facts) (first count : ℕ)
      → IsCoreSeat cache_facts backing_facts v → Waited (m cache_facts backing_facts) v w
      → SeesNone cache_facts backing_facts first count v
      → ((n : Origin → ℕ) → FromEach (seen v) (HaveComeIn n) → FromEach (seen w) (AreDurable n))
      → AreBare cache_facts backing_facts first count w
  bare_seen v w first count seat waited h durable = record {
    number = h.number;
    bare = claim_waited cache_facts backing_facts v w seat
        (λ o c. AreBareUpTo (h.number o) first count c) waited h.bare;
    durable = durable h.number h.come;
  }

  -- ---- the look

  -- t: before; u: with the buckets; v: behind the look; w: now
  pub looked_there : (number : ℕ) (t u v w : View cache_facts backing_facts)
      → IsCoreSeat cache_facts backing_facts u → Waited (m cache_facts backing_facts) t u
      → Did cache_facts backing_facts (Some (deed.Look number)) u v
      → IsCoreSeat cache_facts backing_facts w → Waited (m cache_facts backing_facts) v w
      → HasDone cache_facts backing_facts (deed.Look number ∷ []) t w
  looked_there number t u v w seat first did last then =
      then_waited cache_facts backing_facts (deed.Look number ∷ []) t v w
      (done_both cache_facts backing_facts [] (deed.Look number ∷ []) t u v
      (waited_done cache_facts backing_facts t u seat first)
      (done_one cache_facts backing_facts (Some (deed.Look number)) u v did))
      (waited_done cache_facts backing_facts v w last then)

  pub halted_there : (e : StepError) (t u v w : View cache_facts backing_facts)
      → IsCoreSeat cache_facts backing_facts u → Waited (m cache_facts backing_facts) t u
      → IsHalted e v.seen → Did cache_facts backing_facts None u v
      → IsCoreSeat cache_facts backing_facts w → Waited (m cache_facts backing_facts) v w
      → IsHaltedAs cache_facts backing_facts e t w
  halted_there (step.Fault d) t u v w seat first halted did last then = absurd halted
  halted_there (step.Halted d) t u v w seat first halted did last then = record {
    device = d;
    is = refl;
    halted = (
      v,
      done_both cache_facts backing_facts [] [] t u v
          (waited_done cache_facts backing_facts t u seat first)
          (done_one cache_facts backing_facts None u v did),
      halted,
      waited_done cache_facts backing_facts v w last then,
    );
  }
  halted_there step.Memory t u v w seat first halted did last then = absurd halted

  -- the same, whatever came of the look
  pub looked_in : {A E : Type 0} (r : Result A E) (number : ℕ)
      (t u v w : View cache_facts backing_facts)
      → IsCoreSeat cache_facts backing_facts u → Waited (m cache_facts backing_facts) t u
      → IsCoreSeat cache_facts backing_facts w → Waited (m cache_facts backing_facts) v w
      → OnOk r (Did cache_facts backing_facts (Some (deed.Look number)) u v)
      → OnOk r (HasDone cache_facts backing_facts (deed.Look number ∷ []) t w)
  looked_in (Ok a) number t u v w seat first last then did =
      looked_there number t u v w seat first did last then
  looked_in (Err e) number t u v w seat first last then did = tt

  pub halted_in : {A : Type 0} (r : Result A StepError) (t u v w : View cache_facts backing_facts)
      → IsCoreSeat cache_facts backing_facts u → Waited (m cache_facts backing_facts) t u
      → IsCoreSeat cache_facts backing_facts w → Waited (m cache_facts backing_facts) v w
      → IfErr r (λ e. IsHalted e v.seen) → OnErr r (Did cache_facts backing_facts None u v)
      → IfErr r (λ e. IsHaltedAs cache_facts backing_facts e t w)
  halted_in (Ok a) t u v w seat first last then halted did = tt
  halted_in (Err e) t u v w seat first last then halted did =
      halted_there e t u v w seat first halted did last then

  pub over_waited : (first count : ℕ) (t u : View cache_facts backing_facts)
      → IsCoreSeat cache_facts backing_facts u → Waited (m cache_facts backing_facts) t u
      → IsOver first count (note cache_facts backing_facts t).range
      → IsOver first count (note cache_facts backing_facts u).range
  over_waited first count t u seat waited over =
      over_still cache_facts backing_facts first count t u
      (waited_done cache_facts backing_facts t u seat waited) over

  pub sees_in : {A E : Type 0} (r : Result A E) (number first count : ℕ)
      (u v w : View cache_facts backing_facts) (h : Hand C B) (b : HasBuckets h)
      → HasFreeLeaf h number first count
      → IsOver first count (note cache_facts backing_facts u).range
      → Waited (m cache_facts backing_facts) v w
      → OnOk r (Did cache_facts backing_facts (Some (deed.Look number)) u v)
      → OnOk r ((slot : ℕ) (cached : Cached) (k : BucketsPart)
      → HasLeaf h number (note cache_facts backing_facts u).range.first
      (note cache_facts backing_facts u).range.count slot cached → h.buckets ≡ Some k
      → OfClaim cache_facts backing_facts v (λ o c. Knows o cached.leaf k.buckets (λ _. None) c))
      → OnOk r (SeesNone cache_facts backing_facts first count w)
  sees_in (Ok a) number first count u v w h b free over gone did knows =
      sees_waited v w first count did.seat gone
      (sees_looked u v number first count h b.part.buckets did
      (over_same (note cache_facts backing_facts u).range (note cache_facts backing_facts v).range
      first count (range_looked cache_facts backing_facts number u v
      (done_one cache_facts backing_facts (Some (deed.Look number)) u v did)) over)
      free
      (knows free.slot free.cached b.part
      (leaf_over h (note cache_facts backing_facts u).range number first count free.slot free.cached
      over free.leaf) b.is))
  sees_in (Err e) number first count u v w h b free over gone did knows = tt

  -- ---- from the leaf on

  -- t: before; u: with the leaf; v: behind the look or its refusal; w: now
  module _ (p : PartsView (CorePart C B)) (first count number : ℕ)
      (t u v w : View cache_facts backing_facts) (h : Hand C B)
      (read : HasReadOne cache_facts backing_facts t u)
      (last : IsCoreSeat cache_facts backing_facts w)
      (gone : Waited (m cache_facts backing_facts) v w) where
    way : (ds : List Deed) × IsWay ds × HasDone cache_facts backing_facts ds t u
    way = way_of cache_facts backing_facts t u read

    then : HasDone cache_facts backing_facts [] v w
    then = waited_done cache_facts backing_facts v w last gone

    pub looked_free : Works cache_facts backing_facts p v h → HasFreeLeaf h number first count
        → HasDone cache_facts backing_facts (deed.Look number ∷ []) u v
        → HasLookedFree cache_facts backing_facts p first count t w
    looked_free works free done = record {
      number = number;
      way = way.0;
      is_way = way.1;
      at = v;
      hand = h;
      works = works;
      leaf = free;
      done = done_both cache_facts backing_facts way.0 (deed.Look number ∷ []) t u v way.2 done;
      then = then;
    }

  pub found_key : (p : PartsView (CorePart C B)) (first count number : ℕ)
      (t u w : View cache_facts backing_facts) (h : Hand C B)
      → HasReadOne cache_facts backing_facts t u
      → IsCoreSeat cache_facts backing_facts w → Waited (m cache_facts backing_facts) u w
      → Works cache_facts backing_facts p u h → HasKeyedLeaf h number first count
      → HasFoundKey cache_facts backing_facts p first count t w
  found_key p first count number t u w h read last gone works keyed =
      let way = way_of cache_facts backing_facts t u read in record {
        number = number;
        way = way.0;
        is_way = way.1;
        at = u;
        hand = h;
        works = works;
        leaf = keyed;
        done = way.2;
        then = waited_done cache_facts backing_facts u w last gone;
      }

  pub halted_look : (p : PartsView (CorePart C B)) (first count number : ℕ) (e : StepError)
      (t u v w : View cache_facts backing_facts) (h : Hand C B)
      → HasReadOne cache_facts backing_facts t u
      → IsCoreSeat cache_facts backing_facts w → Waited (m cache_facts backing_facts) v w
      → Works cache_facts backing_facts p u h → HasFreeLeaf h number first count
      → IsHaltedAs cache_facts backing_facts e u v
      → NotLooked cache_facts backing_facts p first count (leaf.Step e) t w
  halted_look p first count number e t u v w h read last gone works free halt =
      let way = way_of cache_facts backing_facts t u read in inr (record {
        cause = e;
        is = refl;
        number = number;
        way = way.0;
        is_way = way.1;
        at = u;
        hand = h;
        works = works;
        leaf = free;
        done = way.2;
        halt = record {
          device = halt.device;
          is = halt.is;
          halted = (
            halt.halted.0,
            halt.halted.1,
            halt.halted.2,
            done_both cache_facts backing_facts [] [] halt.halted.0 v w halt.halted.3
                (waited_done cache_facts backing_facts v w last gone),
          );
        };
      })

  -- on the way to the leaf, and at the look, the claim stays
  pub range_read : (t u : View cache_facts backing_facts) → HasReadOne cache_facts backing_facts t u
      → (note cache_facts backing_facts u).range ≡ (note cache_facts backing_facts t).range
  range_read t u read = let way = way_of cache_facts backing_facts t u read in
      ap (λ n. n.range) (way_note cache_facts backing_facts way.0 t u way.1 way.2)

  -- ---- what stays until then

  range_done : (d : Deed) (v w : View cache_facts backing_facts)
      → ((plain : Bool) (o : Note) → (note_after plain o d).range ≡ o.range)
      → HasDone cache_facts backing_facts (d ∷ []) v w
      → (note cache_facts backing_facts w).range ≡ (note cache_facts backing_facts v).range
  range_done d v w same h =
      ap (λ (n : Note). n.range) (note_done cache_facts backing_facts (d ∷ []) v w h)
      ∙ same (are_plain cache_facts backing_facts v.run.start) (note cache_facts backing_facts v)

  range_two : (u v w : View cache_facts backing_facts)
      → (note cache_facts backing_facts v).range ≡ (note cache_facts backing_facts u).range
      → HasDone cache_facts backing_facts [] v w
      → (note cache_facts backing_facts w).range ≡ (note cache_facts backing_facts u).range
  range_two u v w first then = range_still cache_facts backing_facts v w then ∙ first

  range_no_leaf : (first count : ℕ) (e : LeafError) (v w : View cache_facts backing_facts)
      → HasStoppedAt cache_facts backing_facts first count e v w
      → (note cache_facts backing_facts w).range ≡ (note cache_facts backing_facts v).range
  range_no_leaf first count (leaf.Step step.Memory) v w h = range_read v w h
  range_no_leaf first count (leaf.Step (step.Fault d)) v w h =
      range_done (deed.DeviceFault (failure.Read Cache)) v w (λ plain o. refl) h.1
  range_no_leaf first count (leaf.Step (step.Halted d)) v w h =
      range_two v h.0 w (range_still cache_facts backing_facts v h.0 h.1) h.3
  range_no_leaf first count leaf.Busy v w h = range_two v h.now w
      (range_two v h.at h.now (range_still cache_facts backing_facts v h.at h.way) h.did) h.then
  range_no_leaf first count leaf.Outside v w h = range_two v h.now w
      (range_two v h.at h.now (range_still cache_facts backing_facts v h.at h.way) h.did) h.then
  range_no_leaf first count leaf.Missing v w (inl h) =
      range_two v h.at w (range_still cache_facts backing_facts v h.at h.way) h.then
  range_no_leaf first count leaf.Missing v w (inr h) =
      range_two v h.at w (range_read v h.at h.read) h.then
  range_no_leaf first count (leaf.Node q e) v w h = range_two v h.now w
      (range_done (node_read h.range.ptr.offset) h.at h.now (λ plain o. refl) h.did
      ∙ range_still cache_facts backing_facts v h.at h.way) h.then

  pub range_not_looked : (p : PartsView (CorePart C B)) (first count : ℕ) (e : LeafError)
      (v w : View cache_facts backing_facts)
      → NotLooked cache_facts backing_facts p first count e v w
      → (note cache_facts backing_facts w).range ≡ (note cache_facts backing_facts v).range
  range_not_looked p first count e v w (inl h) = range_no_leaf first count e v w h
  range_not_looked p first count e v w (inr h) = range_two v h.halt.halted.0 w
      (range_two v h.at h.halt.halted.0
      (ap (λ (n : Note). n.range)
      (way_note cache_facts backing_facts h.way v h.at h.is_way h.done)) h.halt.halted.1)
      h.halt.halted.3

  range_look : (number : ℕ) (ds : List Deed) (v w : View cache_facts backing_facts) → IsWay ds
      → HasDone cache_facts backing_facts (ds ++ deed.Look number ∷ []) v w
      → (note cache_facts backing_facts w).range ≡ (note cache_facts backing_facts v).range
  range_look number ds v w (inl none) h = ap (λ (n : Note). n.range)
      (note_done cache_facts backing_facts (deed.Look number ∷ []) v w
      (subst (λ (l : List Deed). HasDone cache_facts backing_facts (l ++ deed.Look number ∷ []) v w)
      none h))
  range_look number ds v w (inr one) h = ap (λ (n : Note). n.range)
      (note_done cache_facts backing_facts (node_read one.0 ∷ deed.Look number ∷ []) v w
      (subst (λ (l : List Deed). HasDone cache_facts backing_facts (l ++ deed.Look number ∷ []) v w)
      one.1 h))

  module _ (p : PartsView (CorePart C B)) (first count : ℕ) (v w : View cache_facts backing_facts)
      (h : HasLookedFree cache_facts backing_facts p first count v w) where
    pub range_free : (note cache_facts backing_facts w).range
        ≡ (note cache_facts backing_facts v).range
    range_free = range_two v h.at w (range_look h.number h.way v h.at h.is_way h.done) h.then

    -- it stays the last look
    pub looked_on : (x : View cache_facts backing_facts) → HasDone cache_facts backing_facts [] w x
        → HasLookedFree cache_facts backing_facts p first count v x
    looked_on x then = record {
      number = h.number;
      way = h.way;
      is_way = h.is_way;
      at = h.at;
      hand = h.hand;
      works = h.works;
      leaf = h.leaf;
      done = h.done;
      then = done_both cache_facts backing_facts [] [] h.at w x h.then then;
    }
