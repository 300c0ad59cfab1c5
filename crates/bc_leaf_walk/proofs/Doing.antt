-- When a leaf may be walked, and what the buckets stand for behind it.
use Rattle.std.proofs.Common.{◌≡◌, ◌==◌, inl, inr, ℕ, ◌-◌, ◌^◌, ◌<◌, ◌≤◌, true, false, List, [], Option, Some, None, refl, sym, ap, ◌∙◌, subst}
use Rattle.std.specs.Prelude.{IfSome, slice_get}
use Rattle.bc_cache.specs.Fetch.{IsLeafIn}
use Rattle.bc_cache.specs.Slots.{HasLeaf, IsSlotOf}
use Rattle.bc_cache.specs.declared.slots.Cached.{Cached}
use Rattle.bc_disk.specs.Disk.{DiskFacts}
use Rattle.bc_events.specs.declared.event.Deed.TheVariants as deed
use Rattle.bc_events.specs.declared.event.MarkForm.TheVariants as mark
use Rattle.bc_leaf_walk.proofs.Walked.{has_walked}
use Rattle.bc_leaf_walk.specs.Pieces.{HasCounted}
use Rattle.bc_leaf_walk.specs.Steps.{HasLeafIn}
use Rattle.bc_mark.proofs.Doing.{may_mark}
use Rattle.bc_mark.proofs.InHand.{works_anew}
use Rattle.bc_mark.proofs.of_bc_hand.Knowing.{View, framed, m}
use Rattle.bc_mark.proofs.of_bc_place.Knowing.{before_since, buckets_since, known_committed}
use Rattle.bc_mark.proofs.of_bc_rounds.Rounds.{law_walked}
use Rattle.bc_mark.specs.bc_hand.Seats.{Did, MayDo, Works, numbers, with_leaves, with_part, world}
use Rattle.bc_mark.specs.bc_hand.declared.hand.Hand.{Hand}
use Rattle.bc_mark.specs.bc_hand.declared.hand.LeafHand.{LeafHand}
use Rattle.bc_mark.specs.bc_machine.Containers.{AreBucketsOf, IsLeafFor}
use Rattle.bc_mark.specs.bc_machine.World.{AreBuckets, AreLeaves, FromEach, World, are_plain, replay}
use Rattle.bc_mark.specs.bc_machine.declared.part.BucketsPart.{BucketsPart}
use Rattle.bc_mark.specs.bc_machine.declared.part.CorePart.{CorePart}
use Rattle.bc_mark.specs.bc_machine.declared.part.CorePart.TheVariants as part
use Rattle.bc_mark.specs.bc_place.Place.{HasBefore}
use Rattle.bc_node.specs.Leaf.{AreProperKeys, Leaf}
use Rattle.bc_parts.specs.Seat.{Holds, PartsView}
use Rattle.bc_seats.proofs.Knowing.{held}
use Rattle.bc_seats.specs.Seats.{Kept, Since}
use Rattle.bc_shares.specs.Shares.{books_of, leaf_share}

-- ---- what is in hand

behind : {A : Type 0} (n : ℕ) (o : Option A) (ks : List ℕ) (k : ℕ) → Holds ks k
    → Holds (with_part n o ks) k
behind n None ks k h = h
behind n (Some a) ks k h = inr h

here : {A : Type 0} (n : ℕ) (o : Option A) (a : A) (ks : List ℕ) → o ≡ Some a
    → Holds (with_part n o ks) n
here n None a ks is = absurd (cc)
here n (Some b) a ks is = inl refl

here_leaves : (o : Option LeafHand) (l : LeafHand) (ks : List ℕ) → o ≡ Some l
    → Holds (with_leaves o ks) l.part
here_leaves None l ks is = absurd (cc)
here_leaves (Some x) l ks is = let e : x ≡ l = cc in inl (ap (λ (y : LeafHand). y.part) (sym e))

holds_leaves : {C B : Type 0} (h : Hand C B) (l : LeafHand) → h.leaves ≡ Some l
    → Holds (numbers h) l.part
holds_leaves h l is = behind 5 h.backing _ l.part (behind 4 h.cache _ l.part
    (behind 3 h.journal _ l.part (behind 2 h.buckets _ l.part (behind 1 h.flight _ l.part
    (here_leaves h.leaves l (with_part 0 h.spine []) is)))))

holds_buckets : {C B : Type 0} (h : Hand C B) (p : BucketsPart) → h.buckets ≡ Some p
    → Holds (numbers h) 2
holds_buckets h p is = behind 5 h.backing _ 2 (behind 4 h.cache _ 2 (behind 3 h.journal _ 2
    (here 2 h.buckets p _ is)))

pub one_hand : (o : Option LeafHand) (a b : LeafHand) → o ≡ Some a → o ≡ Some b → a ≡ b
one_hand o a b x y = cc

one_part : (o : Option BucketsPart) (a b : BucketsPart) → o ≡ Some a → o ≡ Some b → a ≡ b
one_part o a b x y = cc

one_cached : (o : Option (Option Cached)) (a b : Cached) → o ≡ Some (Some a) → o ≡ Some (Some b)
    → a ≡ b
one_cached o a b x y = cc

-- whichever buckets are in hand with it
abbrev pub at_with : {C B : Type 0} (h : Hand C B) (o : Option BucketsPart) (slot number : ℕ)
    → HasLeafIn h slot number → HasLeafIn (record h { buckets = o }) slot number
at_with h o slot number at = record {
  leaves = at.leaves;
  is = at.is;
  cached = at.cached;
  there = at.there;
  number_is = at.number_is;
}

-- the slot has the leaf of that number
pub has_leaf : {C B : Type 0} (h : Hand C B) (slot number : ℕ) (at : HasLeafIn h slot number)
    (l : LeafHand) → h.leaves ≡ Some l → HasLeaf l.cache.slots slot number
has_leaf h slot number at l is =
    let same = one_hand h.leaves at.leaves l at.is is in record {
      cached = at.cached;
      there = subst (λ (y : LeafHand). slice_get y.cache.slots slot ≡ Some (Some at.cached)) same
          at.there;
      number_is = at.number_is;
    }

-- the leaf that was found is the one that is said to be there
pub same_leaf : {C B : Type 0} (h : Hand C B) (slot number : ℕ) (at : HasLeafIn h slot number)
    (l : LeafHand) → h.leaves ≡ Some l → (found : ℕ) → IsSlotOf l.cache.slots number found
    → (leaf : Leaf) → IsLeafIn l.cache.slots found leaf → leaf ≡ at.cached.leaf
same_leaf h slot number at l is found only leaf in_slot =
    let hand = one_hand h.leaves at.leaves l at.is is in
    let there = subst (λ (y : LeafHand). slice_get y.cache.slots slot ≡ Some (Some at.cached)) hand
    at.there in
    let same : slot ≡ found = only.only slot (has_leaf h slot number at l is) in
    sym in_slot.2 ∙ ap (λ (c : Cached). c.leaf) (one_cached (slice_get l.cache.slots found) in_slot.0
    at.cached in_slot.1
    (subst (λ n. slice_get l.cache.slots n ≡ Some (Some at.cached)) same there))

-- ---- the deed

module _ {C B : Type 0} (cache_facts : C → DiskFacts) (backing_facts : B → DiskFacts)
    (pv : PartsView (CorePart C B)) (v : View cache_facts backing_facts) (h : Hand C B) (p : BucketsPart)
    (is_p : h.buckets ≡ Some p) (works : Works cache_facts backing_facts pv v h)
    (cached : are_plain cache_facts backing_facts v.run.start ≡ false) where
  holds : Holds v.parts 2
  holds = subst (λ ks. Holds ks 2) (sym works.parts) (holds_buckets h p is_p)

  buckets_on : AreBuckets p (world cache_facts backing_facts v)
  buckets_on = go h.buckets is_p works.stand.buckets
    where
      go : (o : Option BucketsPart) → o ≡ Some p
          → IfSome o
          (λ q. AreBuckets q (world cache_facts backing_facts v))
          → AreBuckets p (world cache_facts backing_facts v)
      go None is on = absurd (cc)
      go (Some q) is on = let same : q ≡ p = cc in
          subst (λ (r : BucketsPart). AreBuckets r (world cache_facts backing_facts v)) same on

  pub may_walk_it : (n : ℕ) → p.round.going ≡ true
      → MayDo cache_facts backing_facts v (deed.Mark (mark.Walk n))
  may_walk_it n going = may_mark cache_facts backing_facts v works.seat cached (mark.Walk n)
      (λ o x since is course. (buckets_since cache_facts backing_facts v works.seat holds p buckets_on x
      since o is course).round.going ∙ going)

  -- nothing was done
  pub works_waited : (w : View cache_facts backing_facts)
      → Did cache_facts backing_facts None v w → Kept (m cache_facts backing_facts) v w (λ k. k == 2)
      → Works cache_facts backing_facts pv w (record h { buckets = Some p })
  works_waited w did kept = works_anew cache_facts backing_facts pv v w h p p is_p works did.seat kept
      (buckets_since cache_facts backing_facts v works.seat holds p buckets_on
      (world cache_facts backing_facts w) did.is.since)

  module _ (n : ℕ) (slot : ℕ) (at : HasLeafIn h slot n) where
    -- the part with the leaf stands for it, whatever others do
    leaf_since : (x : World) → Since (m cache_facts backing_facts) v x → FromEach x (λ o st.
        IsLeafFor o.opening.machine (leaf_share st.machine.whole.parts n) at.cached.leaf)
    leaf_since x since o is course =
        subst (λ k. IsLeafFor o.opening.machine (leaf_share (replay o x.log).machine.whole.parts k)
        at.cached.leaf) at.number_is
        ((stood.1 o is course).leaves slot at.cached at.there)
      where
        on : (6 ≤ at.leaves.part)
            × AreLeaves (at.leaves.part - 6) at.leaves.cache (world cache_facts backing_facts v)
        on = go h.leaves at.is works.stand.leaves
          where
            go : (o : Option LeafHand) → o ≡ Some at.leaves
                → IfSome o (λ l. (6 ≤ l.part)
                × AreLeaves (l.part - 6) l.cache (world cache_facts backing_facts v))
                → (6 ≤ at.leaves.part) × AreLeaves (at.leaves.part - 6) at.leaves.cache
                (world cache_facts backing_facts v)
            go None is on = absurd (cc)
            go (Some l) is on = let same : l ≡ at.leaves = cc in
                subst (λ (y : LeafHand). (6 ≤ y.part) × AreLeaves (y.part - 6) y.cache
                (world cache_facts backing_facts v)) same on

        stood : (6 ≤ at.leaves.part) × AreLeaves (at.leaves.part - 6) at.leaves.cache x
        stood = held (m cache_facts backing_facts) (framed cache_facts backing_facts) v x at.leaves.part
            (part.Leaves at.leaves.cache) works.seat.seat since
            (subst (λ ks. Holds ks at.leaves.part) (sym works.parts)
            (holds_leaves h at.leaves at.is)) on

    module _ (few : n < 2 ^ 32) (going : p.round.going ≡ true)
        (next : p.round.next ≡ at.cached.leaf.from)
        (more : at.cached.leaf.from ≤ at.cached.leaf.end)
        (proper : AreProperKeys at.cached.leaf.from at.cached.leaf.end at.cached.leaf.keys)
        (before : ℕ) (first : FromEach (world cache_facts backing_facts v) (HasBefore before))
        (w : View cache_facts backing_facts)
        (did : Did cache_facts backing_facts (Some (deed.Mark (mark.Walk n))) v w) (q : BucketsPart)
        (counted : HasCounted before at.cached.leaf p q) where
      pub stand_walked : AreBuckets q (world cache_facts backing_facts w)
      stand_walked = known_committed cache_facts backing_facts v w (deed.Mark (mark.Walk n))
          (λ o st. AreBucketsOf o.opening.machine (books_of st.machine) q) did
          (λ o is course.
          let was = buckets_since cache_facts backing_facts v works.seat holds p buckets_on
          did.is.before did.is.since o is course in
          law_walked o.opening.machine (books_of (replay o did.is.before.log).machine) n
          at.cached.leaf.end p q was
          (has_walked did.is.before o is course p was going n few at.cached.leaf
          (leaf_since did.is.before did.is.since o is course) proper more next q
          (subst (λ b. HasCounted b at.cached.leaf p q)
          (sym (before_since cache_facts backing_facts v before first did.is.before did.is.since o is
          course)) counted)))

      pub works_walked : Kept (m cache_facts backing_facts) v w (λ k. k == 2)
          → Works cache_facts backing_facts pv w (record h { buckets = Some q })
      works_walked kept = works_anew cache_facts backing_facts pv v w h p q is_p works did.seat kept
          stand_walked
