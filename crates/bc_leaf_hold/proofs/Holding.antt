-- A seat works with a hand in which a leaf was held or let go.
use Rattle.std.proofs.Common.{◌≡◌, ℕ, ◌-◌, ◌≤◌, Bool, true, Option, Some, refl, sym, ap, ◌∙◌, subst}
use Rattle.std.specs.Prelude.{IfSome}
use Rattle.bc_cache.specs.Fetch.{IsSetHeld}
use Rattle.bc_cache.specs.Slots.{IsTakenBy, NodeCache}
use Rattle.bc_disk.specs.Disk.{DiskFacts}
use Rattle.bc_hand.specs.Seats.{View, Works, numbers, world}
use Rattle.bc_hand.specs.bc_machine.World.{AreLeaves, IsSpinePart}
use Rattle.bc_hand.specs.bc_machine.declared.part.CorePart.{CorePart}
use Rattle.bc_hand.specs.bc_machine.declared.part.SpinePart.{SpinePart}
use Rattle.bc_hand.specs.declared.hand.Hand.{Hand}
use Rattle.bc_hand.specs.declared.hand.LeafHand.{LeafHand}
use Rattle.bc_leaf_hold.proofs.Held.{leaves_free, leaves_held}
use Rattle.bc_leaf_hold.specs.Hold.{HasLeafAt, HasTreeAtRest, IsSetIn}
use Rattle.bc_parts.specs.Seat.{PartsView}

one_some : {A : Type 0} (o : Option A) (a b : A) → o ≡ Some a → o ≡ Some b → a ≡ b
one_some o a b x y = cc

module _ {C B : Type 0} where
  -- the leaf that was taken out of the hand is the one of which it was said
  pub taken_by : (h : Hand C B) (slot : ℕ) (held : Bool) (has : HasLeafAt h slot held)
      (l : LeafHand) → h.leaves ≡ Some l → IsTakenBy l.cache.slots slot held
  taken_by h slot held has l is =
      subst (λ (x : LeafHand). IsTakenBy x.cache.slots slot held)
      (one_some h.leaves has.leaves l has.are_leaves is) (has.cached, has.there, has.held_is)

  pub set_in : (h : Hand C B) (slot : ℕ) (held : Bool) (l : LeafHand) (cache : NodeCache)
      → h.leaves ≡ Some l → IsSetHeld slot held l.cache cache
      → IsSetIn slot held h (record h { leaves = Some (record l { cache = cache }) })
  set_in h slot held l cache are set =
      record { leaves = l; are_leaves = are; cache = cache; set = set; is = refl }

module _ {C B : Type 0} (cache_facts : C → DiskFacts) (backing_facts : B → DiskFacts)
    (h k : Hand C B) (slot : ℕ) (held : Bool) (it : IsSetIn slot held h k)
    (ps : PartsView (CorePart C B)) (v : View cache_facts backing_facts)
    (works : Works cache_facts backing_facts ps v h) where
  leaves_on : (6 ≤ it.leaves.part)
      × AreLeaves (it.leaves.part - 6) it.leaves.cache (world cache_facts backing_facts v)
  leaves_on = subst (λ (o : Option LeafHand). IfSome o (λ l. (6 ≤ l.part)
      × AreLeaves (l.part - 6) l.cache (world cache_facts backing_facts v))) it.are_leaves
      works.stand.leaves

  works_by : AreLeaves (it.leaves.part - 6) it.cache (world cache_facts backing_facts v)
      → Works cache_facts backing_facts ps v k
  works_by leaves = subst (Works cache_facts backing_facts ps v) (sym it.is) (record {
    run = works.run;
    seat = works.seat;
    parts = works.parts
        ∙ ap (λ (o : Option LeafHand). numbers (record h { leaves = o })) it.are_leaves;
    stand = record {
      spine = works.stand.spine;
      leaves = (leaves_on.0, leaves);
      flight = works.stand.flight;
      buckets = works.stand.buckets;
      journal = works.stand.journal;
      cache = works.stand.cache;
      backing = works.stand.backing;
    };
  })

  pub works_held : held ≡ true → Works cache_facts backing_facts ps v k
  works_held on = works_by (λ o is course. leaves_held slot held it.leaves.cache it.cache it.set _ _
      _ _ (leaves_on.1 o is course) on)

  pub works_free : HasTreeAtRest h → Works cache_facts backing_facts ps v k
  works_free tree =
      let stands = subst (λ (o : Option SpinePart).
      IfSome o (λ p. IsSpinePart p (world cache_facts backing_facts v))) tree.is_spine
      works.stand.spine in
      works_by (λ o is course. leaves_free slot held it.leaves.cache it.cache it.set _ _ _ _
      (leaves_on.1 o is course) ((stands o is course).rest tree.rest).leaves)
