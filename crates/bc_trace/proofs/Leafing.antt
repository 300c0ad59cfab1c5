-- One leaf, from an empty hand to an empty one.
use Rattle.std.proofs.Common.{◌≡◌, inl, inr, ℕ, ◌<◌, Bool, true, false, List, [], ◌∷◌, Option, Some, None, refl, sym, ap, ◌∙◌, subst, arith}
use Rattle.std.specs.Prelude.{◌↔◌, IfOk, IsTrue, Result, Ok, Err}
use Rattle.std.proofs.lemmas.List.Elements.{All-cons, All-nil}
use Rattle.bc_disk.specs.Disk.{DiskFacts}
use Rattle.bc_disk.specs.declared.disk.Device.{Device}
use Rattle.bc_events.specs.declared.event.Event.{Event}
use Rattle.bc_flush.specs.bc_fetch.Fetch.{HasLeafFor, HasReadOne, HasStoppedAt, node_read}
use Rattle.bc_flush.specs.bc_fetch.declared.error.LeafError.{LeafError}
use Rattle.bc_leaf_walk.proofs.of_bc_hand.Knowing.{View}
use Rattle.bc_leaf_walk.specs.Steps.{ComesNext, HasLeafAndBuckets, HasLeafIn}
use Rattle.bc_leaf_walk.specs.bc_deed.Asked.{IsHalted, IsHaltedOr}
use Rattle.bc_leaf_walk.specs.bc_hand.Seats.{HasNoneBehindBuckets, IsCoreSeat, Works, empty}
use Rattle.bc_leaf_walk.specs.bc_hand.declared.error.StepError.{StepError}
use Rattle.bc_leaf_walk.specs.bc_hand.declared.error.StepError.TheVariants as steps
use Rattle.bc_leaf_walk.specs.bc_hand.declared.hand.Hand.{Hand}
use Rattle.bc_leaf_walk.specs.bc_machine.declared.part.BucketsPart.{BucketsPart}
use Rattle.bc_leaf_walk.specs.bc_machine.declared.part.CorePart.{CorePart}
use Rattle.bc_parts.specs.Seat.{PartsView}
use Rattle.bc_trace.specs.Trace.{HadLeafElsewhere, HasGone, HasStopped, IsHaltOrMemory, IsMissed, IsOfTrace}
use Rattle.bc_trace.specs.declared.error.TraceError.TheVariants as error
use Rattle.bc_trace.proofs.Going.{gone_none, stopped_here}

halted_or : (e : StepError) (es : List Event) → IsHalted e es → IsHaltedOr e es
halted_or (steps.Fault device) es h = h
halted_or (steps.Halted device) es h = h
halted_or steps.Memory es h = absurd h

-- memory is missed only where no halt was heard
missed_halt : (r : StepError) (o : Option Device) (es : List Event) → IsMissed o es r
    → IsHaltedOr r es
missed_halt r None es is = subst (λ e. IsHaltedOr e es) (sym is) tt
missed_halt r (Some device) es is = subst (λ e. IsHaltedOr e es) (sym is.0) is.1

missed_none : (r : StepError) (o : Option Device) (es : List Event) → IsMissed o es r
    → r ≡ steps.Memory → o ≡ None
missed_none r None es is memory = refl
missed_none r (Some device) es is memory =
    let both : steps.Halted device ≡ steps.Memory = sym is.0 ∙ memory in absurd (cc)

halted_else : (e : StepError) (es : List Event) → IsHalted e es → e ≡ steps.Memory → ⊥
halted_else (steps.Fault device) es h is = cc
halted_else (steps.Halted device) es h is = cc
halted_else steps.Memory es h is = absurd h

-- a test that says no
pub no_test : (b : Bool) (P : Type 0) → IsTrue b ↔ P → b ≡ false → ¬ P
no_test false P is off = λ p. absurd (no (is.1 p))
  where
    no : IsTrue false → ⊥
    no on = cc
no_test true P is off = absurd (cc)

module _ {C B : Type 0} where
  -- the same leaf, whichever buckets are in hand with it
  abbrev pub leaf_on : (a b : Hand C B) (o : Option BucketsPart) (slot n : ℕ)
      → b ≡ record a { buckets = o } → HasLeafIn a slot n → HasLeafIn b slot n
  leaf_on a b o slot n same at = record {
    leaves = at.leaves;
    is = ap (λ (h : Hand C B). h.leaves) same ∙ at.is;
    cached = at.cached;
    there = at.there;
    number_is = at.number_is;
  }

  pub both_on : (a b : Hand C B) (slot n : ℕ) → HasLeafIn a slot n
      → (p : BucketsPart) × (b ≡ record a { buckets = Some p }) → HasLeafAndBuckets b n
  both_on a b slot n at has = record {
    slot = slot;
    leaf = leaf_on a b (Some has.0) slot n has.1 at;
    part = has.0;
    is = ap (λ (h : Hand C B). h.buckets) has.1;
  }

  pub end_on : {E : Type 0} (r : Result ℕ E) (a b : Hand C B) (n : ℕ)
      → (p : BucketsPart) × (b ≡ record a { buckets = Some p })
      → IfOk r (λ end. (slot : ℕ) (at : HasLeafIn b slot n) → end ≡ at.cached.leaf.end)
      → IfOk r (λ end. (slot : ℕ) (at : HasLeafIn a slot n) → end ≡ at.cached.leaf.end)
  end_on (Ok e) a b n has h = λ slot at. h slot (leaf_on a b (Some has.0) slot n has.1 at)
  end_on (Err e) a b n has h = tt

  -- the hand is what it was
  pub hand_back : (a b c d : Hand C B) → a.buckets ≡ None
      → (p : BucketsPart) × (b ≡ record a { buckets = Some p })
      → (q : BucketsPart) × (c ≡ record b { buckets = Some q })
      → d ≡ record c { buckets = None } → d ≡ a
  hand_back a b c d none x y z = z
      ∙ ap (λ (h : Hand C B). record h { buckets = None }) (y.1
      ∙ ap (λ (h : Hand C B). record h { buckets = Some y.0 }) x.1)
      ∙ ap (λ (o : Option BucketsPart). record a { buckets = o }) (sym none)

  pub has_again : (a b c : Hand C B) (p : BucketsPart) → b ≡ record a { buckets = Some p }
      → (q : BucketsPart) × (c ≡ record b { buckets = Some q })
      → (r : BucketsPart) × (c.buckets ≡ Some r)
  has_again a b c p x y = (y.0, ap (λ (h : Hand C B). h.buckets) y.1)

  -- a hand with buckets has them still
  pub buckets_same : (a b : Hand C B) (p : BucketsPart) → a.buckets ≡ Some p → b ≡ a
      → (q : BucketsPart) × (b ≡ record a { buckets = Some q })
  buckets_same a b p is same =
      (p, same ∙ ap (λ (o : Option BucketsPart). record a { buckets = o }) is)

  -- the leaf that was fetched
  pub fetched : (h : Hand C B) (n first count : ℕ) → (has : HasLeafFor h n first count)
      → HasLeafIn h has.slot n
  fetched h n first count has = record {
    leaves = has.has.hand;
    is = has.has.is;
    cached = has.cached;
    there = has.has.at;
    number_is = has.has.number_is;
  }

  pub fetched_ends : {E : Type 0} (r : Result ℕ E) (h : Hand C B) (n first : ℕ)
      → HasLeafFor h n first 1
      → IfOk r (λ end. (slot : ℕ) (at : HasLeafIn h slot n) → end ≡ at.cached.leaf.end)
      → IfOk r (λ end. first < end)
  fetched_ends (Ok e) h n first has f =
      let is = f has.slot (record {
        leaves = has.has.hand;
        is = has.has.is;
        cached = has.cached;
        there = has.has.at;
        number_is = has.has.number_is;
      }) in
      let far = has.has.end in omega (arith, is, far)
  fetched_ends (Err e) h n first has f = tt

  pub none_with_leaf : (h : Hand C B) (n first count : ℕ) → HasLeafFor h n first count
      → HasNoneBehindBuckets h
  none_with_leaf h n first count has = record {
    journal = ap (λ (x : Hand C B). x.journal) has.rest;
    cache = ap (λ (x : Hand C B). x.cache) has.rest;
    backing = ap (λ (x : Hand C B). x.backing) has.rest;
  }

  pub no_buckets : (h : Hand C B) (n first count : ℕ) → HasLeafFor h n first count
      → h.buckets ≡ None
  no_buckets h n first count has = ap (λ (x : Hand C B). x.buckets) has.rest

  -- with its part given back the hand is empty
  pub leaf_given : (a b c : Hand C B) (n first count : ℕ) → HasLeafFor a n first count → b ≡ a
      → c ≡ record b { leaves = None } → c ≡ empty
  leaf_given a b c n first count has same given = given
      ∙ ap (λ (h : Hand C B). record h { leaves = None }) (same ∙ has.rest)

module _ {C B : Type 0} (cache_facts : C → DiskFacts) (backing_facts : B → DiskFacts) where
  -- what was refused was refused for that
  pub missed_it : (r : StepError) (w : View cache_facts backing_facts) → IsMissed w.heard w.seen r
      → IsHaltOrMemory cache_facts backing_facts r w
  missed_it r w is =
      record { halt = missed_halt r w.heard w.seen is; memory = missed_none r w.heard w.seen is }

  pub halted_it : (e : StepError) (w : View cache_facts backing_facts) → IsHalted e w.seen
      → IsHaltOrMemory cache_facts backing_facts e w
  halted_it e w h = record {
    halt = halted_or e w.seen h;
    memory = λ is. absurd (halted_else e w.seen h is);
  }

  -- a node was read, or none
  pub gone_read : (v w : View cache_facts backing_facts)
      → HasReadOne cache_facts backing_facts v w → HasGone cache_facts backing_facts v w
  gone_read v w (inl none) = record { deeds = []; are = All-nil IsOfTrace; done = none }
  gone_read v w (inr one) = record {
    deeds = node_read one.0 ∷ [];
    are = All-cons IsOfTrace (node_read one.0) [] tt (All-nil IsOfTrace);
    done = one.1;
  }

  pub stopped_leaf : (sectors : ℕ) (e : LeafError) (first : ℕ) (v w : View cache_facts backing_facts)
      → IsCoreSeat cache_facts backing_facts v → IsCoreSeat cache_facts backing_facts w
      → HasStoppedAt cache_facts backing_facts first 1 e v w
      → HasStopped cache_facts backing_facts sectors (error.Leaf e) v w
  stopped_leaf sectors e first v w seat last h = stopped_here cache_facts backing_facts sectors
      (error.Leaf e) v w last (record {
        at = v;
        before = gone_none cache_facts backing_facts v seat;
        first = first;
        stopped = h;
      })

  -- the round isn't where the leaf begins
  pub moved_leaf : (pv : PartsView (CorePart C B)) (v : View cache_facts backing_facts)
      (h : Hand C B) → Works cache_facts backing_facts pv v h → (n : ℕ)
      (both : HasLeafAndBuckets h n) (b : Bool)
      → IsTrue b ↔ ComesNext both.part both.leaf.cached.leaf → b ≡ false
      → HadLeafElsewhere cache_facts backing_facts v
  moved_leaf pv v h works n both b is off = record {
    hand = h;
    stood = works.stand;
    number = n;
    both = both;
    apart = no_test b (ComesNext both.part both.leaf.cached.leaf) is off;
  }
