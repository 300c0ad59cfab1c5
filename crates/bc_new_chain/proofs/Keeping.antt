-- What a seat goes on to know of its places and of the buckets that it holds, step by step.
use Rattle.std.proofs.Common.{◌≡◌, ℕ, ◌+◌, ◌-◌, ◌<◌, ◌≤◌, true, false, List, [], ◌∷◌, Option, None, Some, refl, sym, ap, ◌∙◌, subst, arith}
use Rattle.std.specs.Prelude.{Err, Ok, OnErr, OnOk, Result, if◌then◌else◌, is_some, map}
use Rattle.bc_alloc.proofs.Times.{by_test, times-cons, times_same}
use Rattle.bc_alloc.specs.Reserve.{times}
use Rattle.bc_chain.proofs.of_bc_hand.Knowing.{View}
use Rattle.bc_chain.proofs.of_bc_place.Keeping.{keeps_both as places_both, keeps_deed as places_deed, keeps_waited as places_waited}
use Rattle.bc_chain.specs.bc_hand.Seats.{Did, IsCoreSeat, Kinds, Works, kinds, numbers, part_of, with_leaves, with_part}
use Rattle.bc_chain.specs.bc_hand.declared.error.StepError.{StepError}
use Rattle.bc_chain.specs.bc_hand.declared.error.StepError.TheVariants as error
use Rattle.bc_chain.specs.bc_hand.declared.hand.Hand.{Hand}
use Rattle.bc_chain.specs.bc_hand.declared.hand.LeafHand.{LeafHand}
use Rattle.bc_chain.specs.bc_machine.declared.part.CorePart.{CorePart}
use Rattle.bc_chain.specs.bc_place.Written.{KeepsPlaces, leaves_places}
use Rattle.bc_disk.specs.Disk.{DiskFacts}
use Rattle.bc_entry.specs.Failed.{HasFailedAtCache, HasFailedToWrite, HasWritten}
use Rattle.bc_entry.specs.Put.{failed_barrier, lost_by, write_by}
use Rattle.bc_events.specs.declared.event.Deed.{Deed}
use Rattle.bc_events.specs.declared.event.Deed.TheVariants as deed
use Rattle.bc_held.proofs.Keeping.{keeps_deed as held_deed, keeps_waited as held_waited}
use Rattle.bc_held.specs.Held.{leaves_held}
use Rattle.bc_held.specs.Taken.{KeepsHeld}
use Rattle.bc_leaves.specs.After.{has}
use Rattle.bc_journal.specs.Sealed.{Sealed}
use Rattle.bc_new_chain.specs.Beside.{KeepsHeldBeside}
use Rattle.bc_parts.specs.Seat.{Holds, PartsView}
use Rattle.bc_shares.specs.Touched.{touches_spine}

-- ---- the parts in hand

part_same : {A : Type 0} (n : ℕ) (o p : Option A) (ks ls : List ℕ) → is_some p ≡ is_some o
    → ls ≡ ks → with_part n p ls ≡ with_part n o ks
part_same n None None ks ls is same = same
part_same n None (Some b) ks ls is same = absurd (cc)
part_same n (Some a) None ks ls is same = absurd (cc)
part_same n (Some a) (Some b) ks ls is same = ap (λ (l : List ℕ). n ∷ l) same

leaves_same : (o p : Option LeafHand) (ks ls : List ℕ) → part_of p ≡ part_of o → ls ≡ ks
    → with_leaves p ls ≡ with_leaves o ks
leaves_same None None ks ls is same = same
leaves_same None (Some b) ks ls is same = absurd (cc)
leaves_same (Some a) None ks ls is same = absurd (cc)
leaves_same (Some a) (Some b) ks ls is same = let e : b.part ≡ a.part = cc in
    ap (λ n. n ∷ ls) e ∙ ap (λ (l : List ℕ). a.part ∷ l) same

-- which parts are in hand tells their numbers
pub numbers_same : {C B : Type 0} (h g : Hand C B) → kinds g ≡ kinds h → numbers g ≡ numbers h
numbers_same h g same = part_same 5 h.backing g.backing _ _ (ap (λ (k : Kinds). k.backing) same)
    (part_same 4 h.cache g.cache _ _ (ap (λ (k : Kinds). k.cache) same)
    (part_same 3 h.journal g.journal _ _ (ap (λ (k : Kinds). k.journal) same)
    (part_same 2 h.buckets g.buckets _ _ (ap (λ (k : Kinds). k.buckets) same)
    (part_same 1 h.flight g.flight _ _ (ap (λ (k : Kinds). k.flight) same)
    (leaves_same h.leaves g.leaves _ _ (ap (λ (k : Kinds). k.leaves) same)
    (part_same 0 h.spine g.spine [] [] (ap (λ (k : Kinds). k.spine) same) refl))))))

-- ---- a bucket beside a chain

here : (n : ℕ) (ns : List ℕ) → 0 < times n (n ∷ ns)
here n ns = omega (arith, times-cons n n ns, times_same n)

more : (m n : ℕ) (ns : List ℕ) → 0 < times m ns → 0 < times m (n ∷ ns)
more m n ns some = omega (arith, times-cons m n ns, some)

rest : (k n : ℕ) (ns : List ℕ) → times k (n ∷ ns) ≡ 0 → times k ns ≡ 0
rest k n ns none = omega (arith, times-cons k n ns, none)

-- It isn't of the chain, as the core counts.
pub not_among : (first q k : ℕ) (new : List ℕ) → k ≡ first + q
    → ((n : ℕ) → 0 < times n new → first ≤ n) → times k new ≡ 0
    → has (map (λ n. n - first) new) q ≡ false
not_among first q k [] is low none = refl
not_among first q k (n ∷ ns) is low none = by_test q (n - first)
    (λ b. (if b then true else has (map (λ m. m - first) ns) q) ≡ false)
    (λ same. let its = low n (here n ns) in
    let that : k ≡ n = omega (arith, same, its, is) in
    absurd (let one = here n ns in
    let at = subst (λ m. times m (n ∷ ns) ≡ 0) that none in omega (arith, one, at)))
    (λ no. not_among first q k ns is (λ m some. low m (more m n ns some)) (rest k n ns none))

-- ---- a seat

module _ {C B : Type 0} (cache_facts : C → DiskFacts) (backing_facts : B → DiskFacts) where
  -- who keeps the same parts in hand holds the tree still
  pub holds_on : (p : PartsView (CorePart C B)) (v w : View cache_facts backing_facts)
      (h g : Hand C B) → Works cache_facts backing_facts p v h
      → Works cache_facts backing_facts p w g → kinds g ≡ kinds h → Holds v.parts 0
      → Holds w.parts 0
  holds_on p v w h g before then_ same holds = subst (λ ks. Holds ks 0)
      (before.parts ∙ sym (numbers_same h g same) ∙ sym then_.parts) holds

  pub beside_all : (new : List ℕ) (v w : View cache_facts backing_facts)
      → KeepsHeld cache_facts backing_facts v w
      → KeepsHeldBeside cache_facts backing_facts new v w
  beside_all new v w keeps = record {
    held = λ b none h. keeps.held b tt h;
    vacant = keeps.vacant;
    other = keeps.other;
  }

  pub beside_then : (new : List ℕ) (u v w : View cache_facts backing_facts)
      → (Holds u.parts 0 → Holds v.parts 0) → KeepsHeldBeside cache_facts backing_facts new u v
      → KeepsHeld cache_facts backing_facts v w
      → KeepsHeldBeside cache_facts backing_facts new u w
  beside_then new u v w holds a b = record {
    held = λ c none h. b.held c tt (a.held c none h);
    vacant = λ spine c h. b.vacant (holds spine) c (a.vacant spine c h);
    other = λ c d h. b.other c d (a.other c d h);
  }

  -- ---- a step that leaves all of them alone

  pub record Keeps (v w : View cache_facts backing_facts) : Type 0 where
    pub places : KeepsPlaces cache_facts backing_facts v w
    pub held : KeepsHeld cache_facts backing_facts v w

  pub keeps_done : (v w : View cache_facts backing_facts) (d : Deed)
      → IsCoreSeat cache_facts backing_facts v → leaves_places d ≡ true
      → ((q : ℕ) → leaves_held q d ≡ true) → touches_spine d ≡ false
      → Did cache_facts backing_facts (Some d) v w → Keeps v w
  keeps_done v w d seat places held spine did = record {
    places = places_deed cache_facts backing_facts v w d seat places did;
    held = held_deed cache_facts backing_facts v w d seat held spine did;
  }

  pub keeps_wait : (v w : View cache_facts backing_facts) → IsCoreSeat cache_facts backing_facts v
      → Did cache_facts backing_facts None v w → Keeps v w
  keeps_wait v w seat did = record {
    places = places_waited cache_facts backing_facts v w seat did.is;
    held = held_waited cache_facts backing_facts None v w seat did.is;
  }

  pub keeps_then : (u v w : View cache_facts backing_facts) → (Holds u.parts 0 → Holds v.parts 0)
      → Keeps u v → Keeps v w → Keeps u w
  keeps_then u v w holds a b = record {
    places = places_both cache_facts backing_facts u v w a.places b.places;
    held = record {
      held = λ c other h. b.held.held c tt (a.held.held c tt h);
      vacant = λ spine c h. b.held.vacant (holds spine) c (a.held.vacant spine c h);
      other = λ c d h. b.held.other c d (a.held.other c d h);
    };
  }

  -- ---- the steps behind a seal

  pub keeps_barrier : (v w : View cache_facts backing_facts)
      → IsCoreSeat cache_facts backing_facts v
      → Did cache_facts backing_facts (Some deed.CacheBarrier) v w → Keeps v w
  keeps_barrier v w seat did = keeps_done v w deed.CacheBarrier seat refl (λ q. refl) refl did

  pub keeps_no_barrier : (e : StepError) (v w : View cache_facts backing_facts)
      → IsCoreSeat cache_facts backing_facts v
      → HasFailedAtCache cache_facts backing_facts e failed_barrier v w → Keeps v w
  keeps_no_barrier (error.Fault device) v w seat h =
      keeps_done v w failed_barrier seat refl (λ q. refl) refl h.1
  keeps_no_barrier (error.Halted device) v w seat h = keeps_wait v w seat h.1
  keeps_no_barrier error.Memory v w seat h = absurd h

  pub keeps_entry : (s : Sealed) (v w : View cache_facts backing_facts)
      → IsCoreSeat cache_facts backing_facts v → HasWritten cache_facts backing_facts s v w
      → Keeps v w
  keeps_entry s v w seat h = keeps_done v w (write_by s h.0) seat refl (λ q. refl) refl h.2

  pub keeps_no_entry : (e : StepError) (s : Sealed) (v w : View cache_facts backing_facts)
      → IsCoreSeat cache_facts backing_facts v
      → HasFailedToWrite cache_facts backing_facts e s v w → Keeps v w
  keeps_no_entry (error.Fault device) s v w seat h =
      keeps_done v w (lost_by s h.1.0) seat refl (λ q. refl) refl h.1.2
  keeps_no_entry (error.Halted device) s v w seat h = keeps_wait v w seat h.1
  keeps_no_entry error.Memory s v w seat h = absurd h

  pub keeps_end : (r : Result (Unit {0}) StepError) (v w : View cache_facts backing_facts)
      → IsCoreSeat cache_facts backing_facts v
      → OnOk r (Did cache_facts backing_facts (Some deed.Sealed) v w)
      → OnErr r (Did cache_facts backing_facts None v w) → Keeps v w
  keeps_end (Ok z) v w seat good bad = keeps_done v w deed.Sealed seat refl (λ q. refl) refl good
  keeps_end (Err e) v w seat good bad = keeps_wait v w seat bad
