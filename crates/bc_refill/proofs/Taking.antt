-- Buckets for a chain, taken one behind the other, and how that ends.
use Rattle.std.proofs.Common.{◌≡◌, ℕ, ◌≤◌, List, [], ◌∷◌, ◌++◌, length, Option, None, Some, sym, ap, ◌∙◌, subst, arith}
use Rattle.std.proofs.lemmas.List.{reverse-append}
use Rattle.std.proofs.lemmas.List.Elements.{All-cons}
use Rattle.std.specs.Prelude.{All, Err, Ok, reverse}
use Rattle.bc_alloc.specs.declared.purpose.NoBucket.{NoBucket}
use Rattle.bc_alloc.specs.declared.purpose.Purpose.TheVariants as list
use Rattle.bc_disk.specs.Disk.{DiskFacts}
use Rattle.bc_disk.specs.declared.geometry.Geometry.{Geometry}
use Rattle.bc_events.specs.declared.event.Deed.{Deed}
use Rattle.bc_new_chain.proofs.of_bc_chain.of_bc_deed.May.{did_nothing}
use Rattle.bc_new_chain.proofs.of_bc_chain.of_bc_deed.Sequence.{done_one}
use Rattle.bc_new_chain.proofs.of_bc_chain.of_bc_hand.Knowing.{View}
use Rattle.bc_new_chain.proofs.of_bc_chain.of_bc_place.Keeping.{keeps_both as places_both}
use Rattle.bc_new_chain.specs.bc_deed.Asked.{IsHalted}
use Rattle.bc_new_chain.specs.bc_hand.Seats.{Did, IsCoreSeat, world}
use Rattle.bc_new_chain.specs.bc_hand.declared.error.StepError.{StepError}
use Rattle.bc_new_chain.specs.bc_hand.declared.hand.Hand.{Hand}
use Rattle.bc_new_chain.specs.bc_held.Held.{IsHeldFor}
use Rattle.bc_new_chain.specs.bc_held.Next.{HasNoneFor}
use Rattle.bc_new_chain.specs.bc_held.Taken.{IsNewBucket, KeepsHeld, LetGo, TiesBuckets, TookOr, take_by}
use Rattle.bc_new_chain.specs.bc_held.declared.held.HeldBucket.{HeldBucket}
use Rattle.bc_new_chain.specs.bc_held.declared.held.Want.TheVariants as want
use Rattle.bc_new_chain.specs.bc_machine.World.{FromEach}
use Rattle.bc_new_chain.specs.bc_machine.declared.part.BucketsPart.{BucketsPart}
use Rattle.bc_new_chain.specs.bc_place.Written.{KeepsPlaces}
use Rattle.bc_parts.specs.Seat.{Holds}
use Rattle.bc_refill.proofs.Going.{gone_more, tied_then, took_more}
use Rattle.bc_refill.proofs.Holding.{held_both, mine_more, mine_on, new_more, new_on}
use Rattle.bc_refill.specs.Taken.{HasGivenBack, HasMine, HasNoChain, HasStoppedBack, HasStoppedGoing, HasStoppedTaking, HaveLetGo, HaveTaken, IsForSet}
use Rattle.bc_refill.specs.declared.answer.Refilled.{Refilled}
use Rattle.bc_refill.specs.declared.answer.Refilled.TheVariants as answer

pub all_one : (g : Geometry) (b : HeldBucket) → IsForSet g b → All (IsForSet g) (b ∷ [])
all_one g b fit = All-cons (IsForSet g) b [] fit (λ k d below. absurd (omega (arith, below)))

module _ {C B : Type 0} (cache_facts : C → DiskFacts) (backing_facts : B → DiskFacts) where
  -- ---- what a take did

  pub did_take : (before : ℕ) (b : HeldBucket) (h k : Hand C B) (p : BucketsPart)
      (v w : View cache_facts backing_facts) → h.buckets ≡ Some p
      → TiesBuckets h k (λ p q. TookOr cache_facts backing_facts before want.Chain (Ok b) p q v w)
      → (d : Deed) × Did cache_facts backing_facts (Some d) v w × (b.purpose ≡ list.Priorities)
  did_take before b h k p v w is tie = let took = (tie p is).2 in (
    take_by before b,
    took.did,
    took.takes.next.purpose,
  )

  pub none_took : (before : ℕ) (none : NoBucket) (h k : Hand C B) (p : BucketsPart)
      (v w : View cache_facts backing_facts) → h.buckets ≡ Some p
      → TiesBuckets h k (λ p q. TookOr cache_facts backing_facts before want.Chain (Err none) p q v
      w) → Did cache_facts backing_facts None v w
  none_took before none h k p v w is tie = (tie p is).2.did

  -- ---- what the seat has

  pub has_mine_on : (bs : List HeldBucket) (d : Option Deed)
      (u v w : View cache_facts backing_facts) → IsCoreSeat cache_facts backing_facts v
      → (Holds u.parts 0 → Holds v.parts 0) → Did cache_facts backing_facts d v w
      → KeepsPlaces cache_facts backing_facts v w → KeepsHeld cache_facts backing_facts v w
      → HasMine cache_facts backing_facts bs u v → HasMine cache_facts backing_facts bs u w
  has_mine_on bs d u v w seat holds did places keeps h = record {
    mine = mine_on cache_facts backing_facts bs v w keeps h.mine;
    new = new_on cache_facts backing_facts bs d u v w seat did h.new;
    places = places_both cache_facts backing_facts u v w h.places places;
    held = held_both cache_facts backing_facts u v w holds h.held keeps;
  }

  pub has_mine_more : (bs : List HeldBucket) (b : HeldBucket) (d : Deed)
      (u v w : View cache_facts backing_facts) → IsCoreSeat cache_facts backing_facts v
      → (Holds u.parts 0 → Holds v.parts 0) → Did cache_facts backing_facts (Some d) v w
      → KeepsPlaces cache_facts backing_facts v w → KeepsHeld cache_facts backing_facts v w
      → b.purpose ≡ list.Priorities
      → FromEach (world cache_facts backing_facts w) (IsHeldFor w.first b)
      → IsNewBucket cache_facts backing_facts b v w → HasMine cache_facts backing_facts bs u v
      → HasMine cache_facts backing_facts (bs ++ b ∷ []) u w
  has_mine_more bs b d u v w seat holds did places keeps purpose its other h = record {
    mine = mine_more cache_facts backing_facts bs b v w keeps purpose its other h.mine;
    new = new_more cache_facts backing_facts bs b (Some d) u v w seat did h.held keeps its other
        h.new;
    places = places_both cache_facts backing_facts u v w h.places places;
    held = held_both cache_facts backing_facts u v w holds h.held keeps;
  }

  -- ---- how it goes on, and ends

  pub tied_more : (before : ℕ) (bs : List HeldBucket) (b : HeldBucket) (h k l : Hand C B)
      (u v w : View cache_facts backing_facts)
      → TiesBuckets h k (λ p q. HaveTaken cache_facts backing_facts before bs p q u v)
      → TiesBuckets k l (λ p q. TookOr cache_facts backing_facts before want.Chain (Ok b) p q v w)
      → TiesBuckets h l (λ p q. HaveTaken cache_facts backing_facts before (bs ++ b ∷ []) p q u w)
  tied_more before bs b h k l u v w = tied_then h k l
      (λ p q. HaveTaken cache_facts backing_facts before bs p q u v)
      (λ p q. TookOr cache_facts backing_facts before want.Chain (Ok b) p q v w)
      (λ p q. HaveTaken cache_facts backing_facts before (bs ++ b ∷ []) p q u w)
      (λ p q r first second. took_more cache_facts backing_facts before bs b p q r u v w first
      second)

  pub no_bucket : (before most : ℕ) (bs : List HeldBucket) (none : NoBucket) (h k l : Hand C B)
      (u v w : View cache_facts backing_facts) → length bs ≤ most
      → TiesBuckets h k (λ p q. HaveTaken cache_facts backing_facts before bs p q u v)
      → TiesBuckets k l (λ p q. TookOr cache_facts backing_facts before want.Chain (Err none) p q v
      w) → TiesBuckets h l (λ p q. HasNoChain cache_facts backing_facts before most
      (answer.NoBucket none) bs p q u w)
  no_bucket before most bs none h k l u v w few = tied_then h k l
      (λ p q. HaveTaken cache_facts backing_facts before bs p q u v)
      (λ p q. TookOr cache_facts backing_facts before want.Chain (Err none) p q v w)
      (λ p q. HasNoChain cache_facts backing_facts before most (answer.NoBucket none) bs p q u w)
      (λ p q r first second. record {
        few = few;
        had = v;
        took = subst (λ (x : BucketsPart). HaveTaken cache_facts backing_facts before bs p x u v)
            (sym second.same) first;
        waited = done_one cache_facts backing_facts None v w second.did;
        why = (
          second.none_is,
          subst (λ (x : BucketsPart). HasNoneFor want.Chain x) (sym second.same) second.empty,
        );
      })

  pub no_sound : (before most : ℕ) (g : Geometry) (bs : List HeldBucket) (b : HeldBucket)
      (h l : Hand C B) (u w : View cache_facts backing_facts) → length bs ≤ most
      → IsCoreSeat cache_facts backing_facts w
      → FromEach (world cache_facts backing_facts w) (λ o st. IsForSet g b)
      → (IsForSet g b → ⊥)
      → TiesBuckets h l (λ p q. HaveTaken cache_facts backing_facts before bs p q u w)
      → TiesBuckets h l (λ p q. HasNoChain cache_facts backing_facts before most
      answer.Unsound bs p q u w)
  no_sound before most g bs b h l u w few seat fit not tie p is = let x = tie p is in (
    x.0,
    x.1,
    record {
      few = few;
      had = w;
      took = x.2;
      waited = done_one cache_facts backing_facts None w w
          (did_nothing cache_facts backing_facts w seat);
      why = λ o origin course. not (fit o origin course);
    },
  )

  pub stopped_taking : (before most : ℕ) (e : StepError) (bs : List HeldBucket) (h k l : Hand C B)
      (u v w : View cache_facts backing_facts) → length bs ≤ most → l ≡ k
      → Did cache_facts backing_facts None v w → IsHalted e w.seen
      → TiesBuckets h k (λ p q. HaveTaken cache_facts backing_facts before bs p q u v)
      → TiesBuckets h l (λ p q. HasStoppedTaking cache_facts backing_facts before most e p q u w)
  stopped_taking before most e bs h k l u v w few same did halted tie p is = let x = tie p is in (
    x.0,
    ap (λ (y : Hand C B). y.buckets) same ∙ x.1,
    record {
      taken = bs;
      few = few;
      had = v;
      took = x.2;
      did = did;
      halted = halted;
    },
  )

  -- ---- and let go again

  pub given_back : (before most : ℕ) (a : Refilled) (bs : List HeldBucket) (h k l : Hand C B)
      (u v w : View cache_facts backing_facts)
      → TiesBuckets h k (λ p q. HasNoChain cache_facts backing_facts before most a bs p q u v)
      → TiesBuckets k l (λ p q. HaveLetGo cache_facts backing_facts before (reverse bs) p q v w)
      → TiesBuckets h l (λ p q. HasGivenBack cache_facts backing_facts before most a p q u w)
  given_back before most a bs h k l u v w = tied_then h k l
      (λ p q. HasNoChain cache_facts backing_facts before most a bs p q u v)
      (λ p q. HaveLetGo cache_facts backing_facts before (reverse bs) p q v w)
      (λ p q. HasGivenBack cache_facts backing_facts before most a p q u w)
      (λ p q r first second. record {
        taken = bs;
        left = q;
        then_ = v;
        none = first;
        gone = second;
      })

  pub stopped_back : (before most : ℕ) (a : Refilled) (e : StepError) (bs : List HeldBucket)
      (h k l : Hand C B) (u v w : View cache_facts backing_facts)
      → TiesBuckets h k (λ p q. HasNoChain cache_facts backing_facts before most a bs p q u v)
      → TiesBuckets k l (λ p q. HasStoppedGoing cache_facts backing_facts before e bs p q v w)
      → TiesBuckets h l (λ p q. HasStoppedBack cache_facts backing_facts before most e p q u w)
  stopped_back before most a e bs h k l u v w = tied_then h k l
      (λ p q. HasNoChain cache_facts backing_facts before most a bs p q u v)
      (λ p q. HasStoppedGoing cache_facts backing_facts before e bs p q v w)
      (λ p q. HasStoppedBack cache_facts backing_facts before most e p q u w)
      (λ p q r first second. record {
        why = a;
        taken = bs;
        left = q;
        then_ = v;
        none = first;
        stopped = second;
      })

  -- ---- one less

  pub tied_less : (before : ℕ) (bs : List HeldBucket) (b : HeldBucket) (h k l : Hand C B)
      (u v w : View cache_facts backing_facts)
      → TiesBuckets h k (λ p q. HaveLetGo cache_facts backing_facts before (reverse bs) p q u v)
      → TiesBuckets k l (λ p q. LetGo cache_facts backing_facts before b p q v w)
      → TiesBuckets h l (λ p q. HaveLetGo cache_facts backing_facts before (reverse (b ∷ bs)) p q u
      w)
  tied_less before bs b h k l u v w = tied_then h k l
      (λ p q. HaveLetGo cache_facts backing_facts before (reverse bs) p q u v)
      (λ p q. LetGo cache_facts backing_facts before b p q v w)
      (λ p q. HaveLetGo cache_facts backing_facts before (reverse (b ∷ bs)) p q u w)
      (λ p q r first second. subst (λ (xs : List HeldBucket). HaveLetGo cache_facts backing_facts
      before xs p r u w) (sym (reverse-append (b ∷ []) bs))
      (gone_more cache_facts backing_facts before (reverse bs) b p q r u v w first second))

  pub stopped_going : (before : ℕ) (e : StepError) (all left bs : List HeldBucket)
      (h k l : Hand C B) (u v w : View cache_facts backing_facts) → all ≡ left ++ bs → l ≡ k
      → Did cache_facts backing_facts None v w → IsHalted e w.seen
      → TiesBuckets h k (λ p q. HaveLetGo cache_facts backing_facts before (reverse bs) p q u v)
      → TiesBuckets h l (λ p q. HasStoppedGoing cache_facts backing_facts before e all p q u w)
  stopped_going before e all left bs h k l u v w are same did halted tie p is =
      let x = tie p is in (
        x.0,
        ap (λ (y : Hand C B). y.buckets) same ∙ x.1,
        record {
          gone = reverse bs;
          rest = reverse left;
          are = ap (λ (xs : List HeldBucket). reverse xs) are ∙ reverse-append left bs;
          last = v;
          went = x.2;
          did = did;
          halted = halted;
        },
      )
