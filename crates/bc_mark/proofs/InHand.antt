-- The buckets in hand, as a step takes them and puts them back.
use Rattle.std.proofs.Common.{◌≡◌, ◌==◌, Option, Some, sym, ◌∙◌, subst}
use Rattle.std.specs.Prelude.{OnOk, Result, Ok, Err}
use Rattle.bc_disk.specs.Disk.{DiskFacts}
use Rattle.bc_parts.specs.Seat.{PartsView}
use Rattle.bc_place.proofs.of_bc_deed.May.{other_number}
use Rattle.bc_place.proofs.of_bc_hand.Knowing.{View, m}
use Rattle.bc_place.proofs.of_bc_hand.Lends.{works_buckets}
use Rattle.bc_place.specs.bc_hand.Seats.{IsCoreSeat, Works, world}
use Rattle.bc_place.specs.bc_hand.declared.hand.Hand.{Hand}
use Rattle.bc_place.specs.bc_machine.World.{AreBuckets}
use Rattle.bc_place.specs.bc_machine.declared.part.BucketsPart.{BucketsPart}
use Rattle.bc_place.specs.bc_machine.declared.part.CorePart.{CorePart}
use Rattle.bc_seats.specs.Seats.{Kept}

pub same_some : {A : Type 0} (o : Option A) (a b : A) → o ≡ Some a → o ≡ Some b → a ≡ b
same_some o a b is at = let both : Some a ≡ Some b = sym is ∙ at in cc

pub on_ok : {A E : Type 0} {P Q : Type 0} (r : Result A E) → (P → Q) → OnOk r P → OnOk r Q
on_ok (Ok a) f h = f h
on_ok (Err e) f h = tt

module _ {C B : Type 0} (cache_facts : C → DiskFacts) (backing_facts : B → DiskFacts) where
  with_buckets_in : (p : PartsView (CorePart C B)) (v : View cache_facts backing_facts)
      (h : Hand C B) (b : BucketsPart) → h.buckets ≡ Some b → Works cache_facts backing_facts p v h
      → Works cache_facts backing_facts p v (record h { buckets = Some b })
  with_buckets_in p v h b is works =
      subst (λ (o : Option BucketsPart). Works cache_facts backing_facts p v
      (record h { buckets = o })) is works

  -- the part that stands anew for what a deed made of it
  pub works_anew : (p : PartsView (CorePart C B)) (v w : View cache_facts backing_facts)
      (h : Hand C B) (b new : BucketsPart) → h.buckets ≡ Some b
      → Works cache_facts backing_facts p v h → IsCoreSeat cache_facts backing_facts w
      → Kept (m cache_facts backing_facts) v w (λ k. k == 2)
      → AreBuckets new (world cache_facts backing_facts w)
      → Works cache_facts backing_facts p w (record h { buckets = Some new })
  works_anew p v w h b new is works seat kept on = works_buckets cache_facts backing_facts p v w h b
      new (λ k. k == 2) (with_buckets_in p v h b is works) seat kept (other_number 2) on
