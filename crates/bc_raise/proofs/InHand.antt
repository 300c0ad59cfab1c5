-- The buckets in hand, as a step takes them and puts them back.
use Rattle.std.proofs.Common.{◌≡◌, ◌==◌, [], Option, Some, sym, ap, ◌∙◌, subst}
use Rattle.std.specs.Prelude.{OnOk, Result, Ok, Err}
use Rattle.bc_disk.specs.Disk.{DiskFacts}
use Rattle.bc_held.specs.Taken.{KeepsHeld}
use Rattle.bc_parts.specs.Seat.{Holds, PartsView}
use Rattle.bc_held.proofs.of_bc_deed.May.{other_number}
use Rattle.bc_held.proofs.of_bc_hand.Knowing.{View, m}
use Rattle.bc_held.proofs.of_bc_hand.Lends.{works_buckets}
use Rattle.bc_held.specs.bc_hand.Seats.{IsCoreSeat, Works, numbers, with_leaves, with_part, world}
use Rattle.bc_held.specs.bc_hand.declared.hand.Hand.{Hand}
use Rattle.bc_held.specs.bc_machine.World.{AreBuckets}
use Rattle.bc_held.specs.bc_machine.declared.part.BucketsPart.{BucketsPart}
use Rattle.bc_held.specs.bc_machine.declared.part.CorePart.{CorePart}
use Rattle.bc_seats.specs.Seats.{Kept}

pub same_some : {A : Type 0} (o : Option A) (a b : A) → o ≡ Some a → o ≡ Some b → a ≡ b
same_some o a b is at = let both : Some a ≡ Some b = sym is ∙ at in cc

pub on_ok : {A E : Type 0} {P Q : Type 0} (r : Result A E) → (P → Q) → OnOk r P → OnOk r Q
on_ok (Ok a) f h = f h
on_ok (Err e) f h = tt

module _ {C B : Type 0} (cache_facts : C → DiskFacts) (backing_facts : B → DiskFacts) where
  with_buckets_in : (p : PartsView (CorePart C B)) (v : View cache_facts backing_facts)
      (h : Hand C B) (b : BucketsPart) → h.buckets ≡ Some b → Works cache_facts backing_facts p v h
      → Works cache_facts backing_facts p v (record h { buckets = Some b })
  with_buckets_in p v h b is works =
      subst (λ (o : Option BucketsPart). Works cache_facts backing_facts p v
      (record h { buckets = o })) is works

  -- the part that stands anew for what a deed made of it
  pub works_anew : (p : PartsView (CorePart C B)) (v w : View cache_facts backing_facts)
      (h : Hand C B) (b new : BucketsPart) → h.buckets ≡ Some b
      → Works cache_facts backing_facts p v h → IsCoreSeat cache_facts backing_facts w
      → Kept (m cache_facts backing_facts) v w (λ k. k == 2)
      → AreBuckets new (world cache_facts backing_facts w)
      → Works cache_facts backing_facts p w (record h { buckets = Some new })
  works_anew p v w h b new is works seat kept on = works_buckets cache_facts backing_facts p v w h b
      new (λ k. k == 2) (with_buckets_in p v h b is works) seat kept (other_number 2) on

  -- who has other buckets in hand, and the rest of what was there, holds the tree still
  pub spine_on : (p : PartsView (CorePart C B)) (v w : View cache_facts backing_facts)
      (h g : Hand C B) (b new : BucketsPart) → h.buckets ≡ Some b
      → g ≡ record h { buckets = Some new } → Works cache_facts backing_facts p v h
      → Works cache_facts backing_facts p w g → Holds v.parts 0 → Holds w.parts 0
  spine_on p v w h g b new is rest before then_ holds = subst (λ ks. Holds ks 0)
      (before.parts
      ∙ ap (λ (o : Option BucketsPart). with_part 5 h.backing (with_part 4 h.cache (with_part 3
      h.journal (with_part 2 o (with_part 1 h.flight (with_leaves h.leaves
      (with_part 0 h.spine []))))))) is
      ∙ sym (then_.parts ∙ ap (λ (x : Hand _ _). numbers x) rest)) holds

  pub held_both : (u v w : View cache_facts backing_facts) → (Holds u.parts 0 → Holds v.parts 0)
      → KeepsHeld cache_facts backing_facts u v → KeepsHeld cache_facts backing_facts v w
      → KeepsHeld cache_facts backing_facts u w
  held_both u v w holds a b = record {
    held = λ c other h. b.held c tt (a.held c tt h);
    vacant = λ spine c h. b.vacant (holds spine) c (a.vacant spine c h);
    other = λ c d h. b.other c d (a.other c d h);
  }
