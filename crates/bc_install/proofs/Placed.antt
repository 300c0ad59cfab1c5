-- A plan that is put into the parts in hand.
use Rattle.std.proofs.Common.{◌≡◌, ℕ, ◌-◌, List, Option, Some, ap, ◌∙◌, subst}
use Rattle.bc_cache.specs.Slots.{NodeCache}
use Rattle.bc_change.specs.Goes.{numbers}
use Rattle.bc_change.specs.bc_hand.declared.hand.Hand.{Hand}
use Rattle.bc_change.specs.bc_hand.declared.hand.LeafHand.{LeafHand}
use Rattle.bc_change.specs.bc_machine.declared.part.BucketsPart.{BucketsPart}
use Rattle.bc_change.specs.bc_machine.declared.part.SpinePart.{SpinePart}
use Rattle.bc_change.proofs.Seated.{same_some}
use Rattle.bc_spine.specs.Exchange.{going}
use Rattle.bc_tree.specs.declared.plan.Plan.{Plan}
use Rattle.bc_install.specs.Buckets.{HasBucketsWith}
use Rattle.bc_install.specs.Ended.{leaves_of}
use Rattle.bc_install.specs.Installed.{AreBroughtIn, AreTakenOut, HasTreeWith}
use Rattle.bc_install.specs.Step.{HasForInstall, IsPutIn}

-- what was taken out of the hand is what was there
pub was_in : {A : Type 0} (o r : Option A) (a b c : A) → r ≡ Some b → r ≡ o → o ≡ Some a → c ≡ b
    → c ≡ a
was_in o r a b c is value at same = same ∙ same_some r b a is (value ∙ at)

pub put_in_all : {C B : Type 0} (h : Hand C B) (count : ℕ) (plan : Plan) (first : ℕ)
    (come gone : List ℕ) (at : HasForInstall h plan) (sp q : SpinePart) (l : LeafHand)
    (without cache : NodeCache) (number : ℕ) (b part : BucketsPart) → sp ≡ at.spine → l ≡ at.leaves
    → b ≡ at.buckets → number ≡ l.part - 6 → HasTreeWith sp plan q
    → AreTakenOut (numbers (going sp.spine.leaves plan.leaves)) l.cache without
    → AreBroughtIn count number plan without cache
    → HasBucketsWith first (leaves_of plan) come gone b part
    → IsPutIn count plan first come gone h (record h {
      spine = Some q;
      leaves = Some (record l { cache = cache });
      buckets = Some part;
    })
put_in_all h count plan first come gone at sp q l without cache number b part sp_is l_is b_is n_is tree
    out brought buckets = record {
      at = at;
      spine = q;
      tree = subst (λ (s : SpinePart). HasTreeWith s plan q) sp_is tree;
      cache = cache;
      without = without;
      out = subst (λ (s : SpinePart).
          AreTakenOut (numbers (going s.spine.leaves plan.leaves)) at.leaves.cache without) sp_is
          (subst (λ (x : LeafHand).
          AreTakenOut (numbers (going sp.spine.leaves plan.leaves)) x.cache without) l_is out);
      brought = subst (λ n. AreBroughtIn count n plan without cache)
          (n_is ∙ ap (λ (x : LeafHand). x.part - 6) l_is) brought;
      part = part;
      buckets = subst (λ (x : BucketsPart). HasBucketsWith first (leaves_of plan) come gone x part) b_is
          buckets;
      is = ap (λ (x : LeafHand). record h {
        spine = Some q;
        leaves = Some (record x { cache = cache });
        buckets = Some part;
      }) l_is;
    }
