-- What a seat has done that made a planned change of the tree, and where it came no further.
use Rattle.std.specs.Prelude.{◌≡◌, ℕ, ◌≤◌, false, List, None, Some, length}
use Rattle.bc_by_root.specs.Done.{HasChanged, HasCut, HasNotBegun, HasNotInstalled}
use Rattle.bc_by_root.specs.Given.{MayChange}
use Rattle.bc_by_root.specs.declared.error.NotBegun.{NotBegun}
use Rattle.bc_disk.specs.Disk.{DiskFacts}
use Rattle.bc_new_nodes.specs.Wrote.{HaveStopped, HaveWrittenAll, changed}
use Rattle.bc_new_nodes.specs.bc_hand.Seats.{View, world}
use Rattle.bc_new_nodes.specs.bc_hand.declared.error.StepError.{StepError}
use Rattle.bc_new_nodes.specs.bc_hand.declared.error.StepError.TheVariants as step
use Rattle.bc_new_nodes.specs.bc_hand.declared.hand.Hand.{Hand}
use Rattle.bc_new_nodes.specs.bc_held.declared.held.HeldBucket.{HeldBucket}
use Rattle.bc_new_nodes.specs.bc_machine.declared.part.SpinePart.{SpinePart}
use Rattle.bc_replaced.specs.declared.error.MakeError.{MakeError}
use Rattle.bc_replaced.specs.declared.error.MakeError.TheVariants as error
use Rattle.bc_tree.specs.LastKeys.{AreKept}
use Rattle.bc_tree.specs.Next.{leaves_next}
use Rattle.bc_tree.specs.declared.plan.Plan.{Plan}

-- the hand once all new nodes are written
abbrev pub written : {C B : Type 0} → Hand C B → SpinePart → List HeldBucket → Hand C B
written h spine bs = changed h spine (length bs) None

-- The tree has the plan in it, and is at rest. What comes gives each sector what the leaves that go
-- gave it, as far as the plan does; and then so do all leaves.
pub record HasTreeNow {C B : Type 0} (h k : Hand C B) (plan : Plan) : Type 0 where
  pub old : SpinePart
  pub is_old : h.spine ≡ Some old
  pub now : SpinePart
  pub is_now : k.spine ≡ Some now
  pub rest : now.changing ≡ false
  pub leaves : now.spine.leaves ≡ leaves_next old.spine.leaves plan.leaves
  pub kept : AreKept old.spine.leaves plan now.spine.leaves

module _ {C B : Type 0} (cache_facts : C → DiskFacts) (backing_facts : B → DiskFacts) where
  -- All new nodes of the plan were written, each to the bucket at its place, with a barrier behind:
  -- so the plan has become this one.
  pub record HasWritten (before : ℕ) (h : Hand C B) (spine : SpinePart) (bs : List HeldBucket)
      (plan new : Plan) (v w : View cache_facts backing_facts) : Type 0 where
    pub is_spine : h.spine ≡ Some spine
    pub wrote : HaveWrittenAll cache_facts backing_facts before spine.spine.geometry bs plan new v w

  -- Then an entry with the new root was put, and the change was installed. Leaves are in so many
  -- parts.
  pub record HasMade (before count : ℕ) (h k : Hand C B) (bs : List HeldBucket) (plan : Plan)
      (v w : View cache_facts backing_facts) : Type 0 where
    pub spine : SpinePart
    pub new : Plan
    pub between : View cache_facts backing_facts
    pub wrote : HasWritten before h spine bs plan new v between
    pub changed : HasChanged cache_facts backing_facts count new (written h spine bs) k between w
    pub tree : HasTreeNow h k plan

  -- ---- where it came no further

  -- to the new nodes
  pub record HasStoppedAtNodes (before : ℕ) (e : StepError) (h k : Hand C B) (bs : List HeldBucket)
      (plan : Plan) (v w : View cache_facts backing_facts) : Type 0 where
    pub spine : SpinePart
    pub is_spine : h.spine ≡ Some spine
    pub new : Plan
    pub stopped : HaveStopped cache_facts backing_facts e before bs plan new spine h k v w

  -- behind the new nodes, which stand
  pub record HasStoppedBehind (before : ℕ) (h k : Hand C B) (bs : List HeldBucket) (plan new : Plan)
      (Why : Hand C B → View cache_facts backing_facts → View cache_facts backing_facts → Type 0)
      (v w : View cache_facts backing_facts) : Type 0 where
    pub spine : SpinePart
    pub between : View cache_facts backing_facts
    pub wrote : HasWritten before h spine bs plan new v between
    pub hand : k ≡ written h spine bs
    pub why : Why (written h spine bs) between w

  -- with a plan that tells no more
  pub record HasStoppedLast (before : ℕ) (h k : Hand C B) (bs : List HeldBucket) (plan : Plan)
      (Why : Plan → Hand C B → View cache_facts backing_facts → View cache_facts backing_facts
      → Type 0) (v w : View cache_facts backing_facts) : Type 0 where
    pub new : Plan
    pub stopped : HasStoppedBehind before h k bs plan new (Why new) v w

  -- No entry was begun, and with this plan the change may be tried again.
  pub record HasOnlyWritten (sectors parts before : ℕ) (why : NotBegun) (h k : Hand C B)
      (bs : List HeldBucket) (plan new : Plan) (v w : View cache_facts backing_facts) : Type 0 where
    pub stopped : HasStoppedBehind before h k bs plan new
        (λ at x y. HasNotBegun cache_facts backing_facts sectors at new why x y) v w
    pub again : MayChange k parts w.first new (world cache_facts backing_facts w)

  abbrev pub HasNotMade : (sectors parts before : ℕ) → MakeError → Hand C B → Hand C B
      → List HeldBucket → Plan → View cache_facts backing_facts → View cache_facts backing_facts
      → Type 0
  HasNotMade sectors parts before error.Memory h k bs plan v w = (w ≡ v) × (k ≡ h)
  HasNotMade sectors parts before (error.Nodes e) h k bs plan v w =
      HasStoppedAtNodes before e h k bs plan v w
  HasNotMade sectors parts before (error.NotBegun why new) h k bs plan v w =
      HasOnlyWritten sectors parts before why h k bs plan new v w
  HasNotMade sectors parts before (error.Entry e) h k bs plan v w =
      HasStoppedLast before h k bs plan
      (λ new at x y. HasCut cache_facts backing_facts at new e x y) v w
  HasNotMade sectors parts before (error.Install e) h k bs plan v w =
      HasStoppedLast before h k bs plan
      (λ new at x y. HasNotInstalled cache_facts backing_facts at new e x y) v w

-- ---- errors

-- for want of memory nothing was done; else it came no further than to the new nodes
abbrev pub failed_by : StepError → MakeError
failed_by step.Memory = error.Memory
failed_by (step.Fault device) = error.Nodes (step.Fault device)
failed_by (step.Halted device) = error.Nodes (step.Halted device)

-- Where no entry was begun, the seat has enough of them to try again.
abbrev pub KeepsEnough : MakeError → ℕ → ℕ → Type 0
KeepsEnough error.Memory before after = before ≤ after
KeepsEnough (error.Nodes e) before after = Unit {0}
KeepsEnough (error.NotBegun why plan) before after = 6 ≤ after
KeepsEnough (error.Entry e) before after = Unit {0}
KeepsEnough (error.Install e) before after = Unit {0}
