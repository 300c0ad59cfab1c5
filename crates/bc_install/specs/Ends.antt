-- The buckets of what comes with a planned change and of what goes, by what is in memory alone.
use Rattle.std.specs.Prelude.{◌≡◌, ◌⊎◌, ℕ, ◌^◌, ◌<◌, List, ◌++◌, map}
use Rattle.bc_change.specs.Goes.{new_nodes, old_nodes}
use Rattle.bc_change.specs.Ready.{HoldsNew}
use Rattle.bc_change.specs.bc_looks.Looks.{InCourse}
use Rattle.bc_change.specs.bc_machine.Containers.{IsSpineOf}
use Rattle.bc_disk.specs.declared.geometry.Geometry.{Geometry}
use Rattle.bc_facts.specs.Layout.{IsLayoutOf}
use Rattle.bc_install.specs.Ended.{AreEach, AreEndsOf}
use Rattle.bc_install.specs.Numbered.{bucket_by, node_buckets}
use Rattle.bc_meta.specs.Chain.{Distinct}
use Rattle.bc_meta.specs.Facts.{In}
use Rattle.bc_shares.specs.Shares.{books_of}
use Rattle.bc_spine.specs.Exchange.{coming, going}
use Rattle.bc_spine.specs.declared.leaf.LeafRange.{LeafRange}
use Rattle.bc_tree.specs.Spine.{Spine}
use Rattle.bc_tree.specs.declared.plan.Plan.{Plan}

-- The number is there, besides what was, and no other one came.
pub record IsWith (number : ℕ) (old new : List ℕ) : Type 0 where
  pub there : In number new
  pub stay : (b : ℕ) → In b old → In b new
  pub among : (b : ℕ) → In b new → In b old ⊎ (b ≡ number)
  pub once : Distinct old → Distinct new

-- the buckets of leaves, as the core counts them
abbrev pub leaf_buckets : Geometry → List LeafRange → List ℕ
leaf_buckets g ranges = map (λ (l : LeafRange). bucket_by g l.ptr) ranges

-- those of all that comes, and of all that goes
abbrev pub all_come : Geometry → Plan → List ℕ
all_come g plan = leaf_buckets g (coming plan.leaves) ++ node_buckets g (new_nodes plan)

abbrev pub all_gone : Geometry → Spine → Plan → List ℕ
all_gone g spine plan = leaf_buckets g (going spine.leaves plan.leaves)
    ++ node_buckets g (old_nodes spine plan)

-- These are they, each once: leaves that share a bucket give one number.
pub record AreEndsIn (g : Geometry) (spine : Spine) (plan : Plan) (come gone : List ℕ) :
    Type 0 where
  pub comes : AreEach (all_come g plan) come
  pub goes : AreEach (all_gone g spine plan) gone

-- So they are the change's ends from each opening, where the seat holds the buckets of what comes.
abbrev pub LawEnds : Type 0
LawEnds = InCourse (λ o st. (g : Geometry) (spine : Spine) (plan : Plan) (come gone : List ℕ)
    (i : ℕ) → IsLayoutOf g o.opening.machine.layout → 0 < g.bucket → g.nbuckets < 2 ^ 32
    → IsSpineOf o.opening.machine st.machine.whole.parts spine
    → HoldsNew o.opening.machine (books_of st.machine) i plan
    → AreEndsIn g spine plan come gone → AreEndsOf o.opening.machine spine plan come gone)
