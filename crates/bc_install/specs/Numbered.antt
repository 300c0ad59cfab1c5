-- A planned change of the tree as events name it, by what is in memory alone.
use Rattle.std.specs.Prelude.{◌≡◌, ℕ, ◌-◌, ◌/◌, ◌%◌, ◌^◌, ◌<◌, List, map, Option, None, Some}
use Rattle.bc_change.specs.Goes.{IsChangeBy, new_nodes, numbers, old_nodes}
use Rattle.bc_change.specs.Ready.{HoldsNew}
use Rattle.bc_disk.specs.declared.geometry.Geometry.{Geometry}
use Rattle.bc_events.specs.declared.event.Change.{Change}
use Rattle.bc_facts.specs.Layout.{IsLayoutOf}
use Rattle.bc_inner.specs.Inner.{Inner}
use Rattle.bc_key.specs.declared.ptr.Ptr.{Ptr}
use Rattle.bc_change.specs.bc_looks.Looks.{InCourse}
use Rattle.bc_meta.specs.Facts.{In}
use Rattle.bc_change.specs.bc_machine.Containers.{IsSpineOf}
use Rattle.bc_shares.specs.Shares.{books_of}
use Rattle.bc_spine.specs.Exchange.{coming, going}
use Rattle.bc_spine.specs.Leaves.{IsRow}
use Rattle.bc_spine.specs.declared.leaf.LeafRange.{LeafRange}
use Rattle.bc_tree.specs.Spine.{Spine}
use Rattle.bc_tree.specs.declared.plan.Plan.{Plan}

-- The number that the core has for the bucket in which a place lies. The core counts buckets from
-- the journal's first one on.
abbrev pub bucket_by : Geometry → Ptr → ℕ
bucket_by g ptr = (ptr.offset / g.bucket - g.first_bucket) % 2 ^ 32

abbrev pub node_buckets : Geometry → List Inner → List ℕ
node_buckets g nodes = map (λ (n : Inner). bucket_by g n.ptr) nodes

-- where the last leaf that comes ends
abbrev pub end_by : LeafRange → Option LeafRange → ℕ
end_by first None = first.end
end_by first (Some second) = second.end

-- The change is what the plan makes of the tree.
pub record IsChangeIn (g : Geometry) (spine : Spine) (plan : Plan) (c : Change) : Type 0 where
  pub row : IsRow c.low (going spine.leaves plan.leaves) c.high
  pub gone : c.gone.items ≡ numbers (going spine.leaves plan.leaves)
  pub come : c.come.items ≡ numbers (coming plan.leaves)
  pub old : c.old.items ≡ node_buckets g (old_nodes spine plan)
  pub new : c.new.items ≡ node_buckets g (new_nodes plan)
  pub few : (k : ℕ) → In k c.come.items → k < 2 ^ 32

-- So it is the plan's from each opening, where the seat holds the buckets of what comes: each inner
-- node has the slot of its bucket, and the device is cut into buckets.
abbrev pub LawChange : Type 0
LawChange = InCourse (λ o st. (g : Geometry) (spine : Spine) (plan : Plan) (c : Change) (i : ℕ)
    → IsLayoutOf g o.opening.machine.layout → 0 < g.bucket → g.nbuckets < 2 ^ 32
    → IsSpineOf o.opening.machine st.machine.whole.parts spine
    → HoldsNew o.opening.machine (books_of st.machine) i plan
    → IsChangeIn g spine plan c → IsChangeBy o.opening.machine spine plan c)
