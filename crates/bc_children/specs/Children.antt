-- The core's bucket of a place, and the one that the place names on the device.
use Rattle.std.specs.Prelude.{ℕ, ◌-◌, ◌/◌, ◌<◌}
use Rattle.bc_disk.specs.declared.geometry.Geometry.{Geometry}
use Rattle.bc_facts.specs.Layout.{IsLayoutOf}
use Rattle.bc_key.specs.declared.ptr.Ptr.{Ptr}
use Rattle.bc_nodes_known.specs.bc_looks.Looks.{InCourse}
use Rattle.bc_nodes_known.specs.bc_machine.Containers.{IsSpineOf}
use Rattle.bc_nodes_known.specs.bc_machine.World.{Origin}
use Rattle.bc_planned.specs.Laws.{Agree, StandEach}
use Rattle.bc_tree.specs.Spine.{Spine}

abbrev pub by_core : Origin → Ptr → ℕ
by_core o ptr = o.opening.machine.flow.books.bucket ptr.offset

-- the core counts buckets from the journal's first one on
abbrev pub by_device : Geometry → Ptr → ℕ
by_device g ptr = ptr.offset / g.bucket - g.first_bucket

-- The two are one for each place where a node of a tree stands.
abbrev pub LawTree : Type 0
LawTree = InCourse (λ o st. (g : Geometry) (spine : Spine)
    → IsLayoutOf g o.opening.machine.layout → 0 < g.bucket
    → IsSpineOf o.opening.machine st.machine.whole.parts spine
    → StandEach (Agree (by_core o) (by_device g)) spine)

-- So they are for each place in one of the core's buckets.
abbrev pub LawInside : Type 0
LawInside = InCourse (λ o st. (g : Geometry) (ptr : Ptr) → IsLayoutOf g o.opening.machine.layout
    → 0 < g.bucket → by_core o ptr < o.opening.machine.layout.buckets
    → Agree (by_core o) (by_device g) ptr)
