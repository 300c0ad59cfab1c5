-- What is in memory for a change by a set before any of it is done.
use Rattle.std.specs.Prelude.{◌≡◌, ◌*◌, length}
use Rattle.bc_by_root.specs.Prepared.{IsForInstall}
use Rattle.bc_by_root.specs.bc_install.Numbered.{IsChangeIn, bucket_by}
use Rattle.bc_by_set.specs.declared.prepare.PreparedSet.{PreparedSet}
use Rattle.bc_disk.specs.declared.geometry.Geometry.{Geometry}
use Rattle.bc_inner.specs.Inner.{Inner}
use Rattle.bc_tree.specs.Spine.{Spine}
use Rattle.bc_tree.specs.declared.plan.Plan.{Plan}

-- What the write of the set takes, and the install behind it.
pub record IsPreparedSet (g : Geometry) (spine : Spine) (plan : Plan) (taker : Inner)
    (p : PreparedSet) : Type 0 where
  pub slot : p.slot ≡ bucket_by g taker.ptr
  pub change : IsChangeIn g spine plan p.change
  pub room : length p.room.items ≡ 512 * spine.geometry.node_sectors
  pub later : IsForInstall g spine plan p.change p.later
