-- By the rows of an index those sectors are counted whose keys are live in a bucket.
use Rattle.std.specs.Prelude.{ℕ, true, false, List, All}
use Rattle.bc_disk.specs.declared.geometry.Geometry.{Geometry}
use Rattle.bc_image.specs.Reading.{Reading, keys_of}
use Rattle.bc_image.specs.Sound.{IsDataKey}
use Rattle.bc_key.specs.declared.key.Key.{Key}
use Rattle.bc_node.specs.Leaf.{AreLastOfAll}
use Rattle.bc_counts.specs.Counts.{Asks, HasRow, IsCount, IsDirtyIn, IsLiveIn}

-- the rows are those of the reading's last keys, which point into data
pub record AreRowsOf (g : Geometry) (size : ℕ) (r : Reading) (rows : List Key) : Type 0 where
  pub last : AreLastOfAll (keys_of r) rows
  pub keys : All (IsDataKey g size) (keys_of r)

abbrev pub LawLive : Type 0
LawLive =
    (g : Geometry) (size : ℕ) (r : Reading) (rows : List Key) (bucket count : ℕ)
    → AreRowsOf g size r rows → IsCount (HasRow g r.gens rows (Asks false) bucket) count → IsCount (IsLiveIn g r bucket) count

abbrev pub LawDirty : Type 0
LawDirty =
    (g : Geometry) (size : ℕ) (r : Reading) (rows : List Key) (bucket count : ℕ)
    → AreRowsOf g size r rows → IsCount (HasRow g r.gens rows (Asks true) bucket) count → IsCount (IsDirtyIn g r bucket) count
