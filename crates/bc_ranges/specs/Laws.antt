-- What a reader finds of the nodes of each image that a crash may leave.
use Rattle.std.specs.Prelude.{◌≡◌, ℕ, ◌^◌, List, All, AllPairs}
use Rattle.bc_model.specs.Sector.{Image}
use Rattle.bc_disk.specs.Device.{MayLeave}
use Rattle.bc_disk.specs.declared.geometry.Geometry.{Geometry}
use Rattle.bc_key.specs.declared.key.Key.{Key}
use Rattle.bc_super.specs.Super.{data_sectors}
use Rattle.bc_leaves.specs.Parts as parts
use Rattle.bc_image.specs.Pair.{Pair}
use Rattle.bc_image.specs.Pointers.{PointsInto}
use Rattle.bc_image.specs.Reading.{Reading, IsReading, View, keys_of}
use Rattle.bc_image.specs.Sound.{HasRanges, IsDataKey, IsNodeKey}
use Rattle.bc_facts.specs.Torn.{NoTornRecord}
use Rattle.bc_whole.specs.State.{Opening}
use Rattle.bc_known.specs.Acts.{Event}
use Rattle.bc_known.specs.Run.{IsRun, run, start}
use Rattle.bc_opened.specs.Opening.{IsSoundOpeningOf}
use Rattle.bc_ranges.specs.Made.{Frame, AreWellMade}

-- what of a pair each run leaves as it is
abbrev pub frame_of : Pair → View → Frame
frame_of p v = record {
  geometry = v.geometry;
  size = data_sectors p.backing_sectors v.backing;
  uuid = v.reading.newest.item.uuid_bucket;
}

-- a run from an opening of a pair; what it makes is made well, and no torn record matched by chance
pub record IsRunOf (p : Pair) (v : View) (w : Opening) (x : parts.State) (next_seq : ℕ)
    (es : List Event) : Type 0 where
  pub opening : IsSoundOpeningOf p v w x
  pub course : IsRun w (start w x next_seq) es
  pub made : AreWellMade (frame_of p v) w (start w x next_seq) es
  pub no_torn : NoTornRecord v.geometry w.store.image
      (run w (start w x next_seq) es).whole.store.places

-- all that soundness says of nodes, and of what the newest entry names
pub record HasNodes (g : Geometry) (size : ℕ) (uuid : Key) (r : Reading) : Type 0 where
  pub ranges : HasRanges r
  pub keys : All (λ n. IsNodeKey g n.key) r.nodes
  pub root : r.newest.item.root.end ≡ 2 ^ 40
  pub names : r.newest.item.uuid_bucket ≡ uuid
  pub data_keys : All (IsDataKey g size) (keys_of r)
  -- no two lie in one bucket
  pub apart : AllPairs (λ m n. (bucket : ℕ) → PointsInto g m.key bucket → PointsInto g n.key bucket
      → ⊥) r.nodes

-- at the end of every run, and so at every state of one
abbrev pub LawNodes : Type 0
LawNodes =
    (p : Pair) (v : View) (w : Opening) (x : parts.State) (next_seq : ℕ) (es : List Event)
    → IsRunOf p v w x next_seq es → let st = run w (start w x next_seq) es in let f = frame_of p v in
    (c : Image) → MayLeave st.whole.flow.cache c → (r : Reading) → IsReading v.geometry c r
    → HasNodes v.geometry f.size f.uuid r
