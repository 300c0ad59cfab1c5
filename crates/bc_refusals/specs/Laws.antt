-- Which refusals of a read don't come over a sound pair.
use Rattle.std.specs.Prelude.{ℕ, ◌+◌, ◌%◌, ◌^◌, ◌<◌, ◌≤◌}
use Rattle.bc_disk.specs.Disk.{DiskFacts}
use Rattle.bc_disk.specs.declared.geometry.Geometry.{Geometry}
use Rattle.bc_request.specs.bc_fetch.Fetch.{HasStoppedAt}
use Rattle.bc_request.specs.bc_fetch.declared.error.LeafError.TheVariants as leaf
use Rattle.bc_request.specs.bc_hand.Seats.{View}
use Rattle.bc_image.specs.Pair.{Pair}
use Rattle.bc_image.specs.Reading as pairs
use Rattle.bc_request.specs.bc_machine.World.{Origin}
use Rattle.bc_request.specs.bc_machine.declared.part.CorePart.{CorePart}
use Rattle.bc_model.specs.Pieces.{piece_sectors}
use Rattle.bc_node.specs.declared.error.NodeError.{NodeError}
use Rattle.bc_parts.specs.Seat.{PartsView}
use Rattle.bc_request.specs.bc_reader.Look.{NotSeen}
use Rattle.bc_request.specs.bc_reader.declared.error.ReadError.TheVariants as error
use Rattle.bc_refusals.specs.Made.{IsOfPair}
use Rattle.bc_refusals.specs.Over.{IsOver}

-- some sectors of one piece, below the end of the tree
pub record AreInPiece (first count : ℕ) : Type 0 where
  pub some : 0 < count
  pub together : first % piece_sectors + count ≤ piece_sectors
  pub below : first + count ≤ 2 ^ 40

module _ {C B : Type 0} (cache_facts : C → DiskFacts) (backing_facts : B → DiskFacts) where
  -- The tree has a leaf with all sectors of a piece, and the leaf that a slot has for them has them
  -- too.
  abbrev pub LawMissing : Type 0
  LawMissing = (o : Origin) (g : Geometry) (first count : ℕ) (v w : View cache_facts backing_facts)
      → IsOver cache_facts backing_facts o g w → AreInPiece first count
      → ¬ (HasStoppedAt cache_facts backing_facts first count leaf.Missing v w)

  -- A leaf of the tree lies whole in a bucket of the device.
  abbrev pub LawOutside : Type 0
  LawOutside = (o : Origin) (g : Geometry) (first count : ℕ) (v w : View cache_facts backing_facts)
      → IsOver cache_facts backing_facts o g w
      → ¬ (HasStoppedAt cache_facts backing_facts first count leaf.Outside v w)

  -- Dirty data to which a leaf's last key points is of the present use of its bucket; and what is
  -- read from the cache device lies on it.
  abbrev pub LawLost : Type 0
  LawLost = (o : Origin) (g : Geometry) (p : PartsView (CorePart C B)) (first count : ℕ)
      (v w : View cache_facts backing_facts) → IsOver cache_facts backing_facts o g w
      → ¬ (NotSeen cache_facts backing_facts p first count error.Lost v w)

  -- Where a leaf of the tree stands, a read finds a leaf of its range.
  abbrev pub LawNode : Type 0
  LawNode = (o : Origin) (g : Geometry) (p : Pair) (pair : pairs.View) (first count bucket : ℕ)
      (e : NodeError) (v w : View cache_facts backing_facts)
      → IsOver cache_facts backing_facts o g w → IsOfPair cache_facts backing_facts p pair o w
      → ¬ (HasStoppedAt cache_facts backing_facts first count (leaf.Node bucket e) v w)
