-- For what a line over a sound pair may be refused.
use Rattle.std.specs.Prelude.{◌≡◌, ℕ, ◌<◌}
use Rattle.bc_request.specs.bc_deed.Asked.{size_of}
use Rattle.bc_disk.specs.Disk.{DiskFacts}
use Rattle.bc_disk.specs.declared.geometry.Geometry.{Geometry}
use Rattle.bc_request.specs.bc_hand.Seats.{View}
use Rattle.bc_image.specs.Pair.{Pair}
use Rattle.bc_image.specs.Reading as pairs
use Rattle.bc_request.specs.bc_job.declared.job.Job.{Job}
use Rattle.bc_request.specs.bc_machine.World.{Origin}
use Rattle.bc_request.specs.bc_machine.declared.part.CorePart.{CorePart}
use Rattle.bc_parts.specs.Seat.{PartsView}
use Rattle.bc_request.specs.bc_reader.declared.error.ReadError.{ReadError}
use Rattle.bc_request.specs.Line.{HasNotReadLine}
use Rattle.bc_request.specs.Piece.{HasNotReadPiece}
use Rattle.bc_request.specs.Refusals.{refusal}
use Rattle.bc_request.specs.declared.error.RequestError.{RequestError}
use Rattle.bc_request.specs.declared.error.RequestError.TheVariants as request
use Rattle.bc_refusals.specs.Laws.{AreInPiece}
use Rattle.bc_refusals.specs.Made.{IsOfPair}
use Rattle.bc_refusals.specs.Over.{IsOver}

-- The refusals that come over a sound pair. Of `Node` and `Busy` more has to be known.
abbrev pub MayCome : RequestError → Type 0
MayCome request.OutOfRange = Unit {0}
MayCome (request.Fault device) = Unit {0}
MayCome (request.Halted device) = Unit {0}
MayCome request.Memory = Unit {0}
MayCome (request.Node bucket why) = Unit {0}
MayCome request.Busy = Unit {0}
MayCome request.Outside = ⊥
MayCome request.Missing = ⊥
MayCome request.Lost = ⊥

abbrev pub IsNode : RequestError → Type 0
IsNode (request.Node bucket why) = Unit {0}
IsNode e = ⊥

module _ {C B : Type 0} (cache_facts : C → DiskFacts) (backing_facts : B → DiskFacts) where
  abbrev pub LawPiece : Type 0
  LawPiece = (o : Origin) (g : Geometry) (p : PartsView (CorePart C B)) (first count : ℕ)
      (e : ReadError) (v w : View cache_facts backing_facts)
      → IsOver cache_facts backing_facts o g w → AreInPiece first count
      → HasNotReadPiece cache_facts backing_facts p first count e v w → MayCome (refusal e)

  -- so of each line that knows how many sectors the data are
  abbrev pub LawLine : Type 0
  LawLine = (o : Origin) (g : Geometry) (p : PartsView (CorePart C B)) (e : RequestError)
      (job : Job) (v w : View cache_facts backing_facts) → IsOver cache_facts backing_facts o g w
      → job.size ≡ size_of cache_facts backing_facts w.run.start → 0 < job.count
      → HasNotReadLine cache_facts backing_facts p e job v w → MayCome e

  -- Where what the run brought to leaves is well made, no node is refused either.
  abbrev pub LawNoNode : Type 0
  LawNoNode = (o : Origin) (g : Geometry) (pair : Pair) (view : pairs.View)
      (p : PartsView (CorePart C B)) (e : RequestError) (job : Job)
      (v w : View cache_facts backing_facts) → IsOver cache_facts backing_facts o g w
      → IsOfPair cache_facts backing_facts pair view o w
      → job.size ≡ size_of cache_facts backing_facts w.run.start → 0 < job.count
      → HasNotReadLine cache_facts backing_facts p e job v w → ¬ (IsNode e)
