-- What was done of a line, piece by piece.
use Rattle.std.specs.Prelude.{◌≡◌, ℕ, List, [], ◌∷◌, ◌++◌, length}
use Rattle.bc_disk.specs.Disk.{DiskFacts}
use Rattle.bc_events.specs.declared.event.LineNumber.{LineNumber}
use Rattle.bc_job.specs.bc_hand.Seats.{View}
use Rattle.bc_job.specs.Asked.{line_of}
use Rattle.bc_job.specs.Requests.{IsInside, IsOutside}
use Rattle.bc_job.specs.declared.job.Job.{Job}
use Rattle.bc_job.specs.bc_machine.declared.part.CorePart.{CorePart}
use Rattle.bc_model.specs.Pieces.{Piece, ServedUpTo, pieces}
use Rattle.bc_model.specs.Sector.{Value}
use Rattle.bc_parts.specs.Seat.{PartsView}
use Rattle.bc_reader.specs.declared.error.ReadError.{ReadError}
use Rattle.bc_request.specs.Piece.{HasNotReadPiece, HasReadPiece}
use Rattle.bc_request.specs.Refusals.{refusal}
use Rattle.bc_request.specs.declared.error.RequestError.{RequestError}
use Rattle.bc_request.specs.declared.error.RequestError.TheVariants as request

module _ {C B : Type 0} (cache_facts : C → DiskFacts) (backing_facts : B → DiskFacts) where
  -- each of these pieces was read, in order; the values of all stand one behind the other
  abbrev pub HasReadPieces : PartsView (CorePart C B) → LineNumber → List Piece → List Value
      → View cache_facts backing_facts → View cache_facts backing_facts → Type 0
  HasReadPieces p of [] values v w = (values ≡ []) × (w ≡ v)
  HasReadPieces p of (q ∷ qs) values v w = (own : List Value) × (rest : List Value)
      × (u : View cache_facts backing_facts) × (length own ≡ q.count) × (values ≡ own ++ rest)
      × HasReadPiece cache_facts backing_facts p of q.first q.count own v u
      × HasReadPieces p of qs rest u w

  -- a line was answered with these values
  abbrev pub HasReadLine : PartsView (CorePart C B) → Job → List Value
      → View cache_facts backing_facts → View cache_facts backing_facts → Type 0
  HasReadLine p job values v w = IsInside job
      × HasReadPieces p (line_of job) (pieces job.first job.count) values v w

  -- a piece wasn't read, for a cause that the refusal says
  pub record HasRefusedPiece (p : PartsView (CorePart C B)) (first count : ℕ)
      (error : RequestError) (v w : View cache_facts backing_facts) : Type 0 where
    pub cause : ReadError
    pub is : error ≡ refusal cause
    pub stop : HasNotReadPiece cache_facts backing_facts p first count cause v w

  -- the pieces of a line were read up to one that wasn't
  pub record HasRefusedAt (p : PartsView (CorePart C B)) (error : RequestError) (job : Job)
      (v w : View cache_facts backing_facts) : Type 0 where
    pub inside : IsInside job
    pub served : List Piece
    pub refused : Piece
    pub up_to : ServedUpTo job.first job.count served refused
    pub values : List Value
    pub at : View cache_facts backing_facts
    pub reads : HasReadPieces p (line_of job) served values v at
    pub stop : HasRefusedPiece p refused.first refused.count error at w

  -- Why a line wasn't answered: it isn't inside, and nothing was done; or one of its pieces wasn't
  -- read.
  abbrev pub HasNotReadLine : PartsView (CorePart C B) → RequestError → Job
      → View cache_facts backing_facts → View cache_facts backing_facts → Type 0
  HasNotReadLine p request.OutOfRange job v w = IsOutside job × (w ≡ v)
  HasNotReadLine p error job v w = HasRefusedAt p error job v w
