-- A line that was written past the cache, piece by piece.
use Rattle.std.specs.Prelude.{◌≡◌, ◌≢◌, ℕ, zero, suc, ◌+◌, ◌-◌, ◌/◌, ◌<◌, List}
use Rattle.bc_around.specs.Past.{HasNotPassed, HasPassed}
use Rattle.bc_around.specs.declared.line.LineError.{LineError}
use Rattle.bc_around.specs.declared.line.LineError.TheVariants as line
use Rattle.bc_around.specs.declared.line.Stopped.{Stopped}
use Rattle.bc_around.specs.declared.past.Past.{Past}
use Rattle.bc_around.specs.declared.past.Past.TheVariants as past
use Rattle.bc_around.specs.declared.past.PastError.{PastError}
use Rattle.bc_disk.specs.Disk.{DiskFacts}
use Rattle.bc_flush.specs.bc_hand.Seats.{View}
use Rattle.bc_flush.specs.bc_job.Asked.{line_of}
use Rattle.bc_flush.specs.bc_job.Requests.{IsOutside}
use Rattle.bc_flush.specs.bc_job.declared.job.Job.{Job}
use Rattle.bc_flush.specs.bc_machine.declared.part.CorePart.{CorePart}
use Rattle.bc_model.specs.Pieces.{Piece, piece_in, piece_of, piece_sectors}
use Rattle.bc_model.specs.Sector.{Value}
use Rattle.bc_parts.specs.Seat.{PartsView}

-- how many pieces a line has
abbrev pub pieces_in : Job → ℕ
pieces_in job = (job.first + job.count + (piece_sectors - 1)) / piece_sectors
    - job.first / piece_sectors

-- its piece behind so many
abbrev pub piece_at : Job → ℕ → Piece
piece_at job k = piece_in job.first job.count (job.first / piece_sectors + k)

module _ {C B : Type 0} (cache_facts : C → DiskFacts) (backing_facts : B → DiskFacts) where
  -- a piece of the line came to this, with its part of the line's values
  abbrev pub PiecePassed : Past → PartsView (CorePart C B) → Job → List Value → Piece
      → View cache_facts backing_facts → View cache_facts backing_facts → Type 0
  PiecePassed o p job values q v w = HasPassed cache_facts backing_facts o p job.force
      (line_of job) q.first (piece_of job.first values q) v w

  -- the first so many pieces were written, in order
  abbrev pub HasWrittenSome : PartsView (CorePart C B) → Job → List Value → ℕ
      → View cache_facts backing_facts → View cache_facts backing_facts → Type 0
  HasWrittenSome p job values zero v w = w ≡ v
  HasWrittenSome p job values (suc k) v w = (u : View cache_facts backing_facts)
      × HasWrittenSome p job values k v u
      × PiecePassed past.Written p job values (piece_at job k) u w

  -- the pieces before one were written, and that came to another end
  pub record HasStoppedLine (at : Stopped) (p : PartsView (CorePart C B)) (job : Job)
      (values : List Value) (v w : View cache_facts backing_facts) : Type 0 where
    pub before : ℕ
    pub few : before < pieces_in job
    pub first : at.piece.first ≡ (piece_at job before).first
    pub count : at.piece.count ≡ (piece_at job before).count
    pub not_written : at.past ≢ past.Written
    pub reached : View cache_facts backing_facts
    pub written : HasWrittenSome p job values before v reached
    pub stop : PiecePassed at.past p job values (piece_at job before) reached w

  -- or it was refused
  pub record HasRefusedLine (e : PastError) (p : PartsView (CorePart C B)) (job : Job)
      (values : List Value) (v w : View cache_facts backing_facts) : Type 0 where
    pub before : ℕ
    pub few : before < pieces_in job
    pub reached : View cache_facts backing_facts
    pub written : HasWrittenSome p job values before v reached
    pub stop : HasNotPassed cache_facts backing_facts e p job.force (line_of job)
        (piece_at job before).first (piece_of job.first values (piece_at job before))
        reached w

  abbrev pub HasNotWrittenLine : LineError → PartsView (CorePart C B) → Job → List Value
      → View cache_facts backing_facts → View cache_facts backing_facts → Type 0
  HasNotWrittenLine line.OutOfRange p job values v w = IsOutside job × (w ≡ v)
  HasNotWrittenLine (line.Piece e) p job values v w =
      HasRefusedLine e p job values v w
