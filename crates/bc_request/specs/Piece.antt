-- What was done of a piece.
use Rattle.std.specs.Prelude.{◌≡◌, ◌⊎◌, ℕ, List, [], ◌∷◌}
use Rattle.bc_job.specs.bc_deed.Asked.{IsHaltedOr}
use Rattle.bc_job.specs.bc_deed.Flushed.{HasDone}
use Rattle.bc_disk.specs.Disk.{DiskFacts}
use Rattle.bc_events.specs.declared.event.Deed.TheVariants as deed
use Rattle.bc_events.specs.declared.event.LineNumber.{LineNumber}
use Rattle.bc_reader.specs.bc_fetch.declared.error.LeafError.TheVariants as leaf
use Rattle.bc_flight.specs.declared.claim.Share.TheVariants.{Shared}
use Rattle.bc_job.specs.bc_hand.Seats.{View}
use Rattle.bc_job.specs.bc_hand.declared.error.StepError.{StepError}
use Rattle.bc_job.specs.bc_machine.declared.part.CorePart.{CorePart}
use Rattle.bc_model.specs.Sector.{Value}
use Rattle.bc_parts.specs.Seat.{PartsView}
use Rattle.bc_reader.specs.Claimed.{HasAnswered, HasNotAnswered}
use Rattle.bc_reader.specs.declared.error.ReadError.{ReadError}
use Rattle.bc_reader.specs.declared.error.ReadError.TheVariants as error

module _ {C B : Type 0} (cache_facts : C → DiskFacts) (backing_facts : B → DiskFacts) where
  -- the piece was claimed, read and answered with these values, and let go
  pub record HasReadPiece (p : PartsView (CorePart C B)) (of : LineNumber) (first count : ℕ)
      (values : List Value) (v w : View cache_facts backing_facts) : Type 0 where
    pub claimed : View cache_facts backing_facts
    pub claim : HasDone cache_facts backing_facts (deed.Claim first count Shared ∷ []) v claimed
    pub read : View cache_facts backing_facts
    pub answered : HasAnswered cache_facts backing_facts p of first count values claimed read
    pub released : HasDone cache_facts backing_facts (deed.Release ∷ []) read w

  -- it was claimed and let go, and in between wasn't answered
  pub record HasStoppedUnder (p : PartsView (CorePart C B)) (first count : ℕ) (e : ReadError)
      (v w : View cache_facts backing_facts) : Type 0 where
    pub claimed : View cache_facts backing_facts
    pub claim : HasDone cache_facts backing_facts (deed.Claim first count Shared ∷ []) v claimed
    pub read : View cache_facts backing_facts
    pub stop : HasNotAnswered cache_facts backing_facts p first count e claimed read
    pub released : HasDone cache_facts backing_facts (deed.Release ∷ []) read w

  -- or a halt or want of memory came before its claim, and nothing was done
  pub record HasNotClaimed (e : ReadError) (v w : View cache_facts backing_facts) : Type 0 where
    pub cause : StepError
    pub is : e ≡ error.Leaf (leaf.Step cause)
    pub why : IsHaltedOr cause w.seen
    pub done : HasDone cache_facts backing_facts [] v w

  abbrev pub HasNotReadPiece : PartsView (CorePart C B) → (first count : ℕ) → ReadError
      → View cache_facts backing_facts → View cache_facts backing_facts → Type 0
  HasNotReadPiece p first count e v w =
      HasNotClaimed e v w ⊎ HasStoppedUnder p first count e v w
