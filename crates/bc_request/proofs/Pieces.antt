-- A piece, from its claim to its release.
use Rattle.std.specs.Prelude.{Result, Ok, Err, IfErr, OnOk}
use Rattle.std.proofs.Common.{◌≡◌, inl, inr, ℕ, List, [], ◌∷◌, Some, refl, sym, ap, ◌∙◌}
use Rattle.bc_job.proofs.of_bc_deed.Sequence.{done_both, done_first}
use Rattle.bc_job.specs.bc_deed.Asked.{IsClaim, IsHalted, IsHaltedOr}
use Rattle.bc_job.specs.bc_deed.Flushed.{HasDone}
use Rattle.bc_disk.specs.Disk.{DiskFacts}
use Rattle.bc_events.specs.declared.event.Deed.TheVariants as deed
use Rattle.bc_events.specs.declared.event.Event.{Event}
use Rattle.bc_events.specs.declared.event.LineNumber.{LineNumber}
use Rattle.bc_reader.specs.bc_fetch.declared.error.LeafError.TheVariants as leaf
use Rattle.bc_flight.specs.declared.claim.Claim.{Claim}
use Rattle.bc_flight.specs.declared.claim.Share.TheVariants.{Shared}
use Rattle.bc_job.proofs.of_bc_hand.Knowing.{View, note_committed_is}
use Rattle.bc_job.specs.bc_hand.Seats.{Did, Works, by, empty, note}
use Rattle.bc_job.specs.bc_hand.declared.error.StepError.{StepError}
use Rattle.bc_job.specs.bc_hand.declared.error.StepError.TheVariants as step
use Rattle.bc_job.specs.bc_hand.declared.hand.Hand.{Hand}
use Rattle.bc_job.proofs.Holding.{works_empty}
use Rattle.bc_job.specs.bc_machine.Frame.{Range}
use Rattle.bc_job.specs.bc_machine.Note.{Note}
use Rattle.bc_job.specs.bc_machine.declared.part.CorePart.{CorePart}
use Rattle.bc_model.specs.Sector.{Value}
use Rattle.bc_parts.specs.Seat.{PartsView}
use Rattle.bc_reader.proofs.Going.{first_still, on_answered, on_not_answered}
use Rattle.bc_reader.specs.Claimed.{HasAnswered, HasNotAnswered}
use Rattle.bc_reader.specs.Look.{IsOver}
use Rattle.bc_reader.specs.declared.error.ReadError.{ReadError}
use Rattle.bc_reader.specs.declared.error.ReadError.TheVariants as error
use Rattle.bc_request.specs.Asked.{IsIdle}
use Rattle.bc_request.specs.Piece.{HasNotReadPiece, HasReadPiece}

-- a claim of just these sectors is over them
pub over_claim : (r q : Range) (first count : ℕ) → q.first ≡ first → q.count ≡ count → r ≡ q
    → IsOver first count r
over_claim r q first count from long is = record {
  from = ap (λ (x : Range). x.first) is ∙ from;
  long = ap (λ (x : Range). x.count) is ∙ long;
}

pub halted_or : (e : StepError) (es : List Event) → IsHalted e es → IsHaltedOr e es
halted_or (step.Fault d) es is = absurd is
halted_or (step.Halted d) es is = is
halted_or step.Memory es is = absurd is

module _ {C B : Type 0} (cache_facts : C → DiskFacts) (backing_facts : B → DiskFacts) where
  -- the claim is the seat's still
  pub claim_still : (c : Claim) (v w : View cache_facts backing_facts) → w.first ≡ v.first
      → (note cache_facts backing_facts w).range ≡ (note cache_facts backing_facts v).range
      → IsClaim c v.first (note cache_facts backing_facts v).range
      → IsClaim c w.first (note cache_facts backing_facts w).range
  claim_still c v w seat range is = record {
    its_seat = is.its_seat ∙ sym seat;
    some = is.some;
    range = range ∙ is.range;
  }

  pub idle_again : (p : PartsView (CorePart C B)) (u v w : View cache_facts backing_facts) (h : Hand C B)
      → IsIdle cache_facts backing_facts p u → h ≡ empty → Works cache_facts backing_facts p w h
      → Did cache_facts backing_facts (Some deed.Release) v w → IsIdle cache_facts backing_facts p w
  idle_again p u v w h idle is works did = record {
    works = works_empty cache_facts backing_facts p w h is works;
    cached = idle.cached;
    leaves = idle.leaves;
    unclaimed = ap (λ (n : Note). n.range.count)
        (note_committed_is cache_facts backing_facts v w (by v.first deed.Release) did.is);
  }

  pub idle_still : (p : PartsView (CorePart C B)) (v w : View cache_facts backing_facts) (h : Hand C B)
      → IsIdle cache_facts backing_facts p v → h ≡ empty → Works cache_facts backing_facts p w h
      → (note cache_facts backing_facts w).range.count ≡ 0 → IsIdle cache_facts backing_facts p w
  idle_still p v w h idle is works none = record {
    works = works_empty cache_facts backing_facts p w h is works;
    cached = idle.cached;
    leaves = idle.leaves;
    unclaimed = none;
  }

  module _ (p : PartsView (CorePart C B)) (first count : ℕ) where
    pub first_read : (r : Result (Unit {0}) ReadError) (of : LineNumber) (values : List Value)
        (v w : View cache_facts backing_facts)
        → OnOk r (HasAnswered cache_facts backing_facts p of first count values v w)
        → IfErr r (λ e. HasNotAnswered cache_facts backing_facts p first count e v w)
        → w.first ≡ v.first
    first_read (Ok x) of values v w did none = first_still cache_facts backing_facts v w
        (on_answered cache_facts backing_facts p first count of values v w did)
    first_read (Err e) of values v w did none = first_still cache_facts backing_facts v w
        (on_not_answered cache_facts backing_facts p first count e v w none)

    claimed : (u v w : View cache_facts backing_facts) → HasDone cache_facts backing_facts [] u v
        → HasDone cache_facts backing_facts (deed.Claim first count Shared ∷ []) v w
        → HasDone cache_facts backing_facts (deed.Claim first count Shared ∷ []) u w
    claimed u v w before claim = done_both cache_facts backing_facts []
        (deed.Claim first count Shared ∷ []) u v w before claim

    released : (v w : View cache_facts backing_facts)
        → Did cache_facts backing_facts (Some deed.Release) v w
        → HasDone cache_facts backing_facts (deed.Release ∷ []) v w
    released v w did = done_first cache_facts backing_facts (Some deed.Release) v w did

    pub piece_read : (of : LineNumber) (values : List Value) (t u v x w : View cache_facts backing_facts)
        → HasDone cache_facts backing_facts [] t u
        → HasDone cache_facts backing_facts (deed.Claim first count Shared ∷ []) u v
        → HasAnswered cache_facts backing_facts p of first count values v x
        → Did cache_facts backing_facts (Some deed.Release) x w
        → HasReadPiece cache_facts backing_facts p of first count values t w
    piece_read of values t u v x w before claim read did = record {
      claimed = v;
      claim = claimed t u v before claim;
      read = x;
      answered = read;
      released = released x w did;
    }

    pub piece_stopped : (e : ReadError) (t u v x w : View cache_facts backing_facts)
        → HasDone cache_facts backing_facts [] t u
        → HasDone cache_facts backing_facts (deed.Claim first count Shared ∷ []) u v
        → HasNotAnswered cache_facts backing_facts p first count e v x
        → Did cache_facts backing_facts (Some deed.Release) x w
        → HasNotReadPiece cache_facts backing_facts p first count e t w
    piece_stopped e t u v x w before claim stop did = inr (record {
      claimed = v;
      claim = claimed t u v before claim;
      read = x;
      stop = stop;
      released = released x w did;
    })

    pub piece_unclaimed : (e : StepError) (t u w : View cache_facts backing_facts)
        → HasDone cache_facts backing_facts [] t u → HasDone cache_facts backing_facts [] u w
        → IsHaltedOr e w.seen
        → HasNotReadPiece cache_facts backing_facts p first count (error.Leaf (leaf.Step e)) t w
    piece_unclaimed e t u w before then why = inl (record {
      cause = e;
      is = refl;
      why = why;
      done = done_both cache_facts backing_facts [] [] t u w before then;
    })
