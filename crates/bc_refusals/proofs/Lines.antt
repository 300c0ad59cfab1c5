-- What a line over a sound pair is refused for.
use Rattle.std.proofs.Common.{◌≡◌, inl, inr, ℕ, ◌^◌, ◌≤◌, ◌<◌, List, [], ◌∷◌, sym, ap, ◌∙◌, subst, arith}
use Rattle.bc_disk.specs.Disk.{DiskFacts}
use Rattle.bc_disk.specs.declared.geometry.Geometry.{Geometry}
use Rattle.bc_request.specs.bc_deed.Asked.{size_of}
use Rattle.bc_request.specs.bc_deed.Flushed.{HasDone}
use Rattle.bc_events.specs.declared.event.Deed.{Deed}
use Rattle.bc_events.specs.declared.event.Deed.TheVariants as deed
use Rattle.bc_request.specs.bc_fetch.Fetch.{HasStoppedAt}
use Rattle.bc_request.specs.bc_fetch.declared.error.LeafError.TheVariants as leaf
use Rattle.bc_request.specs.bc_hand.Seats.{View}
use Rattle.bc_request.specs.bc_hand.declared.error.StepError.{StepError}
use Rattle.bc_request.specs.bc_hand.declared.error.StepError.TheVariants as step
use Rattle.bc_events.specs.Run.{Opening}
use Rattle.bc_request.specs.bc_job.declared.job.Job.{Job}
use Rattle.bc_request.proofs.of_bc_machine.Viewing.{opening_stays}
use Rattle.bc_request.specs.bc_machine.World.{Origin, opening}
use Rattle.bc_request.specs.bc_machine.declared.part.CorePart.{CorePart}
use Rattle.bc_node.specs.declared.error.NodeError.{NodeError}
use Rattle.bc_parts.specs.Seat.{PartsView}
use Rattle.bc_request.specs.bc_reader.Claimed.{ReadStop}
use Rattle.bc_request.specs.bc_reader.declared.error.ReadError.{ReadError}
use Rattle.bc_request.specs.bc_reader.declared.error.ReadError.TheVariants as error
use Rattle.bc_request.specs.Line.{HasNotReadLine, HasRefusedAt}
use Rattle.bc_request.specs.Piece.{HasNotReadPiece}
use Rattle.bc_request.specs.Refusals.{of_step, refusal}
use Rattle.bc_request.specs.declared.error.RequestError.{RequestError}
use Rattle.bc_request.specs.declared.error.RequestError.TheVariants as request
use Rattle.bc_refusals.specs.Laws.{AreInPiece}
use Rattle.bc_refusals.specs.Lines.{IsNode, LawLine, LawNoNode, LawPiece, MayCome}
use Rattle.bc_refusals.specs.Made.{IsOfPair}
use Rattle.bc_refusals.specs.Over.{IsOver}
use Rattle.bc_refusals.proofs.Before.{over_before}
use Rattle.bc_refusals.proofs.Found.{law_node}
use Rattle.bc_refusals.proofs.Leaves.{law_missing, law_outside}
use Rattle.bc_refusals.proofs.Lost.{law_lost}
use Rattle.bc_refusals.proofs.Made.{pair_before}
use Rattle.bc_refusals.proofs.Pieces.{in_piece}

step_comes : (e : StepError) → MayCome (of_step e)
step_comes (step.Fault device) = tt
step_comes (step.Halted device) = tt
step_comes step.Memory = tt

step_no_node : (e : StepError) → ¬ (IsNode (of_step e))
step_no_node (step.Fault device) h = h
step_no_node (step.Halted device) h = h
step_no_node step.Memory h = h

-- Of a piece, where it is so of each cause that may come.
module _ {C B : Type 0} (cache_facts : C → DiskFacts) (backing_facts : B → DiskFacts) (o : Origin)
    (g : Geometry) (p : PartsView (CorePart C B)) (P : RequestError → Type 0)
    (Q : View cache_facts backing_facts → Type 0)
    (over : (w : View cache_facts backing_facts) → Q w → IsOver cache_facts backing_facts o g w)
    (back : (ds : List Deed) (v w : View cache_facts backing_facts)
    → HasDone cache_facts backing_facts ds v w → Q w → Q v)
    (steps : (e : StepError) → P (of_step e)) (busy : P request.Busy)
    (node : (first count bucket : ℕ) (why : NodeError) (v w : View cache_facts backing_facts) → Q w
    → HasStoppedAt cache_facts backing_facts first count (leaf.Node bucket why) v w
    → P (request.Node bucket why)) where
  module _ (first count : ℕ) (piece : AreInPiece first count) where
    look_stop : (e : ReadError) (v w : View cache_facts backing_facts) → Q w
        → ReadStop cache_facts backing_facts p first count e v w → P (refusal e)
    look_stop (error.Leaf (leaf.Step e)) v w so stop = steps e
    look_stop (error.Leaf leaf.Busy) v w so stop = busy
    look_stop (error.Leaf leaf.Outside) v w so (inl stop) =
        absurd (law_outside cache_facts backing_facts o g first count v w (over w so) stop)
    look_stop (error.Leaf leaf.Outside) v w so (inr stop) = absurd stop.stop
    look_stop (error.Leaf leaf.Missing) v w so (inl stop) =
        absurd (law_missing cache_facts backing_facts o g first count v w (over w so) piece stop)
    look_stop (error.Leaf leaf.Missing) v w so (inr stop) = absurd stop.stop
    look_stop (error.Leaf (leaf.Node bucket why)) v w so (inl stop) =
        node first count bucket why v w so stop
    look_stop (error.Leaf (leaf.Node bucket why)) v w so (inr stop) = absurd stop.stop
    look_stop error.Lost v w so stop =
        absurd (law_lost cache_facts backing_facts o g p first count v w (over w so) stop)

    pub piece_stop : (e : ReadError) (v w : View cache_facts backing_facts) → Q w
        → HasNotReadPiece cache_facts backing_facts p first count e v w → P (refusal e)
    piece_stop e v w so (inl none) =
        subst (λ (x : ReadError). P (refusal x)) (sym none.is) (steps none.cause)
    piece_stop e v w so (inr under) =
        let once = under.stop.stopped in
        look_stop e under.stop.from once.at (back [] once.at under.read once.then
        (back (deed.Release ∷ []) under.read w under.released so)) once.stop

  -- of a line of no more sectors than a tree has
  module _ (job : Job) (some : 0 < job.count) (small : job.size ≤ 2 ^ 40) where
    refused : (e : RequestError) (v w : View cache_facts backing_facts) → Q w
        → HasRefusedAt cache_facts backing_facts p e job v w → P e
    refused e v w so at = subst P (sym at.stop.is) (piece_stop at.refused.first at.refused.count
        (in_piece job.first job.count at.served at.up_to.0 at.refused at.up_to.1 some
        (let inside = at.inside in omega arith)) at.stop.cause at.at w so at.stop.stop)

    pub line_stop : P request.OutOfRange → (e : RequestError) (v w : View cache_facts backing_facts)
        → Q w → HasNotReadLine cache_facts backing_facts p e job v w → P e
    line_stop out request.OutOfRange v w so stop = out
    line_stop out (request.Fault device) v w so stop = refused (request.Fault device) v w so stop
    line_stop out (request.Halted device) v w so stop = refused (request.Halted device) v w so stop
    line_stop out request.Memory v w so stop = refused request.Memory v w so stop
    line_stop out (request.Node bucket why) v w so stop =
        refused (request.Node bucket why) v w so stop
    line_stop out request.Busy v w so stop = refused request.Busy v w so stop
    line_stop out request.Outside v w so stop = refused request.Outside v w so stop
    line_stop out request.Missing v w so stop = refused request.Missing v w so stop
    line_stop out request.Lost v w so stop = refused request.Lost v w so stop

module _ {C B : Type 0} (cache_facts : C → DiskFacts) (backing_facts : B → DiskFacts) where
  pub law_piece : LawPiece {C = C} {B = B} cache_facts backing_facts
  law_piece o g p first count e v w over piece stop =
      piece_stop cache_facts backing_facts o g p MayCome (IsOver cache_facts backing_facts o g)
      (λ w so. so)
      (over_before cache_facts backing_facts o g) step_comes tt
      (λ first count bucket why v w so stop. tt) first count piece e v w over stop

  -- the data end where the tree does, or before
  small : (o : Origin) (g : Geometry) (job : Job) (w : View cache_facts backing_facts)
      → IsOver cache_facts backing_facts o g w
      → job.size ≡ size_of cache_facts backing_facts w.run.start → job.size ≤ 2 ^ 40
  small o g job w over its =
      let same = over.origin.size ∙ ap (λ (x : Opening). x.machine.flow.books.size)
      (opening_stays (opening cache_facts backing_facts w.run.start) w.seen) in
      let all = over.device.size in
      omega arith

  pub law_line : LawLine {C = C} {B = B} cache_facts backing_facts
  law_line o g p e job v w over its some stop = line_stop cache_facts backing_facts o g p MayCome
      (IsOver cache_facts backing_facts o g) (λ w so. so)
      (over_before cache_facts backing_facts o g) step_comes tt
      (λ first count bucket why v w so stop. tt) job some (small o g job w over its) tt e v w over
      stop

  pub law_no_node : LawNoNode {C = C} {B = B} cache_facts backing_facts
  law_no_node o g pair view p e job v w over of its some stop =
      line_stop cache_facts backing_facts o g p (λ e. ¬ (IsNode e))
      (λ w. IsOver cache_facts backing_facts o g w
      × IsOfPair cache_facts backing_facts pair view o w)
      (λ w so. so.0) (λ ds v w done so. (
        over_before cache_facts backing_facts o g ds v w done so.0,
        pair_before cache_facts backing_facts pair view o ds v w done so.1,
      )) step_no_node (λ h. h)
      (λ first count bucket why v w so stop. absurd (law_node cache_facts backing_facts o g pair
      view first count bucket why v w so.0 so.1 stop)) job some (small o g job w over its) (λ h. h)
      e v w (over, of) stop
