-- What a refusal that names a bucket says of its bytes.
use Rattle.std.specs.Prelude.{◌≢◌, ℕ, List}
use Rattle.std.proofs.Common.{inl, inr, refl, sym, subst}
use Rattle.bc_disk.specs.Disk.{DiskFacts}
use Rattle.bc_disk.specs.declared.geometry.Geometry.{Geometry}
use Rattle.bc_flush.specs.bc_fetch.declared.error.LeafError.TheVariants as leaf
use Rattle.bc_serve.proofs.of_bc_hand.Knowing.{View}
use Rattle.bc_serve.specs.bc_hand.declared.error.StepError.TheVariants as step
use Rattle.bc_serve.specs.bc_job.declared.job.Job.{Job}
use Rattle.bc_key.specs.declared.key.Key.{Key}
use Rattle.bc_serve.specs.bc_machine.declared.part.CorePart.{CorePart}
use Rattle.bc_node.specs.Loading.{IsNotDecoded}
use Rattle.bc_node.specs.declared.error.NodeError.{NodeError}
use Rattle.bc_node.specs.declared.error.NodeError.TheVariants as node
use Rattle.bc_parts.specs.Seat.{PartsView}
use Rattle.bc_flush.specs.bc_reader.Look.{NotSeen}
use Rattle.bc_flush.specs.bc_reader.declared.error.ReadError.{ReadError}
use Rattle.bc_flush.specs.bc_reader.declared.error.ReadError.TheVariants as error
use Rattle.bc_flush.specs.bc_request.Line.{HasNotReadLine, HasRefusedAt}
use Rattle.bc_flush.specs.bc_request.Piece.{HasNotReadPiece}
use Rattle.bc_flush.specs.bc_request.Refusals.{refusal}
use Rattle.bc_flush.specs.bc_request.declared.error.RequestError.{RequestError}
use Rattle.bc_flush.specs.bc_request.declared.error.RequestError.TheVariants as request
use Rattle.bc_cached_serve.specs.Refusals.{IsNoNode, NamesNoNode}

no_node : (g : Geometry) (key : Key) (from : ℕ) (bytes : List ℕ) (e : NodeError)
    → IsNotDecoded g key from bytes e → e ≢ node.Memory → IsNoNode e
no_node g key from bytes (node.First cause) h other = tt
no_node g key from bytes node.Ranges h other = tt
no_node g key from bytes node.Fault h other = absurd h
no_node g key from bytes node.Memory h other = absurd (other refl)

module _ {C B : Type 0} (cache_facts : C → DiskFacts) (backing_facts : B → DiskFacts)
    (p : PartsView (CorePart C B)) where
  in_look : (first count bucket : ℕ) (e : NodeError) (v w : View cache_facts backing_facts)
      → NotSeen cache_facts backing_facts p first count (error.Leaf (leaf.Node bucket e)) v w
      → IsNoNode e
  in_look first count bucket e v w (inl h) =
      no_node h.leaves.geometry h.so.key h.range.from h.so.bytes e h.so.cause h.so.not_memory
  in_look first count bucket e v w (inr h) = absurd h.stop

  in_piece : (first count : ℕ) (cause : ReadError) (v w : View cache_facts backing_facts)
      → HasNotReadPiece cache_facts backing_facts p first count cause v w
      → NamesNoNode (refusal cause)
  in_piece first count (error.Leaf (leaf.Step (step.Fault d))) v w h = tt
  in_piece first count (error.Leaf (leaf.Step (step.Halted d))) v w h = tt
  in_piece first count (error.Leaf (leaf.Step step.Memory)) v w h = tt
  in_piece first count (error.Leaf leaf.Busy) v w h = tt
  in_piece first count (error.Leaf leaf.Outside) v w h = tt
  in_piece first count (error.Leaf leaf.Missing) v w h = tt
  in_piece first count (error.Leaf (leaf.Node bucket e)) v w (inl h) =
      absurd (let is = h.is in cc)
  in_piece first count (error.Leaf (leaf.Node bucket e)) v w (inr h) =
      in_look first count bucket e h.stop.from h.stop.stopped.at h.stop.stopped.stop
  in_piece first count error.Lost v w h = tt

  in_line : (job : Job) (e : RequestError) (v w : View cache_facts backing_facts)
      → HasRefusedAt cache_facts backing_facts p e job v w → NamesNoNode e
  in_line job e v w h = subst (λ (x : RequestError). NamesNoNode x) (sym h.stop.is)
      (in_piece h.refused.first h.refused.count h.stop.cause h.at w h.stop.stop)

  pub names_no_node : (job : Job) (e : RequestError) (v w : View cache_facts backing_facts)
      → HasNotReadLine cache_facts backing_facts p e job v w → NamesNoNode e
  names_no_node job request.OutOfRange v w h = tt
  names_no_node job (request.Fault d) v w h = tt
  names_no_node job (request.Halted d) v w h = tt
  names_no_node job request.Memory v w h = tt
  names_no_node job (request.Node q n) v w h = in_line job (request.Node q n) v w h
  names_no_node job request.Busy v w h = tt
  names_no_node job request.Outside v w h = tt
  names_no_node job request.Missing v w h = tt
  names_no_node job request.Lost v w h = tt
