-- A line, piece by piece.
use Rattle.std.proofs.Common.{◌≡◌, inl, inr, ℕ, ◌+◌, ◌-◌, ◌/◌, ◌<◌, ◌≤◌, List, [], ◌∷◌, ◌++◌, length, refl, sym, ap, ◌∙◌, subst, append_assoc, append-nil, arith}
use Rattle.bc_job.specs.bc_deed.Asked.{size_of}
use Rattle.bc_disk.specs.Disk.{DiskFacts}
use Rattle.bc_events.specs.declared.event.Deed.TheVariants as deed
use Rattle.bc_events.specs.declared.event.LineNumber.{LineNumber}
use Rattle.bc_reader.specs.bc_fetch.declared.error.LeafError.TheVariants as leaf
use Rattle.bc_flight.specs.declared.claim.Share.TheVariants.{Shared}
use Rattle.bc_job.proofs.of_bc_hand.Knowing.{View, m}
use Rattle.bc_job.specs.bc_hand.Seats.{IsCoreSeat}
use Rattle.bc_job.specs.bc_hand.declared.error.StepError.TheVariants as step
use Rattle.bc_job.proofs.Looping.{done_none, served_up_to}
use Rattle.bc_job.specs.Asked.{IsFor, line_of}
use Rattle.bc_job.specs.Requests.{IsInside}
use Rattle.bc_job.specs.declared.job.Job.{Job}
use Rattle.bc_job.specs.bc_machine.Plain.{worker_of}
use Rattle.bc_job.specs.bc_machine.declared.part.CorePart.{CorePart}
use Rattle.bc_model.specs.Pieces.{Piece, piece_in, pieces, pieces_from}
use Rattle.bc_model.specs.Sector.{Value}
use Rattle.bc_parts.specs.Seat.{PartsView, Run}
use Rattle.bc_reader.proofs.Going.{on_answered, on_both, on_not_answered}
use Rattle.bc_reader.specs.declared.error.ReadError.{ReadError}
use Rattle.bc_reader.specs.declared.error.ReadError.TheVariants as error
use Rattle.bc_request.specs.Line.{HasNotReadLine, HasReadLine, HasReadPieces, HasRefusedAt, HasRefusedPiece}
use Rattle.bc_request.specs.Piece.{HasNotReadPiece, HasReadPiece}
use Rattle.bc_request.specs.Refusals.{refusal}
use Rattle.bc_request.specs.declared.error.RequestError.{RequestError}
use Rattle.bc_request.specs.declared.error.RequestError.TheVariants as request
use Rattle.bc_seats.specs.Seats.{Same}

module _ {C B : Type 0} (cache_facts : C → DiskFacts) (backing_facts : B → DiskFacts) where
  same_both : (u v w : View cache_facts backing_facts) → Same (m cache_facts backing_facts) u v
      → Same (m cache_facts backing_facts) v w → Same (m cache_facts backing_facts) u w
  same_both u v w a b = record {
    run = b.run ∙ a.run;
    first = b.first ∙ a.first;
    end = b.end ∙ a.end;
  }

  same_still : (v w : View cache_facts backing_facts) → w ≡ v
      → Same (m cache_facts backing_facts) v w
  same_still v w is = record {
    run = ap (λ (x : View cache_facts backing_facts). x.run) is;
    first = ap (λ (x : View cache_facts backing_facts). x.first) is;
    end = ap (λ (x : View cache_facts backing_facts). x.end) is;
  }

  -- a seat of the run goes on to be the one that a job is for
  pub for_still : (job : Job) (v w : View cache_facts backing_facts)
      → Same (m cache_facts backing_facts) v w → IsFor cache_facts backing_facts job v
      → IsFor cache_facts backing_facts job w
  for_still job v w same its = record {
    worker = ap (λ n. worker_of n) same.first ∙ its.worker;
    size = its.size ∙ sym (ap (λ (r : Run (CorePart C B)).
        size_of cache_facts backing_facts r.start) same.run);
  }

  module _ (p : PartsView (CorePart C B)) where
    -- ---- whatever came of it, it is the same seat of the same run

    pub read_same : (of : LineNumber) (first count : ℕ) (values : List Value)
        (v w : View cache_facts backing_facts)
        → HasReadPiece cache_facts backing_facts p of first count values v w
        → Same (m cache_facts backing_facts) v w
    read_same of first count values v w h = (on_both cache_facts backing_facts v h.claimed w
        (deed.Claim first count Shared ∷ [], h.claim)
        (on_both cache_facts backing_facts h.claimed h.read w
        (on_answered cache_facts backing_facts p first count of values h.claimed h.read h.answered)
        (deed.Release ∷ [], h.released))).1.same

    pub stopped_same : (first count : ℕ) (e : ReadError) (v w : View cache_facts backing_facts)
        → HasNotReadPiece cache_facts backing_facts p first count e v w
        → Same (m cache_facts backing_facts) v w
    stopped_same first count e v w (inl h) = h.done.same
    stopped_same first count e v w (inr h) = (on_both cache_facts backing_facts v h.claimed w
        (deed.Claim first count Shared ∷ [], h.claim)
        (on_both cache_facts backing_facts h.claimed h.read w
        (on_not_answered cache_facts backing_facts p first count e h.claimed h.read h.stop)
        (deed.Release ∷ [], h.released))).1.same

    pieces_same : (of : LineNumber) (ps : List Piece) (values : List Value)
        (v w : View cache_facts backing_facts)
        → HasReadPieces cache_facts backing_facts p of ps values v w
        → Same (m cache_facts backing_facts) v w
    pieces_same of [] values v w h = same_still v w h.1
    pieces_same of (q ∷ qs) values v w h = same_both v h.2 w
        (read_same of q.first q.count h.0 v h.2 h.5) (pieces_same of qs h.1 h.2 w h.6)

    pub line_same : (job : Job) (values : List Value) (v w : View cache_facts backing_facts)
        → HasReadLine cache_facts backing_facts p job values v w
        → Same (m cache_facts backing_facts) v w
    line_same job values v w h =
        pieces_same (line_of job) (pieces job.first job.count) values v w h.1

    refused_same : (job : Job) (e : RequestError) (v w : View cache_facts backing_facts)
        → HasRefusedAt cache_facts backing_facts p e job v w
        → Same (m cache_facts backing_facts) v w
    refused_same job e v w h = same_both v h.at w
        (pieces_same (line_of job) h.served h.values v h.at h.reads)
        (stopped_same h.refused.first h.refused.count h.stop.cause h.at w h.stop.stop)

    pub no_line_same : (job : Job) (e : RequestError) (v w : View cache_facts backing_facts)
        → HasNotReadLine cache_facts backing_facts p e job v w
        → Same (m cache_facts backing_facts) v w
    no_line_same job request.OutOfRange v w h = same_still v w h.1
    no_line_same job (request.Fault d) v w h = refused_same job (request.Fault d) v w h
    no_line_same job (request.Halted d) v w h = refused_same job (request.Halted d) v w h
    no_line_same job request.Memory v w h = refused_same job request.Memory v w h
    no_line_same job (request.Node b e) v w h = refused_same job (request.Node b e) v w h
    no_line_same job request.Busy v w h = refused_same job request.Busy v w h
    no_line_same job request.Outside v w h = refused_same job request.Outside v w h
    no_line_same job request.Missing v w h = refused_same job request.Missing v w h
    no_line_same job request.Lost v w h = refused_same job request.Lost v w h

    -- ---- one piece more

    pub pieces_more : (of : LineNumber) (ps : List Piece) (q : Piece) (values own : List Value)
        (v u w : View cache_facts backing_facts)
        → HasReadPieces cache_facts backing_facts p of ps values v u → length own ≡ q.count
        → HasReadPiece cache_facts backing_facts p of q.first q.count own u w
        → HasReadPieces cache_facts backing_facts p of (ps ++ q ∷ []) (values ++ own) v w
    pieces_more of [] q values own v u w reads long one = (
      own,
      [],
      w,
      long,
      ap (λ (vs : List Value). vs ++ own) reads.0 ∙ sym (append-nil own),
      subst (λ (x : View cache_facts backing_facts).
          HasReadPiece cache_facts backing_facts p of q.first q.count own x w) reads.1 one,
      (refl, refl),
    )
    pieces_more of (x ∷ xs) q values own v u w reads long one =
        let h = reads in (
          h.0,
          h.1 ++ own,
          h.2,
          h.3,
          ap (λ (vs : List Value). vs ++ own) h.4 ∙ append_assoc h.0 h.1 own,
          h.5,
          pieces_more of xs q h.1 own h.2 u w h.6 long one,
        )

    -- ---- a refusal

    -- none of a piece says that the line is out of range
    refused_line : (job : Job) (cause : ReadError) (v w : View cache_facts backing_facts)
        → HasRefusedAt cache_facts backing_facts p (refusal cause) job v w
        → HasNotReadLine cache_facts backing_facts p (refusal cause) job v w
    refused_line job (error.Leaf (leaf.Step (step.Fault d))) v w h = h
    refused_line job (error.Leaf (leaf.Step (step.Halted d))) v w h = h
    refused_line job (error.Leaf (leaf.Step step.Memory)) v w h = h
    refused_line job (error.Leaf leaf.Busy) v w h = h
    refused_line job (error.Leaf leaf.Outside) v w h = h
    refused_line job (error.Leaf leaf.Missing) v w h = h
    refused_line job (error.Leaf (leaf.Node b e)) v w h = h
    refused_line job error.Lost v w h = h

    -- the pieces before this one were read, and this one wasn't
    pub refused_at : (job : Job) (why : RequestError) (values : List Value) (number at many : ℕ)
        (v u w : View cache_facts backing_facts) → IsInside job → job.first / 256 ≤ number
        → number < (job.first + job.count + 255) / 256
        → at ≡ (piece_in job.first job.count number).first
        → many ≡ (piece_in job.first job.count number).count
        → HasReadPieces cache_facts backing_facts p (line_of job)
        (pieces_from job.first job.count (job.first / 256) (number - job.first / 256)) values v u
        → HasRefusedPiece cache_facts backing_facts p at many why u w
        → HasNotReadLine cache_facts backing_facts p why job v w
    refused_at job why values number at many v u w inside low high here long reads stop =
        let q = piece_in job.first job.count number in
        let all : HasRefusedAt cache_facts backing_facts p why job v w = record {
          inside = inside;
          served = pieces_from job.first job.count (job.first / 256) (number - job.first / 256);
          refused = q;
          up_to = served_up_to job.first job.count number low high;
          values = values;
          at = u;
          reads = reads;
          stop = subst (λ k. HasRefusedPiece cache_facts backing_facts p k q.count why u w) here
              (subst (λ n. HasRefusedPiece cache_facts backing_facts p at n why u w) long stop);
        } in
        subst (λ (e : RequestError). HasNotReadLine cache_facts backing_facts p e job v w)
        (sym stop.is) (refused_line job stop.cause v w
        (subst (λ (e : RequestError). HasRefusedAt cache_facts backing_facts p e job v w) stop.is all))

    -- there was no memory for its bytes
    pub no_bytes : (job : Job) (v : View cache_facts backing_facts)
        → IsCoreSeat cache_facts backing_facts v → IsInside job → 1 ≤ job.count
        → HasNotReadLine cache_facts backing_facts p request.Memory job v v
    no_bytes job v seat inside some =
        let none : 0 ≡ job.first / 256 - job.first / 256 = omega arith in
        let q = piece_in job.first job.count (job.first / 256) in
        refused_at job request.Memory [] (job.first / 256) q.first q.count v v v inside (omega arith)
        (omega arith) refl refl
        (subst (λ n. HasReadPieces cache_facts backing_facts p (line_of job)
        (pieces_from job.first job.count (job.first / 256) n) [] v v) none (refl, refl))
        (record {
          cause = error.Leaf (leaf.Step step.Memory);
          is = refl;
          stop = inl (record {
            cause = step.Memory;
            is = refl;
            why = tt;
            done = done_none cache_facts backing_facts v seat;
          });
        })
