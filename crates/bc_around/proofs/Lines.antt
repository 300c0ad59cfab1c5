-- A line, piece by piece.
use Rattle.std.specs.Prelude.{IfErr, IfOk, Result}
use Rattle.std.proofs.Common.{◌≡◌, ◌≢◌, inl, inr, ℕ, suc, Bool, ◌+◌, ◌-◌, ◌/◌, ◌<◌, ◌≤◌, take, drop, refl, sym, ap, ◌∙◌, subst, arith}
use Rattle.bc_around.specs.Line.{HasNotWrittenLine, HasStoppedLine, HasWrittenSome, PiecePassed, piece_at, pieces_in}
use Rattle.bc_around.specs.Past.{HasNotPassed, HasPassed}
use Rattle.bc_around.specs.declared.line.LineError.TheVariants as line
use Rattle.bc_around.specs.declared.line.Stopped.{Stopped}
use Rattle.bc_around.specs.declared.past.Past.{Past}
use Rattle.bc_around.specs.declared.past.Past.TheVariants as past
use Rattle.bc_around.specs.declared.past.PastError.{PastError}
use Rattle.bc_around.specs.declared.past.PastError.TheVariants as error
use Rattle.bc_around.proofs.Going.{Gone, gone_both, gone_synced, gone_tried}
use Rattle.bc_around.proofs.Pieces.{no_memory}
use Rattle.bc_disk.specs.Disk.{DiskFacts}
use Rattle.bc_events.specs.declared.event.LineNumber.{LineNumber}
use Rattle.bc_flush.specs.bc_deed.Asked.{size_of}
use Rattle.bc_flush.specs.bc_hand.Seats.{IsCoreSeat}
use Rattle.bc_flush.specs.bc_hand.declared.error.StepError.TheVariants as step
use Rattle.bc_flush.proofs.of_bc_hand.Knowing.{View}
use Rattle.bc_flush.specs.bc_job.Asked.{IsFor, line_of}
use Rattle.bc_flush.specs.bc_job.declared.job.Job.{Job}
use Rattle.bc_flush.specs.bc_machine.Plain.{worker_of}
use Rattle.bc_flush.specs.bc_machine.declared.part.CorePart.{CorePart}
use Rattle.bc_model.specs.Pieces.{Piece, piece_in, piece_of}
use Rattle.bc_model.specs.declared.values.Values.{Values}
use Rattle.bc_parts.specs.Seat.{PartsView, Run}

same_piece : (q : Piece) (first count : ℕ) → first ≡ q.first → count ≡ q.count
    → record { first = first; count = count } ≡ q
same_piece q first count here long =
    ap (λ n. record { first = n; count = count }) here
    ∙ ap (λ n. record { first = q.first; count = n }) long

-- the piece of a number is the one behind those before
at_number : (job : Job) (number : ℕ) → job.first / 256 ≤ number
    → piece_at job (number - job.first / 256) ≡ piece_in job.first job.count number
at_number job number low =
    let is : job.first / 256 + (number - job.first / 256) ≡ number = omega arith in
    ap (λ n. piece_in job.first job.count n) is

pub cached_not : past.Cached ≢ past.Written
cached_not is = cc

pub waiting_not : past.Waiting ≢ past.Written
waiting_not is = cc

module _ {C B : Type 0} (cache_facts : C → DiskFacts) (backing_facts : B → DiskFacts) where
  pub for_still : (job : Job) (v w : View cache_facts backing_facts)
      → Gone cache_facts backing_facts v w → IsFor cache_facts backing_facts job v
      → IsFor cache_facts backing_facts job w
  for_still job v w gone its = let same = gone.1.same in record {
    worker = ap (λ n. worker_of n) same.first ∙ its.worker;
    size = its.size ∙ sym (ap (λ (r : Run (CorePart C B)).
        size_of cache_facts backing_facts r.start) same.run);
  }

  module _ (p : PartsView (CorePart C B)) (job : Job) (values : Values) where
    pub gone_passed : (o : Past) (q : Piece) (v w : View cache_facts backing_facts)
        → HasPassed cache_facts backing_facts o p job.force (line_of job) q.first
        (piece_of job.first values q) v w → Gone cache_facts backing_facts v w
    gone_passed o q v w (inl h) = gone_tried cache_facts backing_facts p job.force (line_of job)
        q.first (piece_of job.first values q) o v w h.1
    gone_passed o q v w (inr (u, made, h)) = gone_both cache_facts backing_facts v u w
        (gone_both cache_facts backing_facts v made.at u
        (gone_tried cache_facts backing_facts p job.force (line_of job) q.first
        (piece_of job.first values q) past.Waiting v made.at made.waited)
        (gone_synced cache_facts backing_facts made.at u made.synced))
        (gone_tried cache_facts backing_facts p job.force (line_of job) q.first
        (piece_of job.first values q) o u w h)

    module _ (number first count : ℕ) (low : job.first / 256 ≤ number)
        (here : first ≡ (piece_in job.first job.count number).first)
        (long : count ≡ (piece_in job.first job.count number).count) where
      its_piece : record { first = first; count = count } ≡ piece_at job (number - job.first / 256)
      its_piece = same_piece (piece_in job.first job.count number) first count here long
          ∙ sym (at_number job number low)

      passed_at : (o : Past) (u w : View cache_facts backing_facts)
          → HasPassed cache_facts backing_facts o p job.force (line_of job) first
          (take count (drop (first - job.first) values)) u w
          → PiecePassed cache_facts backing_facts o p job values
          (piece_at job (number - job.first / 256)) u w
      passed_at o u w = subst (λ (q : Piece).
          PiecePassed cache_facts backing_facts o p job values q u w) its_piece

      pub gone_passed_at : (o : Past) (u w : View cache_facts backing_facts)
          → HasPassed cache_facts backing_facts o p job.force (line_of job) first
          (take count (drop (first - job.first) values)) u w
          → Gone cache_facts backing_facts u w
      gone_passed_at o u w h = gone_passed o (piece_at job (number - job.first / 256)) u w
          (passed_at o u w h)

      pub one_more : (o : Past) (v u w : View cache_facts backing_facts) → o ≡ past.Written
          → HasWrittenSome cache_facts backing_facts p job values
          (number - job.first / 256) v u
          → HasPassed cache_facts backing_facts o p job.force (line_of job) first
          (take count (drop (first - job.first) values)) u w
          → HasWrittenSome cache_facts backing_facts p job values
          (number + 1 - job.first / 256) v w
      one_more o v u w is before passed =
          let next : suc (number - job.first / 256) ≡ number + 1 - job.first / 256 = omega arith in
          subst (λ n. HasWrittenSome cache_facts backing_facts p job values n v w) next (
            u,
            before,
            passed_at past.Written u w (subst (λ (x : Past).
                HasPassed cache_facts backing_facts x p job.force (line_of job) first
                (take count (drop (first - job.first) values)) u w) is passed),
          )

      module _ (high : number < (job.first + job.count + 255) / 256) where
        fewer : number - job.first / 256 < pieces_in job
        fewer = omega arith

        pub stopped_at : (at : Stopped) (o q : Past) (v u w : View cache_facts backing_facts)
            → at.piece.first ≡ first → at.piece.count ≡ count → at.past ≡ o → o ≡ q
            → q ≢ past.Written
            → HasWrittenSome cache_facts backing_facts p job values
            (number - job.first / 256) v u
            → HasPassed cache_facts backing_facts o p job.force (line_of job) first
            (take count (drop (first - job.first) values)) u w
            → HasStoppedLine cache_facts backing_facts at p job values v w
        stopped_at at o q v u w a b past_is is ne before passed = record {
          before = number - job.first / 256;
          few = fewer;
          first = a ∙ ap (λ (z : Piece). z.first) its_piece;
          count = b ∙ ap (λ (z : Piece). z.count) its_piece;
          not_written = λ wrote. ne (sym is ∙ sym past_is ∙ wrote);
          reached = u;
          written = before;
          stop = subst (λ (x : Past). PiecePassed cache_facts backing_facts x p job values
              (piece_at job (number - job.first / 256)) u w) (sym past_is) (passed_at o u w passed);
        }

        pub refused_at : (e : PastError) (v u w : View cache_facts backing_facts)
            → HasWrittenSome cache_facts backing_facts p job values
            (number - job.first / 256) v u
            → HasNotPassed cache_facts backing_facts e p job.force (line_of job) first
            (take count (drop (first - job.first) values)) u w
            → HasNotWrittenLine cache_facts backing_facts (line.Piece e) p job values v w
        refused_at e v u w before stop = record {
          before = number - job.first / 256;
          few = fewer;
          reached = u;
          written = before;
          stop = subst (λ (q : Piece). HasNotPassed cache_facts backing_facts e p job.force
              (line_of job) q.first (piece_of job.first values q) u w) its_piece stop;
        }

    pub none_yet : (number : ℕ) (v : View cache_facts backing_facts)
        → number ≡ job.first / 256
        → HasWrittenSome cache_facts backing_facts p job values
        (number - job.first / 256) v v
    none_yet number v is = let none : 0 ≡ number - job.first / 256 = omega arith in
        subst (λ n. HasWrittenSome cache_facts backing_facts p job values n v v) none refl

    pub all_of : (number end : ℕ) (v w : View cache_facts backing_facts)
        → end ≡ (job.first + job.count + 255) / 256 → number ≡ end
        → HasWrittenSome cache_facts backing_facts p job values
        (number - job.first / 256) v w
        → HasWrittenSome cache_facts backing_facts p job values (pieces_in job) v w
    all_of number end v w last is =
        let all : number - job.first / 256 ≡ pieces_in job = omega arith in
        subst (λ n. HasWrittenSome cache_facts backing_facts p job values n v w) all

  pub no_part : (p : PartsView (CorePart C B)) (job : Job) (first : ℕ) (part : Values)
      (v : View cache_facts backing_facts) → IsCoreSeat cache_facts backing_facts v
      → HasNotPassed cache_facts backing_facts (error.Claim step.Memory) p job.force (line_of job)
      first part v v
  no_part p job first part v seat =
      inl (no_memory cache_facts backing_facts p job.force (line_of job) first part v seat)

  -- of the line and values that they are
  pub passed_with : (r : Result Past PastError) (p : PartsView (CorePart C B)) (force : Bool)
      (first : ℕ) (v w : View cache_facts backing_facts) (of line : LineNumber)
      → of ≡ line → (part values : Values) → part ≡ values
      → IfOk r (λ o. HasPassed cache_facts backing_facts o p force of first part v w)
      → IfOk r (λ o. HasPassed cache_facts backing_facts o p force line first values v w)
  passed_with r p force first v w of line is part values same h =
      subst (λ (l : Values). IfOk r (λ o.
      HasPassed cache_facts backing_facts o p force line first l v w)) same
      (subst (λ (n : LineNumber). IfOk r (λ o.
      HasPassed cache_facts backing_facts o p force n first part v w)) is h)

  pub not_with : (r : Result Past PastError) (p : PartsView (CorePart C B)) (force : Bool)
      (first : ℕ) (v w : View cache_facts backing_facts) (of line : LineNumber)
      → of ≡ line → (part values : Values) → part ≡ values
      → IfErr r (λ e. HasNotPassed cache_facts backing_facts e p force of first part v w)
      → IfErr r (λ e. HasNotPassed cache_facts backing_facts e p force line first values v w)
  not_with r p force first v w of line is part values same h =
      subst (λ (l : Values). IfErr r (λ e.
      HasNotPassed cache_facts backing_facts e p force line first l v w)) same
      (subst (λ (n : LineNumber). IfErr r (λ e.
      HasNotPassed cache_facts backing_facts e p force n first part v w)) is h)
