-- Requests piece by piece.
use Rattle.std.proofs.Common.{◌≡◌, ℕ, zero, suc, ◌+◌, ◌-◌, ◌/◌, ◌<◌, ◌≤◌, Bool, List, [], ◌∷◌, ◌++◌, length, refl, sym, ap, ◌∙◌, subst, append_assoc, append-nil, length-append, arith}
use Rattle.bc_model.specs.Sector.{Value}
use Rattle.bc_model.specs.Pieces.{Piece, piece_in, pieces_from, ServedUpTo, piece_of}
use Rattle.bc_disk.specs.Disk.{DiskFacts}
use Rattle.bc_parts.specs.Seat.{Run}
use Rattle.bc_events.specs.declared.event.LineNumber.{LineNumber}
use Rattle.bc_events.specs.declared.event.Deed.{Deed}
use Rattle.bc_deed.specs.bc_machine.Plain.{worker_of}
use Rattle.bc_deed.specs.bc_machine.declared.part.CorePart.{CorePart}
use Rattle.bc_deed.specs.bc_hand.Seats.{IsCoreSeat}
use Rattle.bc_deed.proofs.of_bc_hand.Knowing.{View}
use Rattle.bc_deed.specs.Asked.{size_of}
use Rattle.bc_deed.specs.Flushed.{HasDone}
use Rattle.bc_deed.proofs.May.{did_nothing}
use Rattle.bc_deed.proofs.Sequence.{done_both, done_first}
use Rattle.bc_job.specs.declared.job.Job.{Job}
use Rattle.bc_job.specs.declared.error.RequestError.{RequestError}
use Rattle.bc_job.specs.declared.error.RequestError.TheVariants as request
use Rattle.bc_job.specs.Asked.{IsFor, line_of}
use Rattle.bc_job.specs.Deeds.{AreReadDeeds, ReadStop, WriteStop, read_deeds, write_deeds, writes_deeds}
use Rattle.bc_job.specs.Requests.{WhereOutside, HasStoppedBy, HasNotRead, HasNotWritten}

-- so many pieces and then others
cut : (first count q n m : ℕ) → pieces_from first count q (n + suc m) ≡ pieces_from first count q n ++ piece_in first count (q + n) ∷ pieces_from first count (suc (q + n)) m
cut first count q zero m =
    let a : 0 + suc m ≡ suc m = omega arith in
    let b : q ≡ q + 0 = omega arith in
    ap (λ k. pieces_from first count q k) a ∙ ap (λ k. piece_in first count k ∷ pieces_from first count (suc k) m) b
cut first count q (suc n) m =
    let a : suc n + suc m ≡ suc (n + suc m) = omega arith in
    let b : suc q + n ≡ q + suc n = omega arith in
    ap (λ k. pieces_from first count q k) a ∙ ap (λ (ps : List Piece). piece_in first count q ∷ ps) (cut first count (suc q) n m)
    ∙ ap (λ k. piece_in first count q ∷ pieces_from first count (suc q) n ++ piece_in first count k ∷ pieces_from first count (suc k) m) b

-- the pieces before one
pub served_up_to : (first count number : ℕ) → first / 256 ≤ number → number < (first + count + 255) / 256 → ServedUpTo first count (pieces_from first count (first / 256) (number - first / 256)) (piece_in first count number)
served_up_to first count number low high =
    let q = first / 256 in
    let m = (first + count + 255) / 256 - number - 1 in
    let all : (first + count + 255) / 256 - q ≡ (number - q) + suc m = omega arith in
    let here : q + (number - q) ≡ number = omega arith in (
      pieces_from first count (suc number) m,
      ap (λ k. pieces_from first count q k) all ∙ cut first count q (number - q) m
          ∙ ap (λ k. pieces_from first count q (number - q) ++ piece_in first count k ∷ pieces_from first count (suc k) m) here,
    )

-- one piece more
pub one_more : (first count number : ℕ) → first / 256 ≤ number → pieces_from first count (first / 256) (number + 1 - first / 256) ≡ pieces_from first count (first / 256) (number - first / 256) ++ piece_in first count number ∷ []
one_more first count number low =
    let q = first / 256 in
    let all : number + 1 - q ≡ (number - q) + suc 0 = omega arith in
    let here : q + (number - q) ≡ number = omega arith in
    ap (λ k. pieces_from first count q k) all ∙ cut first count q (number - q) 0 ∙ ap (λ k. pieces_from first count q (number - q) ++ piece_in first count k ∷ []) here

-- its deeds behind those of the pieces before
writes_behind : (force : Bool) (of : LineNumber) (first : ℕ) (values : List Value) (ps : List Piece) (p : Piece)
    → writes_deeds force of first values (ps ++ p ∷ [])
    ≡ writes_deeds force of first values ps ++ write_deeds force of p.first (piece_of first values p)
writes_behind force of first values [] p = append-nil (write_deeds force of p.first (piece_of first values p))
writes_behind force of first values (x ∷ xs) p =
    ap (λ (ds : List Deed). write_deeds force of x.first (piece_of first values x) ++ ds)
    (writes_behind force of first values xs p)
    ∙ sym (append_assoc (write_deeds force of x.first (piece_of first values x))
    (writes_deeds force of first values xs) (write_deeds force of p.first (piece_of first values p)))

pub writes_more : (force : Bool) (of : LineNumber) (first count number at : ℕ) (values part : List Value)
    → first / 256 ≤ number → at ≡ (piece_in first count number).first
    → part ≡ piece_of first values (piece_in first count number)
    → writes_deeds force of first values (pieces_from first count (first / 256) (number + 1 - first / 256))
    ≡ writes_deeds force of first values (pieces_from first count (first / 256) (number - first / 256))
    ++ write_deeds force of at part
writes_more force of first count number at values part low here is =
    let p = piece_in first count number in
    let q = first / 256 in
    let before = writes_deeds force of first values (pieces_from first count q (number - q)) in
    ap (λ (ps : List Piece). writes_deeds force of first values ps) (one_more first count number low)
    ∙ writes_behind force of first values (pieces_from first count q (number - q)) p
    ∙ ap (λ k. before ++ write_deeds force of k (piece_of first values p)) (sym here)
    ∙ ap (λ (vs : List Value). before ++ write_deeds force of at vs) (sym is)

pub reads_more : (of : LineNumber) (ps : List Piece) (p : Piece) (values own : List Value) (ds : List Deed)
    → AreReadDeeds of ps values ds → length own ≡ p.count
    → AreReadDeeds of (ps ++ p ∷ []) (values ++ own) (ds ++ read_deeds of p.first p.count own)
reads_more of [] p values own ds reads long = (
  own,
  [],
  [],
  long,
  ap (λ (vs : List Value). vs ++ own) reads.0 ∙ sym (append-nil own),
  ap (λ (es : List Deed). es ++ read_deeds of p.first p.count own) reads.1
      ∙ sym (append-nil (read_deeds of p.first p.count own)),
  (refl, refl),
)
reads_more of (x ∷ xs) p values own ds reads long =
    let h = reads in (
      h.0,
      h.1 ++ own,
      h.2 ++ read_deeds of p.first p.count own,
      h.3,
      ap (λ (vs : List Value). vs ++ own) h.4 ∙ append_assoc h.0 h.1 own,
      ap (λ (es : List Deed). es ++ read_deeds of p.first p.count own) h.5
          ∙ append_assoc (read_deeds of x.first x.count h.0) h.2 (read_deeds of p.first p.count own),
      reads_more of xs p h.1 own h.2 h.6 long,
    )

-- the end of a list that is as long as the list is all of it
pub last_is_all : (all before own : List Value) (n : ℕ) → all ≡ before ++ own → length all ≡ n → length own ≡ n
    → own ≡ all
last_is_all all [] own n is a b = sym is
last_is_all all (v ∷ before) own n is a b =
    let long = ap (λ (vs : List Value). length vs) is ∙ length-append (v ∷ before) own in absurd (omega arith)

-- no piece is done yet
pub at_start : (n q : ℕ) → n ≡ q → 0 ≡ n - q
at_start n q is = omega arith

-- a refusal of a piece is none of a range
where_read : (error : RequestError) (X Y : Type 0) (first count : ℕ) (ds : List Deed)
    → ReadStop error first count ds → Y → WhereOutside error X Y
where_read request.OutOfRange X Y first count ds h y = absurd h
where_read (request.Fault device) X Y first count ds h y = y
where_read (request.Halted device) X Y first count ds h y = y
where_read request.Memory X Y first count ds h y = y

where_write : (error : RequestError) (X Y : Type 0) (force : Bool) (of : LineNumber) (first : ℕ) (values : List Value)
    (ds : List Deed) → WriteStop error force of first values ds → Y → WhereOutside error X Y
where_write request.OutOfRange X Y force of first values ds h y = absurd h
where_write (request.Fault device) X Y force of first values ds h y = y
where_write (request.Halted device) X Y force of first values ds h y = y
where_write request.Memory X Y force of first values ds h y = y

module _ {C B : Type 0} (cache_facts : C → DiskFacts) (backing_facts : B → DiskFacts) where
  -- nothing yet
  pub done_none : (v : View cache_facts backing_facts) → IsCoreSeat cache_facts backing_facts v
      → HasDone cache_facts backing_facts [] v v
  done_none v seat = done_first cache_facts backing_facts Rattle.std.specs.Prelude.None v v
      (did_nothing cache_facts backing_facts v seat)

  -- a seat of the run goes on to be the one that a job is for
  pub still_for : (job : Job) (ds : List Deed) (v w : View cache_facts backing_facts)
      → HasDone cache_facts backing_facts ds v w → IsFor cache_facts backing_facts job v
      → IsFor cache_facts backing_facts job w
  still_for job ds v w done its = record {
    worker = ap (λ n. worker_of n) done.same.first ∙ its.worker;
    size = its.size
        ∙ sym (ap (λ (r : Run (CorePart C B)). size_of cache_facts backing_facts r.start) done.same.run);
  }

  pub write_stopped_at : (v u w : View cache_facts backing_facts) (error : RequestError) (job : Job)
      (values part : List Value) (number at : ℕ) → job.first + job.count ≤ job.size → job.first / 256 ≤ number
      → number < (job.first + job.count + 255) / 256 → at ≡ (piece_in job.first job.count number).first
      → part ≡ piece_of job.first values (piece_in job.first job.count number)
      → HasDone cache_facts backing_facts (writes_deeds job.force (line_of job) job.first values
      (pieces_from job.first job.count (job.first / 256) (number - job.first / 256))) v u
      → HasStoppedBy cache_facts backing_facts error (WriteStop error job.force (line_of job) at part) u w
      → HasNotWritten cache_facts backing_facts error job values v w
  write_stopped_at v u w error job values part number at inside low high here is before why =
      let p = piece_in job.first job.count number in
      let served = pieces_from job.first job.count (job.first / 256) (number - job.first / 256) in
      let last = why.1.0 in
      where_write error _ _ job.force (line_of job) at part last why.1.1 (
        inside,
        (
          why.0,
          (
            writes_deeds job.force (line_of job) job.first values served ++ last,
            record {
              served = served;
              refused = p;
              up_to = served_up_to job.first job.count number low high;
              last = last;
              stop = subst (λ k. WriteStop error job.force (line_of job) k (piece_of job.first values p) last) here
                  (subst (λ (vs : List Value). WriteStop error job.force (line_of job) at vs last) is why.1.1);
              deeds = refl;
            },
            done_both cache_facts backing_facts _ last v u w before why.1.2,
          ),
        ),
      )

  pub read_stopped_at : (v u w : View cache_facts backing_facts) (error : RequestError) (job : Job)
      (values : List Value) (before : List Deed) (number at many : ℕ) → job.first + job.count ≤ job.size
      → job.first / 256 ≤ number → number < (job.first + job.count + 255) / 256
      → at ≡ (piece_in job.first job.count number).first → many ≡ (piece_in job.first job.count number).count
      → AreReadDeeds (line_of job)
      (pieces_from job.first job.count (job.first / 256) (number - job.first / 256)) values before
      → HasDone cache_facts backing_facts before v u
      → HasStoppedBy cache_facts backing_facts error (ReadStop error at many) u w
      → HasNotRead cache_facts backing_facts error job v w
  read_stopped_at v u w error job values before number at many inside low high here long reads done why =
      let p = piece_in job.first job.count number in
      let last = why.1.0 in
      where_read error _ _ at many last why.1.1 (
        inside,
        (
          why.0,
          (
            before ++ last,
            record {
              served = pieces_from job.first job.count (job.first / 256) (number - job.first / 256);
              refused = p;
              up_to = served_up_to job.first job.count number low high;
              values = values;
              before = before;
              last = last;
              reads = reads;
              stop = subst (λ k. ReadStop error k p.count last) here
                  (subst (λ n. ReadStop error at n last) long why.1.1);
              deeds = refl;
            },
            done_both cache_facts backing_facts before last v u w done why.1.2,
          ),
        ),
      )

  pub read_short : (v : View cache_facts backing_facts) (job : Job) → IsCoreSeat cache_facts backing_facts v
      → job.first + job.count ≤ job.size → 1 ≤ job.count
      → HasNotRead cache_facts backing_facts request.Memory job v v
  read_short v job seat inside some =
      let none : 0 ≡ job.first / 256 - job.first / 256 = omega arith in
      read_stopped_at v v v request.Memory job [] [] (job.first / 256)
      (piece_in job.first job.count (job.first / 256)).first (piece_in job.first job.count (job.first / 256)).count
      inside (omega arith) (omega arith) refl refl
      (subst (λ n. AreReadDeeds (line_of job) (pieces_from job.first job.count (job.first / 256) n) [] [])
      none (refl, refl))
      (done_none v seat) (tt, ([], Rattle.std.proofs.Common.inl refl, done_none v seat))
