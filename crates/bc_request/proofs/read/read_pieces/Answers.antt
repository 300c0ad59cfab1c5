use Rattle.std.proofs.Common.{◌≡◌, ℕ, ◌+◌, ◌-◌, ◌*◌, ◌/◌, ◌<◌, ◌≤◌, min, max, List, [], ◌++◌, refl, sym, ap, ◌∙◌, subst, arith}
use Rattle.bc_events.specs.declared.event.LineNumber.{LineNumber}
use Rattle.bc_job.proofs.Looping.{one_more}
use Rattle.bc_job.specs.Asked.{line_of}
use Rattle.bc_model.specs.Pieces.{Piece, piece_in, pieces_from}
use Rattle.bc_model.specs.Sector.{Value, sectors}
use Rattle.bc_request.proofs.Lines.{for_still, pieces_more, read_same, refused_at}
use Rattle.bc_request.proofs.read.read_pieces.Goals as goal
use Rattle.bc_request.specs.Line.{HasReadPieces}
use Rattle.bc_request.specs.Piece.{HasReadPiece}

-- how many sectors are read before the piece of a number
abbrev done : ℕ → ℕ → ℕ → ℕ
done first count number = min (first + count) (max first (256 * number)) - first

none_done : (first count number : ℕ) → 1 ≤ count → number ≡ first / 256 → done first count number ≡ 0
none_done first count number some is = omega arith

more_done : (first count number at many : ℕ) → first / 256 ≤ number
    → number < (first + count + 255) / 256 → at ≡ (piece_in first count number).first
    → many ≡ (piece_in first count number).count
    → ((at - first) + many ≡ done first count (number + 1)) × (at - first ≡ done first count number)
more_done first count number at many low high here long = (omega arith, omega arith)

-- a piece has no more sectors than there are from one cut to the next
few_in : (first count number many : ℕ) → many ≡ (piece_in first count number).count → many ≤ 256
few_in first count number many is = omega arith

pub loop-number-init : goal.loop-number-init
loop-number-init g c =
    let job = c.args.job.now in
    let start : 0 ≡ c.first_piece-number.result - job.first / 256 =
    let is = c.first_piece-number.ensures in omega arith in (
      c.requires.idle,
      c.requires.its,
      c.requires.length,
      subst (λ (vs : List Value). HasReadPieces g.C.Disk.facts g.B.Disk.facts c.args.parts.now
          (line_of job) (pieces_from job.first job.count (job.first / 256)
          (c.first_piece-number.result - job.first / 256)) vs c.args.seat.now c.args.seat.now)
          (sym (ap (λ n. sectors n c.args.bytes.now)
          (none_done job.first job.count c.first_piece-number.result c.requires.range.some
          c.first_piece-number.ensures)))
          (subst (λ n. HasReadPieces g.C.Disk.facts g.B.Disk.facts c.args.parts.now (line_of job)
          (pieces_from job.first job.count (job.first / 256) n) [] c.args.seat.now
          c.args.seat.now) start (refl, refl)),
    )

pub read_at-requires-clause-few : goal.read_at-requires-clause-few
read_at-requires-clause-few g c = few_in c.args.job.now.first c.args.job.now.count
    c.loop-number.number c.piece-piece.result.count c.piece-piece.ensures.count

pub returns-in-Err-clause-err : goal.returns-in-Err-clause-err
returns-in-Err-clause-err g c =
    let low = c.loop-number.auto.number in
    let first_ = c.first_piece-number.ensures in
    let end = c.end_piece-number-end.ensures in
    let test = c.loop-number-test.true in
    refused_at g.C.Disk.facts g.B.Disk.facts c.args.parts.now c.args.job.now c.in-Err.error
    (sectors (done c.args.job.now.first c.args.job.now.count c.loop-number.number)
    c.loop-number.bytes) c.loop-number.number c.piece-piece.result.first c.piece-piece.result.count c.args.seat.now
    c.loop-number.seat c.read_at.new.seat c.requires.inside (omega arith) (omega arith)
    c.piece-piece.ensures.first c.piece-piece.ensures.count c.loop-number.invariant.3
    c.in-Err.ensures.err

pub loop-number-preserved : goal.loop-number-preserved
loop-number-preserved g c =
    let low = c.loop-number.auto.number in
    let first_ = c.first_piece-number.ensures in
    let end = c.end_piece-number-end.ensures in
    let test = c.loop-number-test.true in
    let cf = g.C.Disk.facts in
    let bf = g.B.Disk.facts in
    let p = c.args.parts.now in
    let v = c.args.seat.now in
    let u = c.loop-number.seat in
    let w = c.read_at.new.seat in
    let now_ = c.in-Ok.ensures.ok in
    let own = now_.0 in
    let job = c.args.job.now in
    let number = c.loop-number.number in
    let q = piece_in job.first job.count number in
    let from = job.first / 256 in
    let places = more_done job.first job.count number c.piece-piece.result.first
    c.piece-piece.result.count (omega arith) (omega arith) c.piece-piece.ensures.first
    c.piece-piece.ensures.count in
    let bytes : sectors (done job.first job.count (number + 1)) c.read_at.new.bytes
    ≡ sectors (done job.first job.count number) c.loop-number.bytes ++ own =
    ap (λ n. sectors n c.read_at.new.bytes) (sym places.0) ∙ now_.2
    ∙ ap (λ n. sectors n c.loop-number.bytes ++ own) places.1 in
    let one : HasReadPiece cf bf p (line_of job) q.first q.count own u w =
    subst (λ k. HasReadPiece cf bf p (line_of job) k q.count own u w) c.piece-piece.ensures.first
    (subst (λ n. HasReadPiece cf bf p (line_of job) c.piece-piece.result.first n own u w)
    c.piece-piece.ensures.count
    (subst (λ (of : LineNumber). HasReadPiece cf bf p of c.piece-piece.result.first
    c.piece-piece.result.count own u w) c.of.ensures now_.3)) in
    let reads = pieces_more cf bf p (line_of job) (pieces_from job.first job.count from (number - from))
    q (sectors (done job.first job.count number) c.loop-number.bytes) own v u w
    c.loop-number.invariant.3 (now_.1 ∙ c.piece-piece.ensures.count) one in
    let more = one_more job.first job.count number (omega arith) in (
      c.read_at.ensures.idle,
      for_still cf bf job u w (read_same cf bf p (line_of job) q.first q.count own u w one)
          c.loop-number.invariant.1,
      c.read_at.auto.bytes ∙ c.loop-number.invariant.2,
      subst (λ (vs : List Value). HasReadPieces cf bf p (line_of job)
          (pieces_from job.first job.count from (number + 1 - from)) vs v w) (sym bytes)
          (subst (λ (ps : List Piece). HasReadPieces cf bf p (line_of job) ps
          (sectors (done job.first job.count number) c.loop-number.bytes ++ own) v w)
          (sym more) reads),
    )
