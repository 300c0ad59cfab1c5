use Rattle.std.proofs.Common.{◌≡◌, ℕ, ◌+◌, ◌-◌, ◌*◌, ◌/◌, ◌<◌, ◌≤◌, min, max, List, [], ◌++◌, length, length-append, refl, sym, ap, ◌∙◌, subst, arith}
use Rattle.bc_model.specs.Sector.{Value, sectors}
use Rattle.bc_model.specs.Pieces.{Piece, piece_in, pieces_from}
use Rattle.bc_model.proofs.Sectors.{length_sectors}
use Rattle.bc_events.specs.declared.event.Deed.{Deed}
use Rattle.bc_events.specs.declared.event.LineNumber.{LineNumber}
use Rattle.bc_deed.specs.Flushed.{HasDone}
use Rattle.bc_deed.proofs.Sequence.{done_both}
use Rattle.bc_job.specs.Asked.{line_of}
use Rattle.bc_job.specs.Deeds.{AreReadDeeds, read_deeds}
use Rattle.bc_job.proofs.Looping.{one_more, reads_more, read_stopped_at, done_none}
use Rattle.bc_job.proofs.read.read_pieces.Goals as goal

-- how many sectors are read before the piece of a number
abbrev done : ℕ → ℕ → ℕ → ℕ
done first count number = min (first + count) (max first (256 * number)) - first

none_done : (first count number : ℕ) → 1 ≤ count → number ≡ first / 256 → done first count number ≡ 0
none_done first count number some is = omega arith

more_done : (first count number at many : ℕ) → first / 256 ≤ number → number < (first + count + 255) / 256 → at ≡ (piece_in first count number).first → many ≡ (piece_in first count number).count
    → ((at - first) + many ≡ done first count (number + 1)) × (at - first ≡ done first count number)
more_done first count number at many low high here long = (omega arith, omega arith)

-- a piece that was read has values
own_long : (n m : ℕ) (new old : List ℕ) (own : List Value) → sectors (n + m) new ≡ sectors n old ++ own → 1 ≤ m
    → 1 ≤ length own
own_long n m new old own is some = omega (
  arith,
  ap (λ (vs : List Value). length vs) is,
  length_sectors (n + m) new,
  length-append (sectors n old) own,
  length_sectors n old,
)

pub loop-number-init : goal.loop-number-init
loop-number-init g c =
    let start : 0 ≡ c.first_piece-number.result - c.args.job.now.first / 256 =
    let is = c.first_piece-number.ensures in omega arith in (
      c.requires.ready,
      c.requires.length,
      (
        [],
        subst (λ (vs : List Value). AreReadDeeds (line_of c.args.job.now)
            (pieces_from c.args.job.now.first c.args.job.now.count (c.args.job.now.first / 256)
            (c.first_piece-number.result - c.args.job.now.first / 256)) vs [])
            (sym (ap (λ n. sectors n c.args.bytes.now)
            (none_done c.args.job.now.first c.args.job.now.count c.first_piece-number.result
            c.requires.range.some c.first_piece-number.ensures)))
            (subst (λ n. AreReadDeeds (line_of c.args.job.now)
            (pieces_from c.args.job.now.first c.args.job.now.count (c.args.job.now.first / 256) n) [] [])
            start (refl, refl)),
        done_none g.C.Disk.facts g.B.Disk.facts c.args.seat.now c.requires.ready.works.seat,
      ),
      ap (λ n. sectors n c.args.bytes.now)
          (none_done c.args.job.now.first c.args.job.now.count c.first_piece-number.result
          c.requires.range.some c.first_piece-number.ensures),
    )

pub returns-in-Err-clause-err : goal.returns-in-Err-clause-err
returns-in-Err-clause-err g c =
    let low = c.loop-number.auto.number in
    let first_ = c.first_piece-number.ensures in
    let end = c.end_piece-number-end.ensures in
    let test = c.loop-number-test.true in
    let before = c.loop-number.invariant.2 in
    read_stopped_at g.C.Disk.facts g.B.Disk.facts c.args.seat.now c.loop-number.seat c.read_at.new.seat
    c.in-Err.error c.args.job.now _ before.0 c.loop-number.number c.piece-piece.result.first
    c.piece-piece.result.count c.requires.inside (omega arith) (omega arith) c.piece-piece.ensures.first
    c.piece-piece.ensures.count before.1 before.2 c.in-Err.ensures.err

pub loop-number-preserved : goal.loop-number-preserved
loop-number-preserved g c =
    let low = c.loop-number.auto.number in
    let first_ = c.first_piece-number.ensures in
    let end = c.end_piece-number-end.ensures in
    let test = c.loop-number-test.true in
    let before = c.loop-number.invariant.2 in
    let now_ = c.in-Ok.ensures.ok in
    let own = now_.0 in
    let job = c.args.job.now in
    let number = c.loop-number.number in
    let p = piece_in job.first job.count number in
    let q = job.first / 256 in
    let places = more_done job.first job.count number c.piece-piece.result.first c.piece-piece.result.count
    (omega arith) (omega arith) c.piece-piece.ensures.first c.piece-piece.ensures.count in
    let bytes : sectors (done job.first job.count (number + 1)) c.read_at.new.bytes
    ≡ sectors (done job.first job.count number) c.loop-number.bytes ++ own =
    ap (λ n. sectors n c.read_at.new.bytes) (sym places.0) ∙ now_.2
    ∙ ap (λ n. sectors n c.loop-number.bytes ++ own) places.1 in
    let reads = reads_more (line_of job) (pieces_from job.first job.count q (number - q)) p
    (sectors (done job.first job.count number) c.loop-number.bytes) own before.0 before.1
    (now_.1 ∙ c.piece-piece.ensures.count) in
    let more = one_more job.first job.count number (omega arith) in
    let these : List Deed = read_deeds (line_of job) p.first p.count own in (
      c.read_at.ensures.ready,
      c.read_at.auto.bytes ∙ c.loop-number.invariant.1,
      (
        before.0 ++ these,
        subst (λ (vs : List Value). AreReadDeeds (line_of job)
            (pieces_from job.first job.count q (number + 1 - q)) vs (before.0 ++ these)) (sym bytes)
            (subst (λ (ps : List Piece). AreReadDeeds (line_of job) ps
            (sectors (done job.first job.count number) c.loop-number.bytes ++ own) (before.0 ++ these))
            (sym more) reads),
        done_both g.C.Disk.facts g.B.Disk.facts before.0 these c.args.seat.now c.loop-number.seat
            c.read_at.new.seat before.2
            (subst (λ k. HasDone g.C.Disk.facts g.B.Disk.facts (read_deeds (line_of job) k p.count own)
            c.loop-number.seat c.read_at.new.seat) c.piece-piece.ensures.first
            (subst (λ n. HasDone g.C.Disk.facts g.B.Disk.facts
            (read_deeds (line_of job) c.piece-piece.result.first n own)
            c.loop-number.seat c.read_at.new.seat) c.piece-piece.ensures.count
            (subst (λ (of : LineNumber). HasDone g.C.Disk.facts g.B.Disk.facts
            (read_deeds of c.piece-piece.result.first c.piece-piece.result.count own)
            c.loop-number.seat c.read_at.new.seat) c.of.ensures now_.3))),
      ),
      (
        sectors (done job.first job.count number) c.loop-number.bytes,
        own_long _ _ _ _ c.in-Ok.own c.in-Ok.ensures.values c.piece-piece.ensures.some.0,
        ap (λ n. sectors n c.read_at.new.bytes) (sym places.0) ∙ c.in-Ok.ensures.values
            ∙ ap (λ n. sectors n c.loop-number.bytes ++ c.in-Ok.own) places.1,
      ),
    )
