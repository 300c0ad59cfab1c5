use Rattle.std.proofs.Common.{◌≡◌, ℕ, ◌+◌, ◌-◌, ◌/◌, List, take, drop, ap, ◌∙◌, subst, sym, arith}
use Rattle.std.proofs.lemmas.Bool.{ltb-false}
use Rattle.bc_model.specs.Sector.{Value}
use Rattle.bc_model.specs.Pieces.{Piece, piece_in, pieces_from, piece_of}
use Rattle.bc_events.specs.declared.event.Deed.{Deed}
use Rattle.bc_deed.specs.Flushed.{HasDone}
use Rattle.bc_deed.proofs.Sequence.{done_both}
use Rattle.bc_job.specs.Asked.{line_of}
use Rattle.bc_job.specs.Deeds.{writes_deeds}
use Rattle.bc_job.proofs.Looping.{writes_more, write_stopped_at, at_start, done_none}
use Rattle.bc_job.proofs.write.write.Goals as goal

pub loop-number-init : goal.loop-number-init
loop-number-init g c = let job = c.args.job.now in (
  c.requires.ready,
  subst (λ n. HasDone g.C.Disk.facts g.B.Disk.facts (writes_deeds job.force (line_of job) job.first c.args.values.now
      (pieces_from job.first job.count (job.first / 256) n)) c.args.seat.now c.args.seat.now)
      (at_start c.first_piece-number.result (job.first / 256) c.first_piece-number.ensures)
      (done_none g.C.Disk.facts g.B.Disk.facts c.args.seat.now c.requires.ready.works.seat),
)

-- the values of a piece
part_is : (p : Piece) (first : ℕ) (values : List Value) (first' count : ℕ) → first' ≡ p.first → count ≡ p.count
    → take count (drop (first' - first) values) ≡ piece_of first values p
part_is p first values first' count a b = ap (λ k. take count (drop (k - first) values)) a
    ∙ ap (λ k. take k (drop (p.first - first) values)) b

pub returns-in-Err-clause-err : goal.returns-in-Err-clause-err
returns-in-Err-clause-err g c =
    let job = c.args.job.now in
    let inside = ltb-false job.size (job.first + job.count) (sym c.is_outside.ensures ∙ c.if-is_outside.false) in
    let low = c.loop-number.auto.number in
    let first_ = c.first_piece-number.ensures in
    let end = c.end_piece-number-end.ensures in
    let test = c.loop-number-test.true in
    let p = piece_in job.first job.count c.loop-number.number in
    write_stopped_at g.C.Disk.facts g.B.Disk.facts c.args.seat.now c.loop-number.seat c.write_at.new.seat
    c.in-Err.error job c.args.values.now
    (take c.piece-piece.result.count (drop (c.piece-piece.result.first - job.first) c.args.values.now))
    c.loop-number.number c.piece-piece.result.first inside
    (omega arith) (omega arith) c.piece-piece.ensures.first
    (part_is p job.first c.args.values.now c.piece-piece.result.first c.piece-piece.result.count
    c.piece-piece.ensures.first c.piece-piece.ensures.count)
    c.loop-number.invariant.1 c.in-Err.ensures.err

pub loop-number-preserved : goal.loop-number-preserved
loop-number-preserved g c =
    let job = c.args.job.now in
    let low = c.loop-number.auto.number in
    let first_ = c.first_piece-number.ensures in
    let p = piece_in job.first job.count c.loop-number.number in
    let own : List Value = take c.piece-piece.result.count (drop (c.piece-piece.result.first - job.first) c.args.values.now) in
    let part = part_is p job.first c.args.values.now c.piece-piece.result.first
    c.piece-piece.result.count c.piece-piece.ensures.first c.piece-piece.ensures.count in
    let more = writes_more job.force (line_of job) job.first job.count c.loop-number.number
    c.piece-piece.result.first c.args.values.now own (omega arith) c.piece-piece.ensures.first part in (
      c.write_at.ensures.ready,
      subst (λ (ds : List Deed). HasDone g.C.Disk.facts g.B.Disk.facts ds c.args.seat.now c.write_at.new.seat)
          (sym more)
          (done_both g.C.Disk.facts g.B.Disk.facts _ _ c.args.seat.now c.loop-number.seat c.write_at.new.seat
          c.loop-number.invariant.1 c.in-Ok.ensures.ok),
    )
