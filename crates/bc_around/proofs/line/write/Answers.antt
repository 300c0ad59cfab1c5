use Rattle.std.proofs.Common.{◌≤◌, ◌+◌, ◌/◌, refl, sym, ◌∙◌, arith}
use Rattle.std.proofs.lemmas.Bool.{ltb-false}
use Rattle.bc_around.specs.declared.past.Past.TheVariants as past
use Rattle.bc_around.proofs.Lines.{all_of, cached_not, for_still, gone_passed_at, none_yet, one_more, refused_at, stopped_at, waiting_not}
use Rattle.bc_around.proofs.line.write.Goals as goal

pub loop-number-init : goal.loop-number-init
loop-number-init g c = (
  c.requires.idle,
  c.requires.its,
  none_yet g.C.Disk.facts g.B.Disk.facts c.args.parts.now c.args.job.now c.args.values.now c.first_piece-number.result c.args.seat.now c.first_piece-number.ensures,
)

pub write_at-requires-clause-inside : goal.write_at-requires-clause-inside
write_at-requires-clause-inside g c = ltb-false c.args.job.now.size
    (c.args.job.now.first + c.args.job.now.count)
    (sym c.is_outside.ensures ∙ c.if-is_outside.false)

pub returns-in-Err-clause-err : goal.returns-in-Err-clause-err
returns-in-Err-clause-err g c =
    let low = c.loop-number.auto.number in
    let first_ = c.first_piece-number.ensures in
    let end = c.end_piece-number-end.ensures in
    let test = c.loop-number-test.true in
    refused_at g.C.Disk.facts g.B.Disk.facts c.args.parts.now c.args.job.now c.args.values.now c.loop-number.number c.piece-piece.result.first c.piece-piece.result.count
    (omega arith) c.piece-piece.ensures.first c.piece-piece.ensures.count (omega arith)
    c.in-Err.error c.args.seat.now c.loop-number.seat c.write_at.new.seat
    c.loop-number.invariant.2 c.in-Err.ensures.err

pub returns-in-Cached-clause-ok : goal.returns-in-Cached-clause-ok
returns-in-Cached-clause-ok g c =
    let low = c.loop-number.auto.number in
    let first_ = c.first_piece-number.ensures in
    let end = c.end_piece-number-end.ensures in
    let test = c.loop-number-test.true in
    stopped_at g.C.Disk.facts g.B.Disk.facts c.args.parts.now c.args.job.now c.args.values.now c.loop-number.number c.piece-piece.result.first c.piece-piece.result.count
    (omega arith) c.piece-piece.ensures.first c.piece-piece.ensures.count (omega arith) _
    c.in-Ok.past past.Cached c.args.seat.now c.loop-number.seat c.write_at.new.seat refl refl refl
    c.in-Cached.is cached_not c.loop-number.invariant.2 c.in-Ok.ensures.ok

pub returns-in-Waiting-clause-ok : goal.returns-in-Waiting-clause-ok
returns-in-Waiting-clause-ok g c =
    let low = c.loop-number.auto.number in
    let first_ = c.first_piece-number.ensures in
    let end = c.end_piece-number-end.ensures in
    let test = c.loop-number-test.true in
    stopped_at g.C.Disk.facts g.B.Disk.facts c.args.parts.now c.args.job.now c.args.values.now c.loop-number.number c.piece-piece.result.first c.piece-piece.result.count
    (omega arith) c.piece-piece.ensures.first c.piece-piece.ensures.count (omega arith) _
    c.in-Ok.past past.Waiting c.args.seat.now c.loop-number.seat c.write_at.new.seat refl refl refl
    c.in-Waiting.is waiting_not c.loop-number.invariant.2 c.in-Ok.ensures.ok

pub loop-number-preserved : goal.loop-number-preserved
loop-number-preserved g c =
    let low = c.loop-number.auto.number in
    let first_ = c.first_piece-number.ensures in
    let from : c.args.job.now.first / 256 ≤ c.loop-number.number = omega arith in (
      c.write_at.ensures.idle,
      for_still g.C.Disk.facts g.B.Disk.facts c.args.job.now c.loop-number.seat
          c.write_at.new.seat
          (gone_passed_at g.C.Disk.facts g.B.Disk.facts c.args.parts.now c.args.job.now
          c.args.values.now c.loop-number.number c.piece-piece.result.first
          c.piece-piece.result.count from c.piece-piece.ensures.first c.piece-piece.ensures.count
          c.in-Ok.past c.loop-number.seat c.write_at.new.seat c.in-Ok.ensures.ok)
          c.loop-number.invariant.1,
      one_more g.C.Disk.facts g.B.Disk.facts c.args.parts.now c.args.job.now c.args.values.now c.loop-number.number c.piece-piece.result.first
          c.piece-piece.result.count from c.piece-piece.ensures.first c.piece-piece.ensures.count
          c.in-Ok.past c.args.seat.now c.loop-number.seat c.write_at.new.seat c.in-Written.is
          c.loop-number.invariant.2 c.in-Ok.ensures.ok,
    )

pub returns-clause-ok : goal.returns-clause-ok
returns-clause-ok g c =
    let low = c.loop-number.auto.number in
    let first_ = c.first_piece-number.ensures in
    let end = c.end_piece-number-end.ensures in
    let test = c.loop-number-test.false in
    let most = c.loop-number.auto.number-end in
    all_of g.C.Disk.facts g.B.Disk.facts c.args.parts.now c.args.job.now c.args.values.now c.loop-number.number c.end_piece-number-end.result c.args.seat.now
    c.loop-number.seat c.end_piece-number-end.ensures (omega arith) c.loop-number.invariant.2
