use Rattle.std.proofs.Common.{sym, subst}
use Rattle.bc_serve.specs.bc_hand.Seats.{View, Works, empty}
use Rattle.bc_flush.specs.bc_request.Asked.{IsIdle}
use Rattle.bc_cached_serve.proofs.Cutting.{kept_works}
use Rattle.bc_cached_serve.proofs.worker.cut_off.Goals as goal

pub returns-clause-works : goal.returns-clause-works
returns-clause-works g c = subst (λ (x : View g.C.Disk.facts g.B.Disk.facts).
    Works g.C.Disk.facts g.B.Disk.facts c.args.parts.now x empty) (sym c.split.ensures.kept)
    (kept_works g.C.Disk.facts g.B.Disk.facts c.args.parts.now c.args.seat.now c.requires.ready)

pub returns-clause-idle : goal.returns-clause-idle
returns-clause-idle g c = subst (λ (x : View g.C.Disk.facts g.B.Disk.facts).
    IsIdle g.C.Disk.facts g.B.Disk.facts c.args.parts.now x) (sym c.split.ensures.new)
    c.requires.ready.worker
