use Rattle.std.proofs.Common.{sym, subst}
use Rattle.bc_serve.specs.bc_hand.Seats.{View}
use Rattle.bc_serve.specs.bc_job.Asked.{IsFor}
use Rattle.bc_cached_serve.proofs.Taken.{gone_read, half_read, next_of, ready_by, served_read}
use Rattle.bc_cached_serve.proofs.in_order.serve_read.Goals as goal

pub read_sectors-result-requires-clause-its : goal.read_sectors-result-requires-clause-its
read_sectors-result-requires-clause-its g c = subst (λ (y : View g.C.Disk.facts g.B.Disk.facts).
    IsFor g.C.Disk.facts g.B.Disk.facts c.args.job.now y) (sym c.cut_off-worker.ensures.new)
    (record { worker = sym c.requires.worker; size = c.requires.size })

pub take_in-requires-clause-next : goal.take_in-requires-clause-next
take_in-requires-clause-next g c =
    let gone = gone_read g.C.Disk.facts g.B.Disk.facts c.args.parts.now c.args.job.now
    c.read_sectors-result.result c.cut_off-worker.result c.read_sectors-result.new.seat
    c.read_sectors-result.ensures.ok c.read_sectors-result.ensures.err in
    next_of g.C.Disk.facts g.B.Disk.facts c.args.seat.now c.cut_off-worker.new.seat
    c.cut_off-worker.result c.read_sectors-result.new.seat c.cut_off-worker.ensures.kept
    c.cut_off-worker.ensures.new gone.done.same.first

pub returns-clause-ready : goal.returns-clause-ready
returns-clause-ready g c = ready_by g.C.Disk.facts g.B.Disk.facts c.args.parts.now c.args.seat.now
    c.cut_off-worker.new.seat c.cut_off-worker.result c.read_sectors-result.new.seat
    c.take_in.new.seat c.requires.ready c.cut_off-worker.ensures.kept c.cut_off-worker.ensures.new
    c.take_in.ensures.joined c.take_in.ensures.works
    (gone_read g.C.Disk.facts g.B.Disk.facts c.args.parts.now c.args.job.now
    c.read_sectors-result.result c.cut_off-worker.result c.read_sectors-result.new.seat
    c.read_sectors-result.ensures.ok c.read_sectors-result.ensures.err)
    c.read_sectors-result.ensures.idle c.take_in.ensures.heard

pub returns-clause-ok : goal.returns-clause-ok
returns-clause-ok g c = served_read g.C.Disk.facts g.B.Disk.facts c.args.parts.now c.args.seat.now
    c.cut_off-worker.new.seat c.cut_off-worker.result c.read_sectors-result.new.seat
    c.take_in.new.seat c.requires.ready c.cut_off-worker.ensures.kept c.cut_off-worker.ensures.new
    c.take_in.ensures.joined c.take_in.ensures.works c.args.job.now c.read_sectors-result.result
    c.read_sectors-result.ensures.ok

pub returns-clause-err : goal.returns-clause-err
returns-clause-err g c = half_read g.C.Disk.facts g.B.Disk.facts c.args.parts.now c.args.seat.now
    c.cut_off-worker.new.seat c.cut_off-worker.result c.read_sectors-result.new.seat
    c.take_in.new.seat c.requires.ready c.cut_off-worker.ensures.kept c.cut_off-worker.ensures.new
    c.take_in.ensures.joined c.take_in.ensures.works c.args.job.now c.read_sectors-result.result
    c.read_sectors-result.ensures.err
