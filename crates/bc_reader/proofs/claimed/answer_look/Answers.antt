use Rattle.std.proofs.Common.{ap, ◌∙◌, sym, subst, List}
use Rattle.bc_fetch.specs.bc_hand.declared.hand.Hand.{Hand}
use Rattle.bc_fetch.proofs.of_bc_hand.Knowing.{map_ok}
use Rattle.bc_fetch.specs.bc_machine.World.{cache_among}
use Rattle.bc_model.specs.Sector.{values_of}
use Rattle.bc_reads.specs.declared.runs.ReadRun.{ReadRun}
use Rattle.bc_reader.specs.Deeds.{HasStoppedBy, RunsStop}
use Rattle.bc_reader.specs.Runs.{HasReadAll, IsSeenAll, LieWithin}
use Rattle.bc_reader.proofs.Turning.{answered_look, either_range, may_with_look, seen_all, unread_look, untold}
use Rattle.bc_reader.proofs.claimed.answer_look.Goals as goal

pub read_runs-requires-clause-cache : goal.read_runs-requires-clause-cache
read_runs-requires-clause-cache g c = subst (λ (rs : List ReadRun). LieWithin rs
    (cache_among g.C.Disk.facts g.B.Disk.facts c.args.parts.now.run.start).sectors)
    (sym c.deref.ensures.value) c.requires.cache

pub read_runs-requires-clause-seen : goal.read_runs-requires-clause-seen
read_runs-requires-clause-seen g c = subst
    (λ (rs : List ReadRun). IsSeenAll g.C.Disk.facts g.B.Disk.facts c.args.first c.args.count rs c.args.seat.now)
    (sym c.deref.ensures.value)
    (seen_all g.C.Disk.facts g.B.Disk.facts c.args.parts.now c.args.first c.args.count
    c.args.seen.now c.requires.saw.0 c.args.seat.now c.args.hand.now c.requires.saw.1)

pub returns-in-Err-clause-err : goal.returns-in-Err-clause-err
returns-in-Err-clause-err g c t saw = unread_look g.C.Disk.facts g.B.Disk.facts c.args.parts.now
    c.args.first c.args.count c.args.seen.now c.in-Err.error t c.args.seat.now c.read_runs.new.seat
    c.args.hand.now saw c.requires.works.seat c.read_runs.ensures.works.seat
    (subst (λ (rs : List ReadRun). HasStoppedBy g.C.Disk.facts g.B.Disk.facts c.in-Err.error
    (RunsStop c.in-Err.error rs) c.args.seat.now c.read_runs.new.seat) c.deref.ensures.value
    c.in-Err.ensures.err)

pub answer_with-requires-clause-known : goal.answer_with-requires-clause-known
answer_with-requires-clause-known g c = may_with_look g.C.Disk.facts g.B.Disk.facts
    c.args.parts.now c.args.first c.args.count c.args.seen.now (values_of c.read_runs.new.bytes)
    c.requires.saw.0 c.args.seat.now c.read_runs.new.seat c.args.hand.now c.read_runs.new.hand
    c.requires.saw.1 (ap (λ (h : Hand _ _). h.buckets) c.read_runs.ensures.hand.rest)
    (subst (λ (rs : List ReadRun). HasReadAll g.C.Disk.facts g.B.Disk.facts c.args.first rs
    (values_of c.read_runs.new.bytes) c.args.seat.now c.read_runs.new.seat) c.deref.ensures.value
    c.in-Ok.ensures.ok)

pub returns-clause-claim : goal.returns-clause-claim
returns-clause-claim g c = either_range g.C.Disk.facts g.B.Disk.facts c.answer_with.result
    c.args.of c.args.first (values_of c.read_runs.new.bytes) c.read_runs.new.seat
    c.answer_with.new.seat c.answer_with.ensures.ok c.answer_with.ensures.err
    ∙ c.read_runs.ensures.claim.range

pub returns-clause-ok : goal.returns-clause-ok
returns-clause-ok g c = map_ok c.answer_with.result (λ did t saw.
    answered_look g.C.Disk.facts g.B.Disk.facts c.args.parts.now c.args.first c.args.count c.args.of
    c.args.seen.now (values_of c.read_runs.new.bytes) t c.args.seat.now c.read_runs.new.seat
    c.answer_with.new.seat c.args.hand.now saw c.requires.works.seat c.read_runs.ensures.works.seat
    c.answer_with.ensures.works.seat
    (subst (λ (rs : List ReadRun). HasReadAll g.C.Disk.facts g.B.Disk.facts c.args.first rs
    (values_of c.read_runs.new.bytes) c.args.seat.now c.read_runs.new.seat) c.deref.ensures.value
    c.in-Ok.ensures.ok) did) c.answer_with.ensures.ok

pub returns-clause-err : goal.returns-clause-err
returns-clause-err g c = untold g.C.Disk.facts g.B.Disk.facts c.args.parts.now c.args.first
    c.args.count c.answer_with.result c.args.seen.now (values_of c.read_runs.new.bytes)
    c.args.seat.now c.read_runs.new.seat c.answer_with.new.seat c.args.hand.now
    c.requires.works.seat c.read_runs.ensures.works.seat c.answer_with.ensures.works.seat
    (subst (λ (rs : List ReadRun). HasReadAll g.C.Disk.facts g.B.Disk.facts c.args.first rs
    (values_of c.read_runs.new.bytes) c.args.seat.now c.read_runs.new.seat) c.deref.ensures.value
    c.in-Ok.ensures.ok) c.answer_with.ensures.cause c.answer_with.ensures.err
