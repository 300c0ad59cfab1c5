use Rattle.std.proofs.Common.{ap, ◌∙◌, sym, subst, List}
use Rattle.bc_fetch.specs.bc_hand.Seats.{note}
use Rattle.bc_fetch.specs.bc_hand.declared.hand.Hand.{Hand}
use Rattle.bc_fetch.specs.bc_machine.World.{cache_among}
use Rattle.bc_model.specs.Sector.{values_of}
use Rattle.bc_reads.specs.declared.runs.ReadRun.{ReadRun}
use Rattle.bc_reader.specs.Deeds.{HasStoppedBy, RunsStop}
use Rattle.bc_reader.specs.Runs.{HasReadAll, IsSeenAll, LieWithin}
use Rattle.bc_reader.proofs.Finding.{waited_done}
use Rattle.bc_reader.proofs.Looking.{over_same, range_still}
use Rattle.bc_reader.proofs.Turning.{gone, looked_still, nothing_done, read_seen, seen_all, seen_waited, still_empty, stopped, taken, within_over}
use Rattle.bc_reader.proofs.claimed.read_seen.Goals as goal

pub read_runs-requires-clause-order : goal.read_runs-requires-clause-order
read_runs-requires-clause-order g c none = record {
  backing = ap (λ (h : Hand _ _). h.backing)
      (gone c.args.hand.now c.give_buckets.new.hand c.requires.hand c.give_buckets.ensures.hand);
}

pub read_runs-requires-clause-cache : goal.read_runs-requires-clause-cache
read_runs-requires-clause-cache g c = subst (λ (rs : List ReadRun). LieWithin rs
    (cache_among g.C.Disk.facts g.B.Disk.facts c.args.parts.now.run.start).sectors)
    (sym c.deref.ensures.value) c.requires.cache

pub read_runs-requires-clause-covered : goal.read_runs-requires-clause-covered
read_runs-requires-clause-covered g c = within_over c.args.first c.args.count
    (note g.C.Disk.facts g.B.Disk.facts c.give_buckets.new.seat).range
    (over_same (note g.C.Disk.facts g.B.Disk.facts c.args.seat.now).range
    (note g.C.Disk.facts g.B.Disk.facts c.give_buckets.new.seat).range c.args.first c.args.count
    (range_still g.C.Disk.facts g.B.Disk.facts c.args.seat.now c.give_buckets.new.seat
    (waited_done g.C.Disk.facts g.B.Disk.facts c.args.seat.now c.give_buckets.new.seat
    c.give_buckets.ensures.works.seat c.give_buckets.ensures.waited)) c.requires.range)

pub read_runs-requires-clause-looked : goal.read_runs-requires-clause-looked
read_runs-requires-clause-looked g c = looked_still g.C.Disk.facts g.B.Disk.facts c.args.seat.now
    c.give_buckets.new.seat
    (waited_done g.C.Disk.facts g.B.Disk.facts c.args.seat.now c.give_buckets.new.seat
    c.give_buckets.ensures.works.seat c.give_buckets.ensures.waited) c.requires.saw.1.looked

pub read_runs-requires-clause-seen : goal.read_runs-requires-clause-seen
read_runs-requires-clause-seen g c = subst
    (λ (rs : List ReadRun). IsSeenAll g.C.Disk.facts g.B.Disk.facts c.args.first c.args.count rs
    c.give_buckets.new.seat) (sym c.deref.ensures.value)
    (seen_waited g.C.Disk.facts g.B.Disk.facts c.args.first c.args.count c.args.seen.now.runs.items
    c.args.seat.now c.give_buckets.new.seat c.requires.works.seat c.give_buckets.ensures.waited
    (seen_all g.C.Disk.facts g.B.Disk.facts c.args.parts.now c.args.first c.args.count
    c.args.seen.now c.requires.saw.0 c.args.seat.now c.args.hand.now c.requires.saw.1))

pub returns-in-Err-clause-empty : goal.returns-in-Err-clause-empty
returns-in-Err-clause-empty g c = still_empty c.give_buckets.new.hand c.read_runs.new.hand
    (gone c.args.hand.now c.give_buckets.new.hand c.requires.hand c.give_buckets.ensures.hand)
    c.read_runs.ensures.hand

pub returns-in-Err-clause-claim : goal.returns-in-Err-clause-claim
returns-in-Err-clause-claim g c = c.read_runs.ensures.claim.range
    ∙ range_still g.C.Disk.facts g.B.Disk.facts c.args.seat.now c.give_buckets.new.seat
    (waited_done g.C.Disk.facts g.B.Disk.facts c.args.seat.now c.give_buckets.new.seat
    c.give_buckets.ensures.works.seat c.give_buckets.ensures.waited)

pub returns-in-Err-clause-err : goal.returns-in-Err-clause-err
returns-in-Err-clause-err g c t saw = stopped g.C.Disk.facts g.B.Disk.facts c.args.parts.now
    c.args.first c.args.count c.args.seen.now c.in-Err.error t c.args.seat.now
    c.give_buckets.new.seat c.read_runs.new.seat c.read_runs.new.seat c.args.hand.now saw
    (waited_done g.C.Disk.facts g.B.Disk.facts c.args.seat.now c.give_buckets.new.seat
    c.give_buckets.ensures.works.seat c.give_buckets.ensures.waited)
    (subst (λ (rs : List ReadRun). HasStoppedBy g.C.Disk.facts g.B.Disk.facts c.in-Err.error
    (RunsStop c.in-Err.error rs) c.give_buckets.new.seat c.read_runs.new.seat)
    c.deref.ensures.value c.in-Err.ensures.err) c.read_runs.ensures.works.seat
    (nothing_done g.C.Disk.facts g.B.Disk.facts c.read_runs.new.seat c.read_runs.ensures.works.seat)

pub take_buckets-requires-clause-order : goal.take_buckets-requires-clause-order
take_buckets-requires-clause-order g c none =
    let empty_ = still_empty c.give_buckets.new.hand c.read_runs.new.hand
    (gone c.args.hand.now c.give_buckets.new.hand c.requires.hand c.give_buckets.ensures.hand)
    c.read_runs.ensures.hand in record {
      journal = ap (λ (h : Hand _ _). h.journal) empty_;
      cache = ap (λ (h : Hand _ _). h.cache) empty_;
      backing = ap (λ (h : Hand _ _). h.backing) empty_;
    }

pub returns-clause-hand : goal.returns-clause-hand
returns-clause-hand g c = taken c.read_runs.new.hand c.take_buckets.new.hand
    (still_empty c.give_buckets.new.hand c.read_runs.new.hand
    (gone c.args.hand.now c.give_buckets.new.hand c.requires.hand c.give_buckets.ensures.hand)
    c.read_runs.ensures.hand) c.take_buckets.ensures.hand

pub returns-clause-claim : goal.returns-clause-claim
returns-clause-claim g c =
    range_still g.C.Disk.facts g.B.Disk.facts c.read_runs.new.seat c.take_buckets.new.seat
    (waited_done g.C.Disk.facts g.B.Disk.facts c.read_runs.new.seat c.take_buckets.new.seat
    c.take_buckets.ensures.works.seat c.take_buckets.ensures.waited)
    ∙ c.read_runs.ensures.claim.range
    ∙ range_still g.C.Disk.facts g.B.Disk.facts c.args.seat.now c.give_buckets.new.seat
    (waited_done g.C.Disk.facts g.B.Disk.facts c.args.seat.now c.give_buckets.new.seat
    c.give_buckets.ensures.works.seat c.give_buckets.ensures.waited)

pub returns-clause-ok : goal.returns-clause-ok
returns-clause-ok g c t saw = read_seen g.C.Disk.facts g.B.Disk.facts c.args.parts.now
    c.args.first c.args.count c.args.seen.now (values_of c.read_runs.new.bytes) t c.args.seat.now
    c.give_buckets.new.seat c.read_runs.new.seat c.take_buckets.new.seat c.args.hand.now saw
    c.requires.works.seat c.give_buckets.ensures.works.seat c.read_runs.ensures.works.seat
    c.take_buckets.ensures.works.seat c.give_buckets.ensures.waited
    (subst (λ (rs : List ReadRun). HasReadAll g.C.Disk.facts g.B.Disk.facts c.args.first rs
    (values_of c.read_runs.new.bytes) c.give_buckets.new.seat c.read_runs.new.seat)
    c.deref.ensures.value c.in-Ok.ensures.ok) c.take_buckets.ensures.waited
