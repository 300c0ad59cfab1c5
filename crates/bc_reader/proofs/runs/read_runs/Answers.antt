use Rattle.std.proofs.Common.{◌≡◌, ◌+◌, ◌≤◌, List, suc, drop, refl, sym, ap, ◌∙◌, subst, arith}
use Rattle.std.specs.Prelude.{take}
use Rattle.std.proofs.lemmas.List.{take_all}
use Rattle.bc_fetch.specs.bc_deed.Asked.{size_of}
use Rattle.bc_model.proofs.Sectors.{values_whole}
use Rattle.bc_model.specs.Sector.{Value, sectors}
use Rattle.bc_reads.specs.Reads.{AreRuns}
use Rattle.bc_reads.specs.declared.runs.ReadRun.{ReadRun}
use Rattle.bc_reads.specs.declared.source.ReadFrom.TheVariants.{Backing}
use Rattle.bc_reader.specs.Runs.{HasReadAll}
use Rattle.bc_reader.proofs.Running.{did_none, same_both}
use Rattle.bc_reader.proofs.Series.{before_next, behind_next, cut_at, hand_both, next_covered, next_end, next_few, next_of, next_piece, next_place, next_some, next_within, none_left, read_none, reads_next, stopped_more}
use Rattle.bc_reader.proofs.runs.read_runs.Goals as goal

abbrev no_run : ReadRun
no_run = record { first = 0; count = 0; from = Backing }

pub loop-run-init : goal.loop-run-init
loop-run-init g c = record {
  works = c.requires.works;
  hand = record { rest = refl; kinds_are = refl };
  claim = record { range = refl; looked = refl };
  long = c.requires.length;
  left = omega arith;
  reads = read_none g.C.Disk.facts g.B.Disk.facts c.args.first c.args.seat.now
      (did_none g.C.Disk.facts g.B.Disk.facts c.args.seat.now c.requires.works.seat);
  before = λ s. omega arith;
  behind = λ s. subst (λ n. AreRuns s.leaf s.buckets n (c.args.first + c.args.count) c.args.runs.now)
      (omega arith) s.runs_are;
}

pub read_at-requires-clause-some : goal.read_at-requires-clause-some
read_at-requires-clause-some g c = let seen = c.requires.seen in next_some seen.leaf seen.buckets c.args.first
    c.args.count c.loop-run.place c.args.runs.now c.loop-run.run-index _ c.loop-run-test.true
    (c.loop-run.invariant.behind seen)

pub read_at-requires-clause-piece : goal.read_at-requires-clause-piece
read_at-requires-clause-piece g c = let seen = c.requires.seen in next_piece seen.leaf seen.buckets c.args.first
    c.args.count c.loop-run.place c.args.runs.now c.loop-run.run-index _ c.loop-run-test.true
    (c.loop-run.invariant.behind seen) c.requires.piece

pub read_at-requires-clause-place : goal.read_at-requires-clause-place
read_at-requires-clause-place g c = let seen = c.requires.seen in next_place seen.leaf seen.buckets c.args.first
    c.args.count c.loop-run.place c.args.runs.now c.loop-run.run-index _ c.loop-run-test.true
    (c.loop-run.invariant.behind seen) _ c.loop-run.invariant.long

pub read_at-requires-clause-backing : goal.read_at-requires-clause-backing
read_at-requires-clause-backing g c = let seen = c.requires.seen in next_within seen.leaf seen.buckets c.args.first
    c.args.count c.loop-run.place c.args.runs.now c.loop-run.run-index _ c.loop-run-test.true
    (c.loop-run.invariant.behind seen) _
    (subst (λ r. c.args.first + c.args.count ≤ size_of g.C.Disk.facts g.B.Disk.facts r.start)
    (c.requires.works.run ∙ sym c.loop-run.invariant.works.run) c.requires.backing)

pub read_at-requires-clause-few : goal.read_at-requires-clause-few
read_at-requires-clause-few g c = let seen = c.requires.seen in next_few seen.leaf seen.buckets c.args.first
    c.args.count c.loop-run.place c.args.runs.now c.loop-run.run-index _ c.loop-run-test.true
    (c.loop-run.invariant.behind seen) c.requires.few

pub read_at-requires-clause-covered : goal.read_at-requires-clause-covered
read_at-requires-clause-covered g c = let seen = c.requires.seen in next_covered seen.leaf seen.buckets c.args.first
    c.args.count c.loop-run.place c.args.runs.now c.loop-run.run-index _ c.loop-run-test.true
    (c.loop-run.invariant.behind seen) _ _ c.loop-run.invariant.claim.range c.requires.covered

pub read_at-requires-clause-seen : goal.read_at-requires-clause-seen
read_at-requires-clause-seen g c =
    let seen = c.requires.seen in
    let next = next_of seen.leaf seen.buckets (c.args.first + c.loop-run.place)
    (c.args.first + c.args.count) c.args.runs.now c.loop-run.run-index no_run c.loop-run-test.true
    (c.loop-run.invariant.behind seen) in
    let now = c.loop-run.invariant.reads.knows seen.leaf seen.buckets (c.args.first + c.loop-run.place)
    seen.knows (c.loop-run.invariant.before seen) in record {
      leaf = seen.leaf;
      buckets = seen.buckets;
      read = now.read;
      knows = now.knows;
      is = next.2;
    }

pub returns-in-Err-clause-err : goal.returns-in-Err-clause-err
returns-in-Err-clause-err g c = stopped_more g.C.Disk.facts g.B.Disk.facts c.in-Err.error c.args.first
    c.args.runs.now (take c.loop-run.run-index c.args.runs.now)
    (drop (suc c.loop-run.run-index) c.args.runs.now) _
    (sectors c.loop-run.place c.loop-run.bytes) c.args.seat.now c.loop-run.seat c.read_at.new.seat
    (cut_at c.args.runs.now c.loop-run.run-index _ c.loop-run-test.true)
    c.loop-run.invariant.reads c.in-Err.ensures.err

pub overflow_add-place : goal.overflow_add-place
overflow_add-place g c =
    let seen = c.requires.seen in
    let end = next_end seen.leaf seen.buckets c.args.first c.args.count c.loop-run.place
    c.args.runs.now c.loop-run.run-index no_run c.loop-run-test.true
    (c.loop-run.invariant.behind seen) in
    let piece = c.requires.piece in omega (arith, end, piece)

pub loop-run-preserved : goal.loop-run-preserved
loop-run-preserved g c =
    let i = c.loop-run.run-index in
    let runs = c.args.runs.now in
    let before = c.loop-run.invariant in
    let place = c.loop-run.place in record {
      works = c.read_at.ensures.works;
      hand = hand_both c.args.hand.now c.loop-run.hand c.read_at.new.hand before.hand
          c.read_at.ensures.hand;
      claim = same_both _ _ _ before.claim c.read_at.ensures.claim;
      long = c.read_at.auto.bytes ∙ before.long;
      left = let a = before.left in let b = c.read_at.ensures.left in omega (arith, a, b);
      reads = reads_next g.C.Disk.facts g.B.Disk.facts c.args.first place runs i _ c.loop-run.bytes
          c.read_at.new.bytes c.args.seat.now c.loop-run.seat c.read_at.new.seat c.loop-run-test.true
          before.reads c.in-Ok.ensures.ok;
      before = λ s. before_next s.leaf s.buckets c.args.first c.args.count place runs i _
          c.loop-run-test.true (before.before s) (before.behind s);
      behind = λ s. behind_next s.leaf s.buckets c.args.first c.args.count place runs i _
          c.loop-run-test.true (before.behind s);
    }

pub returns-clause-ok : goal.returns-clause-ok
returns-clause-ok g c =
    let seen = c.requires.seen in
    let end = none_left seen.leaf seen.buckets _ _ c.args.runs.now c.loop-run.run-index
    c.loop-run-test.false (c.loop-run.invariant.behind seen) in
    let same : c.args.count ≡ c.loop-run.place = omega (arith, end) in
    subst (λ (vs : List Value). HasReadAll g.C.Disk.facts g.B.Disk.facts c.args.first c.args.runs.now
    vs c.args.seat.now c.loop-run.seat)
    (sym (values_whole c.args.count c.loop-run.bytes c.loop-run.invariant.long
    ∙ ap (λ n. sectors n c.loop-run.bytes) same))
    (subst (λ (rs : List ReadRun). HasReadAll g.C.Disk.facts g.B.Disk.facts c.args.first rs
    (sectors c.loop-run.place c.loop-run.bytes) c.args.seat.now c.loop-run.seat)
    (take_all c.loop-run.run-index c.args.runs.now c.loop-run-test.false) c.loop-run.invariant.reads)
