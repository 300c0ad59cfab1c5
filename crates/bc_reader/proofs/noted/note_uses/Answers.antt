use Rattle.std.proofs.Common.{subst}
use Rattle.std.proofs.lemmas.List.{take_all}
use Rattle.bc_reads.specs.declared.runs.ReadRun.{ReadRun}
use Rattle.std.specs.Prelude.{List}
use Rattle.bc_reader.specs.Noted.{AreNoted}
use Rattle.bc_reader.proofs.Uses.{run_more}
use Rattle.bc_reader.proofs.noted.note_uses.Goals as goal

pub loop-run-preserved : goal.loop-run-preserved
loop-run-preserved c = run_more c.args.buckets.now c.loop-run.noted.items c.note_run.new.noted.items
    c.args.runs.now c.loop-run.run-index _ c.loop-run-test.true c.in_ok-note_run.ensures.kept
    c.loop-run.invariant c.in_ok-note_run.ensures.ok

pub returns : goal.returns
returns c = subst (λ (rs : List ReadRun). AreNoted rs c.args.buckets.now c.loop-run.noted.items)
    (take_all c.loop-run.run-index c.args.runs.now c.loop-run-test.false) c.loop-run.invariant
