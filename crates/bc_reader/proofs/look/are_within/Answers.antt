use Rattle.std.proofs.Common.{subst, List}
use Rattle.std.proofs.lemmas.List.{take_all}
use Rattle.std.proofs.lemmas.List.Elements.{All-more}
use Rattle.bc_reads.specs.declared.runs.ReadRun.{ReadRun}
use Rattle.bc_reader.specs.Runs.{EndsBy, LieWithin}
use Rattle.bc_reader.proofs.look.are_within.Goals as goal

pub loop-run-preserved : goal.loop-run-preserved
loop-run-preserved c = All-more (EndsBy c.args.end) c.args.runs.now c.loop-run.run-index _
    c.loop-run-test.true c.loop-run.invariant c.if-not-is_within.ensures

pub returns : goal.returns
returns c = subst (λ (rs : List ReadRun). LieWithin rs c.args.end)
    (take_all c.loop-run.run-index c.args.runs.now c.loop-run-test.false) c.loop-run.invariant
