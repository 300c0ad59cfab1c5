use Rattle.bc_reads.specs.Reads.{IsRun}
use Rattle.bc_reads.proofs.runs.next_run.Given as goal

abbrev pub invariant-loop-done : goal.invariant-loop-done
invariant-loop-done l =
    IsRun l.leaf l.buckets (record { first = l.first; count = l.done; from = l.from })
