use Rattle.std.proofs.Common.{◌+◌, ◌-◌, ◌<◌, ◌≤◌}
use Rattle.bc_reads.specs.Reads.{AreLongest, AreRuns}
use Rattle.bc_reads.proofs.Said.{HaveEnded}
use Rattle.bc_reads.proofs.runs.runs_of.Given as goal

abbrev pub invariant-loop-done : goal.invariant-loop-done
invariant-loop-done l = record {
  most : l.done ≤ l.count;
  runs : AreRuns l.leaf l.buckets l.first (l.first + l.done) l.runs.items;
  longest : AreLongest l.runs.items;
  ended : l.done < l.count → HaveEnded l.leaf l.buckets l.runs.items;
}

abbrev pub decreases-loop-done : goal.decreases-loop-done
decreases-loop-done l = l.count - l.done
