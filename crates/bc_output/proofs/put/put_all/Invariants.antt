use Rattle.std.proofs.Common.{length, ◌-◌, ◌≤◌, take}
use Rattle.bc_output.specs.Put.{Takes}
use Rattle.bc_output.proofs.put.put_all.Given as goal

abbrev pub invariant-loop-taken : goal.invariant-loop-taken
invariant-loop-taken g l =
    let facts = g.K.Sink.facts in
    record {
      inside : l.taken ≤ length l.text;
      taken : Takes (take l.taken l.text) (facts l.fn.out) (facts l.out);
    }

abbrev pub decreases-loop-taken : goal.decreases-loop-taken
decreases-loop-taken g l = length l.text - l.taken
