use Rattle.std.proofs.Common.{◌≡◌}
use Rattle.bc_candidate.specs.Dead.{run_let_go}
use Rattle.bc_candidate.proofs.dead.let_go_each.Given as goal

abbrev pub invariant-loop-done : goal.invariant-loop-done
invariant-loop-done l = l.buckets ≡ run_let_go l.at l.done l.initial.buckets
