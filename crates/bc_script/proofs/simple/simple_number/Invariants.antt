use Rattle.std.proofs.Common.{◌≤◌, ◌-◌}
use Rattle.bc_script.proofs.Digits.{AreRead}
use Rattle.bc_script.proofs.simple.simple_number.Given as goal

abbrev pub invariant-loop-at : goal.invariant-loop-at
invariant-loop-at l = record { within : l.at ≤ l.most; read : AreRead l.text l.at l.value }

abbrev pub decreases-loop-at : goal.decreases-loop-at
decreases-loop-at l = l.most - l.at
