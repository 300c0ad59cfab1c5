use Rattle.std.proofs.Common.{◌≡◌, drop}
use Rattle.bc_script.specs.Line.{front}
use Rattle.bc_script.proofs.Fronts.{NoSpace}
use Rattle.bc_script.proofs.Numbers.{number_after}
use Rattle.bc_script.proofs.parse.front_number.Given as goal

abbrev pub invariant-loop-at : goal.invariant-loop-at
invariant-loop-at l = record {
  before : NoSpace l.text l.at;
  value : number_after l.value (drop l.at (front l.text)) ≡ number_after 0 (front l.text);
}
