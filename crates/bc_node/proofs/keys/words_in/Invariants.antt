use Rattle.std.proofs.Common.{◌≡◌, ◌*◌, ◌≤◌, length, take}
use Rattle.bc_keys.specs.Spelling.{words_of_all}
use Rattle.bc_node.proofs.keys.words_in.Given as goal

abbrev pub invariant-loop-i : goal.invariant-loop-i
invariant-loop-i l = record {
  counted : l.count ≡ length (words_of_all (take l.i l.keys.keys));
  few : l.count ≤ 8 * l.i;
}
