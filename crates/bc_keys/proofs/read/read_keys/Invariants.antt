use Rattle.std.proofs.Common.{◌≡◌, ◌+◌, ◌-◌, ◌*◌, ◌/◌, ◌≤◌, vec_len}
use Rattle.std.specs.Prelude.{vec_capacity}
use Rattle.bc_keys.specs.Spelling.{words_at, SpellThen}
use Rattle.bc_keys.proofs.read.read_keys.Given as goal

abbrev pub invariant-loop-taken : goal.invariant-loop-taken
invariant-loop-taken l = record {
  within : l.taken ≤ l.count;
  few : 2 * vec_len l.keys ≤ l.taken;
  room : vec_capacity l.keys ≡ l.count / 2;
  read : SpellThen (words_at l.count l.bytes l.at) l.keys.items (words_at (l.count - l.taken) l.bytes (l.at + 8 * l.taken));
}

abbrev pub decreases-loop-taken : goal.decreases-loop-taken
decreases-loop-taken l = l.count - l.taken
