use Rattle.std.proofs.Common.{◌≡◌, take, length}
use Rattle.bc_keys.specs.Spelling.{words_at}
use Rattle.bc_keys.proofs.words.words_from.Given as goal

abbrev pub invariant-loop-i : goal.invariant-loop-i
invariant-loop-i l = record {
  long : length l.words ≡ 8;
  read : take l.i l.words ≡ words_at l.i l.bytes l.at;
}
