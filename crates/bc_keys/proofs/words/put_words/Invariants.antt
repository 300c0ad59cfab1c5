use Rattle.std.proofs.Common.{◌≡◌, ◌*◌, take}
use Rattle.bc_bytes.specs.Fields.{SameOutside}
use Rattle.bc_keys.specs.Spelling.{words_at}
use Rattle.bc_keys.proofs.words.put_words.Given as goal

abbrev pub invariant-loop-i : goal.invariant-loop-i
invariant-loop-i l = record {
  written : words_at l.i l.into l.at ≡ take l.i l.words;
  others : SameOutside (8 * l.i) l.fn.into l.into l.at;
}
