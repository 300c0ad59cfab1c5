use Rattle.std.proofs.Common.{◌≡◌, ◌*◌, length, take}
use Rattle.bc_bytes.specs.Fields.{SameOutside}
use Rattle.bc_keys.specs.Spelling.{words_at, words_of_all}
use Rattle.bc_node.proofs.keys.put_keys.Given as goal

abbrev pub invariant-loop-i : goal.invariant-loop-i
invariant-loop-i l = record {
  counted : l.count ≡ length (words_of_all (take l.i l.keys.keys));
  written : words_at l.count l.into l.at ≡ words_of_all (take l.i l.keys.keys);
  others : SameOutside (8 * l.count) l.fn.into l.into l.at;
}
