use Rattle.std.proofs.Common.{◌≡◌, ◌++◌, take}
use Rattle.bc_script.specs.Runs.{hex}
use Rattle.bc_script.proofs.print.push_hex.Given as goal

abbrev pub invariant-loop-byte : goal.invariant-loop-byte
invariant-loop-byte l = l.text.items ≡ l.fn.text.items ++ hex (take l.byte-index l.bytes)
