use Rattle.std.proofs.Common.{◌≡◌, drop}
use Rattle.bc_script.proofs.Numbers.{number_after}
use Rattle.bc_plain.proofs.line.number_of.Given as goal

abbrev pub invariant-loop-byte : goal.invariant-loop-byte
invariant-loop-byte l = number_after l.value (drop l.byte-index l.word) ≡ number_after 0 l.word
