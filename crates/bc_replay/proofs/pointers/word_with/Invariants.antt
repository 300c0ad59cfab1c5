use Rattle.std.proofs.Common.{take}
use Rattle.bc_replay.specs.Limits.{rule_in}
use Rattle.bc_replay.specs.Refused.{AreData}
use Rattle.bc_replay.proofs.pointers.word_with.Given as goal

abbrev pub invariant-loop-key : goal.invariant-loop-key
invariant-loop-key l = AreData (rule_in l.limits) (take l.key-index l.keys)
