use Rattle.std.proofs.Common.{List, ◌++◌, take}
use Rattle.bc_key.specs.declared.key.Key.{Key}
use Rattle.bc_replay.specs.Limits.{rule_in}
use Rattle.bc_replay.specs.Refused.{KeepsWord}
use Rattle.bc_replay.specs.Replay.{entry_keys}
use Rattle.bc_replay.proofs.replay.word_with_entries.Given as goal

abbrev pub invariant-loop-i : goal.invariant-loop-i
invariant-loop-i l = (seen : List Key) → KeepsWord (rule_in l.limits) seen l.initial.word → KeepsWord (rule_in l.limits) (seen ++ entry_keys (take l.i l.journal.entries)) l.word
