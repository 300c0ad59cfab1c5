use Rattle.std.proofs.Common.{List, ◌++◌, take}
use Rattle.bc_image.specs.Tree.{set_keys}
use Rattle.bc_key.specs.declared.key.Key.{Key}
use Rattle.bc_replay.specs.Limits.{rule_in}
use Rattle.bc_replay.specs.Refused.{KeepsWord}
use Rattle.bc_replay.proofs.pointers.word_with_sets.Given as goal

abbrev pub invariant-loop-set : goal.invariant-loop-set
invariant-loop-set l = (seen : List Key) → KeepsWord (rule_in l.limits) seen l.initial.word → KeepsWord (rule_in l.limits) (seen ++ set_keys (take l.set-index l.sets)) l.word
