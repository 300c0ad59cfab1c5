-- What is kept in memory to judge keys by.
use Rattle.bc_walk.specs.Rule.{Rule}
use Rattle.bc_replay.specs.declared.pointers.Limits.{Limits}

abbrev pub rule_in : Limits → Rule
rule_in limits = record { geometry = limits.geometry; size = limits.size }
