use Rattle.std.proofs.Common.{◌≡◌, ℕ, ◌≤◌, Some}
use Rattle.bc_key.specs.Key.{start_of}
use Rattle.bc_plain_nodes.specs.Look.{look_of}
use Rattle.bc_plain_nodes.proofs.keys.first_of.Given as goal

abbrev pub invariant-loop-first : goal.invariant-loop-first
invariant-loop-first l = record {
  before : l.first ≤ l.sector;
  within : start_of l.whole ≤ l.first;
  all : (s : ℕ) → l.first ≤ s → s ≤ l.sector → look_of l.bare l.keys s ≡ Some l.whole;
}

abbrev pub decreases-loop-first : goal.decreases-loop-first
decreases-loop-first l = l.first
