use Rattle.std.proofs.Common.{◌≡◌, ◌+◌, ◌*◌, drop}
use Rattle.bc_disk.specs.Disk.{IsKept}
use Rattle.bc_walk.specs.Seen.{AreFlags}
use Rattle.bc_walk.specs.Walk.{IsSearch}
use Rattle.bc_walk.proofs.Goes.{Leads}
use Rattle.bc_walk.proofs.search.+walk.Given as goal

abbrev pub decreases-walk_key : goal.decreases-walk_key
decreases-walk_key g l = 2 * l.level

abbrev pub decreases-walk_children : goal.decreases-walk_children
decreases-walk_children g l = 2 * l.level + 1

abbrev pub invariant-walk_children-loop-child : goal.invariant-walk_children-loop-child
invariant-walk_children-loop-child g l = record {
  flags : AreFlags l.g l.visits.items l.taken;
  kept : IsKept (g.D.Disk.facts l.initial.disk) (g.D.Disk.facts l.disk);
  rule : g.T.Gather.rule l.gather ≡ g.T.Gather.rule l.initial.gather;
  faults : (g.D.Disk.facts l.disk).faults ≡ (g.D.Disk.facts l.initial.disk).faults;
  leads : Leads (g.D.Disk.facts l.initial.disk) (λ image. IsSearch l.g image l.level) (g.T.Gather.took l.initial.gather) (g.T.Gather.took l.gather) l.from l.children l.initial.visits.items l.low (drop l.child-index l.children) l.visits.items;
}
