use Rattle.std.proofs.Common.{length}
use Rattle.bc_plain_pair.proofs.children.+add_child.Given as goal

abbrev pub decreases-add_child : goal.decreases-add_child
decreases-add_child l = length l.children.now
