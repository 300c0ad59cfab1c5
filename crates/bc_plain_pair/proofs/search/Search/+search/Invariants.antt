use Rattle.std.proofs.Common.{◌+◌, ◌*◌}
use Rattle.bc_plain_pair.proofs.search.Search.+search.Given as goal

abbrev pub decreases-walk : goal.decreases-walk
decreases-walk l = 2 * l.level

abbrev pub decreases-walk_all : goal.decreases-walk_all
decreases-walk_all l = 2 * l.level + 1
