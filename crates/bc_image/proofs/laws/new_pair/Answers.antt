use Rattle.std.proofs.Common.{lit≤}
use Rattle.bc_image.specs.NewPair.{new_pair}
use Rattle.bc_image.proofs.Examples.{geometry}
use Rattle.bc_image.proofs.NewPair.{backing, cache, is_formatted, superblocks}
use Rattle.bc_image.proofs.Fresh.{fresh_is_sound}
use Rattle.bc_image.proofs.laws.new_pair.Goals as goal

pub returns : goal.returns
returns c = (backing, cache, geometry 8 (lit≤ tt), is_formatted, superblocks, fresh_is_sound new_pair backing cache (geometry 8 (lit≤ tt)) is_formatted superblocks)
