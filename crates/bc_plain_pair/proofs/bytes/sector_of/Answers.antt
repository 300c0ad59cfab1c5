use Rattle.std.proofs.Common.{◌*◌}
use Rattle.bc_plain.proofs.Images.{take_window}
use Rattle.bc_plain_pair.proofs.bytes.sector_of.Goals as goal

pub returns : goal.returns
returns c = take_window (512 * c.args.sector) c.min-len.result c.args.bytes.now c.min-len.ensures
