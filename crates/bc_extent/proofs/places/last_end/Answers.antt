use Rattle.std.proofs.Common.{◌-◌, ◌<◌, length, arith}
use Rattle.bc_extent.proofs.LastKeys.{ends_rise}
use Rattle.bc_extent.proofs.places.last_end.Goals as goal

pub returns-else-count-eq0-clause-all : goal.returns-else-count-eq0-clause-all
returns-else-count-eq0-clause-all c = λ k d here.
    let keys = c.args.rows.now.keys in
    let last = c.len-count.result - 1 in
    let inside : last < length keys = omega (arith, here, c.len-count.ensures.count) in
    let rise = ends_rise keys c.requires k last d (omega (arith, here, c.len-count.ensures.count)) inside in
    omega (arith, rise, c.end.ensures d)
