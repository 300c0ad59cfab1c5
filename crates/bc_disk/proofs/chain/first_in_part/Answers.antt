use Rattle.std.proofs.Common.{◌*◌, ap, arith}
use Rattle.bc_disk.proofs.Amounts.{records_fit, part_begins}
use Rattle.bc_disk.proofs.chain.first_in_part.Goals as goal

pub overflow_mul-result : goal.overflow_mul-result
overflow_mul-result c =
    let fit = records_fit c.args.g.now in
    let begins = part_begins c.args.g.now c.args.part c.requires in
    let same = ap (λ n. c.args.part * n) c.records_in_set.ensures in
    omega (arith, fit.buckets)

pub returns-clause-within : goal.returns-clause-within
returns-clause-within c =
    let begins = part_begins c.args.g.now c.args.part c.requires in
    let same = ap (λ n. c.args.part * n) c.records_in_set.ensures in
    omega arith
