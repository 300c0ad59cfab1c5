use Rattle.std.proofs.Common.{refl, arith}
use Rattle.bc_resume.proofs.Next.{last_is}
use Rattle.bc_open.proofs.open.newest_number.Goals as goal

pub returns : goal.returns
returns c =
    let last = last_is c.args.read.now.entries c.len-count.result c.entry.result.now
    c.len-count.ensures (λ none. omega arith) c.entry.ensures in
    (last.0, c.entry.result.now, last.1, refl)
