use Rattle.std.proofs.Common.{arith}
use Rattle.bc_resume.proofs.Next.{last_is}
use Rattle.bc_session.proofs.odd.last_entry.Goals as goal

pub returns : goal.returns
returns c = last_is c.args.read.now.entries c.len-count.result c.entry.result.now
    c.len-count.ensures (λ none. omega arith) c.entry.ensures
