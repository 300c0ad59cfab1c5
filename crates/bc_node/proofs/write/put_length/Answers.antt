use Rattle.std.proofs.Common.{arith}
use Rattle.bc_node.proofs.Further.{put_first, put_more}
use Rattle.bc_node.proofs.write.put_length.Goals as goal

pub returns-then-taken-eq0-clause-is : goal.returns-then-taken-eq0-clause-is
returns-then-taken-eq0-clause-is c = λ s size. let first = put_first c.args.g.now c.args.taken s c.if-taken-eq0.true in omega (arith, first, c.from.ensures)

pub returns-else-taken-eq0-clause-is : goal.returns-else-taken-eq0-clause-is
returns-else-taken-eq0-clause-is c = λ s size. let more = put_more c.args.g.now c.args.taken s (let some = c.if-taken-eq0.false in omega (arith, some)) in omega (arith, more, size)
