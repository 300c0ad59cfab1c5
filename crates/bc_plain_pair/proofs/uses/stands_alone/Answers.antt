use Rattle.std.proofs.Common.{arith}
use Rattle.bc_plain_pair.proofs.Aparts.{alone_more, apart_at, not_alone}
use Rattle.bc_plain_pair.proofs.uses.stands_alone.Goals as goal

pub loop-j-init : goal.loop-j-init
loop-j-init c = λ k d from to. absurd (omega (arith, from, to))

pub returns-then-not-is_apart : goal.returns-then-not-is_apart
returns-then-not-is_apart c =
    not_alone c.args.g.now c.args.nodes.now c.args.i c.loop-j.j c.index-nodes-i.result c.index-nodes-j.result c.requires (omega arith) c.index-nodes-i.is c.index-nodes-j.is c.if-not-is_apart.ensures (omega arith)

pub loop-j-preserved : goal.loop-j-preserved
loop-j-preserved c =
    alone_more c.args.g.now c.args.nodes.now c.args.i c.loop-j.j c.loop-j.invariant
    (apart_at c.args.g.now c.args.nodes.now c.args.i c.loop-j.j c.index-nodes-i.result c.index-nodes-j.result c.requires (omega arith) c.index-nodes-i.is c.index-nodes-j.is c.if-not-is_apart.ensures)

pub returns : goal.returns
returns c = λ j d less low. let end = c.loop-j-test.false in c.loop-j.invariant j d less (omega (arith, low, end))
