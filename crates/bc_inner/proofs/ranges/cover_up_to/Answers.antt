use Rattle.bc_inner.proofs.Covers.{no_multiples, cover_if}
use Rattle.bc_inner.proofs.ranges.cover_up_to.Goals as goal

pub returns-then-not-are_multiples : goal.returns-then-not-are_multiples
returns-then-not-are_multiples c = no_multiples c.args.children.now c.args.end c.if-not-are_multiples.ensures

pub returns : goal.returns
returns c = cover_if c.reaches.result c.args.children.now c.args.end c.if-not-are_multiples.ensures c.reaches.ensures
