use Rattle.std.proofs.Common.{arith}
use Rattle.bc_alloc.specs.Inside.{reserves_in}
use Rattle.bc_alloc.proofs.Times.{got_loose, raised_first, times_first}
use Rattle.bc_alloc.proofs.reserves.Reserves.pop_raised.Goals as goal

pub index_mut-requires : goal.index_mut-requires
index_mut-requires c =
    let below = raised_first (reserves_in c.self.inside) c.self.inside.listed.items c.pop.new.self.buckets c.in-Some.bucket c.self.invariant.flagged c.in-Some.ensures.some in
    omega (arith, c.self.inside.listed.ok.0)

pub returns-clause-loose : goal.returns-clause-loose
returns-clause-loose c =
    got_loose (reserves_in c.self.inside) (record (reserves_in c.self.inside) { raised = c.pop.new.self.buckets }) c.self.inside.listed.items c.in-Some.bucket c.self.invariant.flagged
    (let t = times_first c.pop.new.self.buckets c.self.inside.raised.buckets c.in-Some.bucket c.in-Some.ensures.some c.in-Some.bucket in omega arith)
