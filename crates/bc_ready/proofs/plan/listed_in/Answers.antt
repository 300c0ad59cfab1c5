use Rattle.std.proofs.Common.{take}
use Rattle.bc_ready.proofs.Steps.{listed_of}
use Rattle.bc_ready.proofs.plan.listed_in.Goals as goal

pub returns : goal.returns
returns c = listed_of c.args.before (take c.args.named c.args.part.now.reserves.raised)
    c.args.part.now.reserves.lists c.list_named.new.listed.items c.deref.result.now
    c.args.part.now.chain.items c.deref.ensures.value c.list_named.ensures
