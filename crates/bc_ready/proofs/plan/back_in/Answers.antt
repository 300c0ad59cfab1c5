use Rattle.std.proofs.Common.{subst}
use Rattle.std.specs.Prelude.{length, vec_capacity}
use Rattle.std.proofs.Common.{◌≤◌, sym}
use Rattle.bc_ready.proofs.Steps.{back_of}
use Rattle.bc_ready.proofs.plan.back_in.Goals as goal

pub list_back-requires-clause-room : goal.list_back-requires-clause-room
list_back-requires-clause-room c = subst (λ ks. length ks ≤ vec_capacity c.args.back.now)
    (sym c.deref.ensures.value) c.requires.room

pub returns : goal.returns
returns c = back_of c.args.before c.args.part.now.reserves.lists c.list_back.new.back.items
    c.deref.result.now c.args.part.now.chain.items c.deref.ensures.value c.list_back.ensures
