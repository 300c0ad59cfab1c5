use Rattle.std.proofs.Common.{subst}
use Rattle.bc_cache.specs.Slots.{IsTakenBy}
use Rattle.bc_install.proofs.Out.{kept_in, set_in}
use Rattle.bc_install.proofs.leaves.let_go_in.Goals as goal

pub let_go-requires : goal.let_go-requires
let_go-requires c = subst (λ b. IsTakenBy c.args.cache.now.slots c.args.slot b) c.if-held.true
    c.in-Some.ensures

pub returns-then-held : goal.returns-then-held
returns-then-held c = set_in c.args.slot c.args.cache.now c.let_go.new.self c.let_go.ensures

pub returns-else-held : goal.returns-else-held
returns-else-held c = kept_in c.args.slot c.args.cache.now
    (subst (λ b. IsTakenBy c.args.cache.now.slots c.args.slot b) c.if-held.false c.in-Some.ensures)
