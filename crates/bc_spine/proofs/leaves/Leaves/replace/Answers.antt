use Rattle.std.proofs.Common.{take, drop, sym, subst}
use Rattle.bc_spine.specs.Leaves.{Leaves, CanReplace}
use Rattle.bc_spine.proofs.Rows.{leaves_replaced}
use Rattle.bc_spine.proofs.leaves.Leaves.replace.Goals as goal

pub invariant_of-self : goal.invariant_of-self
invariant_of-self c =
    let can = subst (λ (v : Leaves). CanReplace v.leaves (take c.args.gone (drop c.args.place v.leaves)) c.args.come.now) (sym c.self.view_is) c.requires.fits in
    leaves_replaced c.self.inside.row.items c.args.come.now c.replace.new.row.items c.args.place c.args.gone c.self.inside.end c.self.invariant can c.replace.ensures.leaves

pub returns-clause-all : goal.returns-clause-all
returns-clause-all c =
    let can = subst (λ (v : Leaves). CanReplace v.leaves (take c.args.gone (drop c.args.place v.leaves)) c.args.come.now) (sym c.self.view_is) c.requires.fits in
    leaves_replaced c.self.inside.row.items c.args.come.now c.replace.new.row.items c.args.place c.args.gone c.self.inside.end c.self.invariant can c.replace.ensures.leaves
