use Rattle.std.proofs.Common.{rules, refl, ◌∙◌, ap}
use Rattle.atomic_table.specs.Table.{rest}
use Rattle.bc_parts.specs.Steps.{giving}
use Rattle.bc_parts.proofs.Keeping.{clears}
use Rattle.bc_parts.proofs.steps.clear.Goals as goal

pub store-requires : goal.store-requires
store-requires g c = let key = c.args.table.now.key in let f = c.requires.filled in
    (search rules, search rules, clears g.M.Machine key.parts.value.items key.seats g.met.M.Machine.frame _ c.args.place.now.id c.args.slot c.args.place.now.me f.0 f.1.live f.1.has f.1.out f.1.carried f.2)

pub returns-clause-given : goal.returns-clause-given
returns-clause-given g c = c.store.ensures.2 c.args.slot refl ∙ ap (λ cs. (giving c.args.place.now.me.0 c.args.slot, rest cs)) c.requires.filled.1.carried
