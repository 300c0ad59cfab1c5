use Rattle.std.proofs.Common.{◌∷◌, Some, sym, ap, ◌∙◌}
use Rattle.atomic_table.specs.Table.{rest}
use Rattle.bc_parts.proofs.steps.lift.Goals as goal

pub exchange-requires : goal.exchange-requires
exchange-requires g c = let full = c.requires.full in
    (c.requires.table, (Some full.0, full.1 ∙ ap (λ cs. (c.args.slot, Some full.0) ∷ rest cs) (sym full.1)))
