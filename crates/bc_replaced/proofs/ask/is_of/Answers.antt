use Rattle.std.proofs.Common.{sym, ◌∙◌}
use Rattle.bc_replaced.proofs.ask.is_of.Goals as goal

pub returns : goal.returns
returns c sure = (
  c.find-range.result,
  c.find-range.ensures.held,
  sym c.if-range-cached.false,
  sym (c.if-range-from.false ∙ c.from-else-range-cached.ensures),
  sym (c.if-range-end.false ∙ c.end-else-range-from.ensures),
)
