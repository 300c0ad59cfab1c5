use Rattle.std.proofs.Common.{Some, refl, sym, ap, ◌∙◌}
use Rattle.bc_entry.proofs.next.seal_next.Goals as goal

pub returns : goal.returns
returns g c = (
  c.get_mut.result.now,
  c.seal.new.self,
  sym c.take.ensures.value ∙ c.in-Some.is ∙ ap Some (sym c.get_mut.ensures.part),
  refl,
  c.in-Ok.ensures.sealed,
)
