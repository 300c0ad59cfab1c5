use Rattle.std.proofs.Common.{refl, sym, ◌∙◌, subst}
use Rattle.bc_journal.specs.Journal.{Journal}
use Rattle.bc_turn.specs.Needed.{HasNeedFrom}
use Rattle.bc_turn.proofs.needed.need_from.Goals as goal

pub returns : goal.returns
returns g c = (
  c.in-Some.journal,
  c.need_in.new.journal,
  sym c.take.ensures.value ∙ c.in-Some.is,
  subst (λ (j : Journal). HasNeedFrom c.args.low j c.need_in.new.journal) c.get_mut.ensures.part
      c.need_in.ensures,
  refl,
)
