use Rattle.std.proofs.Common.{Option, sym, subst}
use Rattle.std.specs.Prelude.{IfSome}
use Rattle.bc_enter.specs.Begun.{IsUnsealed}
use Rattle.bc_journal.specs.Journal.{Journal}
use Rattle.bc_started.proofs.start.first_journal.Goals as goal

pub returns-in-Ok-clause-found : goal.returns-in-Ok-clause-found
returns-in-Ok-clause-found c = subst (λ (j : Journal). IsUnsealed c.args.g.now c.args.read.now j)
    (sym c.in-Ok.ensures)
    (subst (λ (o : Option Journal). IfSome o (IsUnsealed c.args.g.now c.args.read.now))
    c.in-Ok-Some.field-0-is c.in-Ok-Some.ensures.some)
