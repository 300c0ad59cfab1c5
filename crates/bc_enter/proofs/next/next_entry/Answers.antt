use Rattle.std.proofs.Common.{Option, subst}
use Rattle.std.specs.Prelude.{IfSome}
use Rattle.bc_journal.specs.Journal.{IsSealed, Journal}
use Rattle.bc_journal.specs.declared.heads.Heads.{Heads}
use Rattle.bc_enter.specs.Begun.{IsUnsealed}
use Rattle.bc_enter.proofs.Following.{sealed_next}
use Rattle.bc_enter.proofs.next.next_entry.Goals as goal

pub returns-clause-some : goal.returns-clause-some
returns-clause-some c = sealed_next c.args.g.now c.args.read.now c.requires.fit c.in-Some.journal
    (record { journal = c.seal.new.self; sealed = c.in-Ok.sealed })
    (subst (λ (o : Option Journal). IfSome o (IsUnsealed c.args.g.now c.args.read.now))
    c.in-Some.is c.in_ok-journal.ensures.some)
    (subst (λ (h : Heads). IsSealed c.in-Some.journal h c.in-Ok.sealed c.seal.new.self)
    c.heads.ensures.value c.in-Ok.ensures.sealed)
