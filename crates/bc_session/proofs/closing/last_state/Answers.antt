use Rattle.std.proofs.Common.{Err, refl, sym, subst}
use Rattle.bc_session.specs.Close.{IsLastState, Outcome}
use Rattle.bc_session.proofs.closing.last_state.Goals as goal

pub returns-in-Err : goal.returns-in-Err
returns-in-Err g c = subst (λ (o : Outcome). IsLastState g.B.Disk.facts c.args.superblock.now
    c.args.dirty o (Err c.in-Err.why) c.args.disk.now c.args.disk.now) (sym c.in-Err.is) (refl, refl)
