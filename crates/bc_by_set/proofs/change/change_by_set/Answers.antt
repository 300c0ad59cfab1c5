use Rattle.std.proofs.Common.{sym, subst}
use Rattle.bc_by_root.proofs.of_bc_install.of_bc_append.of_bc_place.Keeping.{keeps_both}
use Rattle.bc_by_root.specs.bc_install.bc_hand.declared.hand.Hand.{Hand}
use Rattle.bc_by_root.specs.bc_install.bc_machine.World.{cache_among}
use Rattle.bc_by_set.proofs.Around.{not_changed}
use Rattle.bc_by_set.specs.Done.{HasPutSet}
use Rattle.bc_by_set.proofs.change.change_by_set.Goals as goal

pub returns-in-Err-clause-err : goal.returns-in-Err-clause-err
returns-in-Err-clause-err g c = not_changed g.C.Disk.facts g.B.Disk.facts
    (cache_among g.C.Disk.facts g.B.Disk.facts c.args.parts.now.run.start).sectors c.args.hand.now
    c.put_set.new.hand c.args.plan c.args.seat.now c.put_set.new.seat c.in-Err.error
    c.in-Err.ensures.err

pub returns-in-Ok-install_change-clause-ok : goal.returns-in-Ok-install_change-clause-ok
returns-in-Ok-install_change-clause-ok g c = record {
  given = c.in-Ok.given;
  with_set = c.put_set.new.hand;
  between = c.put_set.new.seat;
  put = c.in-Ok.ensures.ok;
  installed = c.in-Ok-install_change.ensures.ok;
}

pub returns-in-Ok-install_change-clause-places : goal.returns-in-Ok-install_change-clause-places
returns-in-Ok-install_change-clause-places g c = keeps_both g.C.Disk.facts g.B.Disk.facts
    c.args.seat.now c.put_set.new.seat c.install_change.new.seat c.put_set.ensures.places
    c.install_change.ensures.places

pub returns-in-Err-install_change-clause-err : goal.returns-in-Err-install_change-clause-err
returns-in-Err-install_change-clause-err g c = record {
  given = c.in-Ok.given;
  between = c.put_set.new.seat;
  put = subst (λ (h : Hand _ _). HasPutSet g.C.Disk.facts g.B.Disk.facts c.args.hand.now h
      c.args.plan c.in-Ok.given c.args.seat.now c.put_set.new.seat)
      (sym c.in-Err-install_change.ensures.same) c.in-Ok.ensures.ok;
  since = c.in-Err-install_change.ensures.err;
  cause = c.in-Err-install_change.ensures.cause;
}

pub returns-in-Err-install_change-clause-places : goal.returns-in-Err-install_change-clause-places
returns-in-Err-install_change-clause-places g c = keeps_both g.C.Disk.facts g.B.Disk.facts
    c.args.seat.now c.put_set.new.seat c.install_change.new.seat c.put_set.ensures.places
    c.install_change.ensures.places
