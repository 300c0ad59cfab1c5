use Rattle.std.proofs.Common.{◌-◌, sym, ap, ◌∙◌, subst}
use Rattle.std.specs.Prelude.{length}
use Rattle.bc_by_root.proofs.Handed.{install_as}
use Rattle.bc_by_root.specs.Done.{HasInstalledIn, IsToInstall}
use Rattle.bc_install.proofs.of_bc_append.of_bc_place.Keeping.{keeps_both}
use Rattle.bc_install.specs.bc_hand.Seats.{world}
use Rattle.bc_install.specs.bc_hand.declared.hand.Hand.{Hand}
use Rattle.bc_by_root.proofs.change.change_by_root.Goals as goal

pub install_change-requires-clause-may : goal.install_change-requires-clause-may
install_change-requires-clause-may g c =
    let cf = g.C.Disk.facts in
    let bf = g.B.Disk.facts in
    let put = c.in-Ok.ensures.ok in
    let next = c.put_root.new.seat in
    let hand = c.put_root.new.hand in
    subst (λ n. IsToInstall hand (length c.args.parts.now.run.start) n c.args.plan c.in-Ok.given
    (world cf bf next)) (sym (put.put.done.same.first ∙ put.stood.before.same.first))
    (install_as c.args.hand.now hand (length c.args.parts.now.run.start) c.args.seat.now.first
    c.args.plan c.in-Ok.given (world cf bf next) (record {
      spine = sym (ap (λ (h : Hand _ _). h.spine) c.put_root.ensures.same);
      leaves = sym (ap (λ (h : Hand _ _). h.leaves) c.put_root.ensures.same);
    }) c.in-Ok.ensures.may)

pub returns-in-Ok-install_change-clause-ok : goal.returns-in-Ok-install_change-clause-ok
returns-in-Ok-install_change-clause-ok g c = record {
  given = c.in-Ok.given;
  between = c.put_root.new.seat;
  put = c.in-Ok.ensures.ok;
  installed = subst (λ (h : Hand _ _). HasInstalledIn g.C.Disk.facts g.B.Disk.facts
      (length c.args.parts.now.run.start - 6) c.args.plan c.in-Ok.given h c.install_change.new.hand
      c.put_root.new.seat c.install_change.new.seat)
      c.put_root.ensures.same c.in-Ok-install_change.ensures.ok;
}

pub returns-in-Ok-install_change-clause-places : goal.returns-in-Ok-install_change-clause-places
returns-in-Ok-install_change-clause-places g c = keeps_both g.C.Disk.facts g.B.Disk.facts
    c.args.seat.now c.put_root.new.seat c.install_change.new.seat c.put_root.ensures.places
    c.install_change.ensures.places

pub returns-in-Err-install_change-clause-places : goal.returns-in-Err-install_change-clause-places
returns-in-Err-install_change-clause-places g c = keeps_both g.C.Disk.facts g.B.Disk.facts
    c.args.seat.now c.put_root.new.seat c.install_change.new.seat c.put_root.ensures.places
    c.install_change.ensures.places
