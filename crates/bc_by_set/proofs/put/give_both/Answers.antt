use Rattle.std.proofs.Common.{None, ap, ◌∙◌}
use Rattle.bc_by_root.proofs.Before.{taken_done}
use Rattle.bc_by_root.proofs.Later.{same_world}
use Rattle.bc_by_root.specs.bc_install.bc_hand.declared.hand.Hand.{Hand}
use Rattle.bc_by_set.proofs.put.give_both.Goals as goal

pub returns-clause-waited : goal.returns-clause-waited
returns-clause-waited g c = taken_done g.C.Disk.facts g.B.Disk.facts c.args.seat.now
    c.return_cache.new.seat c.return_journal.new.seat c.return_cache.ensures.waited
    c.return_journal.ensures.waited

pub returns-clause-promises : goal.returns-clause-promises
returns-clause-promises g c =
    c.return_journal.ensures.waited.promises ∙ c.return_cache.ensures.waited.promises

pub returns-clause-stays : goal.returns-clause-stays
returns-clause-stays g c = same_world g.C.Disk.facts g.B.Disk.facts c.return_cache.new.seat
    c.return_journal.new.seat c.return_journal.ensures.waited c.return_journal.ensures.seen
    ∙ same_world g.C.Disk.facts g.B.Disk.facts c.args.seat.now c.return_cache.new.seat
    c.return_cache.ensures.waited c.return_cache.ensures.seen

pub returns-clause-hand : goal.returns-clause-hand
returns-clause-hand g c = c.return_journal.ensures.hand
    ∙ ap (λ (h : Hand _ _). record h { journal = None }) c.return_cache.ensures.hand
