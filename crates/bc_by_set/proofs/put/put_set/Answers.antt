use Rattle.std.proofs.Common.{Option, length, sym, subst}
use Rattle.std.specs.Prelude.{IfErr}
use Rattle.bc_by_root.specs.bc_install.bc_machine.World.{cache_among}
use Rattle.bc_by_set.proofs.Around.{again_around, may_around, places_around, put_around, refused_around}
use Rattle.bc_by_set.proofs.Handed.{both_still, kept_around, kinds_back, none_back}
use Rattle.bc_by_set.specs.Done.{IsUnheardSet}
use Rattle.bc_disk.specs.declared.disk.Device.{Device}
use Rattle.bc_by_set.proofs.put.put_set.Goals as goal

pub take_both-requires-clause-tree : goal.take_both-requires-clause-tree
take_both-requires-clause-tree g c = (c.requires.may.spine, c.requires.may.is_spine)

pub put_within-done-requires-clause-may : goal.put_within-done-requires-clause-may
put_within-done-requires-clause-may g c =
    c.take_both.ensures.may c.args.plan.now c.requires.may

pub give_both-requires-clause-both : goal.give_both-requires-clause-both
give_both-requires-clause-both g c = both_still c.take_both.new.hand
    c.put_within-done.new.hand c.put_within-done.ensures.kinds c.take_both.ensures.both

pub returns-clause-kinds : goal.returns-clause-kinds
returns-clause-kinds g c = kinds_back c.args.hand.now c.take_both.new.hand
    c.put_within-done.new.hand c.give_both.new.hand c.requires.behind c.take_both.ensures.hand
    c.give_both.ensures.hand c.put_within-done.ensures.rest c.put_within-done.ensures.kinds

pub returns-clause-behind : goal.returns-clause-behind
returns-clause-behind g c = none_back c.args.hand.now c.take_both.new.hand
    c.put_within-done.new.hand c.give_both.new.hand c.requires.behind c.take_both.ensures.hand
    c.give_both.ensures.hand c.put_within-done.ensures.rest c.put_within-done.ensures.kinds

pub returns-clause-ok : goal.returns-clause-ok
returns-clause-ok g c = put_around g.C.Disk.facts g.B.Disk.facts c.args.seat.now
    c.take_both.new.seat c.put_within-done.new.seat c.give_both.new.seat c.take_both.ensures.waited
    c.give_both.ensures.waited c.give_both.ensures.seen c.give_both.ensures.stays c.args.hand.now
    c.take_both.new.hand c.put_within-done.new.hand c.give_both.new.hand c.requires.behind
    c.take_both.ensures.hand c.give_both.ensures.hand c.args.plan.now c.put_within-done.result
    c.put_within-done.ensures.ok

pub returns-clause-may : goal.returns-clause-may
returns-clause-may g c = may_around g.C.Disk.facts g.B.Disk.facts c.args.seat.now
    c.take_both.new.seat c.put_within-done.new.seat c.give_both.new.seat c.take_both.ensures.waited
    c.give_both.ensures.waited c.give_both.ensures.seen c.give_both.ensures.stays c.args.hand.now
    c.take_both.new.hand c.put_within-done.new.hand c.give_both.new.hand c.requires.behind
    c.take_both.ensures.hand c.give_both.ensures.hand c.args.plan.now
    (length c.args.parts.now.run.start) c.put_within-done.result c.put_within-done.ensures.may

pub returns-clause-err : goal.returns-clause-err
returns-clause-err g c = refused_around g.C.Disk.facts g.B.Disk.facts c.args.seat.now
    c.take_both.new.seat c.put_within-done.new.seat c.give_both.new.seat c.take_both.ensures.waited
    c.give_both.ensures.waited c.give_both.ensures.seen c.give_both.ensures.stays c.args.hand.now
    c.take_both.new.hand c.put_within-done.new.hand c.give_both.new.hand c.requires.behind
    c.take_both.ensures.hand c.give_both.ensures.hand c.args.plan.now
    (cache_among g.C.Disk.facts g.B.Disk.facts c.args.parts.now.run.start).sectors
    c.put_within-done.result c.put_within-done.ensures.err

pub returns-clause-unheard : goal.returns-clause-unheard
returns-clause-unheard g c =
    subst (λ (o : Option Device). IfErr c.put_within-done.result (λ e. IsUnheardSet e o))
    (sym c.give_both.ensures.heard) c.put_within-done.ensures.unheard

pub returns-clause-again : goal.returns-clause-again
returns-clause-again g c = again_around g.C.Disk.facts g.B.Disk.facts c.args.seat.now
    c.take_both.new.seat c.put_within-done.new.seat c.give_both.new.seat c.take_both.ensures.waited
    c.give_both.ensures.waited c.give_both.ensures.seen c.give_both.ensures.stays c.args.hand.now
    c.take_both.new.hand c.put_within-done.new.hand c.give_both.new.hand c.requires.behind
    c.take_both.ensures.hand c.give_both.ensures.hand c.args.plan.now
    (length c.args.parts.now.run.start) c.put_within-done.result c.put_within-done.ensures.again

pub returns-clause-kept : goal.returns-clause-kept
returns-clause-kept g c = kept_around c.put_within-done.result c.args.seat.now.promises
    c.take_both.new.seat.promises c.put_within-done.new.seat.promises
    c.give_both.new.seat.promises c.take_both.ensures.promises c.give_both.ensures.promises
    c.put_within-done.ensures.kept

pub returns-clause-places : goal.returns-clause-places
returns-clause-places g c = places_around g.C.Disk.facts g.B.Disk.facts c.args.seat.now
    c.take_both.new.seat c.put_within-done.new.seat c.give_both.new.seat c.take_both.ensures.waited
    c.give_both.ensures.waited c.give_both.ensures.seen c.give_both.ensures.stays c.args.hand.now
    c.take_both.new.hand c.put_within-done.new.hand c.give_both.new.hand c.requires.behind
    c.take_both.ensures.hand c.give_both.ensures.hand c.args.plan.now
    c.put_within-done.ensures.places
