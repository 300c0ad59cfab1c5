use Rattle.std.proofs.Common.{◌∙◌, sym, subst, ap}
use Rattle.bc_dirty.proofs.Walking.{gone_on}
use Rattle.bc_started.specs.bc_machine.World.{World}
use Rattle.bc_started.specs.bc_hand.Seats.{world}
use Rattle.bc_super.specs.Super.{IsUsable}
use Rattle.bc_session.proofs.Sectors.{stay}
use Rattle.bc_session.proofs.finishing.finish.Goals as goal

pub any_dirty-asked-requires-clause-all : goal.any_dirty-asked-requires-clause-all
any_dirty-asked-requires-clause-all g c =
    record { first = c.requires.all.first; end = c.requires.all.end }

pub close-requires-clause-all : goal.close-requires-clause-all
close-requires-clause-all g c =
    let way = gone_on g.C.Disk.facts g.B.Disk.facts c.any_dirty-asked.result c.args.seat
    c.any_dirty-asked.new.seat c.any_dirty-asked.ensures.asked c.any_dirty-asked.ensures.stopped in
    record {
      first = way.1.same.first ∙ c.requires.all.first;
      end = way.1.same.end ∙ c.requires.all.end;
    }

pub close-requires-clause-usable : goal.close-requires-clause-usable
close-requires-clause-usable g c =
    let way = gone_on g.C.Disk.facts g.B.Disk.facts c.any_dirty-asked.result c.args.seat
    c.any_dirty-asked.new.seat c.any_dirty-asked.ensures.asked c.any_dirty-asked.ensures.stopped in
    subst (λ n. IsUsable n c.args.superblock.now)
    (sym (ap (λ (x : World). x.backing.sectors) way.1.is
    ∙ stay (world g.C.Disk.facts g.B.Disk.facts c.args.seat) way.1.all)) c.requires.usable

pub returns : goal.returns
returns g c = record {
  asked = c.any_dirty-asked.result;
  at = c.any_dirty-asked.new.seat;
  seat = c.any_dirty-asked.ensures.works.seat;
  told = c.any_dirty-asked.ensures.asked;
  stopped = c.any_dirty-asked.ensures.stopped;
  lacks = c.may_lack-dirty.result;
  may_lack = c.may_lack-dirty.ensures;
  closed = c.close.result;
  close = c.close.ensures;
  cache = c.with_asked.ensures.cache;
  backing = c.with_asked.ensures.backing;
  pass = c.with_asked.ensures.pass;
  outcome = c.with_asked.ensures.outcome;
}
