use Rattle.std.proofs.Common.{◌∙◌, sym, subst}
use Rattle.bc_super.specs.Super.{IsUsable}
use Rattle.bc_session.proofs.Sectors.{sectors_of}
use Rattle.bc_session.proofs.closing.close.Goals as goal

pub end-cache-requires-clause-all : goal.end-cache-requires-clause-all
end-cache-requires-clause-all g c = let same = c.last_barrier-barrier.ensures.made.done.same in (
  same.first ∙ c.requires.all.first,
  same.end ∙ c.requires.all.end ∙ sym c.requires.seats,
)

pub last_state-result-requires : goal.last_state-result-requires
last_state-result-requires g c = record {
  usable = subst (λ n. IsUsable n c.args.superblock.now)
      (sym (sectors_of g.C.Disk.facts g.B.Disk.facts c.args.seat c.last_barrier-barrier.new.seat
      c.last_barrier-barrier.ensures.made c.end-cache.result.backing c.end-cache.ensures.backing))
      c.requires.usable;
}

pub returns : goal.returns
returns g c = record {
  barrier = c.last_barrier-barrier.result;
  last = c.last_barrier-barrier.new.seat;
  made = c.last_barrier-barrier.ensures.made;
  seat = c.last_barrier-barrier.ensures.works.seat;
  cache = c.end-cache.ensures.cache;
  between = c.end-cache.result.backing;
  backing = c.end-cache.ensures.backing;
  state = c.last_state-result.ensures;
  events = c.end-cache.ensures.events;
  history = c.end-cache.ensures.history;
}
