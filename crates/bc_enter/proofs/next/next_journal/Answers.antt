use Rattle.std.proofs.Common.{Option, sym, subst}
use Rattle.std.specs.Prelude.{IfNone, IfSome, IsTrue}
use Rattle.bc_journal.specs.Journal.{HasRoom, Journal}
use Rattle.bc_resume.specs.Resume.{HasNoLevel, IsResumed}
use Rattle.bc_enter.specs.Begun.{IsOldestNeeded}
use Rattle.bc_enter.proofs.Following.{full_is_odd, needs_later, no_level_is_odd, numbered}
use Rattle.bc_enter.proofs.Low.{IsReached, not_false}
use Rattle.bc_enter.proofs.next.next_journal.Goals as goal

pub returns-in_default-clause-none : goal.returns-in_default-clause-none
returns-in_default-clause-none c = no_level_is_odd c.args.read.now
    (subst (λ (o : Option Journal). IfNone o (HasNoLevel c.args.read.now)) c.in_default.is
    c.in_ok-journal.ensures.none)

pub returns-then-not-room-clause-none : goal.returns-then-not-room-clause-none
returns-then-not-room-clause-none c =
    let g = c.args.g.now in
    let read = c.args.read.now in
    full_is_odd g read c.requires.fit c.in-Some.journal
    (subst (λ (o : Option Journal). IfSome o (IsResumed g read)) c.in-Some.is c.in_ok-journal.ensures.some)
    (λ room. not_false (subst IsTrue c.if-not-room.true (c.room.ensures.1 room)))

pub reclaim_to-requires-clause-from : goal.reclaim_to-requires-clause-from
reclaim_to-requires-clause-from c =
    let g = c.args.g.now in
    let read = c.args.read.now in
    needs_later g read c.requires.fit c.in-Some.journal
    (subst (λ (o : Option Journal). IfSome o (IsResumed g read)) c.in-Some.is c.in_ok-journal.ensures.some)
    c.oldest_needed.result
    (subst (λ n. IsReached read.entries n c.oldest_needed.result) c.number.ensures.value c.oldest_needed.ensures.reached)

pub returns-clause-some : goal.returns-clause-some
returns-clause-some c =
    let g = c.args.g.now in
    let read = c.args.read.now in
    let r = subst (λ (o : Option Journal). IfSome o (IsResumed g read)) c.in-Some.is c.in_ok-journal.ensures.some in
    let room = c.room.ensures.0 c.if-not-room.false in
    record {
      from = c.in-Some.journal;
      resumed = r;
      low = c.oldest_needed.result;
      needs = subst (λ n. IsOldestNeeded read.entries n c.oldest_needed.result) c.number.ensures.value (record {
        most = c.oldest_needed.ensures.most;
        reached = c.oldest_needed.ensures.reached;
        needed = c.oldest_needed.ensures.needed;
      });
      is = c.reclaim_to.ensures;
      room = subst (λ (j : Journal). HasRoom j 0) (sym c.reclaim_to.ensures) (record { few = room.few; place = room.place });
      numbered = numbered g read c.requires.fit c.in-Some.journal r c.oldest_needed.result c.reclaim_to.new.self c.reclaim_to.ensures;
    }
