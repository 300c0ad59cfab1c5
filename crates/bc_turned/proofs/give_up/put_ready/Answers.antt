use Rattle.std.proofs.Common.{◌≤◌, [], ◌∙◌}
use Rattle.bc_flush.proofs.Hands.{journal_same}
use Rattle.bc_flush.proofs.of_bc_deed.May.{map_if_err}
use Rattle.bc_flush.proofs.Syncing.{as_waited, refused_around, taken_done}
use Rattle.bc_flush.proofs.Walking.{lasts_done}
use Rattle.bc_flush.specs.bc_machine.World.{cache_among}
use Rattle.bc_turned.proofs.Giving.{fixed_lasts, given_around}
use Rattle.bc_turned.proofs.give_up.put_ready.Goals as goal

pub put_within-done-requires-clause-ready : goal.put_within-done-requires-clause-ready
put_within-done-requires-clause-ready g c =
    let cf = g.C.Disk.facts in
    let bf = g.B.Disk.facts in
    let took = c.borrow_cache-cache in
    let back = c.return_cache in
    let ready = c.requires.ready in
    let here = journal_same c.args.hand.now took.new.hand back.new.hand took.result.0
    took.ensures.hand back.ensures.hand ∙ ready.is in
    record {
      journal = ready.journal;
      is = here;
      can = ready.can;
      from = lasts_done cf bf (λ o st. c.args.low ≤ ready.journal.needed)
          (fixed_lasts (c.args.low ≤ ready.journal.needed)) [] c.args.seat.now back.new.seat
          (taken_done cf bf c.args.seat.now took.new.seat back.new.seat took.ensures.waited
          back.ensures.waited) ready.from;
    }

pub returns-clause-ok : goal.returns-clause-ok
returns-clause-ok g c =
    let cf = g.C.Disk.facts in
    let bf = g.B.Disk.facts in
    let took = c.borrow_cache-cache in
    let back = c.return_cache in
    let last = c.return_cache-2 in
    given_around cf bf c.args.seat.now back.new.seat c.put_within-done.new.seat last.new.seat
    (taken_done cf bf c.args.seat.now took.new.seat back.new.seat took.ensures.waited
    back.ensures.waited) last.ensures.waited last.ensures.seen c.args.low c.put_within-done.result
    c.put_within-done.ensures.ok

pub returns-clause-err : goal.returns-clause-err
returns-clause-err g c =
    let cf = g.C.Disk.facts in
    let bf = g.B.Disk.facts in
    let took = c.borrow_cache-cache in
    let back = c.return_cache in
    let last = c.return_cache-2 in
    refused_around cf bf c.args.seat.now back.new.seat c.put_within-done.new.seat
    last.new.seat
    (taken_done cf bf c.args.seat.now took.new.seat back.new.seat took.ensures.waited
    back.ensures.waited)
    (as_waited cf bf c.put_within-done.new.seat last.new.seat last.ensures.waited)
    (cache_among cf bf c.args.parts.now.run.start).sectors c.put_within-done.result
    last.ensures.seen c.put_within-done.ensures.err

pub returns-clause-memory : goal.returns-clause-memory
returns-clause-memory g c = map_if_err c.put_within-done.result
    (λ e none memory. c.return_cache-2.ensures.heard ∙ none memory) c.put_within-done.ensures.memory
