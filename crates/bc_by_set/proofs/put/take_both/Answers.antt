use Rattle.bc_by_root.proofs.Before.{taken_done}
use Rattle.bc_by_root.proofs.Handed.{have_both}
use Rattle.bc_by_root.proofs.Later.{twice_done}
use Rattle.bc_by_set.proofs.Around.{may_both}
use Rattle.bc_by_set.proofs.Handed.{cache_tree, journal_tree, same_four, taken_both}
use Rattle.bc_by_set.proofs.put.take_both.Goals as goal

pub returns-clause-both : goal.returns-clause-both
returns-clause-both g c =
    let took = c.borrow_journal-journal in
    let back = c.return_journal in
    let also = c.borrow_cache-cache in
    let both = c.return_cache in
    have_both c.args.hand.now took.new.hand back.new.hand also.new.hand both.new.hand took.result.0
    also.result.0 took.ensures.hand back.ensures.hand also.ensures.hand both.ensures.hand

pub returns-clause-hand : goal.returns-clause-hand
returns-clause-hand g c =
    let took = c.borrow_journal-journal in
    let back = c.return_journal in
    let also = c.borrow_cache-cache in
    let both = c.return_cache in
    taken_both c.args.hand.now took.new.hand back.new.hand also.new.hand both.new.hand
    took.result.0 also.result.0 took.ensures.hand back.ensures.hand also.ensures.hand
    both.ensures.hand

pub returns-clause-waited : goal.returns-clause-waited
returns-clause-waited g c =
    let cf = g.C.Disk.facts in
    let bf = g.B.Disk.facts in
    let took = c.borrow_journal-journal in
    let back = c.return_journal in
    let also = c.borrow_cache-cache in
    let both = c.return_cache in
    twice_done cf bf c.args.seat.now back.new.seat both.new.seat
    (taken_done cf bf c.args.seat.now took.new.seat back.new.seat took.ensures.waited
    back.ensures.waited)
    (taken_done cf bf back.new.seat also.new.seat both.new.seat also.ensures.waited
    both.ensures.waited)

pub returns-clause-promises : goal.returns-clause-promises
returns-clause-promises g c =
    let took = c.borrow_journal-journal in
    let back = c.return_journal in
    let also = c.borrow_cache-cache in
    let both = c.return_cache in
    same_four c.args.seat.now.promises took.new.seat.promises back.new.seat.promises
    also.new.seat.promises both.new.seat.promises took.ensures.waited.promises
    back.ensures.waited.promises also.ensures.waited.promises both.ensures.waited.promises

pub returns-clause-may : goal.returns-clause-may
returns-clause-may g c = λ plan may.
    let cf = g.C.Disk.facts in
    let bf = g.B.Disk.facts in
    let took = c.borrow_journal-journal in
    let back = c.return_journal in
    let also = c.borrow_cache-cache in
    let both = c.return_cache in
    may_both cf bf c.args.parts.now back.new.seat also.new.seat both.new.seat back.new.hand
    both.new.hand back.ensures.works
    (cache_tree back.new.hand also.new.hand both.new.hand also.result.0 also.ensures.hand
    both.ensures.hand) also.ensures.waited both.ensures.waited both.ensures.seen plan
    (may_both cf bf c.args.parts.now c.args.seat.now took.new.seat back.new.seat c.args.hand.now
    back.new.hand c.requires.works
    (journal_tree c.args.hand.now took.new.hand back.new.hand took.result.0 took.ensures.hand
    back.ensures.hand) took.ensures.waited back.ensures.waited back.ensures.seen plan may)
