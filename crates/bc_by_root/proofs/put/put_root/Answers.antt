use Rattle.std.proofs.Common.{Option, length, sym, ap, ◌∙◌, subst}
use Rattle.std.specs.Prelude.{IfErr}
use Rattle.bc_by_root.proofs.Around.{put_around, refused_around}
use Rattle.bc_by_root.proofs.Before.{again_around, keeps_around, may_around, ready_both, taken_done}
use Rattle.bc_by_root.proofs.Handed.{kept_around, may_as, same_tree}
use Rattle.bc_by_root.proofs.Later.{same_world, twice_done}
use Rattle.bc_by_root.specs.Done.{IsUnheardAt}
use Rattle.bc_disk.specs.declared.disk.Device.{Device}
use Rattle.bc_install.specs.bc_hand.Seats.{world}
use Rattle.bc_install.specs.bc_hand.declared.hand.Hand.{Hand}
use Rattle.bc_install.specs.bc_machine.World.{cache_among}
use Rattle.bc_by_root.proofs.put.put_root.Goals as goal

pub put_within-done-requires-clause-may : goal.put_within-done-requires-clause-may
put_within-done-requires-clause-may g c =
    let cf = g.C.Disk.facts in
    let bf = g.B.Disk.facts in
    let may = c.requires.may in
    let took = c.borrow_journal-journal in
    let back = c.return_journal in
    let also = c.borrow_cache-cache in
    let both = c.return_cache in
    may_as c.args.hand.now both.new.hand (length c.args.parts.now.run.start) c.args.seat.now.first
    both.new.seat.first c.args.plan.now (world cf bf c.args.seat.now) (world cf bf both.new.seat)
    (same_tree c.args.hand.now took.new.hand back.new.hand also.new.hand both.new.hand took.result.0
    also.result.0 took.ensures.hand back.ensures.hand also.ensures.hand both.ensures.hand) may
    (ready_both cf bf c.args.parts.now back.new.seat also.new.seat both.new.seat back.new.hand
    back.ensures.works may.spine
    (ap (λ (h : Hand _ _). h.spine) back.ensures.hand
    ∙ ap (λ (h : Hand _ _). h.spine) took.ensures.hand ∙ may.is_spine)
    also.ensures.waited both.ensures.waited both.ensures.seen c.args.plan.now
    (ready_both cf bf c.args.parts.now c.args.seat.now took.new.seat back.new.seat c.args.hand.now
    c.requires.works may.spine may.is_spine took.ensures.waited back.ensures.waited
    back.ensures.seen c.args.plan.now may.ready))

pub returns-clause-ok : goal.returns-clause-ok
returns-clause-ok g c =
    let cf = g.C.Disk.facts in
    let bf = g.B.Disk.facts in
    let took = c.borrow_journal-journal in
    let back = c.return_journal in
    let also = c.borrow_cache-cache in
    let both = c.return_cache in
    let done = c.put_within-done in
    let gave = c.return_cache-2 in
    let last = c.return_journal-2 in
    put_around cf bf c.args.seat.now both.new.seat done.new.seat last.new.seat
    (twice_done cf bf c.args.seat.now back.new.seat both.new.seat
    (taken_done cf bf c.args.seat.now took.new.seat back.new.seat took.ensures.waited
    back.ensures.waited)
    (taken_done cf bf back.new.seat also.new.seat both.new.seat also.ensures.waited
    both.ensures.waited))
    (taken_done cf bf done.new.seat gave.new.seat last.new.seat gave.ensures.waited
    last.ensures.waited) (last.ensures.seen ∙ gave.ensures.seen)
    (same_world cf bf gave.new.seat last.new.seat last.ensures.waited last.ensures.seen
    ∙ same_world cf bf done.new.seat gave.new.seat gave.ensures.waited gave.ensures.seen)
    c.args.hand.now both.new.hand
    (same_tree c.args.hand.now took.new.hand back.new.hand also.new.hand both.new.hand took.result.0
    also.result.0 took.ensures.hand back.ensures.hand also.ensures.hand both.ensures.hand)
    c.args.plan.now done.result done.ensures.ok

pub returns-clause-may : goal.returns-clause-may
returns-clause-may g c =
    let cf = g.C.Disk.facts in
    let bf = g.B.Disk.facts in
    let took = c.borrow_journal-journal in
    let back = c.return_journal in
    let also = c.borrow_cache-cache in
    let both = c.return_cache in
    let done = c.put_within-done in
    let gave = c.return_cache-2 in
    let last = c.return_journal-2 in
    may_around cf bf c.args.hand.now both.new.hand (length c.args.parts.now.run.start)
    both.new.seat.first c.args.seat.now.first c.args.plan.now (world cf bf done.new.seat)
    (world cf bf last.new.seat)
    (same_tree c.args.hand.now took.new.hand back.new.hand also.new.hand both.new.hand took.result.0
    also.result.0 took.ensures.hand back.ensures.hand also.ensures.hand both.ensures.hand)
    (sym (both.ensures.waited.same.first ∙ also.ensures.waited.same.first
    ∙ back.ensures.waited.same.first ∙ took.ensures.waited.same.first))
    (same_world cf bf gave.new.seat last.new.seat last.ensures.waited last.ensures.seen
    ∙ same_world cf bf done.new.seat gave.new.seat gave.ensures.waited gave.ensures.seen)
    done.result done.ensures.may

pub returns-clause-err : goal.returns-clause-err
returns-clause-err g c =
    let cf = g.C.Disk.facts in
    let bf = g.B.Disk.facts in
    let took = c.borrow_journal-journal in
    let back = c.return_journal in
    let also = c.borrow_cache-cache in
    let both = c.return_cache in
    let done = c.put_within-done in
    let gave = c.return_cache-2 in
    let last = c.return_journal-2 in
    refused_around cf bf c.args.seat.now both.new.seat done.new.seat last.new.seat
    (twice_done cf bf c.args.seat.now back.new.seat both.new.seat
    (taken_done cf bf c.args.seat.now took.new.seat back.new.seat took.ensures.waited
    back.ensures.waited)
    (taken_done cf bf back.new.seat also.new.seat both.new.seat also.ensures.waited
    both.ensures.waited))
    (taken_done cf bf done.new.seat gave.new.seat last.new.seat gave.ensures.waited
    last.ensures.waited) (last.ensures.seen ∙ gave.ensures.seen)
    (same_world cf bf gave.new.seat last.new.seat last.ensures.waited last.ensures.seen
    ∙ same_world cf bf done.new.seat gave.new.seat gave.ensures.waited gave.ensures.seen)
    c.args.hand.now both.new.hand
    (same_tree c.args.hand.now took.new.hand back.new.hand also.new.hand both.new.hand took.result.0
    also.result.0 took.ensures.hand back.ensures.hand also.ensures.hand both.ensures.hand)
    c.args.plan.now (cache_among cf bf c.args.parts.now.run.start).sectors done.result
    done.ensures.err

pub returns-clause-unheard : goal.returns-clause-unheard
returns-clause-unheard g c =
    let done = c.put_within-done in
    let gave = c.return_cache-2 in
    let last = c.return_journal-2 in
    subst (λ (o : Option Device). IfErr done.result (λ e. IsUnheardAt e o))
    (sym (last.ensures.heard ∙ gave.ensures.heard)) done.ensures.unheard

pub returns-clause-again : goal.returns-clause-again
returns-clause-again g c =
    let done = c.put_within-done in
    let gave = c.return_cache-2 in
    let last = c.return_journal-2 in
    again_around g.C.Disk.facts g.B.Disk.facts c.args.parts.now done.new.seat gave.new.seat
    last.new.seat done.new.hand last.new.hand done.ensures.works gave.ensures.waited
    last.ensures.waited last.ensures.seen (record {
      spine = ap (λ (h : Hand _ _). h.spine) last.ensures.hand
          ∙ ap (λ (h : Hand _ _). h.spine) gave.ensures.hand;
      leaves = ap (λ (h : Hand _ _). h.leaves) last.ensures.hand
          ∙ ap (λ (h : Hand _ _). h.leaves) gave.ensures.hand;
    }) c.args.plan.now done.result done.ensures.again

pub returns-clause-kept : goal.returns-clause-kept
returns-clause-kept g c =
    let took = c.borrow_journal-journal in
    let back = c.return_journal in
    let also = c.borrow_cache-cache in
    let both = c.return_cache in
    let done = c.put_within-done in
    let gave = c.return_cache-2 in
    let last = c.return_journal-2 in
    kept_around done.result c.args.seat.now.promises both.new.seat.promises done.new.seat.promises
    last.new.seat.promises
    (both.ensures.waited.promises ∙ also.ensures.waited.promises ∙ back.ensures.waited.promises
    ∙ took.ensures.waited.promises)
    (last.ensures.waited.promises ∙ gave.ensures.waited.promises) done.ensures.kept

pub returns-clause-places : goal.returns-clause-places
returns-clause-places g c =
    let cf = g.C.Disk.facts in
    let bf = g.B.Disk.facts in
    let took = c.borrow_journal-journal in
    let back = c.return_journal in
    let also = c.borrow_cache-cache in
    let both = c.return_cache in
    let done = c.put_within-done in
    let gave = c.return_cache-2 in
    let last = c.return_journal-2 in
    keeps_around cf bf c.args.seat.now both.new.seat done.new.seat last.new.seat
    (twice_done cf bf c.args.seat.now back.new.seat both.new.seat
    (taken_done cf bf c.args.seat.now took.new.seat back.new.seat took.ensures.waited
    back.ensures.waited)
    (taken_done cf bf back.new.seat also.new.seat both.new.seat also.ensures.waited
    both.ensures.waited)) done.ensures.places
    (taken_done cf bf done.new.seat gave.new.seat last.new.seat gave.ensures.waited
    last.ensures.waited)
